-- An event's numbers by its word, and what its line leaves in what is lent; a line by the part of the file.
use mathlib.Core.Path.{◌≡◌, refl, sym, ap, ap₂, ◌∙◌}
use mathlib.Core.Bool.{true, false}
use mathlib.Core.List.{List, [], ◌∷◌, ◌++◌}
use Prim.Native.Nat.{ℕ, ◌+◌, ◌-◌, ◌≤◌, ◌<◌}
use native.Mathlib.Omega.{arith}
use lib.ListN.{length, get_or, take, drop, length-append, length-drop}
use lib.Seq.{length-take-le}
use Rattle.laws.specs.Choose.{choose}
use Rattle.laws.proofs.Choose.{if_le, if_not_le, if_eq, if_ne, if_yes, if_no}
use Rattle.line.specs.Print.{spliced}
use Rattle.line.proofs.Printing.{length_spliced, one_more}
use Rattle.session.proofs.Output.{front}
use Rattle.text.specs.declared.At.{At}
use Rattle.std.specs.Prelude.{Ok, Err}
use Rattle.text.specs.declared.Fault.TheVariants as fault
use Rattle.text.specs.Words.{Said, says, said_by, is_event_word}
use Rattle.text.specs.Reading.{Reading, Room, script_line, session_line, section_line, event_numbers, event_put, event_line, read_line}
use Rattle.text.specs.Reading.Read.{Goes}
use Rattle.text.specs.Feeding.{Lent, lent, room_of, reading_of, Inside, Leaves}
use Rattle.text.proofs.Lines.{leaves_fault}

-- ---- an event's numbers

module _ (w : ℕ) (ns : List ℕ) where
  pub start_numbers : w ≡ 2 → {slots count : ℕ} {rest : List ℕ} → slots ≡ get_or ns 0 0 → count ≡ length rest → rest ≡ drop 1 ns
      → 2 ∷ slots ∷ count ∷ rest ≡ event_numbers (says w ns)
  unfolding event_numbers
  start_numbers e {slots} {count} {rest} f g h =
      let many : count ≡ length ns - 1 = omega (arith, ap length h, length-drop 1 ns) in
      (λ k. 2 ∷ f k ∷ many k ∷ h k) ∙ sym (if_eq w 2 _ _ e)

  pub own_numbers : (w ≡ 2 → ⊥) → is_event_word w ≡ true → {number : ℕ} → number ≡ w → number ∷ ns ≡ event_numbers (says w ns)
  unfolding event_numbers
  own_numbers d e f = ap (λ (n : ℕ). n ∷ ns) f ∙ sym (if_ne w 2 _ _ d ∙ if_yes _ _ e)

  pub no_event : (w ≡ 2 → ⊥) → is_event_word w ≡ false → 0 ∷ [] ≡ event_numbers (says w ns)
  unfolding event_numbers
  no_event d e = sym (if_ne w 2 _ _ d ∙ if_no _ _ e)

pub nothing_said : 0 ∷ [] ≡ event_numbers (says 0 [])
unfolding event_numbers choose
nothing_said = refl

-- ---- its line

module _ (at : At) (l : Lent) (i : Inside at l) (head rest : List ℕ) where
  events_read : length (take at.events l.events) ≡ at.events
  events_read = length-take-le at.events l.events i.events

  pub event_full : length l.events < at.events + (length head + length rest)
      → Leaves (event_put (room_of l) (reading_of at l) (head ++ rest)) (Err fault.NoRoomForEvent) l
  unfolding event_put
  event_full h =
      leaves_fault fault.NoRoomForEvent
      (if_not_le (length (take at.events l.events) + length (head ++ rest)) (length l.events) _ _
      (omega (arith, events_read, length-append head rest)))

  -- the head, and the rest behind it
  pub event_stored : at.events + (length head + length rest) ≤ length l.events → (events events' : List ℕ) (end end' : ℕ)
      → (end ≡ at.events + length head) × (events ≡ spliced at.events head l.events)
      → (end' ≡ end + length rest) × (events' ≡ spliced end rest events)
      → Leaves (event_put (room_of l) (reading_of at l) (head ++ rest)) (Ok (record at { events = end' })) (lent l.bytes l.ids l.cells l.locals l.scripts events')
  unfolding event_put
  event_stored h events events' end end' first second =
      let put = one_more at.events head rest l.events events events' end end' (omega arith) first second in
      let fits : at.events + length (head ++ rest) ≤ length l.events = omega (arith, length-append head rest) in
      record {
        read =
            ap (λ (es : List ℕ). Goes (record {
              part = at.part;
              bytes = l.bytes;
              ids = take at.cells l.ids;
              cells = take at.cells l.cells;
              locals = l.locals;
              scripts = take at.scripts l.scripts;
              events = es;
            })) (ap₂ take put.0 put.1 ∙ front at.events (head ++ rest) l.events i.events)
            ∙ sym (if_le (length (take at.events l.events) + length (head ++ rest)) (length l.events) _ _ (omega (arith, events_read)));
        inside = record {
          cells = i.cells;
          ids = i.ids;
          scripts = i.scripts;
          events = omega (arith, put.0, ap length put.1, length_spliced at.events (head ++ rest) l.events fits);
          locals = i.locals;
        };
      }

-- ---- a line by the part of the file

module _ (room : Room) (r : Reading) (line : List ℕ) where
  pub line_session : r.part ≡ 0 → session_line room r line ≡ read_line room r line
  unfolding read_line
  line_session e = sym (if_eq r.part 0 _ _ e)

  module _ (s : Said) (said : said_by line ≡ s) where
    pub line_script : r.part ≡ 1 → script_line room r s ≡ read_line room r line
    unfolding read_line
    line_script e = ap (script_line room r) (sym said) ∙ sym (if_ne r.part 0 _ _ (λ d. omega arith) ∙ if_eq r.part 1 _ _ e)

    pub line_section : r.part ≡ 2 → section_line room r s ≡ read_line room r line
    unfolding read_line
    line_section e =
        ap (section_line room r) (sym said)
        ∙ sym (if_ne r.part 0 _ _ (λ d. omega arith) ∙ if_ne r.part 1 _ _ (λ d. omega arith) ∙ if_eq r.part 2 _ _ e)

    pub line_event : (r.part ≡ 0 → ⊥) → (r.part ≡ 1 → ⊥) → (r.part ≡ 2 → ⊥) → event_line room r s ≡ read_line room r line
    unfolding read_line
    line_event d e f = ap (event_line room r) (sym said) ∙ sym (if_ne r.part 0 _ _ d ∙ if_ne r.part 1 _ _ e ∙ if_ne r.part 2 _ _ f)
