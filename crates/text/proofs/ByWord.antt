-- The kinds of lines by their words: what each part of a file makes of a word and its numbers.
use mathlib.Core.Path.{◌≡◌, refl, sym, ap, ap₂, ◌∙◌}
use mathlib.Core.Bool.{true, false}
use mathlib.Core.List.{List, []}
use mathlib.Core.Logic.{◌⊎◌, inl, inr}
use Prim.Native.Nat.{ℕ, ◌-◌, ◌≤◌}
use native.Mathlib.Decide.{dec_lt}
use native.Mathlib.Omega.{arith}
use lib.ListN.{get_or}
use borrow.Author.Tests.{leb-true}
use Rattle.laws.specs.Choose.{choose}
use Rattle.laws.proofs.Choose.{if_ne, if_yes, if_no, and_both}
use Rattle.calls.proofs.Checks.{within_low, within_high}
use Rattle.session.specs.Kept.{respond}
use Rattle.text.specs.declared.At.{At}
use Rattle.text.specs.declared.vocabulary.Word.{Word}
use Rattle.text.specs.declared.vocabulary.Word.TheVariants as w
use Rattle.text.specs.declared.vocabulary.Spoken.{Spoken}
use Rattle.text.specs.Spoken.{number_of, said_of}
use Rattle.std.specs.Prelude.{Ok, Option, Some}
use Rattle.text.specs.Words.{Said, says, said_by, is_step_word, opens_scripts}
use Rattle.text.specs.Reading.{Reading, Room, Read, in_part, with_bytes, cell_line, local_line, row_line, section_begins, other_line, script_line, session_line}
use Rattle.text.specs.Reading.{step_line, section_line}
use Rattle.text.specs.Reading.Read.{Goes, Stops}
use Rattle.text.specs.Feeding.{Lent, lent, reading_of, Inside, Leaves}
use Rattle.text.proofs.Words.{number_not}
use Rattle.text.proofs.Lines.{in_that_part, inside_part}

-- another part of the file, and nothing stored
pub leaves_part : {a : Read} {at : At} {l : Lent} (n : ℕ) → a ≡ Goes (in_part n (reading_of at l)) → Inside at l → Leaves a (Ok (in_that_part n at)) l
leaves_part n e i = record { read = sym e; inside = inside_part n i }

-- other bytes
pub leaves_bytes : {a : Read} {at : At} {l : Lent} {bytes : List ℕ} → Goes (with_bytes bytes (reading_of at l)) ≡ a → Inside at l → (after : List ℕ)
    → after ≡ bytes
    → Leaves a (Ok at) (lent after l.ids l.cells l.locals l.scripts l.events)
leaves_bytes {a} {at} {l} e i after f =
    record {
      read = ap (λ (bs : List ℕ). Goes (with_bytes bs (reading_of at l))) f ∙ e;
      inside = record { cells = i.cells; ids = i.ids; scripts = i.scripts; events = i.events; locals = i.locals };
    }

-- ---- what a line says, by its word

-- the code has the word and its numbers from a copy
pub said_some : {spoken : Option Spoken} {s p : Spoken} → spoken ≡ Some s → p ≡ s → said_of spoken ≡ says (number_of p.word) p.numbers.now
said_some e f = ap said_of e ∙ sym (ap (λ (s : Spoken). says (number_of s.word) s.numbers.now) f)

pub no_step : (v : Word) → (v ≡ w.Load → ⊥) → (v ≡ w.Store → ⊥) → (v ≡ w.Set → ⊥) → (v ≡ w.Add → ⊥) → is_step_word (number_of v) ≡ false
no_step v load store set add =
    elim (dec_lt (number_of v) 13) [
      | yes h ↦ within_low 13 16 (number_of v) h
      | no d ↦ within_high 13 16 (number_of v)
          (omega (arith, number_not v w.Load load, number_not v w.Store store, number_not v w.Set set, number_not v w.Add add))
    ]

pub step_some : (w : ℕ) → is_step_word w ≡ true → 13 ≤ w
step_some w e = leb-true 13 w (and_both _ _ e).0

module _ (room : Room) (r : Reading) (w : ℕ) (ns : List ℕ) where
  -- ---- cells, locals and scripts

  pub script_cell : w ≡ 17 → {a b : ℕ} → a ≡ get_or ns 0 0 → b ≡ get_or ns 1 0 → cell_line room r a b ≡ script_line room r (says w ns)
  unfolding script_line choose
  script_cell e f g = ap₂ (cell_line room r) f g ∙ sym (ap (λ (w : ℕ). script_line room r (says w ns)) e)

  pub script_local : w ≡ 18 → {a b c : ℕ} → a ≡ get_or ns 0 0 → b ≡ get_or ns 1 0 → c ≡ get_or ns 2 0 → local_line r a b c ≡ script_line room r (says w ns)
  unfolding script_line choose
  script_local e f g h = (λ k. local_line r (f k) (g k) (h k)) ∙ sym (ap (λ (w : ℕ). script_line room r (says w ns)) e)

  pub script_row : w ≡ 11 → {a : ℕ} → a ≡ get_or ns 0 0 → row_line room r 1 a 0 0 ≡ script_line room r (says w ns)
  unfolding script_line choose
  script_row e f = ap (λ (a : ℕ). row_line room r 1 a 0 0) f ∙ sym (ap (λ (w : ℕ). script_line room r (says w ns)) e)

  pub script_section : w ≡ 12 → {a b c : ℕ} → a ≡ get_or ns 0 0 → b ≡ get_or ns 1 0 → c ≡ get_or ns 2 0 → section_begins room r a b c ≡ script_line room r (says w ns)
  unfolding script_line choose
  script_section e f g h = (λ k. section_begins room r (f k) (g k) (h k)) ∙ sym (ap (λ (w : ℕ). script_line room r (says w ns)) e)

  pub script_end : w ≡ 19 → script_line room r (says w ns) ≡ Stops 3
  unfolding script_line other_line choose
  script_end e = ap (λ (w : ℕ). script_line room r (says w ns)) e

  pub script_run : w ≡ 20 → script_line room r (says w ns) ≡ Goes (in_part 3 r)
  unfolding script_line other_line choose
  script_run e = ap (λ (w : ℕ). script_line room r (says w ns)) e

  -- ---- in a section

  pub step_row : is_step_word w ≡ true → {a b : ℕ} → a ≡ get_or ns 0 0 → b ≡ get_or ns 1 0 → row_line room r (w - 10) a b 0 ≡ step_line room r (says w ns)
  unfolding step_line
  step_row e f g = ap₂ (λ (a b : ℕ). row_line room r (w - 10) a b 0) f g ∙ sym (if_yes _ _ e)

  pub step_none : is_step_word w ≡ false → row_line room r 0 0 0 0 ≡ step_line room r (says w ns)
  unfolding step_line
  step_none e = sym (if_no _ _ e)

  pub section_ends : w ≡ 19 → section_line room r (says w ns) ≡ Goes (in_part 1 r)
  unfolding section_line choose
  section_ends e = ap (λ (w : ℕ). section_line room r (says w ns)) e

  pub section_script : w ≡ 11 → section_line room r (says w ns) ≡ Stops 6
  unfolding section_line choose
  section_script e = ap (λ (w : ℕ). section_line room r (says w ns)) e

  pub section_run : w ≡ 20 → section_line room r (says w ns) ≡ Stops 7
  unfolding section_line choose
  section_run e = ap (λ (w : ℕ). section_line room r (says w ns)) e

  pub section_step : (w ≡ 19 → ⊥) → (w ≡ 11 → ⊥) → (w ≡ 20 → ⊥) → step_line room r (says w ns) ≡ section_line room r (says w ns)
  unfolding section_line
  section_step d e f = sym (if_ne w 19 _ _ d ∙ if_ne w 11 _ _ e ∙ if_ne w 20 _ _ f)

-- ---- the session's lines

module _ (room : Room) (r : Reading) (line : List ℕ) (s : Said) (said : said_by line ≡ s) where
  pub session_opens : opens_scripts s.word ≡ true → script_line room (in_part 1 r) s ≡ session_line room r line
  unfolding session_line
  session_opens e =
      ap (script_line room (in_part 1 r)) (sym said) ∙ sym (if_yes _ _ (ap (λ (s : Said). opens_scripts s.word) said ∙ e))

  pub session_goes : opens_scripts s.word ≡ false → Goes (with_bytes (respond r.bytes line).bytes r) ≡ session_line room r line
  unfolding session_line
  session_goes e = sym (if_no _ _ (ap (λ (s : Said). opens_scripts s.word) said ∙ e))

pub nothing_opens : opens_scripts 0 ≡ false
unfolding choose
nothing_opens = refl

-- ---- the words that are left

module _ (room : Room) (r : Reading) where
  pub script_step : (v : Word) (ns : List ℕ) → (v ≡ w.Load) ⊎ ((v ≡ w.Store) ⊎ ((v ≡ w.Set) ⊎ (v ≡ w.Add))) → script_line room r (says (number_of v) ns) ≡ Stops 4
  unfolding script_line other_line choose
  script_step v ns (inl e) = ap (λ (v : Word). script_line room r (says (number_of v) ns)) e
  script_step v ns (inr (inl e)) = ap (λ (v : Word). script_line room r (says (number_of v) ns)) e
  script_step v ns (inr (inr (inl e))) = ap (λ (v : Word). script_line room r (says (number_of v) ns)) e
  script_step v ns (inr (inr (inr e))) = ap (λ (v : Word). script_line room r (says (number_of v) ns)) e

  pub script_nothing : script_line room r (says 0 []) ≡ Stops 1
  unfolding script_line other_line choose
  script_nothing = refl

  pub script_none : (v : Word) (ns : List ℕ) → (v ≡ w.Script → ⊥) → (v ≡ w.Section → ⊥) → (v ≡ w.Load → ⊥) → (v ≡ w.Store → ⊥) → (v ≡ w.Set → ⊥) → (v ≡ w.Add → ⊥)
      → (v ≡ w.Cell → ⊥) → (v ≡ w.Local → ⊥) → (v ≡ w.End → ⊥) → (v ≡ w.Run → ⊥) → script_line room r (says (number_of v) ns) ≡ Stops 1
  unfolding script_line other_line
  script_none v ns script section load store set add cell local ends run =
      let n : ℕ = number_of v in
      if_ne n 17 _ _ (number_not v w.Cell cell)
      ∙ if_ne n 18 _ _ (number_not v w.Local local)
      ∙ if_ne n 11 _ _ (number_not v w.Script script)
      ∙ if_ne n 12 _ _ (number_not v w.Section section)
      ∙ if_no _ _ (no_step v load store set add)
      ∙ if_ne n 19 _ _ (number_not v w.End ends)
      ∙ if_ne n 20 _ _ (number_not v w.Run run)

  pub section_other : (v : Word) (ns : List ℕ) → (v ≡ w.End → ⊥) → (v ≡ w.Script → ⊥) → (v ≡ w.Run → ⊥)
      → step_line room r (says (number_of v) ns) ≡ section_line room r (says (number_of v) ns)
  section_other v ns ends script run =
      section_step room r (number_of v) ns (number_not v w.End ends) (number_not v w.Script script) (number_not v w.Run run)

  pub section_nothing : step_line room r (says 0 []) ≡ section_line room r (says 0 [])
  unfolding section_line choose
  section_nothing = refl

  pub step_nothing : row_line room r 0 0 0 0 ≡ step_line room r (says 0 [])
  unfolding step_line choose
  step_nothing = refl
