-- What each kind of line leaves in what is lent: cells, locals and rows.
use mathlib.Core.Path.{◌≡◌, sym, ap, ap₂, subst, ◌∙◌}
use mathlib.Core.Bool.{false}
use mathlib.Core.List.{List, [], ◌∷◌, ◌++◌}
use Prim.Native.Nat.{ℕ, pred, ◌+◌, ◌*◌, ◌≤◌, ◌<◌}
use native.Mathlib.Numerals.{add-one}
use native.Mathlib.Omega.{arith}
use lib.Dec.{ltb}
use lib.ListN.{length, take, set, length-set}
use lib.Seq.{length-take-le, take-suc-set}
use borrow.Author.Tests.{lt-ltb, le-ltb}
use Rattle.laws.specs.Choose.{◌and◌}
use Rattle.laws.proofs.Choose.{if_lt, if_not_lt, if_le, if_not_le, if_eq, if_ne, if_yes, if_no, both_and, choose_same}
use Rattle.rules.specs.Numbers.{within}
use Rattle.calls.proofs.Checks.{within_low, within_high, within_both}
use Rattle.line.specs.Print.{spliced}
use Rattle.line.proofs.Printing.{length_spliced}
use Rattle.session.proofs.Output.{front}
use Rattle.text.specs.declared.At.{At}
use Rattle.std.specs.Prelude.{Ok, Err}
use Rattle.text.specs.declared.Fault.{Fault as LineFault}
use Rattle.text.specs.declared.Fault.TheVariants as fault
use Rattle.text.specs.Reading.{Read, cell_line, local_line, row_line, section_begins}
use Rattle.text.specs.Reading.Read.{Goes, Stops}
use Rattle.text.specs.Feeding.{fault_of, Next, Lent, lent, room_of, reading_of, Inside, Leaves}

-- another part of the file, and nothing stored
abbrev pub in_that_part : ℕ → At → At
in_that_part n at = record at { part = n }

pub leaves_as : {a b : Read} {next : Next} {l : Lent} → a ≡ b → Leaves a next l → Leaves b next l
leaves_as {next = next} {l = l} e k = subst (λ (x : Read). Leaves x next l) e k

-- a fault changes nothing that counts
pub leaves_fault : {a : Read} {l : Lent} (f : LineFault) → a ≡ Stops (fault_of f) → Leaves a (Err f) l
leaves_fault f e = record { read = sym e; inside = tt }

module _ (at : At) (l : Lent) (i : Inside at l) where
  cells_read : length (take at.cells l.cells) ≡ at.cells
  cells_read = length-take-le at.cells l.cells i.cells

  scripts_read : length (take at.scripts l.scripts) ≡ at.scripts
  scripts_read = length-take-le at.scripts l.scripts i.scripts

  -- ---- the next cell

  module _ (id n : ℕ) where
    pub cell_full : length l.cells ≤ at.cells → (after : Lent) → Leaves (cell_line (room_of l) (reading_of at l) id n) (Err fault.NoRoomForCell) after
    unfolding cell_line
    cell_full h after = leaves_fault fault.NoRoomForCell (if_not_lt (length (take at.cells l.cells)) (length l.cells) _ _ (omega (arith, cells_read)))

    pub cell_put : at.cells < length l.cells
        → Leaves (cell_line (room_of l) (reading_of at l) id n)
        (Ok (record { part = at.part; cells = at.cells + 1; scripts = at.scripts; events = at.events }))
        (lent l.bytes (set l.ids at.cells id) (set l.cells at.cells n) l.locals l.scripts l.events)
    unfolding cell_line
    cell_put h =
        let k : ℕ = at.cells in
        let more : (xs : List ℕ) (x : ℕ) → k < length xs → take (k + 1) (set xs k x) ≡ take k xs ++ x ∷ [] = λ xs x f.
        ap (λ (m : ℕ). take m (set xs k x)) (add-one k) ∙ take-suc-set xs k x f in
        record {
          read =
              ap₂ (λ (us cs : List ℕ). Goes (record {
                part = at.part;
                bytes = l.bytes;
                ids = us;
                cells = cs;
                locals = l.locals;
                scripts = take at.scripts l.scripts;
                events = take at.events l.events;
              })) (more l.ids id (omega (arith, i.ids))) (more l.cells n h)
              ∙ sym (if_lt (length (take k l.cells)) (length l.cells) _ _ (omega (arith, cells_read)));
          inside = record {
            cells = omega (arith, length-set l.cells k n);
            ids = length-set l.ids k id ∙ i.ids ∙ sym (length-set l.cells k n);
            scripts = i.scripts;
            events = i.events;
            locals = i.locals;
          };
        }

  -- ---- a local

  module _ (q local n : ℕ) where
    pub local_out : (within 1 32 q and ltb local 8) ≡ false → Leaves (local_line (reading_of at l) q local n) (Err fault.LocalOutOfRange) l
    unfolding local_line
    local_out e = leaves_fault fault.LocalOutOfRange (if_no _ _ e)

    pub local_low : q < 1 → Leaves (local_line (reading_of at l) q local n) (Err fault.LocalOutOfRange) l
    local_low h = local_out (if_no _ _ (within_low 1 32 q h))

    pub local_high : 32 < q → Leaves (local_line (reading_of at l) q local n) (Err fault.LocalOutOfRange) l
    local_high h = local_out (if_no _ _ (within_high 1 32 q h))

    pub local_far : 8 ≤ local → Leaves (local_line (reading_of at l) q local n) (Err fault.LocalOutOfRange) l
    local_far h = local_out (ap (λ t. within 1 32 q and t) (le-ltb local 8 h) ∙ choose_same (within 1 32 q) false)

    pub local_put : 1 ≤ q → q ≤ 32 → local < 8 → (k : ℕ) → k ≡ pred q * 8 + local
        → Leaves (local_line (reading_of at l) q local n) (Ok at) (lent l.bytes l.ids l.cells (set l.locals k n) l.scripts l.events)
    unfolding local_line
    local_put some few near k e =
        record {
          read =
              ap (λ (j : ℕ). Goes (reading_of at (lent l.bytes l.ids l.cells (set l.locals j n) l.scripts l.events))) e
              ∙ sym (if_yes _ _ (both_and (within_both 1 32 q some few) (lt-ltb local 8 near)));
          inside = record {
            cells = i.cells;
            ids = i.ids;
            scripts = i.scripts;
            events = i.events;
            locals = length-set l.locals k n ∙ i.locals;
          };
        }

  -- ---- a row

  module _ (kind a b c : ℕ) where
    abbrev row : List ℕ
    row = kind ∷ a ∷ b ∷ c ∷ []

    pub row_full : length l.scripts < at.scripts + 4 → Leaves (row_line (room_of l) (reading_of at l) kind a b c) (Err fault.NoRoomForRow) l
    unfolding row_line
    row_full h = leaves_fault fault.NoRoomForRow (if_not_le (length (take at.scripts l.scripts) + 4) (length l.scripts) _ _ (omega (arith, scripts_read)))

    pub row_put : at.scripts + 4 ≤ length l.scripts → (scripts : List ℕ) (end : ℕ) → end ≡ at.scripts + 4
        → scripts ≡ spliced at.scripts row l.scripts
        → Leaves (row_line (room_of l) (reading_of at l) kind a b c)
        (Ok (record { part = at.part; cells = at.cells; scripts = end; events = at.events }))
        (lent l.bytes l.ids l.cells l.locals scripts l.events)
    unfolding row_line
    row_put h scripts end e f =
        record {
          read =
              ap (λ (ss : List ℕ). Goes (record {
                part = at.part;
                bytes = l.bytes;
                ids = take at.cells l.ids;
                cells = take at.cells l.cells;
                locals = l.locals;
                scripts = ss;
                events = take at.events l.events;
              })) (ap₂ take e f ∙ front at.scripts row l.scripts i.scripts)
              ∙ sym (if_le (length (take at.scripts l.scripts) + 4) (length l.scripts) _ _ (omega (arith, scripts_read)));
          inside = record {
            cells = i.cells;
            ids = i.ids;
            scripts = omega (arith, ap length f, length_spliced at.scripts row l.scripts h);
            events = i.events;
            locals = i.locals;
          };
        }

  -- ---- a section

  module _ (id options timeout : ℕ) where
    pub section_alone : at.scripts ≡ 0 → Leaves (section_begins (room_of l) (reading_of at l) id options timeout) (Err fault.SectionWithoutScript) l
    unfolding section_begins
    section_alone e = leaves_fault fault.SectionWithoutScript (if_eq _ 0 _ _ (scripts_read ∙ e))

    pub section_row : (at.scripts ≡ 0 → ⊥) → {next : Next} {after : Lent}
        → Leaves
        (row_line (room_of l) (reading_of (in_that_part 2 at) l) 2 id options timeout) next after
        → Leaves (section_begins (room_of l) (reading_of at l) id options timeout) next after
    unfolding section_begins
    section_row d k = leaves_as (sym (if_ne _ 0 _ _ (λ e. d (sym scripts_read ∙ e)))) k

-- the same fronts lie inside in any part
pub inside_part : {at : At} {l : Lent} (n : ℕ) → Inside at l → Inside (in_that_part n at) l
inside_part n i = record { cells = i.cells; ids = i.ids; scripts = i.scripts; events = i.events; locals = i.locals }
