-- Scripts as numbers laid end to end: each row is four numbers, a kind and what the kind takes; what it does not take is not looked at.
-- 1 script TASK, 2 section ID OPTIONS TIMEOUT, 3 load CELL LOCAL, 4 store LOCAL CELL, 5 set LOCAL NUMBER, 6 add LOCAL OTHER.
use Rattle.std.specs.Prelude.{ℕ, ◌+◌, ◌*◌, ◌/◌, ◌%◌, Bool, true, false, List, [], ◌∷◌, length, ◌==◌, nat_eq, slice_index, Option, Some, None}
use Rattle.laws.specs.Choose.{choose, ◌and◌}
use Rattle.laws.specs.Rows.{tabulate}
use Rattle.sections.specs.Scripts.{Step, Section, Script}
use Rattle.sections.specs.Scripts.Step.{Load, Store, Set, Add, NoStep}
use Rattle.encoding.specs.declared.rows.Step.{Step as RowStep}
use Rattle.encoding.specs.declared.rows.Step.TheVariants.{Load as RowLoad, Store as RowStore, Set as RowSet, Add as RowAdd}
use Rattle.encoding.specs.declared.rows.Row.{Row}
use Rattle.encoding.specs.declared.rows.Row.TheVariants.{Script as BeginsScript, Section as BeginsSection, Step as Steps}

-- a step by its kind
unfoldable pub step_in : (kind a b : ℕ) → Option RowStep
step_in kind a b =
    choose (kind == 3) (Some (RowLoad a b))
    (choose (kind == 4) (Some (RowStore a b))
    (choose (kind == 5) (Some (RowSet a b))
    (choose (kind == 6) (Some (RowAdd a b)) None)))

-- any other kind is a step, or no step at all
unfoldable pub row_in : (kind a b c : ℕ) → Row
row_in kind a b c = choose (kind == 1) (BeginsScript a) (choose (kind == 2) (BeginsSection a b c) (Steps (step_in kind a b)))

unfoldable pub row_at : List ℕ → ℕ → Row
row_at ns r = row_in (slice_index ns (4 * r)) (slice_index ns (4 * r + 1)) (slice_index ns (4 * r + 2)) (slice_index ns (4 * r + 3))

unfoldable pub rows_of : List ℕ → List Row
rows_of ns = tabulate (length ns / 4) (row_at ns)

abbrev pub step_of : Option RowStep → Step
step_of (Some (RowLoad cell local)) = Load cell local
step_of (Some (RowStore local cell)) = Store local cell
step_of (Some (RowSet local number)) = Set local number
step_of (Some (RowAdd local other)) = Add local other
step_of None = NoStep

-- a section's steps are the rows up to the next section or script
unfoldable pub steps_from : List Row → List Step
steps_from [] = []
steps_from (BeginsScript task ∷ rs) = []
steps_from (BeginsSection id options timeout ∷ rs) = []
steps_from (Steps step ∷ rs) = step_of step ∷ steps_from rs

-- a script's sections are those up to the next script
unfoldable pub sections_from : List Row → List Section
sections_from [] = []
sections_from (BeginsScript task ∷ rs) = []
sections_from (BeginsSection id options timeout ∷ rs) =
    let later = sections_from rs in
    record { id = id; options = options; timeout = timeout; steps = steps_from rs } ∷ later
sections_from (Steps step ∷ rs) = sections_from rs

abbrev pub no_section : Section
no_section = record { id = 0; options = 0; timeout = 0; steps = [] }

unfoldable pub scripts_from : List Row → List Script
scripts_from [] = []
scripts_from (BeginsScript task ∷ rs) = let later = scripts_from rs in record { task = task; sections = sections_from rs } ∷ later
scripts_from (BeginsSection id options timeout ∷ rs) = scripts_from rs
scripts_from (Steps step ∷ rs) = scripts_from rs

abbrev pub scripts_of : List ℕ → List Script
scripts_of ns = scripts_from (rows_of ns)

-- a script may stand anywhere, a section behind any row, and a step behind a section or a step
abbrev pub follows : Option Row → Row → Bool
follows last (BeginsScript task) = true
follows None (BeginsSection id options timeout) = false
follows (Some last) (BeginsSection id options timeout) = true
follows None (Steps step) = false
follows (Some (BeginsScript task)) (Steps step) = false
follows (Some (BeginsSection id options timeout)) (Steps step) = true
follows (Some (Steps before)) (Steps step) = true

-- each row stands where it may behind the last: so no step stands outside of a section
unfoldable pub all_follow : Option Row → List Row → Bool
all_follow last [] = true
all_follow last (r ∷ rs) = follows last r and all_follow (Some r) rs

-- no row is cut short
unfoldable pub rows_fit : List ℕ → Bool
rows_fit ns = nat_eq (length ns % 4) 0 and all_follow None (rows_of ns)
