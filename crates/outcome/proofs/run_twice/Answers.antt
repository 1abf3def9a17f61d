-- `outcome::run_twice` meets its contract.
use mathlib.Core.Path.{◌≡◌}
use native.Mathlib.Omega.{arith}
use Rattle.outcome.proofs.Plainly.{granted_plainly, plain_ready, refused_plainly}
use Rattle.outcome.proofs.run_twice.Lts as lts
use Rattle.outcome.proofs.run_twice.Tie as tie
use Rattle.outcome.proofs.run_twice.Reads as reads
use Rattle.outcome.proofs.run_twice.Goals as goal

abbrev After-run : Type 0
After-run = lts.After-run tie.the-claims reads.Pre reads.Post tie.handed_clauses

-- the plain run starts from what the run starts from
cells_copied : (c : After-run) → c.copy_from_slice.new.self ≡ c.args.cells.now
cells_copied c = c.copy_from_slice.ensures.after

locals_copied : (c : After-run) → c.copy_from_slice-2.new.self ≡ c.args.locals.now
locals_copied c = c.copy_from_slice-2.ensures.after

pub grants_end-end-requires : goal.grants_end-end-requires
grants_end-end-requires c =
    omega (arith, c.requires, c.run-a.auto)

pub slice_bounds-plain_run-end : goal.slice_bounds-plain_run-end
slice_bounds-plain_run-end c =
    omega (arith, c.requires, c.run-a.auto, c.grants_end-end.ensures)

pub plain_run-requires : goal.plain_run-requires
plain_run-requires c =
    plain_ready _ _ _ _ _ _ _ _ _ _ _ _ _ _ c.run-a.ensures _ _ (cells_copied c.before.before.before.before.before.before.before.before.before.before.before.before.before.before.before.before.before) (locals_copied c.before.before.before.before.before.before.before.before.before.before.before.before.before.before.before.before.before) c.if-a-eq0.true

pub shape_of-plaincells-then-a-eq0 : goal.shape_of-plaincells-then-a-eq0
shape_of-plaincells-then-a-eq0 c =
    omega (arith, c.plain_run.auto, c.copy_from_slice.auto)

pub returns-then-a-eq0 : goal.returns-then-a-eq0
returns-then-a-eq0 c = record { done = c.run-a.ensures; plainly = granted_plainly _ _ _ _ _ _ _ _ c.grants_end-end.ensures.2 (cells_copied c.before.before.before.before.before.before.before.before.before.before.before.before.before.before.before.before.before.before.before.before.before.before) (locals_copied c.before.before.before.before.before.before.before.before.before.before.before.before.before.before.before.before.before.before.before.before.before.before) c.plain_run.ensures }

pub returns-else-a-eq0 : goal.returns-else-a-eq0
returns-else-a-eq0 c = record { done = c.run-a.ensures; plainly = refused_plainly _ _ _ _ _ _ _ _ _ _ _ _ _ _ c.run-a.ensures _ _ (cells_copied c.before.before.before.before.before.before.before.before.before.before.before.before.before) (locals_copied c.before.before.before.before.before.before.before.before.before.before.before.before.before) c.if-a-eq0.false }
