-- The rows left are the rest of the test.
use Rattle.std.proofs.Common.{◌≡◌, None}
use Rattle.encoding.specs.Rows.{rows_of, all_follow}
use Rattle.encoding.specs.Left.{rows_left}
use Rattle.refusals.proofs.tests.are_rows_fit.Given as goal

abbrev pub invariant-loop-row : goal.invariant-loop-row
invariant-loop-row l =
    (goal.iterator-loop-row).can_next l.row-iterator × (goal.iterator-loop-row).is_finite l.row-iterator
    × (all_follow l.last (rows_left l.row-iterator) ≡ all_follow None (rows_of l.scripts))
