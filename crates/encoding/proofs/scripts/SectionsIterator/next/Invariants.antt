-- The rows left have the sections left.
use Rattle.std.proofs.Common.{◌≡◌}
use Rattle.encoding.specs.Rows.{sections_from}
use Rattle.encoding.specs.Left.{rows_left, sections_left}
use Rattle.encoding.proofs.scripts.SectionsIterator.next.Given as goal

abbrev pub invariant-loop-row : goal.invariant-loop-row
invariant-loop-row l =
    (goal.iterator-loop-row).can_next l.rows × (goal.iterator-loop-row).is_finite l.rows × (l.self ≡ l.initial.self) × (sections_from (rows_left l.rows) ≡ sections_left l.self)
