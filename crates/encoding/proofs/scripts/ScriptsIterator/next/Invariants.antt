-- The rows left have the scripts left.
use Rattle.std.proofs.Common.{◌≡◌}
use Rattle.encoding.specs.Rows.{scripts_from}
use Rattle.encoding.specs.Left.{rows_left, scripts_left}
use Rattle.encoding.proofs.scripts.ScriptsIterator.next.Given as goal

abbrev pub invariant-loop-row : goal.invariant-loop-row
invariant-loop-row l =
    (goal.iterator-loop-row).can_next l.rows × (goal.iterator-loop-row).is_finite l.rows × (l.self ≡ l.initial.self) × (scripts_from (rows_left l.rows) ≡ scripts_left l.self)
