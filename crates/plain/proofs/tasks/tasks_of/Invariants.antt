-- `plain::tasks::tasks_of` meets its contract. The invariant: the tasks of the scripts passed are noted, and the iterator has the scripts left.
use Rattle.std.proofs.Common.{◌≡◌, length}
use Rattle.encoding.specs.Rows.{scripts_of}
use Rattle.encoding.specs.Left.{scripts_left}
use Rattle.plain.proofs.Granting.{Noted}
use Rattle.plain.proofs.tasks.tasks_of.Given as goal

abbrev pub invariant-loop-i : goal.invariant-loop-i
invariant-loop-i l =
    (goal.iterator-loop-i).can_next l.i-iterator × (goal.iterator-loop-i).is_finite l.i-iterator
    × (length l.tasks ≡ length l.initial.tasks)
    × Noted (scripts_of l.scripts) (scripts_left l.i-iterator.iter) l.tasks l.i-iterator.count
