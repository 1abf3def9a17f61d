-- `lookup::next_task` meets its contract. The invariant: the look at what is left of the sequence gives the next task.
use Rattle.rules.proofs.Choosing.{UrgentFrom}
use Rattle.tables.specs.View.{seen}
use Rattle.lookup.proofs.next_task.Given as goal

abbrev pub invariant-loop-k : goal.invariant-loop-k
invariant-loop-k l = UrgentFrom (seen l.v) l.k l.best.task l.best.priority
