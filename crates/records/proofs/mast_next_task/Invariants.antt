-- What is left of the sequence, from the best so far, gives the next task.
use Rattle.records.proofs.Along.{UrgentFrom}
use Rattle.records.proofs.mast_next_task.Given as goal

abbrev pub invariant-loop-q : goal.invariant-loop-q
invariant-loop-q l = UrgentFrom l.tasks l.ready l.working l.q-index l.best.task l.best.priority
