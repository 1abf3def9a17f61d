-- `state::reading::fill_tasks` meets its contract. The invariant: the tasks passed are stored.
use Rattle.state.proofs.Filling.{TasksUpTo}
use Rattle.state.proofs.reading.fill_tasks.Given as goal

abbrev pub invariant-loop-i : goal.invariant-loop-i
invariant-loop-i l = TasksUpTo l.initial.m l.file l.tasks l.m l.i
