-- `changes::tick_tasks` meets its contract. The invariant: the tasks passed are ticked.
use Rattle.words.proofs.WordsInBytes.{Bytes}
use Rattle.changes.proofs.Ticks.{TickedUpTo}
use Rattle.changes.proofs.tick_tasks.Given as goal

abbrev pub invariant-loop-i : goal.invariant-loop-i
invariant-loop-i l = Bytes l.m × TickedUpTo l.initial.m l.m l.i
