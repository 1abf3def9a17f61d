-- `state::reading::fill_queue` meets its contract. The invariant: the numbers passed are the queue.
use Rattle.state.proofs.Filling.{QueueUpTo}
use Rattle.state.proofs.reading.fill_queue.Given as goal

abbrev pub invariant-loop-k : goal.invariant-loop-k
invariant-loop-k l = QueueUpTo l.initial.m l.i l.file l.at l.m l.k
