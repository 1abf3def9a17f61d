-- `state::reading::fill_ready` meets its contract. The invariant: the numbers passed are the sequence.
use Rattle.state.proofs.Filling.{ReadyUpTo}
use Rattle.state.proofs.reading.fill_ready.Given as goal

abbrev pub invariant-loop-k : goal.invariant-loop-k
invariant-loop-k l = ReadyUpTo l.initial.m l.file l.at l.m l.k
