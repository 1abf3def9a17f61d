-- The bytes passed are 0.
use Rattle.laws.proofs.Mapped.{Filled}
use Rattle.state.proofs.clear.Given as goal

abbrev pub invariant-loop-byte : goal.invariant-loop-byte
invariant-loop-byte l = Filled (λ k. 0) 0 l.m l.byte-index
