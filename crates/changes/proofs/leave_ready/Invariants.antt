use Rattle.words.proofs.WordsInBytes.{Bytes}
use Rattle.changes.proofs.Leaving.{Closing}
use Rattle.changes.proofs.leave_ready.Given as goal

abbrev pub invariant-loop-k : goal.invariant-loop-k
invariant-loop-k l = Bytes l.m × Closing l.initial.m l.q l.m l.k
