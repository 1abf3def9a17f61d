-- `changes::tick_ready` meets its contract. The invariant: the flagged tasks passed have joined, and what is left of the flags gives the others.
use Rattle.changes.proofs.Joining.{Joined}
use Rattle.changes.proofs.tick_ready.Given as goal

abbrev pub invariant-loop-i : goal.invariant-loop-i
invariant-loop-i l = Joined l.initial.m l.expired l.m l.i
