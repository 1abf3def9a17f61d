-- `changes::ready_place` meets its contract. The invariant: the look at what is left of the sequence gives the place.
use Rattle.changes.proofs.Leaving.{PlaceFrom}
use Rattle.changes.proofs.ready_place.Given as goal

abbrev pub invariant-loop-k : goal.invariant-loop-k
invariant-loop-k l = PlaceFrom l.m l.q l.k
