-- What is left of the row, stored, gives the whole row stored.
use Rattle.words.proofs.Stores.{Stored}
use Rattle.words.proofs.set_words.Given as goal

abbrev pub invariant-loop-k : goal.invariant-loop-k
invariant-loop-k l = Stored l.initial.m l.i l.row l.m l.k
