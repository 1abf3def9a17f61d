-- `changes::tick_slots` meets its contract. The invariant: the slots passed have their shorter queues.
use Rattle.words.proofs.WordsInBytes.{Bytes}
use Rattle.changes.proofs.TickSlots.{KeptUpTo}
use Rattle.changes.proofs.tick_slots.Given as goal

abbrev pub invariant-loop-i : goal.invariant-loop-i
invariant-loop-i l = Bytes l.m × KeptUpTo l.initial.m l.expired l.m l.i
