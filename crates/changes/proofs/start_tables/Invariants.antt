-- `changes::start_tables` meets its contract. The invariant: the tasks passed are stored, behind the counts, and in the sequence.
use Rattle.changes.proofs.PutWakeStart.{StartedUpTo}
use Rattle.changes.proofs.start_tables.Given as goal

abbrev pub invariant-loop-i : goal.invariant-loop-i
invariant-loop-i l = StartedUpTo l.initial.m l.slots l.priorities l.m l.i
