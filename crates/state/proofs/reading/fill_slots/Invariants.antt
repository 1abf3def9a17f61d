-- The slots passed are stored, and what is left of the queues decides.
use Rattle.std.proofs.Common.{◌≤◌}
use Rattle.state.proofs.Filling.{Rest, SlotsUpTo}
use Rattle.state.proofs.reading.fill_slots.Given as goal

abbrev pub invariant-loop-i : goal.invariant-loop-i
invariant-loop-i l = record {
  within : l.queue ≤ l.end;
  rest : Rest l.file l.edition l.slots l.at l.queues l.end l.i l.queue;
  stored : SlotsUpTo l.initial.m l.file l.edition l.slots l.at l.queues l.m l.i;
}
