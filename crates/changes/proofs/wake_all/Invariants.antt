-- `changes::wake_all` meets its contract. The invariant: the waiters passed are woken.
use Rattle.changes.proofs.PutWakeStart.{Woken}
use Rattle.changes.proofs.wake_all.Given as goal

abbrev pub invariant-loop-k : goal.invariant-loop-k
invariant-loop-k l = Woken l.initial.m l.queue l.waiters l.answer l.m l.k
