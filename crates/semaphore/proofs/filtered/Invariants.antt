-- `semaphore::filtered` meets its contract: of the first k of the queue, those that still wait are kept.
use Rattle.std.proofs.Common.{take}
use Rattle.semaphore.specs.Record.{keep, KeptIs}
use Rattle.semaphore.proofs.filtered.Given as goal

abbrev pub invariant-loop-k : goal.invariant-loop-k
invariant-loop-k l = KeptIs l.kept (keep l.expired (take l.k l.queue))
