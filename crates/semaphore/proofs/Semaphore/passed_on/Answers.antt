-- `semaphore::Semaphore::passed_on` meets its contract: where a waiter is served, the queue is the one without it.
use mathlib.Core.Path.{sym, ◌∙◌}
use Rattle.semaphore.proofs.TakeGive.{pass_owned, pass_handed}
use Rattle.semaphore.proofs.Semaphore.passed_on.Goals as goal

pub returns-then-is_binary : goal.returns-then-is_binary
returns-then-is_binary c =
    pass_owned c.args.self c.requires.0 c.args.place c.if-self-ge1.true c.requires.2 _ c.removed-self.ensures (sym c.is_binary.ensures ∙ c.if-is_binary.true)

pub returns-else-is_binary : goal.returns-else-is_binary
returns-else-is_binary c =
    pass_handed c.args.self c.requires.0 c.args.place c.if-self-ge1.true c.requires.2 _ c.removed-self.ensures (sym c.is_binary.ensures ∙ c.if-is_binary.false)
