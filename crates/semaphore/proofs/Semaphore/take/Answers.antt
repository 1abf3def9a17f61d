-- `semaphore::Semaphore::take` meets its contract: a caller that neither gets nor is refused joins the queue.
use mathlib.Core.Path.{sym, ◌∙◌}
use Rattle.semaphore.proofs.TakeGive.{take_waits}
use Rattle.semaphore.proofs.Semaphore.take.Goals as goal

pub returns : goal.returns
returns c =
    take_waits c.args.self c.requires.0 c.args.caller c.args.wait c.if-self-ge1.false c.requires.1 (sym c.is_held_by.ensures ∙ c.if-is_held_by.false)
    (sym c.polls.ensures ∙ c.if-polls.false)
