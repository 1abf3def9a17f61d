-- The event's numbers behind the others, where there is room.
use native.Mathlib.Omega.{arith}
use Rattle.text.specs.Feeding.{lent}
use Rattle.text.proofs.Events.{event_full, event_stored}
use Rattle.text.proofs.reading.put_event.Goals as goal

pub returns-then-events-from : goal.returns-then-events-from
returns-then-events-from c =
    let o = c.args in
    λ bytes ids cells locals scripts i. event_full o.at (lent bytes ids cells locals scripts o.events.now) i o.head.now o.rest.now (omega arith)

pub returns : goal.returns
returns c =
    let o = c.args in
    λ bytes ids cells locals scripts i. event_stored o.at (lent bytes ids cells locals scripts o.events.now) i o.head.now o.rest.now (omega arith)
    _ _ _ _ c.put-behind.ensures c.put-end.ensures
