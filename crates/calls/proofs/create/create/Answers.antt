-- `calls::create::create` meets its contract: a new semaphore in the slot that was found.
use Rattle.calls.proofs.Making.{create_done}
use Rattle.calls.proofs.create.create.Goals as goal

pub returns : goal.returns
returns c =
    let v = c.new.ensures in
    let a = c.args in
    create_done c.requires a.caller a.name a.count a.attributes a.maximum (rw v at c.in_ok-slot.ensures.refused) _ (rw v at c.in_ok-slot.ensures.slot)
    c.created-made.ensures c.put_slot.ensures
