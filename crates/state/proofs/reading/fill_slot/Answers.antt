-- `state::reading::fill_slot` meets its contract: the slot's numbers, and then its queue.
use Rattle.state.proofs.Filling.{slot_filled}
use Rattle.state.proofs.reading.fill_slot.Goals as goal

pub returns : goal.returns
returns c =
    let first = c.args in
    slot_filled first.m.now _ _ first.i first.file.now first.edition first.at first.queue first.n _ c.head_in.ensures
    c.store_head.ensures c.fill_queue.ensures
