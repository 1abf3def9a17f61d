-- `lookup::looks::next_look` meets its contract: three words of the slot behind those looked at, and one look more.
use Rattle.lookup.proofs.LastLook.{look_made}
use Rattle.lookup.proofs.looks.next_look.Goals as goal

pub returns : goal.returns
returns c =
    let first = c.args in
    look_made first.m.now first.last _ _ _ c.slot_generation.ensures c.slot_live.ensures c.slot_name.ensures
