-- `calls::enter::enter` meets its contract: the record that is loaded stands for the slot that was found.
use Rattle.calls.proofs.Entering.{enters_found}
use Rattle.calls.proofs.enter.enter.Goals as goal

pub returns : goal.returns
returns c = enters_found c.requires c.args.id c.in-Some.slot c.in-Some.ensures _ c.slot.ensures
