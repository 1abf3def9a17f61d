use Rattle.mast_state.proofs.FileOf.{beside_is}
use Rattle.mast_state.proofs.saving.name_beside.Goals as goal

pub returns : goal.returns
returns c =
    beside_is c.args.path.now c.args.name.now c.requires c.put-end.result c.put-end.new.out c.put.result c.put.new.out
    c.put-end.ensures.0 c.put-end.ensures.1 c.put.ensures.0 c.put.ensures.1
