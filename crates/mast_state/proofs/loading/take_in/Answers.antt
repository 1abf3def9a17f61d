use Rattle.mast_state.proofs.FromFile.{loads}
use Rattle.mast_state.proofs.loading.take_in.Goals as goal

pub returns : goal.returns
returns c = loads c.args.file.now c.requires c.load-answer.ensures
