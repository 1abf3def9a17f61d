use Rattle.mast_state.proofs.FromFile.{loads_some}
use Rattle.mast_state.proofs.loading.load.Goals as goal

pub returns-then-take_in : goal.returns-then-take_in
returns-then-take_in c = loads_some _ c.if-take_in.ensures

pub returns-else-take_in : goal.returns-else-take_in
returns-else-take_in c = loads_some _ c.if-take_in.ensures
