use Rattle.itron.proofs.Telling.{any_told}
use Rattle.itron.proofs.checks.any_caller.Goals as goal

pub returns : goal.returns
returns c = search any_told
