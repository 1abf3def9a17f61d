use Rattle.itron.proofs.Telling.{task_told}
use Rattle.itron.proofs.checks.task_only.Goals as goal

pub returns : goal.returns
returns c = search task_told
