-- `shown::semaphores::put_holders` meets its contract: the parts one behind the other.
use Rattle.shown.specs.Shown.{holders_text}
use Rattle.shown.proofs.Putting.{◌then◌}
use Rattle.shown.proofs.semaphores.put_holders.Goals as goal

pub returns : goal.returns
unfolding holders_text
returns c = c.put_owner.ensures then c.put.ensures then c.put_tasks.ensures then c.put-2.ensures
