-- `shown::put_machine` meets its contract: the parts one behind the other.
use Rattle.shown.specs.Shown.{shown_text}
use Rattle.shown.proofs.Putting.{◌then◌}
use Rattle.shown.proofs.put_machine.Goals as goal

pub returns : goal.returns
unfolding shown_text
returns c = c.put_counts.ensures then c.put_tasks.ensures then c.put_sequence.ensures then c.put_semaphores.ensures
