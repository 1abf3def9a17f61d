-- `shown::tasks::put_wait` meets its contract: the parts one behind the other.
use mathlib.Core.Path.{ap}
use Rattle.shown.specs.Shown.{wait_text, numbered, waits_phrase}
use Rattle.shown.proofs.Putting.{◌then◌, puts_as}
use Rattle.shown.proofs.tasks.put_wait.Goals as goal

pub returns : goal.returns
unfolding wait_text
returns c =
    puts_as (ap (numbered waits_phrase) c.name_of-name.ensures) c.put_numbered.ensures
    then c.put_numbered-2.ensures
    then c.put.ensures
    then c.put_ticks.ensures
