-- `shown::semaphores::put_kind` meets its contract: the parts one behind the other.
use Rattle.shown.specs.Shown.{kind_text}
use Rattle.shown.proofs.Putting.{◌then◌}
use Rattle.shown.proofs.semaphores.put_kind.Goals as goal

pub returns : goal.returns
unfolding kind_text
returns c =
    c.put_numbered.ensures then c.put_numbered-2.ensures then c.put_class.ensures then c.put_order.ensures then c.put_number.ensures
    then c.put_maximum.ensures
