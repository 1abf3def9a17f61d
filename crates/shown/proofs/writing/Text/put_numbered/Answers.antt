-- `shown::writing::Text::put_numbered` meets its contract: a phrase, and the number behind it.
use Rattle.shown.proofs.Putting.{◌then◌}
use Rattle.shown.proofs.writing.Text.put_numbered.Goals as goal

pub returns : goal.returns
returns c = c.put.ensures then c.put_number.ensures
