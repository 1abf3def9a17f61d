-- `shown::writing::Text::put_tasks` meets its contract, by whether there are tasks.
use mathlib.Core.Path.{sym, ◌∙◌}
use Rattle.shown.specs.Shown.{tasks_text}
use Rattle.shown.proofs.Putting.{puts_yes, puts_no}
use Rattle.shown.proofs.writing.Text.put_tasks.Goals as goal

pub returns-then-is_empty : goal.returns-then-is_empty
unfolding tasks_text
returns-then-is_empty c = puts_yes _ (sym c.is_empty.ensures ∙ c.if-is_empty.true) c.put.ensures

pub returns-else-is_empty : goal.returns-else-is_empty
unfolding tasks_text
returns-else-is_empty c = puts_no _ (sym c.is_empty.ensures ∙ c.if-is_empty.false) c.put_spaced.ensures
