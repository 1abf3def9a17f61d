-- `shown::semaphores::put_class` meets its contract: each return is a case of the definition.
use mathlib.Core.Path.{sym, ◌∙◌}
use Rattle.shown.specs.Shown.{class_text}
use Rattle.shown.proofs.Putting.{puts_yes, puts_no}
use Rattle.shown.proofs.semaphores.put_class.Goals as goal

pub returns-then-is_binary : goal.returns-then-is_binary
unfolding class_text
returns-then-is_binary c = puts_yes _ (sym c.is_binary.ensures ∙ c.if-is_binary.true) c.put.ensures

pub returns-then-is_simple : goal.returns-then-is_simple
unfolding class_text
returns-then-is_simple c =
    puts_no _ (sym c.is_binary.ensures ∙ c.if-is_binary.false)
    (puts_yes _ (sym c.is_simple.ensures ∙ c.if-is_simple.true) c.put-then-is_simple.ensures)

pub returns-else-is_simple : goal.returns-else-is_simple
unfolding class_text
returns-else-is_simple c =
    puts_no _ (sym c.is_binary.ensures ∙ c.if-is_binary.false)
    (puts_no _ (sym c.is_simple.ensures ∙ c.if-is_simple.false) c.put-else-is_simple.ensures)
