-- `shown::semaphores::put_order` meets its contract: each return is a case of the definition.
use mathlib.Core.Path.{sym, ◌∙◌}
use borrow.Author.Tests.{eq-eqb, ne_eqb}
use Rattle.shown.specs.Shown.{order_text}
use Rattle.shown.proofs.Putting.{puts_yes, puts_no}
use Rattle.shown.proofs.semaphores.put_order.Goals as goal

pub returns-then-attributes-eq-INHERITANCE : goal.returns-then-attributes-eq-INHERITANCE
unfolding order_text
returns-then-attributes-eq-INHERITANCE c = puts_yes _ (eq-eqb _ _ c.if-attributes-eq-INHERITANCE.true) c.put.ensures

pub returns-then-is_by_priority : goal.returns-then-is_by_priority
unfolding order_text
returns-then-is_by_priority c =
    puts_no _ (ne_eqb _ _ c.if-attributes-eq-INHERITANCE.false)
    (puts_yes _ (sym c.is_by_priority.ensures ∙ c.if-is_by_priority.true) c.put-then-is_by_priority.ensures)

pub returns-else-is_by_priority : goal.returns-else-is_by_priority
unfolding order_text
returns-else-is_by_priority c =
    puts_no _ (ne_eqb _ _ c.if-attributes-eq-INHERITANCE.false)
    (puts_no _ (sym c.is_by_priority.ensures ∙ c.if-is_by_priority.false) c.put-else-is_by_priority.ensures)
