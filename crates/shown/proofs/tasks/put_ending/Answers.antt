-- `shown::tasks::put_ending` meets its contract: each return is a case of the definition.
use borrow.Author.Tests.{eq-eqb, ne_eqb}
use Rattle.shown.specs.Shown.{ending_text}
use Rattle.shown.proofs.Putting.{puts_none, puts_yes, puts_no}
use Rattle.shown.proofs.tasks.put_ending.Goals as goal

pub returns-then-answer-eq-TIMEOUT : goal.returns-then-answer-eq-TIMEOUT
unfolding ending_text
returns-then-answer-eq-TIMEOUT c = puts_yes _ (eq-eqb _ _ c.if-answer-eq-TIMEOUT.true) c.put.ensures

pub returns-then-answer-eq-OBJECT_WAS_DELETED : goal.returns-then-answer-eq-OBJECT_WAS_DELETED
unfolding ending_text
returns-then-answer-eq-OBJECT_WAS_DELETED c =
    puts_no _ (ne_eqb _ _ c.if-answer-eq-TIMEOUT.false)
    (puts_yes _ (eq-eqb _ _ c.if-answer-eq-OBJECT_WAS_DELETED.true) c.put-then-answer-eq-OBJECT_WAS_DELETED.ensures)

pub returns-then-answer-eq-UNSATISFIED : goal.returns-then-answer-eq-UNSATISFIED
unfolding ending_text
returns-then-answer-eq-UNSATISFIED c =
    puts_no _ (ne_eqb _ _ c.if-answer-eq-TIMEOUT.false)
    (puts_no _ (ne_eqb _ _ c.if-answer-eq-OBJECT_WAS_DELETED.false)
    (puts_yes _ (eq-eqb _ _ c.if-answer-eq-UNSATISFIED.true) c.put-then-answer-eq-UNSATISFIED.ensures))

pub returns-else-answer-eq-UNSATISFIED : goal.returns-else-answer-eq-UNSATISFIED
unfolding ending_text
returns-else-answer-eq-UNSATISFIED c =
    puts_no _ (ne_eqb _ _ c.if-answer-eq-TIMEOUT.false)
    (puts_no _ (ne_eqb _ _ c.if-answer-eq-OBJECT_WAS_DELETED.false) (puts_no _ (ne_eqb _ _ c.if-answer-eq-UNSATISFIED.false) puts_none))
