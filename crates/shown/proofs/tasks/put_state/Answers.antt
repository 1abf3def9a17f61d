-- `shown::tasks::put_state` meets its contract, by whether the task waits.
use borrow.Author.Tests.{eq-eqb, ne_eqb}
use Rattle.shown.specs.Shown.{state_text}
use Rattle.shown.proofs.Putting.{◌then◌, puts_yes, puts_no}
use Rattle.shown.proofs.tasks.put_state.Goals as goal

pub returns-then-task-eq-WAITING : goal.returns-then-task-eq-WAITING
unfolding state_text
returns-then-task-eq-WAITING c = puts_yes _ (eq-eqb _ _ c.if-task-eq-WAITING.true) c.put_wait.ensures

pub returns-else-task-eq-WAITING : goal.returns-else-task-eq-WAITING
unfolding state_text
returns-else-task-eq-WAITING c = puts_no _ (ne_eqb _ _ c.if-task-eq-WAITING.false) (c.put.ensures then c.put_ending.ensures)
