-- `shown::tasks::put_ticks` meets its contract: 0 is for ever.
use borrow.Author.Tests.{eq-eqb, ne_eqb}
use Rattle.shown.specs.Shown.{ticks_text}
use Rattle.shown.proofs.Putting.{◌then◌, puts_yes, puts_no}
use Rattle.shown.proofs.tasks.put_ticks.Goals as goal

pub returns-then-ticks-eq0 : goal.returns-then-ticks-eq0
unfolding ticks_text
returns-then-ticks-eq0 c = puts_yes _ (eq-eqb _ _ c.if-ticks-eq0.true) c.put.ensures

pub returns-else-ticks-eq0 : goal.returns-else-ticks-eq0
unfolding ticks_text
returns-else-ticks-eq0 c = puts_no _ (ne_eqb _ _ c.if-ticks-eq0.false) (c.put_number.ensures then c.put-else-ticks-eq0.ensures)
