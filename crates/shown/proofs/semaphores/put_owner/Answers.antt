-- `shown::semaphores::put_owner` meets its contract: each return is a case of the definition.
use mathlib.Core.Path.{sym, ◌∙◌}
use borrow.Author.Tests.{eq-eqb, ne_eqb, not-true, not-false}
use Rattle.std.proofs.Common.{rules}
use Rattle.shown.specs.Shown.{owner_text}
use Rattle.shown.proofs.Putting.{◌then◌, puts_none, puts_yes, puts_no}
use Rattle.shown.proofs.semaphores.put_owner.Goals as goal

pub returns-then-not-is_binary : goal.returns-then-not-is_binary
unfolding owner_text
returns-then-not-is_binary c = puts_no _ (search rules) puts_none

pub returns-then-s-eq0 : goal.returns-then-s-eq0
unfolding owner_text
returns-then-s-eq0 c =
    puts_yes _ (search rules)
    (puts_yes _ (eq-eqb _ _ c.if-s-eq0.true) c.put.ensures)

pub returns-else-s-eq0 : goal.returns-else-s-eq0
unfolding owner_text
returns-else-s-eq0 c =
    puts_yes _ (search rules)
    (puts_no _ (ne_eqb _ _ c.if-s-eq0.false) (c.put_numbered.ensures then c.put_numbered-else-s-eq0.ensures))
