-- `shown::semaphores::put_maximum` meets its contract: each return is a case of the definition.
use mathlib.Core.Path.{sym, ◌∙◌}
use Rattle.shown.specs.Shown.{maximum_text}
use Rattle.shown.proofs.Putting.{puts_none, puts_yes, puts_no}
use Rattle.shown.proofs.semaphores.put_maximum.Goals as goal
use Rattle.shown.proofs.semaphores.put_maximum.Goals.{then-is_binary-via-then-is_binary, then-is_binary-via-else-is_binary+then-is_simple}

pub returns-then-is_binary : goal.returns-then-is_binary
unfolding maximum_text
returns-then-is_binary c =
    elim c.then-is_binary.branch [
      | then-is_binary-via-then-is_binary w ↦ puts_yes _ (sym c.is_binary.ensures ∙ w.if-is_binary.true) puts_none
      | then-is_binary-via-else-is_binary+then-is_simple w ↦
          puts_no _ (sym c.is_binary.ensures ∙ w.if-is_binary.false) (puts_yes _ (sym w.is_simple.ensures ∙ w.if-is_simple.true) puts_none)
    ]

pub returns : goal.returns
unfolding maximum_text
returns c =
    puts_no _ (sym c.is_binary.ensures ∙ c.if-is_binary.false)
    (puts_no _ (sym c.is_simple.ensures ∙ c.if-is_simple.false) c.put_numbered.ensures)
