use mathlib.Core.Path.{refl, sym, ◌∙◌}
use borrow.Author.Rules.{rules}
use Rattle.itron.proofs.Signed.{read}
use Rattle.itron_calls.proofs.Replying.{twai_stands, code_read, told_over, leaves_refused, leaves_made}
use Rattle.itron_calls.proofs.twai_sem.Goals as goal

pub returns-in-Err : goal.returns-in-Err
returns-in-Err c =
    leaves_refused (twai_stands c.args.caller c.args.semid (read c.ranges.tmout)) (sym c.if-not-is_agreeing.ensures.both)
    (c.view.ensures ∙ c.new-t.ensures.value) c.in-Err.code c.in-Err.ensures.code (c.if-not-is_agreeing.ensures.tables refl)
    (c.view-in-Err.ensures ∙ c.new-t.ensures.value) (search rules) c.refused.ensures

pub returns-in-Ok : goal.returns-in-Ok
returns-in-Ok c =
    leaves_made (twai_stands c.args.caller c.args.semid (read c.ranges.tmout)) (sym c.if-not-is_agreeing.ensures.both)
    (c.view.ensures ∙ c.new-t.ensures.value) c.in-Ok.ensures.code c.in-Ok.ensures.call c.new-t.ensures.value (search rules) c.perform-a.ensures
    (told_over c.status.ensures (search code_read) c.perform-a.result c.over.ensures) refl
