use mathlib.Core.Path.{refl, sym, ◌∙◌}
use borrow.Author.Rules.{rules}
use Rattle.itron_calls.proofs.Replying.{del_stands, leaves_refused, leaves_made}
use Rattle.itron_calls.proofs.del_sem.Goals as goal

pub returns-in-Err : goal.returns-in-Err
returns-in-Err c =
    leaves_refused (del_stands c.args.caller c.args.semid) (sym c.if-not-is_agreeing.ensures.both)
    (c.view.ensures ∙ c.new-t.ensures.value) c.in-Err.code c.in-Err.ensures.code (c.if-not-is_agreeing.ensures.tables refl)
    (c.view-in-Err.ensures ∙ c.new-t.ensures.value) (search rules) c.refused.ensures

pub returns-in-Ok : goal.returns-in-Ok
returns-in-Ok c =
    leaves_made (del_stands c.args.caller c.args.semid) (sym c.if-not-is_agreeing.ensures.both)
    (c.view.ensures ∙ c.new-t.ensures.value) c.in-Ok.ensures.code c.in-Ok.ensures.call c.new-t.ensures.value (search rules) c.perform-deleted.ensures
    c.plain.ensures c.remember.ensures
