use mathlib.Core.Path.{sym}
use borrow.Author.Rules.{rules}
use Rattle.itron_calls.proofs.Replying.{leaves_deleted, leaves_undeleted}
use Rattle.itron_calls.proofs.delete_mapped.Goals as goal

pub returns-then-a-eq-SUCCESSFUL : goal.returns-then-a-eq-SUCCESSFUL
returns-then-a-eq-SUCCESSFUL c =
    leaves_deleted c.args.m.now c.args.list.now (sym c.if-not-is_agreeing.ensures.both) c.args.caller c.args.id c.new-t.ensures.value (search rules)
    c.perform-a.ensures c.if-a-eq-SUCCESSFUL.true c.forget.ensures

pub returns-else-a-eq-SUCCESSFUL : goal.returns-else-a-eq-SUCCESSFUL
returns-else-a-eq-SUCCESSFUL c =
    leaves_undeleted c.args.m.now c.args.list.now (sym c.if-not-is_agreeing.ensures.both) c.args.caller c.args.id c.new-t.ensures.value (search rules)
    c.perform-a.ensures c.if-a-eq-SUCCESSFUL.false
