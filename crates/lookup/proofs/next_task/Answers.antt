use mathlib.Core.Path.{sym, ◌∙◌}
use Prim.Native.Nat.{◌<◌}
use native.Mathlib.Omega.{arith}
use Rattle.words.specs.Words.{word_at}
use Rattle.rules.specs.Machine.{urgency}
use Rattle.rules.proofs.Choosing.{urgent_begun, urgent_more, urgent_all}
use Rattle.tables.specs.Layout.{ready_place}
use Rattle.tables.specs.View.{seen}
use Rattle.tables.proofs.LayoutRead.{length_ready, ready_read}
use Rattle.lookup.proofs.Model.{length_tasks}
use Rattle.lookup.proofs.next_task.Goals as goal

pub loop-k-init : goal.loop-k-init
loop-k-init c = urgent_begun (seen c.args.v)

pub loop-k-preserved : goal.loop-k-preserved
loop-k-preserved c =
    let t = seen c.args.v in
    let bs = c.args.v.bytes.now in
    let turn = c.loop-k in
    let h : turn.k < word_at bs ready_place = omega arith in
    let goes_by = c.urgency-p.ensures ∙ c.load_lenders-lenders.ensures.links _ in
    urgent_more t turn.k _ _ _ _ _ (omega (arith, length_ready bs c.args.v.sized.ready))
    (c.ready_entry-q.ensures ∙ sym (ready_read bs turn.k h)) turn.invariant
    (λ qs. c.better-best.ensures t (urgency t) qs (length_tasks bs ∙ sym c.task_count-tasks.ensures) (λ is. sym goes_by))

pub returns : goal.returns
returns c =
    let bs = c.args.v.bytes.now in
    urgent_all (seen c.args.v) c.loop-k.k _ _ (omega (arith, length_ready bs c.args.v.sized.ready)) c.loop-k.invariant
