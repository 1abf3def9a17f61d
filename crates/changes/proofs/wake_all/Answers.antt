use mathlib.Core.Path.{◌≡◌, ap, ◌∙◌}
use Prim.Native.Nat.{ℕ}
use native.Mathlib.Omega.{arith}
use lib.ListN.{take}
use Rattle.rules.specs.Calls.{wake_all}
use Rattle.tables.specs.Layout.{laid}
use Rattle.changes.proofs.PutWakeStart.{woken_none, woken_more}
use Rattle.changes.proofs.wake_all.Goals as goal

pub loop-k-init : goal.loop-k-init
loop-k-init c =
    let first = c.args in
    woken_none first.m.now first.queue first.waiters first.answer

pub wake-requires : goal.wake-requires
wake-requires c =
    let turn = c.loop-k in
    let pre = c.requires in
    (omega arith, pre.2 turn.k (omega arith), pre.3 turn.k (omega arith))

pub loop-k-preserved : goal.loop-k-preserved
loop-k-preserved c =
    let first = c.args in
    woken_more first.m.now first.queue first.waiters first.answer c.loop-k.m _ c.loop-k.k (omega arith) (omega arith)
    c.loop-k.invariant c.wake.ensures

pub returns : goal.returns
returns c t e n few =
    let first = c.args in
    let k : c.loop-k.k ≡ first.waiters = omega arith in
    c.loop-k.invariant t e n few ∙ ap (λ (k : ℕ). laid (wake_all t (take k first.queue) first.answer)) k
