use mathlib.Core.Path.{sym, subst}
use mathlib.Core.List.{List}
use Prim.Native.Nat.{ℕ, ◌+◌}
use native.Mathlib.Omega.{arith}
use Rattle.changes.proofs.Joining.{Joined, joined_none, joined_not, joined_more, joined_all}
use Rattle.changes.proofs.tick_ready.Goals.{else-expired-i, then-expired-i}
use Rattle.changes.proofs.tick_ready.Goals as goal

pub loop-i-init : goal.loop-i-init
loop-i-init c =
    let first = c.args in
    joined_none first.m.now first.expired

pub loop-i-preserved : goal.loop-i-preserved
loop-i-preserved c =
    let first = c.args in
    let more = joined_more first.m.now first.expired c.loop-i.m c.loop-i.i (omega arith) c.loop-i.invariant in
    let same = joined_not first.m.now first.expired c.loop-i.m c.loop-i.i (omega arith) c.loop-i.invariant in
    elim c.if-expired-i.branch [
      | then-expired-i w ↦
          subst (λ (m : List ℕ). Joined first.m.now first.expired m (c.loop-i.i + 1))
          (sym w.m-is) (more _ w.if-expired-i.true w.add_ready.ensures)
      | else-expired-i w ↦
          subst (λ (m : List ℕ). Joined first.m.now first.expired m (c.loop-i.i + 1))
          (sym w.m-is) (same w.if-expired-i.false)
    ]

pub returns : goal.returns
returns c =
    let turn = c.loop-i in
    let first = c.args in
    joined_all first.m.now first.expired _ turn.i (omega arith) turn.invariant
