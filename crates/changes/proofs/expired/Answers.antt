use native.Mathlib.Omega.{arith}
use mathlib.Core.Bool.{false}
use mathlib.Core.List.{map}
use lib.ListN.{length-set, get_or, replicate}
use Rattle.rules.specs.Calls.{expires}
use Rattle.laws.proofs.Mapped.{filled_none, filled_more}
use Rattle.changes.proofs.Ticks.{flag_read, flags_read}
use Rattle.changes.proofs.expired.Goals as goal

pub loop-i-init : goal.loop-i-init
loop-i-init c = (omega arith, λ t e. filled_none (λ j. get_or (map (λ v. expires v) t.tasks) j false) false (replicate 32 false))

pub loop-i-preserved : goal.loop-i-preserved
loop-i-preserved c =
    let m = c.args.m.now in
    let read =
    flag_read m c.loop-i.i _ _ (λ k. omega (arith, c.type_inv.m k)) (omega arith) c.load_task.ensures
    c.expires.ensures
    in (
      simp length-set (omega arith),
      λ t e. filled_more _ false c.loop-i.flags c.loop-i.i _ (omega arith) (read t e) (c.loop-i.invariant.1 t e),
    )

pub returns : goal.returns
returns c =
    let turn = c.loop-i in
    flags_read c.args.m.now turn.flags (omega arith) (λ t e j h. turn.invariant.1 t e j (omega arith))
