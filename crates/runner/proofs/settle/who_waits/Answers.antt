use Rattle.std.proofs.Common.{false, get_or, replicate, arith, length-set}
use Rattle.rules.specs.Machine.{no_task, waits}
use Rattle.laws.proofs.Mapped.{filled_none, filled_more}
use Rattle.runner.proofs.Telling.{flag_read}
use Rattle.runner.proofs.settle.who_waits.Goals as goal

pub loop-i-init : goal.loop-i-init
loop-i-init c = (omega arith, λ t e. filled_none (λ j. waits (get_or t.tasks j no_task)) false (replicate 32 false))

pub loop-i-preserved : goal.loop-i-preserved
loop-i-preserved c =
    let m = c.args.m.now in
    let read = flag_read m c.loop-i.i _ _ (λ k. omega (arith, c.type_inv.m k)) (omega arith) c.load_task.ensures c.is_waiting.ensures in (
      simp length-set (omega arith),
      λ t e. filled_more _ false c.loop-i.flags c.loop-i.i _ (omega arith) (read t e) (c.loop-i.invariant.1 t e),
    )

pub returns : goal.returns
returns c =
    let turn = c.loop-i in
    λ t e j h. turn.invariant.1 t e j (omega arith)
