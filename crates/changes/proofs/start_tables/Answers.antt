use native.Mathlib.Omega.{arith}
use Rattle.changes.proofs.PutWakeStart.{started_more, started_all}
use Rattle.changes.proofs.start_tables.Goals as goal

pub loop-i-preserved : goal.loop-i-preserved
loop-i-preserved c =
    let first = c.args in
    started_more c.store_counts.new.m first.slots first.priorities.now c.loop-i.m _ _ c.loop-i.i _
    (omega arith) (omega arith)
    c.new_task.ensures c.store_task.ensures c.add_ready.ensures c.loop-i.invariant

pub returns : goal.returns
returns c =
    let first = c.args in
    started_all _ first.slots first.priorities.now _ c.loop-i.i (omega arith) c.loop-i.invariant first.m.now
    c.store_counts.ensures
