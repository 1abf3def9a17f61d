use native.Mathlib.Omega.{arith}
use Rattle.state.proofs.Filling.{tasks_none, tasks_more, tasks_all}
use Rattle.state.proofs.reading.fill_tasks.Goals as goal

pub loop-i-init : goal.loop-i-init
loop-i-init c =
    let first = c.args in tasks_none first.m.now first.file.now first.tasks

pub loop-i-preserved : goal.loop-i-preserved
loop-i-preserved c =
    let first = c.args in
    tasks_more first.m.now first.file.now first.tasks c.loop-i.m _ c.loop-i.i _ (omega arith) (omega arith) c.load.ensures c.store_task.ensures c.loop-i.invariant

pub returns : goal.returns
returns c =
    let first = c.args in
    tasks_all first.m.now first.file.now first.tasks c.loop-i.m c.loop-i.i (omega arith) c.loop-i.invariant
