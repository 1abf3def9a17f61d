-- `changes::put_task` meets its contract: one row stored is one task put.
use native.Mathlib.Omega.{arith}
use Rattle.changes.proofs.PutWakeStart.{task_put}
use Rattle.changes.proofs.put_task.Goals as goal

pub returns : goal.returns
returns c =
    let first = c.args in
    task_put first.m.now _ first.q first.v (omega arith) (omega arith) c.store_task.ensures
