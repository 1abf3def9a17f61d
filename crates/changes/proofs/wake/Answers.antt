-- `changes::wake` meets its contract: the task that is read from the bytes is the tables' own, and joins the sequence.
use native.Mathlib.Omega.{arith}
use Rattle.changes.proofs.PutWakeStart.{task_woken}
use Rattle.changes.proofs.wake.Goals as goal

pub returns : goal.returns
returns c =
    let first = c.args in
    task_woken first.m.now _ _ first.q first.answer _ _ (λ k. omega (arith, c.slice_known-1.given k)) (omega arith) (omega arith)
    c.load_task-v.ensures c.readied.ensures c.put_task.ensures c.add_ready.ensures
