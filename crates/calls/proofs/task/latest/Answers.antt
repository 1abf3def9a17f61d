-- `calls::task::latest` meets its contract: the task that is loaded has the number.
use native.Mathlib.Omega.{arith}
use Rattle.calls.proofs.Reading.{task_within}
use Rattle.calls.proofs.task.latest.Goals as goal

pub returns : goal.returns
returns c = task_within c.args.v.bytes.now c.args.q (omega arith) (omega arith) _ c.task.ensures
