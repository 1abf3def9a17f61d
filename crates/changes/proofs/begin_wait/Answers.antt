-- `changes::begin_wait` meets its contract: the task leaves the sequence, and its record is stored.
use Rattle.rules.specs.Machine.{with_ready}
use Rattle.rules.specs.Calls.{without}
use Rattle.changes.proofs.begin_wait.Goals as goal

pub returns : goal.returns
returns c t e n once =
    c.put_task.ensures (with_ready t (without c.args.q t.ready)) (c.leave_ready.ensures t e once) n
