-- `state::writing::counts_of` meets its contract: of agreeing tables the queues hold the tasks that are not ready.
use Rattle.std.proofs.Common.{arith}
use Rattle.calls.proofs.Agreeing.{sized}
use Rattle.state.proofs.Lengths.{ready_within, counts_read}
use Rattle.state.proofs.writing.counts_of.Goals as goal

pub overflow_sub-result : goal.overflow_sub-result
overflow_sub-result c = omega (arith, ready_within c.requires)

pub overflow_add-result : goal.overflow_add-result
overflow_add-result c =
    let s = sized c.requires in
    omega (arith, s.tasks, s.slots)

pub returns : goal.returns
returns c = counts_read c.requires _ _ _ c.task_count-tasks.ensures c.slot_count-slots.ensures c.ready_count-ready.ensures
