-- `calls::obtain::obtain` meets its contract: the slot is stored, and the caller blocked if it has to wait.
use borrow.Author.Rules.{rules}
use native.Mathlib.Omega.{arith}
use Rattle.calls.proofs.Agreeing.{sized, tasks_few}
use Rattle.calls.proofs.Entering.{takable}
use Rattle.calls.proofs.Obtaining.{ready_task, obtain_took, obtain_begun, sequence_few}
use Rattle.calls.proofs.obtain.obtain.Goals as goal

pub take-requires : goal.take-requires
take-requires c =
    let v = c.new-v.ensures in
    takable c.requires (rw v at c.in_ok-e.ensures) (ready_task c.requires c.args.caller c.args.id c.args.wait (rw v at c.in_ok-task_only.ensures))

pub overflow_sub-caller : goal.overflow_sub-caller
overflow_sub-caller c =
    let v = c.new-v.ensures in (ready_task c.requires c.args.caller c.args.id c.args.wait (rw v at c.in_ok-task_only.ensures)).first

pub load_task-task-requires : goal.load_task-task-requires
load_task-task-requires c =
    let v = c.new-v.ensures in
    let who = ready_task c.requires c.args.caller c.args.id c.args.wait (rw v at c.in_ok-task_only.ensures) in
    (omega (arith, (sized c.requires).long, c.put_slot.auto.m), omega (arith, who.first, who.last, tasks_few _ c.requires.agrees))

pub begin_wait-requires : goal.begin_wait-requires
begin_wait-requires c =
    let v = c.new-v.ensures in
    let passed = rw v at c.in_ok-task_only.ensures in
    let who = ready_task c.requires c.args.caller c.args.id c.args.wait passed in (
      omega (arith, (sized c.requires).long, c.put_slot.auto.m),
      who.first,
      omega (arith, who.last, tasks_few _ c.requires.agrees),
      sequence_few c.requires c.args.caller c.args.id c.args.wait passed (rw v at c.in_ok-e.ensures) c.in_ok-taken.ensures c.put_slot.ensures c.if-taken.true (search rules),
    )

pub returns-then-taken : goal.returns-then-taken
returns-then-taken c =
    let v = c.new-v.ensures in
    obtain_begun c.requires c.args.caller c.args.id c.args.wait (rw v at c.in_ok-task_only.ensures) (rw v at c.in_ok-e.ensures) c.in_ok-taken.ensures
    c.put_slot.ensures c.if-taken.true (search rules) _ _ c.load_task-task.ensures (c.blocked-waiter.ensures c.args.wait c.ticks_of.ensures) c.begin_wait.ensures

pub returns : goal.returns
returns c =
    let v = c.new-v.ensures in
    obtain_took c.requires c.args.caller c.args.id c.args.wait (rw v at c.in_ok-task_only.ensures) (rw v at c.in_ok-e.ensures) c.in_ok-taken.ensures
    c.put_slot.ensures c.if-taken.false
