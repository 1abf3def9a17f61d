-- `calls::flush::flush` meets its contract: the slot is emptied, and its waiters are woken.
use native.Mathlib.Omega.{arith}
use Rattle.rules.specs.Semaphore.{flush_step}
use Rattle.semaphore.specs.Record.{slot_from}
use Rattle.tables.specs.Layout.{model_of}
use Rattle.calls.proofs.Agreeing.{sized}
use Rattle.calls.proofs.Ending.{ordered_tasks, ordered_few, emptied_laid, flush_done}
use Rattle.calls.proofs.flush.flush.Goals as goal

pub wake_all-requires : goal.wake_all-requires
wake_all-requires c =
    let v = c.new-v.ensures in
    let f = rw v at c.in_ok-e.ensures in
    let a = c.requires.agrees in
    let is = rw v at c.serving_order-order.ensures in (
      omega (arith, (sized c.requires).long, c.put_slot.auto.m),
      f.stands.padded.few,
      λ k h. (ordered_tasks a f _ is k h).0,
      λ k h. ordered_few a f _ is k h,
    )

pub returns : goal.returns
returns c =
    let v = c.new-v.ensures in
    let f = rw v at c.in_ok-e.ensures in
    let emptied = flush_step (slot_from c.in_ok-e.e.semaphore) in
    flush_done c.requires c.args.caller c.args.id (rw v at c.in_ok-any_caller.ensures) f
    (emptied_laid c.requires.agrees f _ (rw v at c.serving_order-order.ensures) emptied 13
    (c.put_slot.ensures (model_of c.args.m.now) emptied c.requires.same c.flush-emptied.ensures f.high) c.wake_all.ensures)
