-- `calls::delete::delete` meets its contract: the slot is freed, and its waiters are woken.
use mathlib.Core.Path.{sym, ◌∙◌}
use native.Mathlib.Omega.{arith}
use Rattle.rules.specs.Machine.{free_slot}
use Rattle.tables.specs.Layout.{model_of}
use Rattle.calls.proofs.Agreeing.{sized}
use Rattle.calls.proofs.Ending.{ordered_tasks, ordered_few, emptied_laid, delete_done}
use Rattle.calls.proofs.delete.delete.Goals as goal

pub wake_all-requires : goal.wake_all-requires
wake_all-requires c =
    let v = c.new-v.ensures in
    let f = rw v at c.in_ok-e.ensures in
    let a = c.requires.agrees in
    let is = rw v at c.serving_order-order.ensures in (
      omega (arith, (sized c.requires).long, c.put_slot.auto.m),
      f.stands.padded.few,
      λ k h. (ordered_tasks a f _ is k h).0,
      λ k h. ordered_few a f _ is k h,
    )

pub returns : goal.returns
returns c =
    let v = c.new-v.ensures in
    let f = rw v at c.in_ok-e.ensures in
    let free = free_slot c.in_ok-e.e.semaphore.generation in
    delete_done c.requires c.args.caller c.args.id (rw v at c.in_ok-task_only.ensures) f (sym c.is_owned.ensures ∙ c.if-is_owned.false)
    (emptied_laid c.requires.agrees f _ (rw v at c.serving_order-order.ensures) free 7
    (c.put_slot.ensures (model_of c.args.m.now) free c.requires.same c.free-freed.ensures.1 f.high) c.wake_all.ensures)
