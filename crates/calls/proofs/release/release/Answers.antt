-- `calls::release::release` meets its contract: the slot is stored, and the waiter served is woken if there is one.
use native.Mathlib.Omega.{arith}
use Rattle.calls.proofs.Agreeing.{sized, tasks_few}
use Rattle.calls.proofs.Releasing.{givable, release_returned, release_handed, woken_task}
use Rattle.calls.proofs.release.release.Goals as goal

pub give-requires : goal.give-requires
give-requires c =
    let v = c.new-v.ensures in
    givable c.requires c.args.caller c.args.id (rw v at c.in_ok-any_caller.ensures) (rw v at c.in_ok-e.ensures) c.served_place-place.result
    (rw v at c.served_place-place.ensures)

pub wake-requires : goal.wake-requires
wake-requires c =
    let v = c.new-v.ensures in
    let q =
    woken_task c.requires c.args.caller c.args.id (rw v at c.in_ok-any_caller.ensures) (rw v at c.in_ok-e.ensures) c.served_place-place.result
    (rw v at c.served_place-place.ensures) c.in_ok-given.ensures c.put_slot.ensures c.in-Some.q c.in-Some.is
    in
    (omega (arith, (sized c.requires).long, c.put_slot.auto.m), q.0, omega (arith, q.1, tasks_few _ c.requires.agrees))

pub returns-in-Some : goal.returns-in-Some
returns-in-Some c =
    let v = c.new-v.ensures in
    release_handed c.requires c.args.caller c.args.id (rw v at c.in_ok-any_caller.ensures) (rw v at c.in_ok-e.ensures) c.served_place-place.result
    (rw v at c.served_place-place.ensures) c.in_ok-given.ensures c.put_slot.ensures c.in-Some.q c.in-Some.is c.wake.ensures

pub returns-in_default : goal.returns-in_default
returns-in_default c =
    let v = c.new-v.ensures in
    release_returned c.requires c.args.caller c.args.id (rw v at c.in_ok-any_caller.ensures) (rw v at c.in_ok-e.ensures) c.served_place-place.result
    (rw v at c.served_place-place.ensures) c.in_ok-given.ensures c.put_slot.ensures c.in_default.not-Some
