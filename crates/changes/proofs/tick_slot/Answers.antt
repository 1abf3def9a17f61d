-- `changes::tick_slot` meets its contract: nothing is stored where nobody waits, else the shorter queue.
use native.Mathlib.Omega.{arith}
use Rattle.changes.proofs.Ticks.{slot_quiet, slot_shortened}
use Rattle.changes.proofs.TickSlots.{queues_same}
use Rattle.changes.proofs.tick_slot.Goals as goal

pub returns-then-slot_waiters-eq0 : goal.returns-then-slot_waiters-eq0
returns-then-slot_waiters-eq0 c =
    let first = c.args in
    slot_quiet first.m.now first.i first.expired (λ k. omega (arith, c.slice_known-1.given k)) (omega arith) _
    c.slot_waiters.ensures (omega arith)

pub without-requires : goal.without-requires
without-requires c =
    let pre = c.requires in
    queues_same c.load_slot-s.ensures (pre.2, pre.3)

pub returns : goal.returns
returns c =
    let first = c.args in
    slot_shortened first.m.now first.i first.expired (λ k. omega (arith, c.slice_known-1.given k)) (omega (arith, c.requires)) _ _ _
    c.load_slot-s.ensures c.without.ensures c.store_slot.ensures
