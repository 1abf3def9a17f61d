use native.Mathlib.Omega.{arith}
use Rattle.words.proofs.WordsInBytes.{Bytes}
use Rattle.changes.proofs.TickSlots.{kept_more, kept_all, sized, few_slots, record_queues}
use Rattle.changes.proofs.tick_slots.Goals as goal

pub slot_count-i-end-requires : goal.slot_count-i-end-requires
slot_count-i-end-requires c =
    sized c.args.m.now (λ k. omega (arith, c.slice_known-1.given k)) c.requires

pub loop-i-init : goal.loop-i-init
loop-i-init c =
    (λ k. omega (arith, c.slice_known-1.given k), λ t e h. e)

pub tick_slot-requires : goal.tick_slot-requires
tick_slot-requires c =
    let m₀ = c.args.m.now in
    let b₀ : Bytes m₀ = λ k. omega (arith, c.slice_known-1.given k) in
    let pre = c.requires in
    let w =
    record_queues m₀ b₀ pre c.args.expired c.loop-i.m c.loop-i.i c.loop-i.invariant.0
    (omega (arith, c.slot_count-i-end.ensures)) c.loop-i.invariant.1
    in
    (omega (arith, sized m₀ b₀ pre), omega (arith, few_slots m₀ b₀ pre, c.slot_count-i-end.ensures), w.0, w.1)

pub loop-i-preserved : goal.loop-i-preserved
loop-i-preserved c =
    let m₀ = c.args.m.now in
    let b₀ : Bytes m₀ = λ k. omega (arith, c.slice_known-1.given k) in (
      λ k. omega (arith, c.type_inv.m k),
      kept_more c.args.expired m₀ b₀ c.loop-i.m _ c.loop-i.i (omega (arith, c.slot_count-i-end.ensures))
          c.loop-i.invariant.1 c.tick_slot.ensures,
    )

pub returns : goal.returns
returns c =
    let m₀ = c.args.m.now in
    let b₀ : Bytes m₀ = λ k. omega (arith, c.slice_known-1.given k) in
    kept_all c.args.expired m₀ b₀ _ c.loop-i.i (omega (arith, c.slot_count-i-end.ensures)) c.loop-i.invariant.1
