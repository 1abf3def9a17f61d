-- `changes::tick_tables` meets its contract: the flags, the slots, the tasks and then the sequence.
use native.Mathlib.Omega.{arith}
use Rattle.words.proofs.WordsInBytes.{Bytes}
use Rattle.changes.proofs.TickSlots.{sized, few_tasks, all_ticked}
use Rattle.changes.proofs.tick_tables.Goals as goal

pub expired-flags-requires : goal.expired-flags-requires
expired-flags-requires c =
    sized c.args.m.now (λ k. omega (arith, c.slice_known-1.given k)) c.requires

pub tick_tasks-requires : goal.tick_tasks-requires
tick_tasks-requires c =
    let m₀ = c.args.m.now in
    let b₀ : Bytes m₀ = λ k. omega (arith, c.slice_known-1.given k) in
    let pre = c.requires in
    let few =
    few_tasks m₀ _ c.expired-flags.result c.expired-flags.ensures c.tick_slots.ensures
    (λ k. omega (arith, c.slice_known-2-1.given k)) pre
    in
    (omega (arith, sized m₀ b₀ pre, c.tick_slots.auto), few)

pub tick_ready-requires : goal.tick_ready-requires
tick_ready-requires c =
    let b₀ : Bytes c.args.m.now = λ k. omega (arith, c.slice_known-1.given k) in
    omega (arith, sized c.args.m.now b₀ c.requires, c.tick_slots.auto, c.tick_tasks.auto)

pub returns : goal.returns
returns c =
    all_ticked c.args.m.now _ c.expired-flags.result c.expired-flags.ensures c.tick_slots.ensures _ _
    c.tick_tasks.ensures c.tick_ready.ensures
