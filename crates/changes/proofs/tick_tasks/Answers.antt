use mathlib.Core.Path.{sym, ◌∙◌}
use Prim.Native.Nat.{◌<◌}
use native.Mathlib.Omega.{arith}
use Rattle.words.specs.Words.{word_at}
use Rattle.words.proofs.WordsInBytes.{Bytes}
use Rattle.changes.proofs.Ticks.{ticked_more, ticked_same, ticked_all}
use Rattle.changes.proofs.tick_tasks.Goals as goal
use Rattle.changes.proofs.tick_tasks.Goals.{then-is_timed, else-is_timed}
use borrow.Author.Rules.{rules}

pub loop-i-init : goal.loop-i-init
loop-i-init c =
    (λ k. omega (arith, c.slice_known-1.given k), λ t e. e)

pub loop-i-preserved : goal.loop-i-preserved
loop-i-preserved c =
    let m₀ = c.args.m.now in
    let b₀ : Bytes m₀ = λ k. omega (arith, c.slice_known-1.given k) in
    let n = c.task_count-i-end.ensures in
    let few : c.loop-i.i < 32 = omega (arith, n, c.requires) in
    let inside : c.loop-i.i < word_at m₀ 0 = omega (arith, n) in
    let i = c.loop-i.i in
    let read = c.load_task-v.ensures in
    let passed = c.loop-i.invariant in
    elim c.if-is_timed.branch [
      | then-is_timed w ↦ rw w.m-is (
        search rules,
        ticked_more m₀ b₀ c.loop-i.m i _ passed.0 few inside read passed.1 _ _ w.ticked.ensures w.store_task.ensures,
      )
      | else-is_timed w ↦ rw w.m-is (
        passed.0,
        ticked_same m₀ b₀ c.loop-i.m i _ passed.0 few inside read passed.1 (sym c.is_timed.ensures ∙ w.if-is_timed.false),
      )
    ]

pub returns : goal.returns
returns c =
    let m₀ = c.args.m.now in
    let b₀ : Bytes m₀ = λ k. omega (arith, c.slice_known-1.given k) in
    ticked_all m₀ b₀ _ c.loop-i.i (omega (arith, c.task_count-i-end.ensures)) c.loop-i.invariant.1
