use native.Mathlib.Omega.{arith}
use Rattle.words.proofs.WordsInBytes.{Bytes}
use Rattle.changes.proofs.Leaving.{stands_nowhere, closing_none, closing_more, closing_all}
use Rattle.changes.proofs.leave_ready.Goals as goal

pub returns-in_default : goal.returns-in_default
returns-in_default c t e once = absurd (stands_nowhere c.args.q t.ready (omega arith) (c.in_default.ensures.place t e))

pub loop-k-init : goal.loop-k-init
loop-k-init c = (
  λ k. omega (arith, c.slice_known-1.given k),
  closing_none c.args.m.now c.args.q c.in-Some.place c.in-Some.ensures.place,
)

pub loop-k-preserved : goal.loop-k-preserved
loop-k-preserved c =
    let b₀ : Bytes c.args.m.now = λ k. omega (arith, c.slice_known-1.given k) in
    let n = c.ready_count-k-end.ensures in
    let inv = c.loop-k.invariant in (
      λ k. omega (arith, c.type_inv.m k),
      closing_more c.args.m.now c.args.q c.loop-k.m c.loop-k.k b₀ inv.0 inv.1 _ _ (omega arith)
          (omega (arith, n, c.requires.1)) (omega (arith, n)) c.ready_entry-behind.ensures c.set_ready.ensures,
    )

pub returns : goal.returns
returns c =
    let b₀ : Bytes c.args.m.now = λ k. omega (arith, c.slice_known-1.given k) in
    let inv = c.loop-k.invariant in
    closing_all c.args.m.now c.args.q c.loop-k.m c.loop-k.k b₀ inv.0 inv.1 _ (omega (arith, c.ready_count-k-end.ensures))
    c.requires.1 c.drop_ready.ensures
