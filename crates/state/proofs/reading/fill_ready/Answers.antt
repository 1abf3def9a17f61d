use mathlib.Core.Path.{◌≡◌, ap, ◌∙◌}
use Prim.Native.Nat.{ℕ}
use native.Mathlib.Omega.{arith}
use Rattle.rules.specs.Machine.{with_ready}
use Rattle.tables.specs.Layout.{row_at}
use Rattle.tables.specs.Layout.{laid}
use Rattle.state.proofs.Filling.{ready_none, ready_more}
use Rattle.state.proofs.reading.fill_ready.Goals as goal

pub loop-k-init : goal.loop-k-init
loop-k-init c =
    let first = c.args in ready_none first.m.now first.file.now first.at

pub loop-k-preserved : goal.loop-k-preserved
loop-k-preserved c =
    let first = c.args in
    ready_more first.m.now first.file.now first.at c.loop-k.m _ c.loop-k.k _ (omega arith) c.word.ensures c.loop-k.invariant c.add_ready.ensures

pub returns : goal.returns
returns c t e none =
    let first = c.args in
    let all : c.loop-k.k ≡ first.n = omega arith in
    c.loop-k.invariant t e none ∙ ap (λ (n : ℕ). laid (with_ready t (row_at first.file.now first.at n))) all
