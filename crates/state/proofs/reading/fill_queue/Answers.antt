use mathlib.Core.Path.{◌≡◌, ap, ◌∙◌}
use Prim.Native.Nat.{ℕ}
use native.Mathlib.Omega.{arith}
use lib.ListN.{get_or, set}
use Rattle.rules.specs.Machine.{free_slot, with_slots}
use Rattle.rules.specs.Semaphore.{requeued}
use Rattle.tables.specs.Layout.{row_at}
use Rattle.tables.specs.Layout.{laid}
use Rattle.state.proofs.Filling.{queue_none, queue_more}
use Rattle.state.proofs.reading.fill_queue.Goals as goal

pub loop-k-init : goal.loop-k-init
loop-k-init c =
    let first = c.args in queue_none first.m.now first.i first.file.now first.at

pub loop-k-preserved : goal.loop-k-preserved
loop-k-preserved c =
    let first = c.args in
    queue_more first.m.now first.i first.file.now first.at c.loop-k.m _ c.loop-k.k _ (omega arith) c.word.ensures c.loop-k.invariant c.add_waiter.ensures

pub returns : goal.returns
returns c t e h none =
    let first = c.args in
    let slot = get_or t.slots first.i (free_slot 0) in
    let all : c.loop-k.k ≡ first.n = omega arith in
    c.loop-k.invariant t e h none
    ∙ ap (λ (n : ℕ). laid (with_slots t (set t.slots first.i (requeued slot (row_at first.file.now first.at n))))) all
