-- `tables::add_waiter` meets its contract: nothing where there is no room, else the task's number and then the length of the queue.
use native.Mathlib.Omega.{arith}
use Rattle.words.proofs.WordsInBytes.{Bytes}
use Rattle.tables.proofs.LayoutStore.{queue_full, waiter_added}
use Rattle.tables.proofs.add_waiter.Goals as goal

pub returns-then-waiters-ge-MAX_TASKS : goal.returns-then-waiters-ge-MAX_TASKS
returns-then-waiters-ge-MAX_TASKS c t e h few =
    let first = c.args in
    let b : Bytes first.m.now = λ k. omega (arith, c.slice_known-1.given k) in
    queue_full first.m.now first.i first.q c.slot_waiters-waiters.result (omega arith) b c.slot_waiters-waiters.ensures t e h few (omega arith)

pub returns : goal.returns
returns c t e h few =
    let first = c.args in
    let b : Bytes first.m.now = λ k. omega (arith, c.slice_known-1.given k) in
    waiter_added first.m.now first.i first.q c.slot_waiters-waiters.result (omega arith) b c.slot_waiters-waiters.ensures t e h few
    c.set_word.new.m _ c.set_word.ensures c.set_word-2.ensures
