-- `tables::add_ready` meets its contract: nothing where there is no room, else the task's number and then the length.
use native.Mathlib.Omega.{arith}
use Rattle.words.proofs.WordsInBytes.{Bytes}
use Rattle.tables.proofs.LayoutStore.{ready_full, ready_added}
use Rattle.tables.proofs.add_ready.Goals as goal

pub returns-then-count-ge-MAX_TASKS : goal.returns-then-count-ge-MAX_TASKS
returns-then-count-ge-MAX_TASKS c t e few =
    let first = c.args in
    let b : Bytes first.m.now = λ k. omega (arith, c.slice_known-1.given k) in
    ready_full first.m.now c.ready_count-count.result b c.ready_count-count.ensures t e first.q few (omega arith)

pub returns : goal.returns
returns c t e few =
    let first = c.args in
    let b : Bytes first.m.now = λ k. omega (arith, c.slice_known-1.given k) in
    ready_added first.m.now c.ready_count-count.result b c.ready_count-count.ensures t e first.q few c.set_word.new.m _
    c.set_word.ensures c.set_word-2.ensures
