-- `tables::drop_ready` meets its contract: nothing where nobody is ready, else 0 over the last and then the length.
use native.Mathlib.Omega.{arith}
use Rattle.words.proofs.WordsInBytes.{Bytes}
use Rattle.tables.proofs.LayoutStore.{ready_empty, ready_over, ready_dropped}
use Rattle.tables.proofs.drop_ready.Goals as goal

pub returns-then-count-eq0 : goal.returns-then-count-eq0
returns-then-count-eq0 c t e some few =
    let first = c.args in
    let b : Bytes first.m.now = λ k. omega (arith, c.slice_known-1.given k) in
    ready_empty first.m.now c.ready_count-count.result b c.ready_count-count.ensures t e some few (omega arith)

pub returns-then-count-gt-MAX_TASKS : goal.returns-then-count-gt-MAX_TASKS
returns-then-count-gt-MAX_TASKS c t e some few =
    let first = c.args in
    let b : Bytes first.m.now = λ k. omega (arith, c.slice_known-1.given k) in
    ready_over first.m.now c.ready_count-count.result b c.ready_count-count.ensures t e some few (omega arith)

pub returns : goal.returns
returns c t e some few =
    let first = c.args in
    let b : Bytes first.m.now = λ k. omega (arith, c.slice_known-1.given k) in
    ready_dropped first.m.now c.ready_count-count.result b c.ready_count-count.ensures t e some few
    c.set_word.new.m _ c.set_word.ensures c.set_word-2.ensures
