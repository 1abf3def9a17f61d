-- `state::load` meets its contract: bytes that fail the test are left alone, and a file is read into others.
use Rattle.std.proofs.Common.{◌∙◌, sym}
use borrow.Author.Tests.{not-true, not-false}
use Rattle.calls.proofs.Agreeing.{sized}
use Rattle.manager.proofs.Tested.{tested}
use Rattle.state.proofs.Entry.{load_disagreeing, load_agreeing}
use Rattle.state.proofs.load.Goals as goal

pub returns-then-not-is_agreeing : goal.returns-then-not-is_agreeing
returns-then-not-is_agreeing c = load_disagreeing _ _ (sym c.is_agreeing.ensures ∙ not-true _ c.if-not-is_agreeing.true-raw) c.internal_error.ensures

pub read-done-requires : goal.read-done-requires
read-done-requires c = tested (λ k. (c.slice_known-1.given k).fits) (sym c.is_agreeing.ensures ∙ not-false _ c.if-not-is_agreeing.false-raw)

pub new-requires : goal.new-requires
new-requires c = sized c.read-done.ensures.kept

pub returns : goal.returns
returns c =
    let done = c.read-done.ensures.replied in
    load_agreeing _ _ (sym c.is_agreeing.ensures ∙ not-false _ c.if-not-is_agreeing.false-raw) _
    (record { answer = rw c.new.ensures at c.answer.ensures ∙ done.answer; bytes = done.bytes })
