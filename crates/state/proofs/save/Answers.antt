-- `state::save` meets its contract: bytes that fail the test are told so, and others are written.
use Rattle.std.proofs.Common.{◌∙◌, sym}
use borrow.Author.Tests.{not-true, not-false}
use Rattle.calls.proofs.Agreeing.{sized}
use Rattle.manager.proofs.Tested.{tested}
use Rattle.state.proofs.Entry.{save_disagreeing, save_agreeing}
use Rattle.state.proofs.save.Goals as goal

pub returns-then-not-is_agreeing : goal.returns-then-not-is_agreeing
returns-then-not-is_agreeing c = save_disagreeing _ _ (sym c.is_agreeing.ensures ∙ not-true _ c.if-not-is_agreeing.true-raw) c.internal_error.ensures

pub new-v-requires : goal.new-v-requires
new-v-requires c = sized (tested (λ k. (c.type_inv.m k).fits) (sym c.is_agreeing.ensures ∙ not-false _ c.if-not-is_agreeing.false-raw))

pub write-done-requires : goal.write-done-requires
write-done-requires c = rw c.new-v.ensures (tested (λ k. (c.type_inv.m k).fits) (sym c.is_agreeing.ensures ∙ not-false _ c.if-not-is_agreeing.false-raw))

pub returns : goal.returns
returns c =
    let done = rw c.new-v.ensures at c.write-done.ensures in
    save_agreeing _ _ (sym c.is_agreeing.ensures ∙ not-false _ c.if-not-is_agreeing.false-raw) _
    (record { answer = rw c.new-v.ensures at c.answer.ensures ∙ done.answer; bytes = done.bytes })
