-- `state::reading::take_in` meets its contract: each return is a case of the whole test.
use Rattle.std.proofs.Common.{◌≡◌, ◌∙◌, ap, arith, length, sym}
use borrow.Author.Tests.{not-true, not-false}
use Rattle.words.proofs.WordsInBytes.{Bytes}
use Rattle.tables.proofs.LayoutRead.{length_laid}
use Rattle.rules.specs.Machine.{unstarted}
use Rattle.rules.specs.Status.{status}
use Rattle.std.proofs.lemmas.Result.{err_from_is_err_and}
use Rattle.rules.proofs.Refused.{refused}
use Rattle.state.proofs.Refused.{invalid, valid, is_valid}
use Rattle.state.proofs.Taken.{other_contents, queues_refused, filled_agree}
use Rattle.state.proofs.reading.take_in.Goals as goal

pub returns-then-not-is_headed : goal.returns-then-not-is_headed
returns-then-not-is_headed c =
    let start = c.args in
    let b : Bytes start.file.now = λ k. (c.type_inv.file k).fits in
    (invalid _ (other_contents start.file.now b (sym c.is_headed.ensures ∙ not-true _ c.if-not-is_headed.true-raw)), λ e. absurd (omega arith))

pub fill-requires : goal.fill-requires
fill-requires c = (ap length c.requires ∙ length_laid unstarted, sym c.is_headed.ensures ∙ not-false _ c.if-not-is_headed.false-raw)

pub returns-in_err-fill : goal.returns-in_err-fill
returns-in_err-fill c =
    let start = c.args in
    let b : Bytes start.file.now = λ k. (c.type_inv.file k).fits in
    let headed = sym c.is_headed.ensures ∙ not-false _ c.if-not-is_headed.false-raw in
    let p = err_from_is_err_and c.from_residual.result c.from_residual.ensures.1 in
    let some = refused c.in_err-fill.field-0.0 in
    rw (p.1, p.2) (queues_refused start.file.now b headed _ c.in_err-fill.ensures.0 some, λ z. absurd (omega (arith, some, z)))

pub returns-then-is_agreeing : goal.returns-then-is_agreeing
returns-then-is_agreeing c =
    let start = c.args in
    let b : Bytes start.file.now = λ k. (c.type_inv.file k).fits in
    let headed = sym c.is_headed.ensures ∙ not-false _ c.if-not-is_headed.false-raw in
    let done : status c.fill.result ≡ 0 = ap status c.in_ok-fill.was in
    let laid = c.fill.ensures.1 c.requires done in
    let agree = c.is_agreeing.ensures ∙ filled_agree start.file.now b headed (is_valid _ (sym c.fill.ensures.0 ∙ done)) _ laid in
    (valid _ (sym agree ∙ c.if-is_agreeing.true), λ e. laid)

pub returns-else-is_agreeing : goal.returns-else-is_agreeing
returns-else-is_agreeing c =
    let start = c.args in
    let b : Bytes start.file.now = λ k. (c.type_inv.file k).fits in
    let headed = sym c.is_headed.ensures ∙ not-false _ c.if-not-is_headed.false-raw in
    let done : status c.fill.result ≡ 0 = ap status c.in_ok-fill.was in
    let laid = c.fill.ensures.1 c.requires done in
    let agree = c.is_agreeing.ensures ∙ filled_agree start.file.now b headed (is_valid _ (sym c.fill.ensures.0 ∙ done)) _ laid in
    (invalid _ (sym agree ∙ c.if-is_agreeing.false), λ e. absurd (omega arith))
