-- `refusals::refusal` meets its contract.
use Rattle.std.proofs.Common.{sym, ◌∙◌, arith}
use Rattle.std.proofs.lemmas.Result.{err_from_is_err_and}
use Rattle.tables.specs.View.{seen}
use Rattle.encoding.specs.Events.{events_of}
use Rattle.refusals.specs.Defined.{input_of, lengths_fit, is_defined, is_permitted}
use Rattle.refusals.proofs.Defined.{agreeing, stopped, passed}
use Rattle.refusals.proofs.refusal.Goals as goal

pub returns-in_err-check_lengths : goal.returns-in_err-check_lengths
returns-in_err-check_lengths c =
    let p = err_from_is_err_and c.from_residual.result c.from_residual.ensures.1 in
    rw (p.1, p.2) (stopped 11 _ _ _ c.in_err-check_lengths.ensures)

pub returns-in_err-check_input : goal.returns-in_err-check_input
returns-in_err-check_input c =
    let o = c.args in
    let t = seen o.v in
    let w = input_of o.scripts.now o.ids.now o.cells.now o.locals.now in
    let p = err_from_is_err_and c.from_residual-in_err-check_input.result c.from_residual-in_err-check_input.ensures.1 in
    rw (p.1, p.2)
    (stopped 11 (is_defined t w (events_of o.events.now)) _ _ c.in_err-check_input.ensures
    ∙ sym (agreeing t c.requires.agrees w (events_of o.events.now))
    ∙ passed 11 (lengths_fit o.scripts.now o.events.now o.places.now) _ (λ z. omega arith) c.in_ok-check_lengths.ensures)

pub returns : goal.returns
unfolding is_permitted
returns c =
    let o = c.args in
    let t = seen o.v in
    let w = input_of o.scripts.now o.ids.now o.cells.now o.locals.now in
    c.check_tasks.ensures
    ∙ passed 11 (is_defined t w (events_of o.events.now)) _ (λ z. omega arith) c.in_ok-check_input.ensures
    ∙ sym (agreeing t c.requires.agrees w (events_of o.events.now))
    ∙ passed 11 (lengths_fit o.scripts.now o.events.now o.places.now) _ (λ z. omega arith) c.in_ok-check_lengths.ensures
