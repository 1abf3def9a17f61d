-- `refusals::check_lengths` meets its contract.
use Rattle.std.proofs.Common.{sym, ap, ◌∙◌}
use Rattle.std.specs.Prelude.{Bool}
use Rattle.std.proofs.lemmas.Result.{err_from_is_err_and}
use Rattle.laws.specs.Choose.{choose}
use Rattle.rules.specs.Status.{status_of}
use Rattle.refusals.proofs.Defined.{lengths_rows, lengths_room, lengths_last, demanded, fallen}
use Rattle.refusals.proofs.check_lengths.Goals as goal

pub returns-in_err-demand : goal.returns-in_err-demand
returns-in_err-demand c =
    let o = c.args in
    let p = err_from_is_err_and c.from_residual.result c.from_residual.ensures.1 in rw (p.1, p.2) (ap status_of c.in_err-demand.ensures.1
    ∙ fallen 11 _ (lengths_rows o.scripts.now o.events.now o.places.now (sym c.are_rows_fit.ensures ∙ c.in_err-demand.ensures.0)))

pub returns-in_err-demand-2 : goal.returns-in_err-demand-2
returns-in_err-demand-2 c =
    let o = c.args in
    let p = err_from_is_err_and c.from_residual-in_err-demand-2.result c.from_residual-in_err-demand-2.ensures.1 in rw (p.1, p.2) (ap status_of c.in_err-demand-2.ensures.1
    ∙ fallen 11 _ (lengths_room o.scripts.now o.events.now o.places.now (sym c.are_rows_fit.ensures ∙ c.in_ok-demand.ensures) _ c.script_count.ensures c.in_err-demand-2.ensures.0))

pub returns : goal.returns
returns c =
    let o = c.args in
    demanded _ _ _ c.demand-3.ensures
    ∙ ap (λ (b : Bool). choose b 0 11)
    (lengths_last o.scripts.now o.events.now o.places.now (sym c.are_rows_fit.ensures ∙ c.in_ok-demand.ensures) _ c.script_count.ensures c.in_ok-demand-2.ensures)
