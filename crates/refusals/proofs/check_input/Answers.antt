-- `refusals::check_input` meets its contract.
use Rattle.std.proofs.Common.{sym, ap, ◌∙◌}
use Rattle.std.specs.Prelude.{Bool}
use Rattle.std.proofs.lemmas.Result.{err_from_is_err_and}
use Rattle.laws.specs.Choose.{choose}
use Rattle.rules.specs.Status.{status_of}
use Rattle.tables.specs.View.{seen}
use Rattle.sections.specs.Refusals.{one_script_each}
use Rattle.encoding.specs.Events.{events_of}
use Rattle.refusals.proofs.Defined.{undefined, defined_last, demanded, fallen}
use Rattle.refusals.proofs.check_input.Goals as goal

pub returns-in_err-demand : goal.returns-in_err-demand
returns-in_err-demand c =
    let o = c.args in
    let p = err_from_is_err_and c.from_residual.result c.from_residual.ensures.1 in rw (p.1, p.2) (ap status_of c.in_err-demand.ensures.1
    ∙ fallen 11 _ (undefined (seen o.v) o.scripts.now o.ids.now o.cells.now o.locals.now (events_of o.events.now) _ (λ p. p.few) (c.in_err-demand.ensures.0)))

pub returns-in_err-demand-2 : goal.returns-in_err-demand-2
returns-in_err-demand-2 c =
    let o = c.args in
    let p = err_from_is_err_and c.from_residual-in_err-demand-2.result c.from_residual-in_err-demand-2.ensures.1 in rw (p.1, p.2) (ap status_of c.in_err-demand-2.ensures.1
    ∙ fallen 11 _ (undefined (seen o.v) o.scripts.now o.ids.now o.cells.now o.locals.now (events_of o.events.now) _ (λ p. p.paired) (c.in_err-demand-2.ensures.0)))

pub returns-in_err-demand-3 : goal.returns-in_err-demand-3
returns-in_err-demand-3 c =
    let o = c.args in
    let p = err_from_is_err_and c.from_residual-in_err-demand-3.result c.from_residual-in_err-demand-3.ensures.1 in rw (p.1, p.2) (ap status_of c.in_err-demand-3.ensures.1
    ∙ fallen 11 _ (undefined (seen o.v) o.scripts.now o.ids.now o.cells.now o.locals.now (events_of o.events.now) _ (λ p. p.room) (c.in_err-demand-3.ensures.0)))

pub returns-in_err-demand-4 : goal.returns-in_err-demand-4
returns-in_err-demand-4 c =
    let o = c.args in
    let p = err_from_is_err_and c.from_residual-in_err-demand-4.result c.from_residual-in_err-demand-4.ensures.1 in rw (p.1, p.2) (ap status_of c.in_err-demand-4.ensures.1
    ∙ fallen 11 _ (undefined (seen o.v) o.scripts.now o.ids.now o.cells.now o.locals.now (events_of o.events.now) _ (λ p. p.short) (sym c.are_scripts_short.ensures ∙ c.in_err-demand-4.ensures.0)))

pub returns-in_err-demand-5 : goal.returns-in_err-demand-5
returns-in_err-demand-5 c =
    let o = c.args in
    let p = err_from_is_err_and c.from_residual-in_err-demand-5.result c.from_residual-in_err-demand-5.ensures.1 in rw (p.1, p.2) (ap status_of c.in_err-demand-5.ensures.1
    ∙ fallen 11 _ (undefined (seen o.v) o.scripts.now o.ids.now o.cells.now o.locals.now (events_of o.events.now) _ (λ p. p.sections) (sym c.are_sections_fit.ensures ∙ c.in_err-demand-5.ensures.0)))

pub returns-in_err-demand-6 : goal.returns-in_err-demand-6
unfolding one_script_each
returns-in_err-demand-6 c =
    let o = c.args in
    let p = err_from_is_err_and c.from_residual-in_err-demand-6.result c.from_residual-in_err-demand-6.ensures.1 in rw (p.1, p.2) (ap status_of c.in_err-demand-6.ensures.1
    ∙ fallen 11 _ (undefined (seen o.v) o.scripts.now o.ids.now o.cells.now o.locals.now (events_of o.events.now) _ (λ p. p.one) (sym c.is_one_each.ensures ∙ c.in_err-demand-6.ensures.0)))

pub returns : goal.returns
unfolding one_script_each
returns c =
    let o = c.args in
    demanded _ _ _ c.demand-7.ensures
    ∙ ap (λ (b : Bool). choose b 0 11)
    (defined_last (seen o.v) o.scripts.now o.ids.now o.cells.now o.locals.now (events_of o.events.now) _ c.are_events.ensures
    (λ e. record {
      short = sym c.are_scripts_short.ensures ∙ c.in_ok-demand-4.ensures;
      sections = sym c.are_sections_fit.ensures ∙ c.in_ok-demand-5.ensures;
      few = c.in_ok-demand.ensures;
      paired = c.in_ok-demand-2.ensures;
      room = c.in_ok-demand-3.ensures;
      one = sym c.is_one_each.ensures ∙ c.in_ok-demand-6.ensures;
      events' = e;
    }))
