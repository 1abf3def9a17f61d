-- `refusals::check_tasks` meets its contract.
use Rattle.std.proofs.Common.{[], sym, ap, ◌∙◌}
use Rattle.std.specs.Prelude.{Bool}
use Rattle.std.proofs.lemmas.Result.{err_from_is_err_and}
use Rattle.laws.specs.Choose.{choose}
use Rattle.rules.specs.Status.{status_of}
use Rattle.tables.specs.View.{seen}
use Rattle.encoding.specs.Events.{events_of}
use Rattle.encoding.specs.Laid.{memory}
use Rattle.refusals.specs.Tests.{scripts_alone}
use Rattle.refusals.proofs.Defined.{unready, permitted_last, demanded, fallen}
use Rattle.refusals.proofs.check_tasks.Goals as goal

pub returns-in_err-demand : goal.returns-in_err-demand
returns-in_err-demand c =
    let o = c.args in
    let p = err_from_is_err_and c.from_residual.result c.from_residual.ensures.1 in rw (p.1, p.2) (ap status_of c.in_err-demand.ensures.1
    ∙ fallen 4 _ (unready (seen o.v) (scripts_alone o.scripts.now) (events_of o.events.now) (sym c.are_scripts_ready.ensures ∙ c.in_err-demand.ensures.0)))

pub returns : goal.returns
returns c =
    let o = c.args in
    demanded _ _ _ c.demand-2.ensures
    ∙ ap (λ (b : Bool). choose b 0 4)
    (c.are_allowed.ensures [] (memory [] [])
    ∙ permitted_last (seen o.v) (scripts_alone o.scripts.now) (events_of o.events.now) (sym c.are_scripts_ready.ensures ∙ c.in_ok-demand.ensures))
