-- `runner::run_agreeing` meets its contract.
use Rattle.std.proofs.Common.{ℕ, List, refl, ap, ◌∙◌, subst, arith}
use Rattle.std.proofs.lemmas.Result.{err_from_is_err_and}
use Rattle.rules.specs.Status.{status}
use Rattle.rules.proofs.Refused.{refused}
use Rattle.tables.specs.Layout.{model_of}
use Rattle.calls.proofs.Agreeing.{sized}
use Rattle.sections.specs.Run.{State}
use Rattle.refusals.specs.Defined.{input_of, refusal_where}
use Rattle.runner.specs.Turns.{Stands}
use Rattle.runner.proofs.Replying.{lent_run, stepped_run, locals_run, all_run, room_run, run_stands, run_none, outset_stands}
use Rattle.runner.proofs.run_agreeing.Goals as goal

pub new-requires : goal.new-requires
new-requires c = sized c.requires

pub returns-in_err-refusal-clause-done : goal.returns-in_err-refusal-clause-done
returns-in_err-refusal-clause-done c =
    let o = c.args in
    let p = err_from_is_err_and c.from_residual.result c.from_residual.ensures.1 in
    λ places₀ grants₀ p₀ g.
    subst (λ (s : State). Stands places₀ grants₀ s o.m.now o.cells.now o.locals.now o.places.now o.grants.now)
    (run_none (model_of o.m.now) o.scripts.now o.events.now o.ids.now o.cells.now o.locals.now o.places.now (status c.from_residual.result)
    (λ z. omega (arith, z, ap status p.1, refused p.0)))
    (outset_stands o.m.now o.scripts.now o.ids.now o.cells.now o.locals.now places₀ grants₀ o.places.now o.grants.now p₀ g)

pub run_events-requires : goal.run_events-requires
run_events-requires c =
    let o = c.args in
    let zero = c.in_ok-refusal.ensures
    ∙ ap (λ (bs : List ℕ). refusal_where (model_of bs) (input_of o.scripts.now o.ids.now o.cells.now o.locals.now) o.scripts.now o.events.now o.places.now) c.new.ensures
    in (
      c.requires,
      lent_run (model_of o.m.now) o.scripts.now o.events.now o.ids.now o.cells.now o.locals.now o.places.now zero o.grants.now,
      stepped_run (model_of o.m.now) o.scripts.now o.events.now o.ids.now o.cells.now o.locals.now o.places.now zero,
      locals_run (model_of o.m.now) o.scripts.now o.events.now o.ids.now o.cells.now o.locals.now o.places.now zero,
      all_run (model_of o.m.now) o.scripts.now o.events.now o.ids.now o.cells.now o.locals.now o.places.now zero,
    )

pub returns-clause-done : goal.returns-clause-done
returns-clause-done c =
    let o = c.args in
    let zero = c.in_ok-refusal.ensures
    ∙ ap (λ (bs : List ℕ). refusal_where (model_of bs) (input_of o.scripts.now o.ids.now o.cells.now o.locals.now) o.scripts.now o.events.now o.places.now) c.new.ensures
    in
    λ places₀ grants₀ p g.
    run_stands (model_of o.m.now) o.scripts.now o.events.now o.ids.now o.cells.now o.locals.now o.places.now 0 refl
    (c.run_events.ensures.done places₀ grants₀ _
    (outset_stands o.m.now o.scripts.now o.ids.now o.cells.now o.locals.now places₀ grants₀ o.places.now o.grants.now p g)
    (room_run (model_of o.m.now) o.scripts.now o.events.now o.ids.now o.cells.now o.locals.now o.places.now zero
    (λ k. omega (arith, c.type_inv.scripts k)) (λ k. omega (arith, c.type_inv.events k))))
