-- `runner::turns::do_act` meets its contract: nothing, a call, or a step.
use Rattle.std.proofs.Common.{Some, length, sym, ap, ◌∙◌}
use Rattle.std.specs.Prelude.{Option}
use Rattle.runner.specs.declared.turns.Act.{Act as Doing}
use Rattle.runner.specs.Turns.{act_from, act_reaches}
use Rattle.runner.proofs.Acting.{acted_as, acted_nothing, acted_call, acted_step}
use Rattle.runner.proofs.turns.do_act.Goals as goal

pub step_at-requires : goal.step_at-requires
step_at-requires c =
    let is = c.in-Some.is ∙ ap Some c.in-Steps.is in
    let there = sym (ap (λ (x : Option Doing). act_reaches (length c.args.cells.now) (act_from x)) is) ∙ c.requires.5 in
    (c.requires.2, c.requires.3, c.requires.4, there, c.requires.6)

pub returns-in_default : goal.returns-in_default
returns-in_default c =
    let o = c.args in record { done = (λ places₀ grants₀ s S h task room. acted_as o.scripts.now places₀ grants₀ s o.m.now o.cells.now o.locals.now o.places.now o.grants.now S o.i c.in_default.is (acted_nothing o.scripts.now places₀ grants₀ s o.m.now o.cells.now o.locals.now o.places.now o.grants.now S o.i)); kept = c.requires.0 }

pub returns-in-Calls : goal.returns-in-Calls
returns-in-Calls c =
    let o = c.args in
    let is = c.in-Some.is ∙ ap Some c.in-Calls.is in
    let call = c.call_at in record {
      done = (λ places₀ grants₀ s S h task room. acted_as o.scripts.now places₀ grants₀ s o.m.now o.cells.now o.locals.now o.places.now o.grants.now S o.i is
          (acted_call o.scripts.now places₀ grants₀ s o.m.now o.cells.now o.locals.now o.places.now o.grants.now S o.i _ _ _ _ _
          (call.ensures.done places₀ grants₀ s S.holds h (room _ _ (ap (λ (x : Option Doing). act_from x) is)))));
      kept = call.ensures.kept;
    }

pub returns-in-Steps : goal.returns-in-Steps
returns-in-Steps c =
    let o = c.args in
    let step = c.step_at in record {
      done = (λ places₀ grants₀ s S h task room. acted_as o.scripts.now places₀ grants₀ s o.m.now o.cells.now o.locals.now o.places.now o.grants.now S o.i (c.in-Some.is ∙ ap Some c.in-Steps.is)
          (acted_step o.scripts.now places₀ grants₀ s o.m.now o.cells.now o.locals.now o.places.now o.grants.now S o.i o.q task _
          _ _ _ _ step.ensures.done (step.ensures.moves places₀ s.places S.holds.reports.places h)));
      kept = c.requires.0;
    }
