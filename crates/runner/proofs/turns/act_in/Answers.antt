-- `runner::turns::act_in` meets its contract: the obtain, one step, or the release, by the position.
use Rattle.std.proofs.Common.{◌≡◌, ℕ, pred, ◌-◌, get_or, ap, ◌∙◌, arith}
use Rattle.sections.specs.Scripts.Step.{NoStep}
use Rattle.encoding.specs.Left.{section_from, steps_left}
use Rattle.runner.proofs.Turning.{in_obtain, in_release, in_step, step_there, no_step}
use Rattle.runner.proofs.turns.act_in.Goals as goal

pub returns-then-place-eq0 : goal.returns-then-place-eq0
returns-then-place-eq0 c =
    let place = c.args.place in
    λ low short. in_obtain c.args.q (section_from c.args.section) place.section place.position c.if-place-eq0.true _ c.wait_of-wait.ensures

pub returns-in-Some : goal.returns-in-Some
returns-in-Some c =
    let place = c.args.place in
    let steps = steps_left c.args.section.steps in
    let there = step_there steps (place.position - 1) c.step.result c.step.ensures c.in-Some.step c.in-Some.is in
    let before : place.position - 1 ≡ pred place.position = omega arith in
    let next = c.wrapping_add_u32-position in
    λ low short.
    in_step c.args.q (section_from c.args.section) place.section place.position c.if-place-eq0.false (omega (arith, there.0)) _
    (there.1 ∙ ap (λ (k : ℕ). get_or steps k NoStep) before) next.result (omega (arith, there.0, next.ensures))

pub returns-in-None : goal.returns-in-None
returns-in-None c =
    let place = c.args.place in
    let last = no_step (steps_left c.args.section.steps) (place.position - 1) c.step.result c.step.ensures c.in-None.is in
    let next = c.wrapping_add_u32-section in
    λ low short.
    in_release c.args.q (section_from c.args.section) place.section place.position c.if-place-eq0.false (omega (arith, last)) next.result (omega (arith, next.ensures))
