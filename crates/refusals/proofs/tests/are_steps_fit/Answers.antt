use Rattle.std.proofs.Common.{refl, ◌∙◌, rules}
use borrow.Author.Tests.{tests}
use Rattle.std.proofs.lemmas.Iterator.Search.{all_from_yields_List}
use Rattle.std.proofs.lemmas.Iterator.Consumers.{YieldsList-from_first}
use Rattle.sections.specs.Scripts.Step.{NoStep}
use Rattle.sections.specs.Refusals.{is_step}
use Rattle.encoding.specs.Rows.{step_of}
use Rattle.encoding.specs.Left.{section_from, steps_left}
use Rattle.encoding.proofs.Every.{both, first, list_every}
use Rattle.refusals.specs.Tests.{are_steps}
use Rattle.refusals.proofs.Testing.{no_more}
use Rattle.refusals.proofs.tests.are_steps_fit.Goals as goal

pub returns-then-is_none : goal.returns-then-is_none
returns-then-is_none c =
    let s = c.args.section in
    let test = is_step c.args.ids.now s.id in
    both _ _ _ _ (no_more step_of c.step.result (steps_left s.steps) 16 c.step.ensures _ c.is_none.ensures) c.if-is_none.true
    (all_from_yields_List test c.all.new.self _ _ c.all.ensures.ran (YieldsList-from_first step_of steps_left _ refl) (λ x b q k. search (rules, tests))
    ∙ list_every test NoStep (steps_left s.steps))

pub returns-else-is_none : goal.returns-else-is_none
returns-else-is_none c =
    let s = c.args.section in
    first _ (are_steps c.args.ids.now (section_from s)) _ (no_more step_of c.step.result (steps_left s.steps) 16 c.step.ensures _ c.is_none.ensures) c.if-is_none.false
