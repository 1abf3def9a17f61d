use Rattle.std.proofs.Common.{◌≡◌, List, refl, sym, subst, ap, ◌∙◌, arith}
use Rattle.sections.specs.Scripts.{Step, do_steps}
use Rattle.encoding.specs.Left.{steps_left}
use Rattle.encoding.specs.Laid.{memory}
use Rattle.plain.specs.Grants.{Reach}
use Rattle.plain.proofs.Granting.{one_step, no_steps, first_reach, later_reach}
use Rattle.plain.proofs.take_steps.Goals as goal

pub loop-step-init : goal.loop-step-init
loop-step-init c =
    let o = c.args in
    let left : steps_left c.into_iter-step-iterator.result ≡ steps_left o.steps = ap steps_left c.into_iter-step-iterator.ensures.into_iter_gives in
    (tt, tt, refl, refl, subst (Reach _) (sym left) c.requires.3, ap (λ (ss : List Step). do_steps o.q ss (memory o.cells.now o.locals.now)) left)

pub do_step-requires : goal.do_step-requires
do_step-requires c =
    let turn = c.loop-step in
    (c.requires.0, c.requires.1, omega arith, first_reach _ _ _ (steps_left turn.step-iterator) c.in-Some.ensures.steps turn.invariant.4)

pub loop-step-preserved : goal.loop-step-preserved
loop-step-preserved c =
    let turn = c.loop-step in
    let done = c.do_step in
    let later = later_reach _ _ _ (steps_left turn.step-iterator) c.in-Some.ensures.steps turn.invariant.4 in (
      tt,
      tt,
      omega (arith, done.auto.cells),
      omega (arith, done.auto.locals),
      subst (λ n. Reach n (steps_left c.next.new.self)) (omega (arith, done.auto.cells)) later,
      one_step c.args.q (steps_left turn.step-iterator) (memory turn.cells turn.locals) _ _ c.in-Some.ensures.steps _ done.ensures ∙ turn.invariant.5,
    )

pub returns : goal.returns
returns c =
    let turn = c.loop-step in
    sym (no_steps c.args.q (steps_left turn.step-iterator) (memory turn.cells turn.locals) c.in-None.ensures.steps.0) ∙ turn.invariant.5
