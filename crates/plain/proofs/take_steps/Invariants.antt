-- `plain::take_steps` meets its contract. The invariant: the steps left lead from here to where all lead from the outset.
use Rattle.std.proofs.Common.{◌≡◌, length}
use Rattle.sections.specs.Scripts.{do_steps}
use Rattle.encoding.specs.Left.{steps_left}
use Rattle.encoding.specs.Laid.{memory}
use Rattle.plain.specs.Grants.{Reach}
use Rattle.plain.proofs.take_steps.Given as goal

abbrev pub invariant-loop-step : goal.invariant-loop-step
invariant-loop-step l =
    (goal.iterator-loop-step).can_next l.step-iterator × (goal.iterator-loop-step).is_finite l.step-iterator
    × (length l.cells ≡ length l.initial.cells)
    × (length l.locals ≡ length l.initial.locals)
    × Reach (length l.cells) (steps_left l.step-iterator)
    × (do_steps l.q (steps_left l.step-iterator) (memory l.cells l.locals) ≡ do_steps l.q (steps_left l.initial.steps) (memory l.initial.cells l.initial.locals))
