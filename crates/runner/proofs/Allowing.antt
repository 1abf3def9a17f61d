-- What the tests before a run say of its steps and events.
use Rattle.std.proofs.Common.{◌≡◌, ℕ, true, List, length, refl}
use Rattle.laws.proofs.Choose.{and_both, both_and}
use Rattle.sections.specs.Scripts.{Step}
use Rattle.sections.specs.Scripts.Step.{Load, Store, Set, Add, NoStep}
use Rattle.sections.specs.Run.{Event}
use Rattle.sections.specs.Run.Event.{Turn, Other, NoEvent}
use Rattle.sections.specs.Refusals.{Input, is_step, is_event, is_allowed}
use Rattle.encoding.specs.Laid.{reaches}
use Rattle.runner.specs.Turns.{is_run}

-- a step of a section goes by what is there
pub step_reaches : (ids : List ℕ) (id : ℕ) (step : Step) → is_step ids id step ≡ true → reaches (length ids) step ≡ true
step_reaches ids id (Load cell local) h = let b = and_both _ _ h in both_and (and_both _ _ b.0).0 b.1
step_reaches ids id (Store local cell) h = let b = and_both _ _ h in both_and b.0 (and_both _ _ b.1).0
step_reaches ids id (Set local number) h = h
step_reaches ids id (Add local other) h = h
step_reaches ids id NoStep h = refl

-- an event that is one, and allowed, is run
pub event_run : (w : Input) (e : Event) → is_event e ≡ true → is_allowed w e ≡ true → is_run w.scripts e ≡ true
event_run w (Turn q) h a = a
event_run w (Other r) h a = refl
event_run w NoEvent h a = h
