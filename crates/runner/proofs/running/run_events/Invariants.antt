-- `runner::running::run_events` meets its contract. The invariant: the present state is on the way to the end, and what is left is run.
use Rattle.std.proofs.Common.{◌≡◌, ℕ, List, length}
use Rattle.calls.specs.Agreeing.{Agreeing}
use Rattle.sections.specs.Run.{State, run_from}
use Rattle.encoding.specs.Rows.{scripts_of}
use Rattle.encoding.specs.Events.{events_of}
use Rattle.encoding.specs.Kinds.{events_left}
use Rattle.runner.specs.Turns.{Stands, RoomAlong}
use Rattle.runner.proofs.Reaching.{AllRun, Reached}
use Rattle.runner.proofs.running.run_events.Given as goal

abbrev pub invariant-loop-event : goal.invariant-loop-event
invariant-loop-event l =
    (goal.iterator-loop-event).can_next l.event-iterator × (goal.iterator-loop-event).is_finite l.event-iterator
    × Agreeing l.m
    × (length l.m ≡ length l.initial.m)
    × (length l.cells ≡ length l.initial.cells)
    × (length l.locals ≡ length l.initial.locals)
    × (length l.places ≡ length l.initial.places)
    × (length l.grants ≡ length l.initial.grants)
    × AllRun (scripts_of l.scripts) (events_left l.event-iterator)
    × ((ps gs : List ℕ) (s : State) → Stands ps gs s l.initial.m l.initial.cells l.initial.locals l.initial.places l.initial.grants → RoomAlong (scripts_of l.scripts) s (events_of l.events)
    → Reached (scripts_of l.scripts) ps gs (events_left l.event-iterator) (run_from (scripts_of l.scripts) s (events_of l.events)) l.m l.cells l.locals l.places l.grants)
