use Rattle.std.proofs.Common.{◌≡◌, List, refl, sym, subst, ap, ◌∙◌, arith}
use Rattle.sections.specs.Run.{Event, run_from}
use Rattle.encoding.specs.Rows.{scripts_of}
use Rattle.encoding.specs.Events.{events_of}
use Rattle.encoding.specs.Kinds.{events_left, event_from}
use Rattle.runner.specs.Turns.{Stepped}
use Rattle.runner.proofs.Reaching.{AllRun, Reached, first_run, reached_event, reached_end}
use Rattle.runner.proofs.running.run_events.Goals as goal

pub loop-event-init : goal.loop-event-init
loop-event-init c =
    let o = c.args in
    let left : events_left c.into_iter-event-iterator.result ≡ events_of o.events.now = ap events_left c.into_iter-event-iterator.ensures.into_iter_gives ∙ c.new-event-items.ensures in (
      tt,
      tt,
      c.requires.0,
      refl,
      refl,
      refl,
      refl,
      refl,
      subst (AllRun (scripts_of o.scripts.now)) (sym left) c.requires.4,
      λ ps gs s S room. subst (λ (es : List Event). Reached (scripts_of o.scripts.now) ps gs es (run_from (scripts_of o.scripts.now) s (events_of o.events.now)) o.m.now o.cells.now o.locals.now o.places.now o.grants.now) (sym left)
          (record { state = s; stands = S; room = room; leads = refl }),
    )

pub run_event-requires : goal.run_event-requires
run_event-requires c =
    let o = c.args in
    let turn = c.loop-event in
    let first = first_run (scripts_of o.scripts.now) (events_left turn.event-iterator) _ _ c.in-Some.ensures.steps turn.invariant.8 in (
      turn.invariant.2,
      record { tasks = c.requires.1.tasks; places = omega (arith, c.requires.1.places) },
      subst (Stepped o.scripts.now) (sym turn.invariant.4) c.requires.2,
      omega arith,
      first.0,
    )

pub loop-event-preserved : goal.loop-event-preserved
loop-event-preserved c =
    let o = c.args in
    let turn = c.loop-event in
    let event = c.run_event in
    let first = first_run (scripts_of o.scripts.now) (events_left turn.event-iterator) _ _ c.in-Some.ensures.steps turn.invariant.8 in (
      tt,
      tt,
      event.ensures.kept,
      omega (arith, event.auto.m),
      omega (arith, event.auto.cells),
      omega (arith, event.auto.locals),
      omega (arith, event.auto.places),
      omega (arith, event.auto.grants),
      first.1,
      λ ps gs s S room. reached_event (scripts_of o.scripts.now) ps gs (events_left turn.event-iterator) (run_from (scripts_of o.scripts.now) s (events_of o.events.now))
          turn.m turn.cells turn.locals turn.places turn.grants (turn.invariant.9 ps gs s S room) (event_from c.in-Some.event) _ c.in-Some.ensures.steps (event.ensures.done ps gs),
    )

pub returns : goal.returns
returns c =
    let o = c.args in
    let turn = c.loop-event in record {
      done = (λ ps gs s S room. reached_end (scripts_of o.scripts.now) ps gs (events_left turn.event-iterator) (run_from (scripts_of o.scripts.now) s (events_of o.events.now))
          turn.m turn.cells turn.locals turn.places turn.grants (turn.invariant.9 ps gs s S room) c.in-None.ensures.steps.0);
      kept = turn.invariant.2;
    }
