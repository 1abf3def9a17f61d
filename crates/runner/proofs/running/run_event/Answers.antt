-- `runner::running::run_event` meets its contract: a turn, a call by someone else, or nothing.
use Rattle.std.proofs.Common.{Some, sym, ap, ◌∙◌, ltb-true}
use Rattle.encoding.specs.Rows.{scripts_of}
use Rattle.encoding.specs.Kinds.{event_from}
use Rattle.runner.specs.Turns.{is_run}
use Rattle.runner.proofs.Acting.{event_as, event_called, event_none}
use Rattle.runner.proofs.running.run_event.Goals as goal

pub returns-in_default : goal.returns-in_default
returns-in_default c =
    let o = c.args in record {
      done = (λ places₀ grants₀ s S many room. event_as (scripts_of o.scripts.now) places₀ grants₀ s (ap event_from c.in_default.is)
          (event_none (scripts_of o.scripts.now) places₀ grants₀ s S));
      kept = c.requires.0;
    }

pub turn-requires : goal.turn-requires
turn-requires c =
    let is = ap event_from (c.in-Some.is ∙ ap Some c.in-Turn.is) in (
      c.requires.0,
      c.requires.1,
      c.requires.2,
      c.requires.3,
      ltb-true _ _ (sym (ap (is_run (scripts_of c.args.scripts.now)) is) ∙ c.requires.4),
    )

pub returns-in-Turn : goal.returns-in-Turn
returns-in-Turn c =
    let o = c.args in
    let is = ap event_from (c.in-Some.is ∙ ap Some c.in-Turn.is) in
    let turn = c.turn in record {
      done = (λ places₀ grants₀ s S many room. event_as (scripts_of o.scripts.now) places₀ grants₀ s is
          (turn.ensures.done places₀ grants₀ s S many (room.turn _ is)));
      kept = turn.ensures.kept;
    }

pub returns-in-Call : goal.returns-in-Call
returns-in-Call c =
    let o = c.args in
    let is = ap event_from (c.in-Some.is ∙ ap Some c.in-Call.is) in
    let call = c.make_call in record {
      done = (λ places₀ grants₀ s S many room. event_as (scripts_of o.scripts.now) places₀ grants₀ s is
          (event_called (scripts_of o.scripts.now) places₀ grants₀ s S _ (call.ensures.noted places₀ grants₀ s S.holds (room.other _ is))));
      kept = call.ensures.kept;
    }
