-- `runner::settle::make_call` meets its contract: the flags before the call, the call, and what it says to the scripts.
use Rattle.calls.proofs.Agreeing.{sized}
use Rattle.calls.proofs.Held.{call_held}
use Rattle.runner.proofs.Calling.{call_noted}
use Rattle.runner.proofs.settle.make_call.Goals as goal

pub who_waits-waited-requires : goal.who_waits-waited-requires
who_waits-waited-requires c = (sized c.requires.0).long

pub settle-requires : goal.settle-requires
settle-requires c = (
  (sized c.perform-answer.ensures.kept).long,
  c.requires.1,
)

pub returns : goal.returns
returns c =
    let o = c.args in
    let waited = c.who_waits-waited in
    let obtainer = c.obtainer_of-obtainer in
    let done = c.perform-answer in record {
      noted = call_noted o.scripts.now o.m.now o.places.now o.grants.now c.requires.0 (λ i h. (c.requires.1.tasks i h).1) o.call o.priorities.now
          (call_held o.call _ c.well_formed.1.1.0) waited.result waited.ensures _ obtainer.ensures done.result _ done.ensures.replied _ _
          c.settle.ensures;
      kept = done.ensures.kept;
    }
