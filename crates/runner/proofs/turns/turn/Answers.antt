-- `runner::turns::turn` meets its contract: what is to be done is found, then done.
use Rattle.std.proofs.Common.{◌<◌, length, ap, ◌∙◌, arith}
use Rattle.tables.specs.Layout.{model_of}
use Rattle.calls.proofs.Agreeing.{sized}
use Rattle.sections.specs.Run.{Act, Place}
use Rattle.encoding.specs.Left.{script_from}
use Rattle.runner.specs.Turns.{act_reaches, doing_at}
use Rattle.runner.proofs.Acting.{turn_task, turn_countable, turn_reaches, turn_is, turn_room, turn_event}
use Rattle.runner.proofs.turns.turn.Goals as goal

pub returns-in_default : goal.returns-in_default
returns-in_default c = absurd (omega (arith, c.in_default.ensures, c.requires.4))

pub place_at-requires : goal.place_at-requires
place_at-requires c = omega (arith, c.in-Some.ensures.1, c.requires.1.places)

pub act_of-a-requires : goal.act_of-a-requires
act_of-a-requires c =
    let own = c.requires.1.tasks c.in-Some.i c.in-Some.ensures.1 in
    let q = turn_task c.args.scripts.now c.args.q c.in-Some.i c.in-Some.script c.in-Some.ensures in
    ((sized c.requires.0).long, omega (arith, own.0, q), omega (arith, own.1, q))

pub do_act-requires : goal.do_act-requires
do_act-requires c =
    let o = c.args in
    let found = c.in-Some in
    let own = c.requires.1.tasks found.i found.ensures.1 in
    let q = turn_task o.scripts.now o.q found.i found.script found.ensures in
    let act = c.act_of-a.ensures (model_of o.m.now) c.requires.0.same (turn_countable o.scripts.now o.q found.i found.script found.ensures (length o.cells.now) c.requires.2) in
    let reach = ap (λ (x : Act). act_reaches (length o.cells.now) x) act
    ∙ turn_reaches o.scripts.now o.q found.i found.script found.ensures (length o.cells.now) c.requires.2 (model_of o.m.now) _ in
    (c.requires.0, c.requires.1, omega (arith, own.0, q), omega (arith, own.1, q), c.requires.3, reach, omega (arith, found.ensures.1, c.requires.1.places))

pub returns : goal.returns
returns c =
    let o = c.args in
    let found = c.in-Some in
    let act = c.act_of-a.ensures (model_of o.m.now) c.requires.0.same (turn_countable o.scripts.now o.q found.i found.script found.ensures (length o.cells.now) c.requires.2)
    ∙ ap (λ (p : Place). doing_at (model_of o.m.now) o.q (script_from found.script).sections p) c.place_at.ensures in
    let done = c.do_act in record {
      done = (λ places₀ grants₀ s S many room.
          let h : found.i < length s.places = omega (arith, found.ensures.1, many) in
          let is = act ∙ turn_is o.scripts.now o.q found.i found.script found.ensures s (model_of o.m.now) S.holds.tables places₀ o.places.now S.holds.reports.places h
          (omega (arith, found.ensures.1, c.requires.1.places)) in
          turn_event o.scripts.now o.q found.i found.script found.ensures s is
          (done.ensures.done places₀ grants₀ s S h (turn_task o.scripts.now o.q found.i found.script found.ensures)
          (turn_room o.scripts.now o.q found.i found.script found.ensures s is room)));
      kept = done.ensures.kept;
    }
