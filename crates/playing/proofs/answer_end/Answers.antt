use Rattle.std.proofs.Common.{arith, sym, length-take-le, ◌≤◌, length, subst}
use Rattle.playing.specs.Streams.{WritesAll}
use Rattle.playing.proofs.Turning.{end_within, end_text}
use Rattle.playing.proofs.answer_end.Goals as goal

pub slice_bounds-out-end : goal.slice_bounds-out-end
slice_bounds-out-end g c = omega (arith, end_within _ c.finish-n.ensures)

pub slice_bounds-say_answers-end : goal.slice_bounds-say_answers-end
slice_bounds-say_answers-end g c =
    let fits : c.finish-n.result ≤ length c.finish-n.new.out = omega (arith, end_within _ c.finish-n.ensures) in
    sym (length-take-le c.finish-n.result c.finish-n.new.out fits)

pub returns-clause-written : goal.returns-clause-written
returns-clause-written g c = subst (WritesAll c.say_answers.result _ _) (end_text _ c.finish-n.ensures) c.say_answers.ensures
