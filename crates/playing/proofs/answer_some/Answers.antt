use Rattle.std.proofs.Common.{arith, sym, length-take-le, ◌≤◌, length, subst}
use Rattle.std.specs.Io.KnownBytes.{Appends}
use Rattle.session.proofs.Feeding.{fed_fits, fed_some, fed_inside, fed_text}
use Rattle.playing.specs.Streams.{AppendsFront}
use Rattle.playing.proofs.Flowing.{on_err}
use Rattle.playing.proofs.Turning.{answers}
use Rattle.playing.proofs.answer_some.Goals as goal

pub slice_bounds-say_answers-end : goal.slice_bounds-say_answers-end
slice_bounds-say_answers-end g c = omega (arith, fed_fits c.feed-fed.ensures c.feed-fed.auto.out, c.feed-fed.auto.out)

pub slice_bounds-say_answers-end-2 : goal.slice_bounds-say_answers-end-2
slice_bounds-say_answers-end-2 g c =
    let fits : c.feed-fed.result.written ≤ length c.feed-fed.new.out = omega (arith, fed_fits c.feed-fed.ensures c.feed-fed.auto.out, c.feed-fed.auto.out) in
    sym (length-take-le c.feed-fed.result.written c.feed-fed.new.out fits)

pub returns-clause-fed : goal.returns-clause-fed
returns-clause-fed g c =
    let fed = c.feed-fed in (
      fed_some fed.ensures c.requires.0 c.requires.1,
      fed_inside fed.ensures,
      record { kept = fed.ensures.kept; said = subst (Appends _ _) (fed_text fed.ensures) c.in_ok-say_answers.ensures },
    )

pub returns-in_err-say_answers-clause-cut : goal.returns-in_err-say_answers-clause-cut
returns-in_err-say_answers-clause-cut g c =
    let fed = c.feed-fed in
    on_err c.from_residual.result
    (record {
      taken = fed.result.taken;
      some = fed_some fed.ensures c.requires.0 c.requires.1;
      inside = fed_inside fed.ensures;
      kept = fed.ensures.kept;
      said = subst (AppendsFront _ _) (fed_text fed.ensures) c.in_err-say_answers.ensures;
    })

pub returns-clause-answers : goal.returns-clause-answers
returns-clause-answers g c = answers c.feed-fed.ensures c.requires.0 c.requires.1

pub returns-in_err-say_answers-clause-left : goal.returns-in_err-say_answers-clause-left
returns-in_err-say_answers-clause-left g c =
    let fed = c.feed-fed in
    on_err c.from_residual.result
    (fed.result.taken, answers fed.ensures c.requires.0 c.requires.1, subst (AppendsFront _ _) (fed_text fed.ensures) c.in_err-say_answers.ensures)
