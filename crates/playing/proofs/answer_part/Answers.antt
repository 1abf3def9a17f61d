use Rattle.std.proofs.Common.{arith, refl, ◌∙◌, length, ap, length-drop}
use Rattle.session.specs.Feeding.{holding}
use Rattle.playing.proofs.Flowing.{on_err, rest_of, fed_none, fed_more, cut_more}
use Rattle.playing.proofs.answer_part.Goals as goal

pub loop-taken-init : goal.loop-taken-init
loop-taken-init g c = (omega arith, refl, fed_none (holding c.args.m.now c.args.line.now) c.args.input.now (g.W.Write.contents c.args.writer.now))

pub returns-in_err-taken-clause-cut : goal.returns-in_err-taken-clause-cut
returns-in_err-taken-clause-cut g c =
    let at = c.loop-taken in
    on_err c.from_residual.result
    (cut_more _ c.args.input.now at.taken at.invariant.2 _ (rest_of c.args.input.now at.taken)
    {k'' = holding c.answer_some.new.m c.answer_some.new.line} c.in_err-taken.ensures.cut)

pub loop-taken-preserved : goal.loop-taken-preserved
loop-taken-preserved g c =
    let at = c.loop-taken in
    let fed = c.in_ok-taken.ensures.fed in (
      omega (arith, fed.1, ap length (rest_of c.args.input.now at.taken), length-drop at.taken c.args.input.now),
      c.answer_some.auto.out ∙ at.invariant.1,
      fed_more _ c.args.input.now at.taken at.invariant.2 _ (rest_of c.args.input.now at.taken)
          {k'' = holding c.answer_some.new.m c.answer_some.new.line} c.in_ok-taken.field-0 fed.2,
    )
