-- `session::finish` meets its contract: nothing is said where no line has begun, and else the line is answered.
use Rattle.session.specs.Kept.{Kept}
use Rattle.session.specs.Feeding.{holding}
use Rattle.session.proofs.Feeding.{end_none, end_some}
use Rattle.session.proofs.finish.Goals as goal

pub returns-then-line-eq0 : goal.returns-then-line-eq0
returns-then-line-eq0 c = end_none (holding c.args.m.now c.args.line.now) c.if-line-eq0.true c.args.out.now

pub returns : goal.returns
returns c =
    let kept : Kept = holding c.args.m.now c.args.line.now in
    end_some kept c.if-line-eq0.false c.end_line.ensures
