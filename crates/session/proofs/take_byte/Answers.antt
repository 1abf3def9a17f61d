-- `session::take_byte` meets its contract: the line is answered at its newline, and is one byte longer else.
use Rattle.session.specs.Kept.{Kept, keeps}
use Rattle.session.proofs.Feeding.{took_newline, took_other}
use Rattle.session.proofs.take_byte.Goals as goal

pub returns-then-b-eq10 : goal.returns-then-b-eq10
returns-then-b-eq10 c =
    let kept : Kept = keeps c.args.m.now c.args.line.now c.args.begun.now in
    took_newline kept c.args.b c.if-b-eq10.true
    c.end_line-end.ensures

pub returns : goal.returns
returns c =
    let kept : Kept = keeps c.args.m.now c.args.line.now c.args.begun.now in
    took_other kept c.args.b c.if-b-eq10.false (c.lengthened.ensures c.args.m.now)
