use Rattle.playing.proofs.Turning.{ran_from_lem}
use Rattle.mast_session.proofs.Answering.{answered, output}
use Rattle.mast_session.proofs.play.Goals as goal

pub returns-clause-ran : goal.returns-clause-ran
returns-clause-ran g c = ran_from_lem c.args.m.now c.requires c.play.ensures.ran

pub returns-clause-answered : goal.returns-clause-answered
returns-clause-answered g c =
    answered c.args.m.now c.requires c.play.result (g.R.Read.remaining c.args.reader.now) (g.R.Read.remaining c.play.new.reader)
    (g.W.Write.contents c.args.writer.now) (g.W.Write.contents c.play.new.writer) c.play.new.m c.play.ensures.played

pub returns-clause-output : goal.returns-clause-output
returns-clause-output g c =
    output c.args.m.now c.requires c.play.result (g.R.Read.remaining c.args.reader.now) (g.W.Write.contents c.args.writer.now)
    (g.W.Write.contents c.play.new.writer) c.play.ensures.output
