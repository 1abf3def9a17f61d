use Rattle.playing.proofs.Turning.{ran_none}
use Rattle.mast_state.proofs.sessions.play.Goals as goal

pub returns-in-Err-TooLong : goal.returns-in-Err-TooLong
returns-in-Err-TooLong c = ran_none c.args.m.now
