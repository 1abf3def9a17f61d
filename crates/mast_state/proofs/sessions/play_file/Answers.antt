use Rattle.std.proofs.lemmas.Result.{err_from_is_err_and}
use Rattle.playing.proofs.Turning.{ran_none}
use Rattle.mast_state.proofs.sessions.play_file.Goals as goal

pub returns-in_err-file : goal.returns-in_err-file
returns-in_err-file c =
    let failed = err_from_is_err_and c.from_residual.result c.from_residual.ensures.1 in
    rw failed.1 (ran_none c.args.m.now)
