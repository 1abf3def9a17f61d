use Rattle.std.proofs.Common.{ℕ, arith}
use Rattle.std.proofs.Math.ListN.{length-replicate}
use Rattle.playing.proofs.Flowing.{played_known}
use Rattle.playing.proofs.play.Goals as goal

pub returns-clause-output : goal.returns-clause-output
returns-clause-output g c = played_known c.answer_all.result _ _ _ _ _ _ (c.answer_all.ensures.played (omega (arith, length-replicate {A = ℕ} 65536 0)))
