use Rattle.std.proofs.Common.{sym}
use Rattle.tables.proofs.LayoutStore.{laid_unstarted}
use Rattle.mast_session.proofs.run.Goals as goal

pub play-requires : goal.play-requires
play-requires g c = sym laid_unstarted
