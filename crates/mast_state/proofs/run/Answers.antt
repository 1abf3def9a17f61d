use Rattle.std.proofs.Common.{ℕ, arith, sym}
use Rattle.std.proofs.Math.ListN.{length-replicate}
use Rattle.tables.proofs.LayoutStore.{laid_unstarted}
use Rattle.mast_state.proofs.run.Goals as goal

pub work-requires : goal.work-requires
work-requires c =
    (sym laid_unstarted, c.requires, omega (arith, length-replicate {A = ℕ} 4096 0), omega (arith, length-replicate {A = ℕ} 65536 0))
