-- `outcome::grants_end` meets its contract.
use native.Mathlib.Omega.{arith}
use Rattle.outcome.proofs.Pairs.{pairs_least}
use Rattle.outcome.proofs.grants_end.Goals as goal

pub returns : goal.returns
returns c = (omega (arith, c.min.ensures), omega (arith, c.min.ensures), pairs_least c.args.grants.now _ c.requires c.min.ensures)
