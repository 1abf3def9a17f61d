use Rattle.std.proofs.Common.{arith}
use Rattle.tables.proofs.LayoutStore.{zeros_laid}
use Rattle.state.proofs.clear.Goals as goal

pub returns : goal.returns
returns c = zeros_laid c.loop-byte.m (omega arith) (λ k h. c.loop-byte.invariant k (omega arith))
