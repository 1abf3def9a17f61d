use Rattle.std.proofs.Common.{arith}
use Rattle.tables.proofs.LayoutStore.{head_stored}
use Rattle.tables.proofs.store_head.Goals as goal

pub returns : goal.returns
returns c = head_stored _ _ c.args.i c.args.s (omega arith) c.store.ensures
