-- `changes::put_slot` meets its contract: one record stored is one slot put.
use native.Mathlib.Omega.{arith}
use Rattle.changes.proofs.PutWakeStart.{slot_put}
use Rattle.changes.proofs.put_slot.Goals as goal

pub returns : goal.returns
returns c =
    let first = c.args in
    slot_put first.m.now _ first.n first.s (omega arith) (omega arith) c.store_slot.ensures
