-- `tables::set_ready` meets its contract.
use native.Mathlib.Omega.{arith}
use Rattle.tables.proofs.LayoutStore.{ready_set}
use Rattle.tables.proofs.set_ready.Goals as goal

pub returns : goal.returns
returns c =
    let first = c.args in
    ready_set first.m.now _ first.k first.q (omega arith) c.set_word.ensures
