-- `calls::create::slot_for` meets its contract: the slot that is open has its generation read.
use native.Mathlib.Omega.{arith}
use Rattle.calls.proofs.Making.{open_found, opens}
use Rattle.calls.proofs.create.slot_for.Goals as goal

pub slot_generation-requires : goal.slot_generation-requires
slot_generation-requires c = omega (arith, (open_found c.args.v.sized c.in-Some.slot c.in-Some.ensures).most)

pub returns-clause-slot : goal.returns-clause-slot
returns-clause-slot c = opens c.args.v.sized c.in-Some.slot c.in-Some.ensures _ c.slot_generation.ensures
