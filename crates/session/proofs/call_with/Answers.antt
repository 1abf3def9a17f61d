-- `session::call_with` meets its contract: the part of the numbers that is passed is the priorities.
use native.Mathlib.Omega.{arith}
use Rattle.session.proofs.Output.{behind_first, replied_same}
use Rattle.session.proofs.call_with.Goals as goal

pub returns : goal.returns
returns c =
    let count = c.min-count in
    replied_same c.args.m.now c.args.request.call (behind_first c.args.numbers.now 127 count.result c.args.request.count (omega arith) count.ensures) c.call.ensures
