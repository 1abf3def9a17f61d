use Rattle.tables.specs.Layout.{model_of}
use Rattle.agreement.specs.Tests.{seen_below}
use Rattle.agreement.proofs.Walks.{Passed}
use Rattle.agreement.proofs.Bytes.{slot_passes}
use Rattle.agreement.proofs.are_slots_agreeing.Given as goal

abbrev pub invariant-loop-i : goal.invariant-loop-i
invariant-loop-i l = Passed (slot_passes l.v.bytes.now) (seen_below (model_of l.v.bytes.now)) l.i l.marks
