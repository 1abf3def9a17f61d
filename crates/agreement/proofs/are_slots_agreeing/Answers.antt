use native.Mathlib.Omega.{arith}
use Rattle.lookup.proofs.Model.{length_slots}
use Rattle.agreement.specs.Tests.{slots_agree}
use Rattle.agreement.proofs.Bytes.{slot_told}
use Rattle.agreement.proofs.Walks.{passed_none, passed_more, not_passed, passed_all}
use Rattle.agreement.proofs.are_slots_agreeing.Goals as goal

pub loop-i-init : goal.loop-i-init
loop-i-init c = passed_none c.requires.1

pub returns-then-not-is_slot_agreeing : goal.returns-then-not-is_slot_agreeing
unfolding slots_agree
returns-then-not-is_slot_agreeing c =
    not_passed _ (omega (arith, length_slots c.args.v.bytes.now))
    (slot_told c.args.v.bytes.now _ c.loop-i.invariant.made c.is_slot_agreeing.ensures) c.if-not-is_slot_agreeing.true

pub loop-i-preserved : goal.loop-i-preserved
loop-i-preserved c =
    passed_more c.loop-i.invariant (slot_told c.args.v.bytes.now _ c.loop-i.invariant.made c.is_slot_agreeing.ensures) c.if-not-is_slot_agreeing.false

pub returns : goal.returns
unfolding slots_agree
returns c = passed_all c.loop-i.invariant (omega (arith, length_slots c.args.v.bytes.now))
