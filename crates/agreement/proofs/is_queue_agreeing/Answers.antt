use mathlib.Core.Path.{refl}
use Rattle.agreement.specs.Tests.{seen_at, queue_agrees}
use native.Mathlib.Omega.{arith}
use Rattle.agreement.proofs.Model.{owner_read, waiters_read, entry_read}
use Rattle.agreement.proofs.Walks.{passed_none, passed_more, not_passed, passed_all, place_told}
use Rattle.agreement.proofs.is_queue_agreeing.Goals as goal

pub loop-k-init : goal.loop-k-init
unfolding seen_at
loop-k-init c = passed_none refl

pub returns-then-not-is_number_agreeing : goal.returns-then-not-is_number_agreeing
unfolding queue_agrees
returns-then-not-is_number_agreeing c =
    not_passed _ (omega (arith, waiters_read _ c.requires.0 _ c.requires.1 _ c.requires.2))
    (place_told _ _ _ _ _ _ c.loop-k.invariant.made (owner_read _ c.requires.0 _ c.requires.1 _ c.requires.2)
    (entry_read _ c.requires.0 _ c.requires.1 _ c.requires.2 c.loop-k-test.true c.queue_entry.ensures) c.is_number_agreeing.ensures)
    c.if-not-is_number_agreeing.true

pub loop-k-preserved : goal.loop-k-preserved
loop-k-preserved c =
    passed_more c.loop-k.invariant
    (place_told _ _ _ _ _ _ c.loop-k.invariant.made (owner_read _ c.requires.0 _ c.requires.1 _ c.requires.2)
    (entry_read _ c.requires.0 _ c.requires.1 _ c.requires.2 c.loop-k-test.true c.queue_entry.ensures) c.is_number_agreeing.ensures)
    c.if-not-is_number_agreeing.false

pub returns : goal.returns
unfolding queue_agrees
returns c = passed_all c.loop-k.invariant (omega (arith, waiters_read _ c.requires.0 _ c.requires.1 _ c.requires.2))
