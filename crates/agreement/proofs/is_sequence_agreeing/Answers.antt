use mathlib.Core.Path.{refl, sym, ◌∙◌}
use Prim.Native.Nat.{◌<◌}
use native.Mathlib.Omega.{arith}
use Rattle.words.specs.Words.{word_at}
use Rattle.tables.specs.Layout.{ready_place, model_of}
use Rattle.tables.proofs.LayoutRead.{length_ready, ready_read}
use Rattle.agreement.specs.Tests.{seen_at, sequence_agrees}
use Rattle.agreement.proofs.Walks.{passed_none, passed_more, not_passed, passed_all, place_told}
use Rattle.agreement.proofs.is_sequence_agreeing.Goals as goal

pub loop-k-init : goal.loop-k-init
unfolding seen_at
loop-k-init c = passed_none refl

pub returns-then-not-is_number_agreeing : goal.returns-then-not-is_number_agreeing
unfolding sequence_agrees
returns-then-not-is_number_agreeing c =
    let inside : c.loop-k.k < word_at c.args.v.bytes.now ready_place = omega arith in
    let ready = (model_of c.args.v.bytes.now).ready in
    not_passed _ (omega (arith, length_ready c.args.v.bytes.now c.args.v.sized.ready))
    (place_told _ _ _ _ ready _ c.loop-k.invariant.made refl (c.ready_entry.ensures ∙ sym (ready_read c.args.v.bytes.now _ inside)) c.is_number_agreeing.ensures)
    c.if-not-is_number_agreeing.true

pub loop-k-preserved : goal.loop-k-preserved
loop-k-preserved c =
    let inside : c.loop-k.k < word_at c.args.v.bytes.now ready_place = omega arith in
    passed_more c.loop-k.invariant
    (place_told _ _ _ _ _ _ c.loop-k.invariant.made refl (c.ready_entry.ensures ∙ sym (ready_read c.args.v.bytes.now _ inside)) c.is_number_agreeing.ensures)
    c.if-not-is_number_agreeing.false

pub returns : goal.returns
unfolding sequence_agrees
returns c = passed_all c.loop-k.invariant (omega (arith, length_ready c.args.v.bytes.now c.args.v.sized.ready))
