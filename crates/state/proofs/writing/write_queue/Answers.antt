use mathlib.Core.Path.{◌∙◌, sym}
use lib.Seq.{get_or-take}
use Prim.Native.Nat.{◌<◌, ◌+◌}
use native.Mathlib.Omega.{arith}
use Rattle.words.specs.Words.{word_at}
use Rattle.words.proofs.Stores.{stored_none, stored_all}
use Rattle.tables.specs.Layout.{record_at}
use Rattle.lookup.proofs.Model.{length_slots}
use Rattle.agreement.proofs.Model.{queue_in, queue_length}
use Rattle.state.proofs.Written.{number_more, length_queue_row, queue_written}
use Rattle.state.proofs.writing.write_queue.Goals as goal

pub slot_waiters-waiters-requires : goal.slot_waiters-waiters-requires
slot_waiters-waiters-requires c = omega (arith, length_slots c.args.v.bytes.now)

pub loop-k-init : goal.loop-k-init
loop-k-init c = stored_none _ _ _

pub queue_entry-requires : goal.queue_entry-requires
queue_entry-requires c =
    let m = c.args.v.bytes.now in
    let h : c.args.i < word_at m 1 = omega (arith, length_slots m) in
    record { slot = omega arith; place = omega (arith, c.requires.0.queues c.args.i h, c.slot_waiters-waiters.ensures) }

pub set_word-requires-in-loop-k : goal.set_word-requires-in-loop-k
set_word-requires-in-loop-k c =
    let m = c.args.v.bytes.now in
    omega (
      arith,
      c.set_word.auto,
      c.slot_waiters-waiters.ensures,
      length_queue_row m c.requires.0 c.args.i (omega (arith, length_slots m)),
    )

pub loop-k-preserved : goal.loop-k-preserved
loop-k-preserved c =
    let m = c.args.v.bytes.now in
    let h : c.args.i < word_at m 1 = omega (arith, length_slots m) in
    let few : c.loop-k.k < (record_at m c.args.i).waiters = omega (arith, c.slot_waiters-waiters.ensures) in
    number_more _ _ (queue_in m c.args.i) c.loop-k.file c.loop-k.k _ _
    (omega (arith, queue_length m c.requires.0 c.args.i h)) c.loop-k.invariant
    (c.queue_entry.ensures ∙ sym (get_or-take (record_at m c.args.i).waiters (record_at m c.args.i).queue c.loop-k.k 0 few))
    c.set_word-in-loop-k.ensures

pub returns : goal.returns
returns c =
    let m = c.args.v.bytes.now in
    let h : c.args.i < word_at m 1 = omega (arith, length_slots m) in (
      queue_written m c.requires.0 c.args.i h c.args.at _ c.args.file.now _ _ c.slot_waiters-waiters.ensures
          c.set_word.ensures
          (stored_all _ (c.args.at + 1) (queue_in m c.args.i) _ c.loop-k.k
          (omega (arith, queue_length m c.requires.0 c.args.i h, c.slot_waiters-waiters.ensures)) c.loop-k.invariant),
      omega (arith, length_queue_row m c.requires.0 c.args.i h, c.slot_waiters-waiters.ensures),
    )
