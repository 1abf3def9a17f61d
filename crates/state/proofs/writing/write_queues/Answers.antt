use mathlib.Core.Path.{refl}
use Prim.Native.Nat.{◌<◌}
use native.Mathlib.Omega.{arith}
use lib.ListN.{length}
use Rattle.rules.specs.Machine.{free_slot}
use Rattle.tables.specs.Layout.{model_of}
use Rattle.lookup.proofs.Model.{length_slots}
use Rattle.state.specs.File.{queue_row}
use Rattle.state.proofs.Written.{rows_none, row_within, rows_more, rows_all}
use Rattle.state.proofs.writing.write_queues.Goals as goal

pub loop-i-init : goal.loop-i-init
loop-i-init c =
    let first = c.args in
    rows_none queue_row (model_of first.v.bytes.now).slots (free_slot 0) first.at first.file.now _ refl

pub write_queue-end-requires : goal.write_queue-end-requires
write_queue-end-requires c =
    let first = c.args in
    let m = c.args.v.bytes.now in
    let h : c.loop-i.i < length (model_of m).slots = omega (arith, length_slots m, c.slot_count-slots.ensures) in
    let room =
    row_within queue_row (model_of m).slots (free_slot 0) first.at first.file.now c.loop-i.file c.loop-i.i c.loop-i.end h
    c.loop-i.invariant
    in
    (c.requires.0, h, omega arith)

pub loop-i-preserved : goal.loop-i-preserved
loop-i-preserved c =
    let first = c.args in
    let m = c.args.v.bytes.now in
    rows_more queue_row (model_of m).slots (free_slot 0) first.at first.file.now c.loop-i.file c.loop-i.i c.loop-i.end
    (omega (arith, length_slots m, c.slot_count-slots.ensures)) c.loop-i.invariant _ _ _ refl
    c.write_queue-end.ensures.1 c.write_queue-end.ensures.0

pub returns : goal.returns
returns c =
    let first = c.args in
    let m = c.args.v.bytes.now in
    rows_all queue_row (model_of m).slots (free_slot 0) first.at first.file.now _ c.loop-i.i c.loop-i.end
    (omega (arith, length_slots m, c.slot_count-slots.ensures)) c.loop-i.invariant
