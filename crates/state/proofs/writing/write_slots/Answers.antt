use Rattle.std.proofs.Common.{◌∙◌, ap, arith, get_or, length, take, List, ℕ}
use Rattle.rules.specs.Machine.{free_slot}
use Rattle.tables.specs.View.{seen}
use Rattle.lookup.proofs.Model.{length_slots}
use Rattle.state.specs.File.{second_edition, numbers_row}
use Rattle.state.proofs.Written.{rows_none, row_within, rows_more, rows_all, row_written, numbers_read_lem}
use Rattle.state.proofs.writing.write_slots.Goals as goal

pub loop-i-init : goal.loop-i-init
loop-i-init c = rows_none (numbers_row second_edition) (seen c.args.v).slots (free_slot 0) c.args.at c.args.file.now _ (omega arith)

pub set_words-requires : goal.set_words-requires
set_words-requires c =
    let first = c.args in
    omega (
      arith,
      row_within (numbers_row second_edition) (seen first.v).slots (free_slot 0) first.at first.file.now c.loop-i.file c.loop-i.i _
          (omega (arith, length_slots first.v.bytes.now, c.slot_count-slots.ensures)) c.loop-i.invariant,
      ap length (row_written (get_or (seen first.v).slots c.loop-i.i (free_slot 0))),
      ap (λ (ws : List ℕ). length (take 8 ws)) c.to_words-row.ensures,
    )

pub loop-i-preserved : goal.loop-i-preserved
loop-i-preserved c =
    let first = c.args in
    let m = first.v.bytes.now in
    rows_more (numbers_row second_edition) (seen first.v).slots (free_slot 0) first.at first.file.now c.loop-i.file c.loop-i.i _
    (omega (arith, length_slots m, c.slot_count-slots.ensures)) c.loop-i.invariant _ _ _
    (ap (take 8) c.to_words-row.ensures ∙ numbers_read_lem m c.loop-i.i c.head.result (omega (arith, c.slot_count-slots.ensures)) c.head.ensures)
    (omega (arith, ap (λ (ws : List ℕ). length (take 8 ws)) c.to_words-row.ensures)) c.set_words.ensures

pub returns : goal.returns
returns c =
    let first = c.args in
    rows_all (numbers_row second_edition) (seen first.v).slots (free_slot 0) first.at first.file.now _ c.loop-i.i _
    (omega (arith, length_slots first.v.bytes.now, c.slot_count-slots.ensures)) c.loop-i.invariant
