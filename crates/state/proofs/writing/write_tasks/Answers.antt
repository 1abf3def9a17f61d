use Rattle.std.proofs.Common.{◌∙◌, ap, arith, sym}
use Rattle.rules.specs.Machine.{no_task}
use Rattle.tables.specs.Codec.{task_row}
use Rattle.tables.specs.View.{seen}
use Rattle.lookup.proofs.Model.{length_tasks, task_read}
use Rattle.state.proofs.Written.{rows_none, row_within, rows_more, rows_all}
use Rattle.state.proofs.writing.write_tasks.Goals as goal

pub loop-i-init : goal.loop-i-init
loop-i-init c = rows_none task_row (seen c.args.v).tasks no_task c.args.at c.args.file.now _ (omega arith)

pub store-requires : goal.store-requires
store-requires c =
    let first = c.args in
    omega (
      arith,
      row_within task_row (seen first.v).tasks no_task first.at first.file.now c.loop-i.file c.loop-i.i _
          (omega (arith, length_tasks first.v.bytes.now, c.task_count-tasks.ensures)) c.loop-i.invariant,
    )

pub loop-i-preserved : goal.loop-i-preserved
loop-i-preserved c =
    let first = c.args in
    let m = first.v.bytes.now in
    rows_more task_row (seen first.v).tasks no_task first.at first.file.now c.loop-i.file c.loop-i.i _
    (omega (arith, length_tasks m, c.task_count-tasks.ensures)) c.loop-i.invariant _ _ _
    (ap task_row (c.task.ensures ∙ sym (task_read m c.loop-i.i (omega (arith, c.task_count-tasks.ensures)))))
    (omega arith) c.store.ensures

pub returns : goal.returns
returns c =
    let first = c.args in
    rows_all task_row (seen first.v).tasks no_task first.at first.file.now _ c.loop-i.i _
    (omega (arith, length_tasks first.v.bytes.now, c.task_count-tasks.ensures)) c.loop-i.invariant
