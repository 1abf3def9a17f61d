-- The rows of the tasks passed are written.
use Rattle.std.proofs.Common.{◌+◌, ◌*◌}
use Rattle.tables.specs.Codec.{task_row}
use Rattle.tables.specs.View.{seen}
use Rattle.state.proofs.Written.{RowsWritten}
use Rattle.state.proofs.writing.write_tasks.Given as goal

abbrev pub invariant-loop-i : goal.invariant-loop-i
invariant-loop-i l = RowsWritten task_row (seen l.v).tasks l.at l.initial.file l.file l.i (l.at + 4 * l.i)
