-- The rows of the slots passed are written.
use Rattle.std.proofs.Common.{◌+◌, ◌*◌}
use Rattle.tables.specs.View.{seen}
use Rattle.state.specs.File.{second_edition, numbers_row}
use Rattle.state.proofs.Written.{RowsWritten}
use Rattle.state.proofs.writing.write_slots.Given as goal

abbrev pub invariant-loop-i : goal.invariant-loop-i
invariant-loop-i l = RowsWritten (numbers_row second_edition) (seen l.v).slots l.at l.initial.file l.file l.i (l.at + 8 * l.i)
