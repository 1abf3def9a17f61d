-- The queues passed are written, up to `end`.
use Rattle.tables.specs.View.{seen}
use Rattle.state.specs.File.{queue_row}
use Rattle.state.proofs.Written.{RowsWritten}
use Rattle.state.proofs.writing.write_queues.Given as goal

abbrev pub invariant-loop-i : goal.invariant-loop-i
invariant-loop-i l = RowsWritten queue_row (seen l.v).slots l.at l.initial.file l.file l.i l.end
