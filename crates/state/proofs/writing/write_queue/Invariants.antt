-- The tasks passed are written, behind the length.
use Rattle.std.proofs.Common.{◌+◌}
use Rattle.words.proofs.Stores.{Stored}
use Rattle.agreement.proofs.Model.{queue_in}
use Rattle.state.proofs.writing.write_queue.Given as goal

abbrev pub invariant-loop-k : goal.invariant-loop-k
invariant-loop-k l = Stored l.initial.file (l.at + 1) (queue_in l.v.bytes.now l.i) l.file l.k
