-- `shown::sequence::load_sequence` meets its contract. The invariant: the places passed hold their tasks.
use mathlib.Core.Path.{◌≡◌}
use lib.ListN.{length, get_or}
use Rattle.laws.proofs.Mapped.{Filled}
use Rattle.tables.specs.Layout.{sequence_at}
use Rattle.shown.proofs.sequence.load_sequence.Given as goal

abbrev pub invariant-loop-k : goal.invariant-loop-k
invariant-loop-k l = (length l.task-items ≡ 32) × Filled (λ j. get_or (sequence_at l.v.bytes.now) j 0) 0 l.task-items l.k
