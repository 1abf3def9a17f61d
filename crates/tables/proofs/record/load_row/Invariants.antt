-- The words passed are in their places.
use Rattle.std.proofs.Common.{◌≡◌, ◌+◌, length}
use Rattle.laws.proofs.Mapped.{Filled}
use Rattle.words.specs.Words.{word_at}
use Rattle.tables.proofs.record.load_row.Given as goal

abbrev pub invariant-loop-k : goal.invariant-loop-k
invariant-loop-k g l = record { whole : length l.row ≡ l.k-end; read : Filled (λ k. word_at l.m (l.at + k)) 0 l.row l.k }
