-- The tasks passed are written.
use Rattle.words.proofs.Stores.{Stored}
use Rattle.tables.specs.View.{seen}
use Rattle.state.proofs.writing.write_ready.Given as goal

abbrev pub invariant-loop-k : goal.invariant-loop-k
invariant-loop-k l = Stored l.initial.file l.at (seen l.v).ready l.file l.k
