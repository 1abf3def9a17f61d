-- `lookup::working::load_lenders` meets its contract. The invariant: the first i tasks are read.
use Rattle.tables.specs.View.{seen}
use Rattle.lookup.proofs.Lending.{Read}
use Rattle.lookup.proofs.working.load_lenders.Given as goal

abbrev pub invariant-loop-i : goal.invariant-loop-i
invariant-loop-i l = Read (seen l.v) l.tasks l.i l.lenders.links l.lenders.to
