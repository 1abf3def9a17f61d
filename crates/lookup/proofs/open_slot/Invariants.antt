-- `lookup::open_slot` meets its contract. The invariant: the search through what is left of the slots gives the whole search.
use Rattle.rules.specs.Calls.{first_free}
use Rattle.tables.specs.View.{seen}
use Rattle.lookup.proofs.Searches.{LookFrom}
use Rattle.lookup.proofs.open_slot.Given as goal

abbrev pub invariant-loop-i : goal.invariant-loop-i
invariant-loop-i l = LookFrom first_free (seen l.v).slots l.i
