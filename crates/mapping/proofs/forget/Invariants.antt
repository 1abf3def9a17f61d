-- `mapping::forget` meets its contract. The invariant: the entries passed are without the identifier.
use Rattle.mapping.proofs.Forgotten.{Forgets}
use Rattle.mapping.proofs.forget.Given as goal

abbrev pub invariant-loop-entry : goal.invariant-loop-entry
invariant-loop-entry l = Forgets l.id l.initial.list l.list l.entry-index
