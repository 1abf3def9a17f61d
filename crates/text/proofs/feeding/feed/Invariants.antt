-- What is kept leads to the same as the outset with all of the input, by what is left of it.
use Rattle.text.specs.Feeding.{lent}
use Rattle.text.proofs.Bytes.{Underway}
use Rattle.text.proofs.feeding.feed.Given as goal

abbrev pub invariant-loop-b : goal.invariant-loop-b
invariant-loop-b l =
    Underway l.initial.kept l.initial.line (lent l.initial.m l.initial.ids l.initial.cells l.initial.locals l.initial.scripts l.initial.events) l.input l.kept l.line (lent l.m l.ids l.cells l.locals l.scripts l.events) l.b-index
