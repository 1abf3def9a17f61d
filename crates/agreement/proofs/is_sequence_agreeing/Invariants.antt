use Rattle.std.specs.Prelude.{None}
use Rattle.tables.specs.Layout.{model_of}
use Rattle.agreement.specs.Tests.{seen_at, place_agrees}
use Rattle.agreement.proofs.Walks.{Passed}
use Rattle.agreement.proofs.is_sequence_agreeing.Given as goal

abbrev pub invariant-loop-k : goal.invariant-loop-k
invariant-loop-k l =
    let ready = (model_of l.v.bytes.now).ready in
    Passed (place_agrees (model_of l.v.bytes.now) l.initial.marks 0 None ready) (seen_at l.initial.marks ready) l.k l.marks
