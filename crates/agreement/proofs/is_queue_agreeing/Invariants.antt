use Rattle.std.specs.Prelude.{suc, Some}
use Rattle.rules.specs.Machine.{slot_of}
use Rattle.tables.specs.Layout.{model_of}
use Rattle.agreement.specs.Tests.{seen_at, place_agrees}
use Rattle.agreement.proofs.Walks.{Passed}
use Rattle.agreement.proofs.is_queue_agreeing.Given as goal

abbrev pub invariant-loop-k : goal.invariant-loop-k
invariant-loop-k l =
    let s = slot_of (model_of l.v.bytes.now) (suc l.i) in
    Passed (place_agrees (model_of l.v.bytes.now) l.initial.marks s.owner (Some l.id) s.queue) (seen_at l.initial.marks s.queue) l.k l.marks
