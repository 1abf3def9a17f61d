use mathlib.Core.Path.{sym, ◌∙◌}
use Rattle.mapping.proofs.Tests.{counting_mappable}
use Rattle.mapping.proofs.is_mappable.Goals as goal

pub returns-then-is_counting : goal.returns-then-is_counting
returns-then-is_counting c =
    counting_mappable c.args.v.bytes.now c.args.id c.in-Some.n c.in-Some.ensures.0 c.in-Some.ensures.1 c.head-s.result c.head-s.ensures
    (sym c.is_counting.ensures ∙ c.if-is_counting.true)
