-- `calls::start::are_priorities` meets its contract: the test of each element is that of each index.
use Rattle.std.proofs.Common.{rules, tests, ◌∙◌}
use Rattle.std.proofs.lemmas.Iterator.{YieldsList-from_slice}
use Rattle.std.proofs.lemmas.Iterator.Search.{all_from_yields_List}
use Rattle.rules.specs.Numbers.{max_priority, within}
use Rattle.calls.proofs.Refusing.{all_listed}
use Rattle.calls.proofs.start.are_priorities.Goals as goal

pub returns : goal.returns
returns c =
    all_from_yields_List (within 1 max_priority) _ _ _ c.all.ensures.ran (YieldsList-from_slice c.args.priorities.now c.iter.ensures.rest)
    (λ x b q k. search (rules, tests))
    ∙ all_listed (within 1 max_priority) c.args.priorities.now
