use Rattle.std.proofs.Common.{◌∙◌, rules, arith, refl}
use Rattle.std.proofs.lemmas.Iterator.{YieldsList-from_range}
use Rattle.std.proofs.lemmas.Iterator.Search.{all_from_yields_List}
use Rattle.words.proofs.Ranges.{all_range}
use Rattle.tables.specs.Layout.{is_queue_laid}
use Rattle.tables.proofs.are_queues_laid.Goals as goal

pub returns : goal.returns
returns c =
    all_from_yields_List (is_queue_laid c.args.m.now) c.all.new.self _ _ c.all.ensures.ran
    (YieldsList-from_range 0 c.args.slots c.args.slots refl (omega arith)) (λ x b q h. search rules)
    ∙ all_range _ _
