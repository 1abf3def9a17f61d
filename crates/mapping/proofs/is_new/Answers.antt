use Rattle.std.proofs.Common.{rules, tests, ◌∙◌, take}
use Rattle.std.proofs.lemmas.Iterator.{YieldsList-from_slice}
use Rattle.std.proofs.lemmas.Iterator.Search.{all_from_yields_List}
use Rattle.laws.specs.Choose.{isnt, choose}
use lib.Dec.{eqb}
use Rattle.mapping.specs.Mapping.{is_new}
use Rattle.mapping.proofs.Listed.{all_taken}
use Rattle.mapping.proofs.is_new.Goals as goal

pub returns : goal.returns
unfolding is_new choose
returns c =
    all_from_yields_List (λ x. isnt (eqb x c.args.id)) _ _ _ c.all.ensures.ran (YieldsList-from_slice (take c.args.k c.args.list.now) c.iter.ensures.rest) (λ x b q k. search (rules, tests))
    ∙ all_taken (λ x. isnt (eqb x c.args.id)) c.args.list.now c.args.k c.requires
