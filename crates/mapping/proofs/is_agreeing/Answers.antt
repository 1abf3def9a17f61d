use Rattle.std.proofs.Common.{rules, tests, refl, ◌∙◌, sym}
use Rattle.std.proofs.lemmas.Iterator.{YieldsList-from_range}
use Rattle.std.proofs.lemmas.Iterator.Search.{all_from_yields_List}
use Rattle.laws.proofs.Choose.{if_yes}
use borrow.Author.Tests.{eq-eqb}
use Rattle.tables.specs.View.{seen}
use Rattle.mapping.specs.Mapping.{entry_agrees, list_agrees}
use Rattle.mapping.proofs.Listed.{all_numbers}
use Rattle.mapping.proofs.is_agreeing.Goals as goal

pub returns-then-list-eq-LIST_LENGTH : goal.returns-then-list-eq-LIST_LENGTH
unfolding list_agrees
returns-then-list-eq-LIST_LENGTH c =
    let test = entry_agrees (seen c.args.v) c.args.list.now in
    all_from_yields_List test _ _ _ c.all.ensures.ran (YieldsList-from_range 0 64 64 refl refl) (λ x b q k. search (rules, tests)) ∙ all_numbers test 64 ∙ sym (if_yes _ _ (eq-eqb _ _ c.if-list-eq-LIST_LENGTH.true))
