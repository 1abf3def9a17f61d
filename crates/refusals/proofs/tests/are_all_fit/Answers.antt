use Rattle.std.proofs.Common.{refl, ◌∙◌, rules}
use borrow.Author.Tests.{tests}
use Rattle.std.proofs.lemmas.Iterator.Search.{all_from_yields_List}
use Rattle.std.proofs.lemmas.Iterator.Consumers.{YieldsList-from_first}
use Rattle.tables.specs.View.{seen}
use Rattle.encoding.specs.Rows.{no_section}
use Rattle.encoding.specs.Left.{section_from, sections_left}
use Rattle.encoding.proofs.Every.{list_every}
use Rattle.refusals.specs.Tests.{section_fits}
use Rattle.refusals.proofs.tests.are_all_fit.Goals as goal

pub returns : goal.returns
returns c =
    let test = section_fits (seen c.args.v) c.args.ids.now in
    all_from_yields_List test c.all.new.self _ _ c.all.ensures.ran (YieldsList-from_first section_from sections_left _ refl) (λ x b q k. search (rules, tests))
    ∙ list_every test no_section (sections_left c.args.sections)
