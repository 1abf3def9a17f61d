use Rattle.std.proofs.Common.{[], ◌∙◌, rules}
use borrow.Author.Tests.{tests}
use Rattle.std.proofs.lemmas.Iterator.Search.{all_from_yields_List}
use Rattle.std.proofs.lemmas.Iterator.Consumers.{YieldsList-from_first}
use Rattle.tables.specs.View.{seen}
use Rattle.sections.specs.Scripts.{Script}
use Rattle.encoding.specs.Rows.{scripts_of}
use Rattle.encoding.specs.Left.{script_from, scripts_left}
use Rattle.encoding.proofs.Every.{list_every}
use Rattle.refusals.specs.Tests.{sections_fit}
use Rattle.refusals.proofs.tests.are_sections_fit.Goals as goal

pub returns : goal.returns
returns c =
    let test = λ (s : Script). sections_fit (seen c.args.v) c.args.ids.now s.sections in
    all_from_yields_List test c.all.new.self _ _ c.all.ensures.ran (YieldsList-from_first script_from scripts_left _ c.new.ensures) (λ x b q k. search (rules, tests))
    ∙ list_every test (record { task = 0; sections = [] }) (scripts_of c.args.scripts.now)
