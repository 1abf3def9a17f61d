use Rattle.std.proofs.Common.{length, inl, ap, ◌∙◌, arith, rules}
use borrow.Author.Tests.{tests}
use Rattle.std.proofs.lemmas.Iterator.Search.{all_from_yields_List}
use Rattle.std.proofs.lemmas.Iterator.Consumers.{YieldsList-from_enumerate, YieldsList-from_first}
use Rattle.sections.specs.Refusals.{one_script_each}
use Rattle.encoding.specs.Rows.{scripts_of}
use Rattle.encoding.specs.Left.{script_from, scripts_left}
use Rattle.encoding.proofs.Found.{scripts_few}
use Rattle.refusals.specs.Tests.{is_first}
use Rattle.refusals.proofs.Testing.{ones}
use Rattle.refusals.proofs.tests.is_one_each.Goals as goal

pub all-requires-clause-can : goal.all-requires-clause-can
all-requires-clause-can c =
    (tt, tt, inl (omega (arith, c.enumerate.ensures.count, ap (λ s. length (scripts_left s)) c.enumerate.ensures.source, ap length c.new.ensures, scripts_few c.args.scripts.now)))

pub returns : goal.returns
unfolding one_script_each
returns c =
    let scripts = scripts_of c.args.scripts.now in
    all_from_yields_List (λ p. is_first scripts p.0 p.1.task) c.all.new.self _ _ c.all.ensures.ran
    (YieldsList-from_enumerate (YieldsList-from_first script_from scripts_left scripts (ap scripts_left c.enumerate.ensures.source ∙ c.new.ensures)) c.enumerate.ensures.count)
    (λ x b q k. search (rules, tests))
    ∙ ones scripts
