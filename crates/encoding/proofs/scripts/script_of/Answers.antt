use Rattle.std.proofs.Common.{eqb, length, inl, ap, ◌∙◌, arith, rules}
use borrow.Author.Tests.{tests}
use Rattle.std.proofs.lemmas.Iterator.Search.{find_from_yields_List}
use Rattle.std.proofs.lemmas.Iterator.Consumers.{YieldsList-from_enumerate, YieldsList-from_first}
use Rattle.encoding.specs.Rows.{scripts_of}
use Rattle.encoding.specs.Left.{script_from, scripts_left}
use Rattle.encoding.proofs.Found.{scripts_few, script_found}
use Rattle.encoding.proofs.scripts.script_of.Goals as goal

pub find-requires-clause-can : goal.find-requires-clause-can
find-requires-clause-can c =
    (tt, tt, inl (omega (arith, c.enumerate.ensures.count, ap (λ s. length (scripts_left s)) c.enumerate.ensures.source, ap length c.new.ensures, scripts_few c.args.scripts.now)))

pub returns : goal.returns
returns c =
    let o = c.args in
    script_found (scripts_of o.scripts.now) o.q _
    (find_from_yields_List (λ p. eqb p.1.task o.q) c.find.new.self _ _ c.find.ensures.ran
    (YieldsList-from_enumerate (YieldsList-from_first script_from scripts_left (scripts_of o.scripts.now) (ap scripts_left c.enumerate.ensures.source ∙ c.new.ensures)) c.enumerate.ensures.count)
    (λ x b q k. search (rules, tests)))
