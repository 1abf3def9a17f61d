use mathlib.Core.Path.{ap}
use Rattle.laws.specs.All.{all}
use Rattle.std.proofs.Common.{◌∙◌, rules, arith, refl, get_or, ℕ, false}
use Rattle.std.proofs.lemmas.Iterator.{YieldsList-from_range}
use Rattle.std.proofs.lemmas.Iterator.Search.{all_from_yields_List}
use Rattle.words.proofs.Ranges.{all_range}
use Rattle.tables.specs.Layout.{task_at}
use Rattle.agreement.specs.Tests.{task_agrees}
use Rattle.agreement.proofs.Bytes.{tasks_tested}
use Rattle.agreement.proofs.are_tasks_agreeing.Goals as goal

pub returns : goal.returns
returns c =
    all_from_yields_List (λ (i : ℕ). task_agrees (get_or c.args.marks.now i false) (task_at c.args.v.bytes.now i)) c.all.new.self _ _ c.all.ensures.ran
    (YieldsList-from_range 0 c.task_count.result c.task_count.result refl (omega arith)) (λ x b q h. search rules)
    ∙ all_range c.task_count.result _ ∙ ap (λ (n : ℕ). all n (λ i. task_agrees (get_or c.args.marks.now i false) (task_at c.args.v.bytes.now i))) c.task_count.ensures ∙ tasks_tested c.args.v.bytes.now c.args.marks.now c.requires
