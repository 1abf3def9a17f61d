use Rattle.std.proofs.Common.{None, sym, ap, ◌∙◌}
use Rattle.encoding.specs.Left.{rows_left}
use Rattle.encoding.specs.Rows.{all_follow}
use Rattle.refusals.proofs.Testing.{rows_cut, rows_whole, ends, fails, goes_on}
use Rattle.refusals.proofs.tests.are_rows_fit.Goals as goal

pub returns-then-scripts-ne0 : goal.returns-then-scripts-ne0
returns-then-scripts-ne0 c = rows_cut c.args.scripts.now c.if-scripts-ne0.true

pub loop-row-init : goal.loop-row-init
loop-row-init c = (tt, tt, ap (λ s. all_follow None (rows_left s)) c.into_iter-row-iterator.ensures.into_iter_gives ∙ ap (all_follow None) c.new-row-items.ensures)

pub returns-then-not-may_follow : goal.returns-then-not-may_follow
returns-then-not-may_follow c =
    rows_whole c.args.scripts.now c.if-scripts-ne0.false _ (fails c.loop-row.last _ c.in-Some.row _ c.in-Some.ensures.steps (sym c.may_follow.ensures ∙ c.if-not-may_follow.true) ∙ c.loop-row.invariant.2)

pub loop-row-preserved : goal.loop-row-preserved
loop-row-preserved c =
    (tt, tt, goes_on c.loop-row.last _ c.in-Some.row _ c.in-Some.ensures.steps (sym c.may_follow.ensures ∙ c.if-not-may_follow.false) ∙ c.loop-row.invariant.2)

pub returns : goal.returns
returns c = rows_whole c.args.scripts.now c.if-scripts-ne0.false _ (ends c.loop-row.last _ c.in-None.ensures.steps.0 ∙ c.loop-row.invariant.2)
