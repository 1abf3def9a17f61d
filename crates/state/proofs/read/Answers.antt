-- `state::read` meets its contract: each return is a case of the reply.
use Rattle.std.proofs.Common.{◌≡◌, arith, length, refl, sym}
use Rattle.rules.specs.Machine.{unstarted}
use Rattle.rules.proofs.Invariants.Agreeing.{unstarted_agrees}
use Rattle.rules.proofs.Refused.{refused}
use Rattle.tables.specs.Layout.{model_of}
use Rattle.lookup.proofs.Model.{length_tasks}
use Rattle.calls.proofs.Agreeing.{sized, agreeing_laid, model_is}
use Rattle.state.proofs.Refused.{is_valid, is_refused}
use Rattle.state.proofs.Promises.{state_agrees}
use Rattle.state.proofs.Entry.{before_start, started_read, refused_read, done_read}
use Rattle.state.proofs.read.Goals as goal

pub task_count-requires : goal.task_count-requires
task_count-requires c = (sized c.requires).long

pub returns-then-task_count-ne0-clause-replied : goal.returns-then-task_count-ne0-clause-replied
returns-then-task_count-ne0-clause-replied c =
    started_read _ _ c.requires (λ e. omega (arith, length_tasks c.args.m.now, c.task_count.ensures, c.if-task_count-ne0.true))

pub take_in-requires : goal.take_in-requires
take_in-requires c = before_start c.requires (omega (arith, length_tasks c.args.m.now, c.task_count.ensures, c.if-task_count-ne0.false))

pub clear-requires : goal.clear-requires
clear-requires c = omega (arith, c.take_in.auto, (sized c.requires).long)

pub returns-in-Err-clause-replied : goal.returns-in-Err-clause-replied
returns-in-Err-clause-replied c =
    let none : length (model_of c.args.m.now).tasks ≡ 0 = omega (arith, length_tasks c.args.m.now, c.task_count.ensures, c.if-task_count-ne0.false) in
    let refusal = rw c.in-Err.is at c.take_in.ensures.0 in
    let no = is_refused _ _ refusal (refused c.in-Err.refusal) in
    rw (no.0) (refused_read _ _ c.requires none no.1 _ c.clear.ensures)

pub returns-in-Err-clause-kept : goal.returns-in-Err-clause-kept
returns-in-Err-clause-kept c = agreeing_laid unstarted unstarted_agrees _ c.clear.ensures

pub returns-clause-replied : goal.returns-clause-replied
returns-clause-replied c =
    let none : length (model_of c.args.m.now).tasks ≡ 0 = omega (arith, length_tasks c.args.m.now, c.task_count.ensures, c.if-task_count-ne0.false) in
    let done = rw c.in_default.is at c.take_in.ensures in
    let valid = is_valid _ (sym done.0) in
    let filled = done.1 refl in
    done_read _ _ c.requires none valid _ filled (model_is _ (state_agrees _ valid) _ filled)

pub returns-clause-kept : goal.returns-clause-kept
returns-clause-kept c =
    let done = rw c.in_default.is at c.take_in.ensures in
    agreeing_laid _ (state_agrees _ (is_valid _ (sym done.0))) _ (done.1 refl)
