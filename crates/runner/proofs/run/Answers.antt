-- `runner::run` meets its contract.
use Rattle.std.proofs.Common.{ℕ, List, sym, ap, ◌∙◌, arith}
use borrow.Author.Rules.{rules}
use Rattle.std.specs.Prelude.{◌≡◌, true, false}
use Rattle.rules.specs.declared.Answer.{Answer}
use Rattle.rules.specs.Machine.{next}
use Rattle.rules.specs.Status.{status}
use Rattle.agreement.specs.Bytes.{agrees_bytes}
use Rattle.tables.specs.Layout.{model_of}
use Rattle.calls.proofs.Agreeing.{sized}
use Rattle.manager.proofs.Tested.{tested}
use Rattle.runner.specs.Reply.{ran}
use Rattle.runner.proofs.Replying.{same_room, disagrees, agreed}
use Rattle.runner.proofs.run.Goals.{in-Ok, in-Err}
use Rattle.runner.proofs.run.Goals as goal

pub returns-then-not-is_agreeing : goal.returns-then-not-is_agreeing
returns-then-not-is_agreeing c =
    let o = c.args in
    let cleared = c.clear in
    let other : agrees_bytes o.m.now ≡ false = search rules in
    ap (λ (a : Answer). ran a o.m.now o.cells.now o.locals.now cleared.new.places cleared.new.grants) c.internal_error.ensures
    ∙ disagrees o.m.now o.scripts.now o.events.now o.ids.now o.cells.now o.locals.now o.places.now o.grants.now
    other _ _ cleared.ensures.placed cleared.ensures.ungranted

pub run_agreeing-done-requires : goal.run_agreeing-done-requires
run_agreeing-done-requires c =
    let passed : agrees_bytes c.args.m.now ≡ true = search rules in tested (λ k. (c.slice_known-1.given k).fits) passed

pub new-requires : goal.new-requires
new-requires c = sized c.run_agreeing-done.ensures.kept

pub returns : goal.returns
returns c =
    let o = c.args in
    let cleared = c.clear in
    let done = c.run_agreeing-done in
    let passed : agrees_bytes o.m.now ≡ true = search rules in
    let is : c.match-done.status ≡ status done.result =
    elim c.match-done.branch [
      | in-Ok w ↦ w.status-is ∙ sym (ap status w.in-Ok.is)
      | in-Err w ↦ w.status-is ∙ w.status-status.ensures ∙ sym (ap status w.in-Err.is)
    ]
    in
    ap (λ (n : ℕ). ran (record { status = n; value = 0; next = c.next_task.result }) done.new.m done.new.cells done.new.locals done.new.places done.new.grants) is
    ∙ agreed o.m.now o.scripts.now o.events.now o.ids.now o.cells.now o.locals.now o.places.now o.grants.now passed (tested (λ k.
    (c.slice_known-1.given k).fits) passed) (status done.result)
    (done.ensures.status
    ∙ same_room (model_of o.m.now) o.scripts.now o.events.now o.ids.now o.cells.now o.locals.now o.places.now _ (omega arith))
    _ _ _ _ _ _ (done.ensures.done o.places.now o.grants.now cleared.ensures.placed cleared.ensures.ungranted) done.ensures.kept
    (c.next_task.ensures ∙ ap (λ (bs : List ℕ). next (model_of bs)) c.new.ensures)
