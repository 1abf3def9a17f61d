use mathlib.Core.Path.{◌∙◌}
use mathlib.Core.Logic.{⊎_elim}
use native.Mathlib.Omega.{arith}
use lib.ListN.{length}
use Prim.Native.Nat.{◌≤◌, ◌<◌}
use borrow.Author.Rules.{rules}
use Rattle.rules.specs.Machine.{least_of}
use Rattle.tables.specs.View.{seen}
use Rattle.lookup.proofs.Model.{length_tasks}
use Rattle.lookup.proofs.Lending.{working_own, working_nobody, least_all, least_passed, least_taken}
use Rattle.lookup.proofs.working.+priority.Goals as goal

pub returns-then-links-eq0 : goal.returns-then-links-eq0
returns-then-links-eq0 t c =
    let call = c.args in
    ⊎_elim (λ z. working_own (seen call.v) call.q call.links _ c.own_priority-own.ensures z)
    (λ z. working_nobody (seen call.v) call.q call.links _ c.own_priority-own.ensures z.1) c.then-links-eq0.either

pub loop-i-init : goal.loop-i-init
unfolding least_of
loop-i-init t c = search rules

-- one task more, who lends to another, and who lends to q
pub loop-i-preserved-then-to-i : goal.loop-i-preserved-then-to-i
loop-i-preserved-then-to-i t c =
    let call = c.args in
    let turn = c.loop-i in
    let n = length_tasks call.v.bytes.now in
    let few : length (seen call.v).tasks ≤ 32 = omega (arith, n, call.v.sized.tasks) in
    let more : turn.i < length (seen call.v).tasks = omega (arith, n, c.task_count-i-end.ensures) in
    turn.invariant ∙ least_passed (seen call.v) call.q call.links _ c.own_priority-own.ensures call.to.now c.requires few turn.i more c.if-to-i.true

pub loop-i-preserved : goal.loop-i-preserved
loop-i-preserved t c =
    let call = c.args in
    let turn = c.loop-i in
    let n = length_tasks call.v.bytes.now in
    let few : length (seen call.v).tasks ≤ 32 = omega (arith, n, call.v.sized.tasks) in
    let more : turn.i < length (seen call.v).tasks = omega (arith, n, c.task_count-i-end.ensures) in
    c.min-least.ensures
    ∙ least_taken (seen call.v) call.q call.links _ c.own_priority-own.ensures call.to.now c.requires few turn.i more c.if-q-eq0.false c.if-to-i.false _ _
    c.priority-lent.ensures turn.invariant

pub returns : goal.returns
returns t c =
    let call = c.args in
    let turn = c.loop-i in
    turn.invariant ∙ least_all (seen call.v) call.q call.links _ c.own_priority-own.ensures c.if-links-eq0.false turn.i
    (omega (arith, length_tasks call.v.bytes.now, c.task_count-i-end.ensures))
