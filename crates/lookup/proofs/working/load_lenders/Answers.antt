use mathlib.Core.Logic.{inl, inr}
use mathlib.Core.Path.{refl, sym, subst, ◌∙◌}
use Prim.Native.Nat.{◌+◌}
use native.Mathlib.Omega.{arith}
use Rattle.laws.specs.Rows.{fit}
use Rattle.lookup.proofs.Model.{length_tasks}
use Rattle.tables.specs.View.{seen}
use Rattle.lookup.specs.declared.working.Lenders.{Lenders}
use Rattle.lookup.proofs.Lending.{Read, read_none, read_next, read_all}
use Rattle.lookup.proofs.working.load_lenders.Goals as goal
use Rattle.lookup.proofs.working.load_lenders.Goals.{then-q-ne0, else-q-ne0}

pub loop-i-init : goal.loop-i-init
unfolding fit
loop-i-init c = read_none _ _

pub loop-i-preserved : goal.loop-i-preserved
loop-i-preserved c =
    let i = c.loop-i.i in
    let t = seen c.args.v in
    let longer = λ (r : Lenders). Read t c.task_count-tasks.result (i + 1) r.links r.to in
    let next = read_next t c.task_count-tasks.result i c.loop-i.lenders.links c.loop-i.lenders.to c.loop-i.invariant c.lends_to-q.result in
    elim c.if-q-ne0.branch [
      | then-q-ne0 w ↦ subst longer (sym w.lenders-is) (next _ (omega arith) c.lends_to-q.ensures (inr refl))
      | else-q-ne0 w ↦ subst longer (sym w.lenders-is) (next _ (omega arith) c.lends_to-q.ensures (inl (omega arith, refl)))
    ]

pub returns : goal.returns
returns c =
    let turn = c.loop-i in
    let count = c.task_count-tasks in
    read_all _ _ _ _ _ turn.invariant (omega arith) (count.ensures ∙ sym (length_tasks c.args.v.bytes.now))
