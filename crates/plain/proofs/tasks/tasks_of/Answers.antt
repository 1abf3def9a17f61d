use Rattle.std.proofs.Common.{◌≡◌, ℕ, ◌<◌, List, length, set, inl, sym, refl, subst, ap, ◌∙◌, arith, length-set}
use Rattle.std.specs.declared.iter.Enumerate.{Enumerate}
use Rattle.sections.specs.Scripts.{Script}
use Rattle.encoding.specs.declared.scripts.Scripts.{Scripts}
use Rattle.encoding.specs.Rows.{scripts_of}
use Rattle.encoding.specs.Left.{scripts_left}
use Rattle.encoding.proofs.Found.{scripts_few}
use Rattle.plain.proofs.Granting.{Noted, noted_none, noted_more, noted_all}
use Rattle.plain.proofs.tasks.tasks_of.Goals as goal

pub loop-i-init : goal.loop-i-init
loop-i-init c =
    let o = c.args in
    let scripts = scripts_of o.scripts.now in
    let same = c.into_iter-i-iterator.ensures.into_iter_gives in
    let none : c.into_iter-i-iterator.result.count ≡ 0 = ap (λ (s : Enumerate Scripts). s.count) same ∙ c.enumerate-i-items.ensures.count in
    let all : scripts_left c.into_iter-i-iterator.result.iter ≡ scripts =
    ap (λ (s : Enumerate Scripts). scripts_left s.iter) same ∙ ap scripts_left c.enumerate-i-items.ensures.source ∙ c.new.ensures
    in (
      (tt, tt, inl (omega (arith, none, ap length all, scripts_few o.scripts.now))),
      tt,
      refl,
      subst (λ (n : ℕ). Noted scripts (scripts_left c.into_iter-i-iterator.result.iter) o.tasks.now n) (sym none)
          (subst (λ (ss : List Script). Noted scripts ss o.tasks.now 0) (sym all) (noted_none scripts o.tasks.now)),
    )

pub bounds-tasks-i : goal.bounds-tasks-i
bounds-tasks-i c =
    let next = c.in-Some.ensures.steps in
    omega (arith, c.loop-i.invariant.2, c.loop-i.invariant.3.count, ap length next.0, next.1, scripts_few c.args.scripts.now, c.requires)

pub loop-i-preserved : goal.loop-i-preserved
loop-i-preserved c =
    let o = c.args in
    let turn = c.loop-i in
    let next = c.in-Some.ensures.steps in
    let scripts = scripts_of o.scripts.now in
    let count : ℕ = turn.i-iterator.count in
    let within : count < length turn.tasks = omega (arith, turn.invariant.2, turn.invariant.3.count, ap length next.0, scripts_few o.scripts.now, c.requires) in
    let noted = noted_more scripts (scripts_left turn.i-iterator.iter) turn.tasks count turn.invariant.3 _ _ next.0 within in (
      (tt, tt, inl (omega (arith, next.2, noted.count, scripts_few o.scripts.now))),
      tt,
      simp length-set turn.invariant.2,
      subst (λ (n : ℕ). Noted scripts (scripts_left c.next.new.self.iter) (set turn.tasks n c.in-Some.script.task) c.next.new.self.count) (sym next.1)
          (subst (λ (n : ℕ). Noted scripts (scripts_left c.next.new.self.iter) (set turn.tasks count c.in-Some.script.task) n) (sym next.2) noted),
    )

pub returns : goal.returns
returns c =
    let turn = c.loop-i in
    let scripts = scripts_of c.args.scripts.now in
    (c.script_count.ensures, noted_all scripts (scripts_left turn.i-iterator.iter) turn.tasks turn.i-iterator.count turn.invariant.3 c.in-None.ensures.steps.0.0 _ c.script_count.ensures)
