use Rattle.std.proofs.Common.{◌≡◌, ℕ, ◌+◌, length, drop, inl, sym, refl, subst, ap, ◌∙◌, arith, length-drop}
use Rattle.std.specs.Prelude.{unwrap_or}
use Rattle.std.specs.declared.iter.Enumerate.{Enumerate}
use Rattle.rules.specs.Machine.{Tables}
use Rattle.sections.specs.Scripts.{script_at}
use Rattle.encoding.specs.declared.scripts.Scripts.{Scripts}
use Rattle.encoding.specs.Rows.{scripts_of}
use Rattle.encoding.specs.Left.{scripts_left}
use Rattle.encoding.specs.Laid.{Answers}
use Rattle.encoding.proofs.Found.{scripts_few}
use Rattle.runner.specs.State.{told}
use Rattle.runner.proofs.Answering.{Settling, settling_none, settling_more, settling_all, script_next, scripts_all}
use Rattle.runner.proofs.settle.settle.Goals as goal

pub loop-i-init : goal.loop-i-init
loop-i-init c =
    let o = c.args in
    let scripts = scripts_of o.scripts.now in
    let same = c.into_iter-i-iterator.ensures.into_iter_gives in
    let none : c.into_iter-i-iterator.result.count ≡ 0 = ap (λ (s : Enumerate Scripts). s.count) same ∙ c.enumerate-i-items.ensures.count in
    let all : scripts_left c.into_iter-i-iterator.result.iter ≡ scripts =
    ap (λ (s : Enumerate Scripts). scripts_left s.iter) same ∙ ap scripts_left c.enumerate-i-items.ensures.source ∙ c.new.ensures
    in (
      (tt, tt, inl (omega (arith, none, ap length all, scripts_few o.scripts.now))),
      tt,
      refl,
      refl,
      omega (arith, none),
      all ∙ ap (λ (n : ℕ). drop n scripts) (sym none),
      λ t e. subst (λ (n : ℕ). Settling o.scripts.now o.places.now o.grants.now (λ k. told o.waited t (unwrap_or o.obtainer 0) o.status (script_at scripts k).task) n o.places.now o.grants.now) (sym none)
          (settling_none o.scripts.now o.places.now o.grants.now _),
    )

pub said-answer-requires : goal.said-answer-requires
said-answer-requires c =
    let turn = c.loop-i in
    let here = script_next (scripts_of c.args.scripts.now) (scripts_left turn.i-iterator.iter) turn.i-iterator.count turn.invariant.5 c.in-Some.ensures.steps.0 in
    let task = c.requires.1.tasks turn.i-iterator.count here.0 in
    (c.requires.0, omega (arith, task.0, here.1), omega (arith, task.1, here.1))

pub answered-requires : goal.answered-requires
answered-requires c =
    let turn = c.loop-i in
    let here = script_next (scripts_of c.args.scripts.now) (scripts_left turn.i-iterator.iter) turn.i-iterator.count turn.invariant.5 c.in-Some.ensures.steps.0 in
    omega (arith, here.0, c.in-Some.ensures.steps.1, c.requires.1.places)

pub loop-i-preserved : goal.loop-i-preserved
loop-i-preserved c =
    let o = c.args in
    let turn = c.loop-i in
    let next = c.in-Some.ensures.steps in
    let scripts = scripts_of o.scripts.now in
    let count : ℕ = turn.i-iterator.count in
    let here = script_next scripts (scripts_left turn.i-iterator.iter) count turn.invariant.5 next.0 in
    let told_at : ℕ → Tables → ℕ = λ q t. told o.waited t (unwrap_or o.obtainer 0) o.status q in
    let noted = subst (λ (k : ℕ). Answers turn.places turn.grants k c.in-Some.script.task c.said-answer.result c.answered.new.places c.answered.new.grants) next.1 c.answered.ensures in (
      (tt, tt, inl (omega (arith, next.2, ap length here.2, length-drop (count + 1) scripts, here.0, scripts_few o.scripts.now))),
      tt,
      omega (arith, c.answered.auto.places),
      omega (arith, c.answered.auto.grants),
      omega (arith, here.0, next.2),
      here.2 ∙ ap (λ (n : ℕ). drop n scripts) (sym next.2),
      λ t e. subst (λ (n : ℕ). Settling o.scripts.now o.places.now o.grants.now (λ k. told_at (script_at scripts k).task t) n c.answered.new.places c.answered.new.grants) (sym next.2)
          (settling_more o.scripts.now o.places.now o.grants.now _ count turn.places turn.grants here.0 (turn.invariant.6 t e)
          c.in-Some.script.task c.said-answer.result here.1 (c.said-answer.ensures t e ∙ ap (λ (q : ℕ). told_at q t) (sym here.1)) _ _ noted),
    )

pub returns : goal.returns
returns c =
    let o = c.args in
    let turn = c.loop-i in
    λ t e. settling_all o.scripts.now o.places.now o.grants.now _ turn.i-iterator.count turn.places turn.grants
    (scripts_all (scripts_of o.scripts.now) (scripts_left turn.i-iterator.iter) turn.i-iterator.count turn.invariant.5 c.in-None.ensures.steps.0.0) turn.invariant.4 (turn.invariant.6 t e)
