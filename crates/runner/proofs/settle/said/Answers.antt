-- `runner::settle::said` meets its contract.
use Rattle.std.proofs.Common.{ℕ, sym, ap, ◌∙◌, arith}
use Rattle.std.specs.Prelude.{Option, unwrap_or}
use Rattle.rules.specs.declared.Task.{Task}
use Rattle.tables.proofs.LayoutRead.{task_numbered}
use Rattle.runner.proofs.Telling.{told_ended, told_own, told_none}
use Rattle.runner.proofs.settle.said.Goals as goal

pub returns-then-waited-i : goal.returns-then-waited-i
returns-then-waited-i c =
    let first = c.args in
    let read = task_numbered first.m.now in
    λ t e. told_ended first.waited t (unwrap_or first.obtainer 0) first.status first.q _ (omega arith) c.if-waited-i.true _ (ap (λ (v : Task). v.answer) (c.load_task.ensures ∙ read t first.q (λ k. omega (arith, c.type_inv.m k)) e (omega arith) (omega arith)))

pub returns-in-Some : goal.returns-in-Some
returns-in-Some c =
    let first = c.args in
    λ t e. told_own first.waited t (unwrap_or first.obtainer 0) first.status first.q _ (omega arith) c.if-waited-i.false (ap (λ (o : Option ℕ). unwrap_or o 0) c.in-Some.is ∙ c.if-caller-q.true)

pub returns-in_default : goal.returns-in_default
returns-in_default c =
    let first = c.args in
    λ t e. told_none first.waited t (unwrap_or first.obtainer 0) first.status first.q _ (omega arith) c.if-waited-i.false (λ z. c.if-caller-q.false (sym (ap (λ (o : Option ℕ). unwrap_or o 0) c.in-Some.is) ∙ z))

pub returns-in_default-2 : goal.returns-in_default-2
returns-in_default-2 c =
    let first = c.args in
    λ t e. told_none first.waited t (unwrap_or first.obtainer 0) first.status first.q _ (omega arith) c.if-waited-i.false
    (λ z. omega (arith, z, ap (λ (o : Option ℕ). unwrap_or o 0) c.in_default.is))
