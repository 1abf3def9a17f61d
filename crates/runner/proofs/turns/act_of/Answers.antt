-- `runner::turns::act_of` meets its contract: nothing while the task waits or where its script ends, else what its section says.
use Rattle.std.proofs.Common.{sym, ap, ◌∙◌, arith}
use Rattle.rules.specs.declared.Task.{Task}
use Rattle.rules.specs.Machine.{waits}
use Rattle.tables.proofs.LayoutRead.{task_numbered}
use Rattle.encoding.specs.Left.{script_from}
use Rattle.encoding.specs.Laid.{place_of}
use Rattle.runner.proofs.Turning.{doing_waits, doing_done, doing_in_lem, inside, outside}
use Rattle.runner.proofs.turns.act_of.Goals as goal

pub returns-then-is_waiting : goal.returns-then-is_waiting
returns-then-is_waiting c =
    let o = c.args in
    λ t e count.
    let v = c.load_task-v.ensures ∙ task_numbered o.m.now t o.q (λ k. omega (arith, c.type_inv.m k)) e (omega arith) (omega arith) in
    let w = sym (ap (λ (x : Task). waits x) v) ∙ sym c.is_waiting.ensures ∙ c.if-is_waiting.true in
    doing_waits t o.q (script_from o.script).sections (place_of o.place) w

pub returns-in_err-section : goal.returns-in_err-section
returns-in_err-section c =
    let o = c.args in
    λ t e count.
    let last = outside (script_from o.script).sections o.place.section c.section.result c.section.ensures c.in_err-section.was in
    rw c.from_residual.ensures (doing_done t o.q (script_from o.script).sections (place_of o.place) last)

pub returns : goal.returns
returns c =
    let o = c.args in
    λ t e count.
    let v = c.load_task-v.ensures ∙ task_numbered o.m.now t o.q (λ k. omega (arith, c.type_inv.m k)) e (omega arith) (omega arith) in
    let w = sym (ap (λ (x : Task). waits x) v) ∙ sym c.is_waiting.ensures ∙ c.if-is_waiting.false in
    let s = inside (script_from o.script).sections o.place.section c.section.result c.section.ensures c.in_ok-section.section c.in_ok-section.was count in
    doing_in_lem t o.q (script_from o.script).sections (place_of o.place) w s.within _ s.is _ (c.act_in.ensures s.low s.short)
