use Rattle.std.proofs.Common.{ℕ, eqb, ap, ◌∙◌}
use Rattle.tables.specs.View.{seen}
use Rattle.refusals.proofs.Guards.{ok_status, ready_task}
use Rattle.refusals.proofs.tests.is_ready.Goals as goal

pub returns : goal.returns
returns c = c.is_ok.ensures.value ∙ ok_status c.task_only.result ∙ ap (λ (n : ℕ). eqb n 0) c.task_only.ensures ∙ ready_task (seen c.args.v) c.args.q
