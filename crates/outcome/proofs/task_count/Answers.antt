-- `outcome::task_count` meets its contract.
use mathlib.Core.Path.{ap, ◌∙◌}
use Prim.Native.Nat.{ℕ, min}
use native.Mathlib.Omega.{arith}
use Rattle.outcome.proofs.Pairs.{tasks_least}
use Rattle.outcome.proofs.task_count.Goals as goal

pub returns : goal.returns
returns c = (c.min.ensures ∙ ap (λ (n : ℕ). min n 32) c.task_count.ensures ∙ tasks_least c.args.m.now, omega (arith, c.min.ensures))
