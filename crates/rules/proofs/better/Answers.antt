-- `rules::better` meets its contract: the task passed over leaves the best as it is, the better one takes its place.
use mathlib.Core.Path.{◌≡◌}
use mathlib.Core.Bool.{true}
use mathlib.Core.List.{List, ◌∷◌}
use Prim.Native.Nat.{ℕ, ◌≤◌, ◌<◌}
use native.Mathlib.Omega.{arith}
use lib.Dec.{ltb}
use lib.ListN.{length}
use borrow.Author.Tests.{ltb-true, lt-ltb, le-leb}
use Rattle.laws.proofs.Choose.{and_both, both_and, if_yes}
use Rattle.rules.specs.Machine.{Tables, is_task, most_urgent}
use Rattle.rules.proofs.Choosing.{is_better, passed_over, not_zero, not_beyond}
use Rattle.rules.proofs.better.Goals as goal
use Rattle.rules.proofs.better.Goals.{then-q-eq0-via-then-q-eq0, then-q-eq0-via-else-q-eq0+then-tasks-q, then-q-eq0-via-else-q-eq0+else-tasks-q+then-best-priority}

module _ (t : Tables) (u : ℕ → ℕ) (q best p : ℕ) (qs : List ℕ) (x : ℕ) (is : is_task t q ≡ true → u q ≡ x) where
  no_better : p ≤ x → most_urgent t u qs best p ≡ most_urgent t u (q ∷ qs) best p
  no_better h =
      passed_over t u q best p (λ e. let both = and_both (is_task t q) (ltb (u q) p) e in
      let less : u q < p = ltb-true (u q) p both.1 in omega (arith, is both.0)) qs

  is_better_lem : 1 ≤ q → q ≤ length t.tasks → x < p → most_urgent t u qs q x ≡ most_urgent t u (q ∷ qs) best p
  unfolding most_urgent
  is_better_lem low high less = rw (if_yes q best yes, if_yes (u q) p yes, is task)
    where
      task : is_task t q ≡ true
      task = both_and (le-leb 1 q low) (le-leb q (length t.tasks) high)

      yes : is_better t u q best p ≡ true
      yes = both_and task (lt-ltb (u q) p (omega (arith, is task)))

pub returns-then-q-eq0 : goal.returns-then-q-eq0
returns-then-q-eq0 c = λ t u qs n e.
    elim c.then-q-eq0.branch [
      | then-q-eq0-via-then-q-eq0 w ↦ not_zero t u _ _ _ (omega arith) qs
      | then-q-eq0-via-else-q-eq0+then-tasks-q w ↦ not_beyond t u _ _ _ (omega arith) qs
      | then-q-eq0-via-else-q-eq0+else-tasks-q+then-best-priority w ↦ no_better t u _ _ _ qs _ e (omega arith)
    ]

pub returns : goal.returns
returns c = λ t u qs n e. is_better_lem t u _ _ _ qs _ e (omega arith) (omega arith) (omega arith)
