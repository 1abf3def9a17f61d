-- What `mast_next_task` promises is what the core answers, where the working priorities beside the records are those of the tables.
use mathlib.Core.Path.{◌≡◌, refl}
use mathlib.Core.Bool.{true, false}
use mathlib.Core.List.{List, [], ◌∷◌}
use mathlib.Core.Logic.{⊎_elim}
use Prim.Native.Nat.{ℕ, suc}
use Rattle.laws.specs.Choose.{choose}
use Rattle.laws.proofs.Choose.{tested}
use Rattle.rules.specs.Numbers.{max_priority}
use Rattle.rules.specs.Machine.{Tables, unstarted, with_tasks, task_of, is_task, urgency, most_urgent, next}
use Rattle.records.specs.Beside.{goes_by, next_of}

-- of the tables themselves the look along a sequence reads but how many tasks there are, and of the numbers those of the tasks
tasks_alone : (t : Tables) (u u' : ℕ → ℕ) → ((q : ℕ) → is_task t q ≡ true → u q ≡ u' q) → (qs : List ℕ) (best p : ℕ)
    → most_urgent (with_tasks unstarted t.tasks) u qs best p ≡ most_urgent t u' qs best p
unfolding most_urgent choose
tasks_alone t u u' alike [] best p = refl
tasks_alone t u u' alike (q ∷ qs) best p =
    ⊎_elim (λ (e : is_task t q ≡ true). rw (alike q e) (tasks_alone t u u' alike qs _ _))
    (λ (e : is_task t q ≡ false). rw e (tasks_alone t u u' alike qs best p)) (tested (is_task t q))

pub as_the_core : (t : Tables) (working : List ℕ) → ((q : ℕ) → is_task t q ≡ true → goes_by t.tasks working q ≡ urgency t q)
    → next_of t.tasks t.ready working ≡ next t
unfolding next_of next
as_the_core t working alike = tasks_alone t (goes_by t.tasks working) (urgency t) alike t.ready 0 (suc max_priority)

-- without working priorities a task goes by its own
pub own_priorities : (t : Tables) → next_of t.tasks t.ready [] ≡ most_urgent t (λ q. (task_of t q).priority) t.ready 0 (suc max_priority)
unfolding next_of
own_priorities t = tasks_alone t _ _ (λ q e. refl) t.ready 0 (suc max_priority)
