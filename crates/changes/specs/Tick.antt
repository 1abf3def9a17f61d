-- Where a task stands in the sequence; what a tick asks of the tables, and the flags of the tasks whose wait it ends.
use Rattle.std.specs.Prelude.{◌≡◌, Bool, false, List, [], ◌∷◌, map, ℕ, suc, ◌<◌, eqb, length, Option, Some, None}
use Rattle.laws.specs.Choose.{choose}
use Rattle.laws.specs.Rows.{fit}
use Rattle.rules.specs.Machine.{Tables, slot_of}
use Rattle.rules.specs.Calls.{expires}
use Rattle.semaphore.specs.Record.{TasksOnly}
use Rattle.tables.specs.Layout.{laid}
use Rattle.tables.specs.Sizes.{Limited}

-- the queue of the slot at i, counted from 0
abbrev pub waiters_in : Tables → ℕ → List ℕ
waiters_in t i = (slot_of t (suc i)).queue

-- bytes of tables within their limits, with numbers of tasks in their queues
pub record TaskQueues (bs : List ℕ) : Type 0 where
  pub model : Tables
  pub same : bs ≡ laid model
  pub limited : Limited model
  pub numbers : (i : ℕ) → i < length model.slots → TasksOnly (length (waiters_in model i)) (waiters_in model i)

-- where a task stands in a sequence, or the sequence's length
unfoldable pub place_in : ℕ → List ℕ → ℕ
place_in q [] = 0
place_in q (x ∷ xs) = let rest = place_in q xs in choose (eqb q x) 0 (suc rest)

-- a place that was found, or that there is none
abbrev pub FindsPlace : Option ℕ → ℕ → List ℕ → Type 0
FindsPlace (Some p) q qs = p ≡ place_in q qs
FindsPlace None q qs = place_in q qs ≡ length qs

-- of task q at q - 1, and false beyond the last task
unfoldable pub expiring : Tables → List Bool
expiring t = fit 32 false (map (λ v. expires v) t.tasks)

-- from task q on, the tasks with a flag, in task number order
unfoldable pub flagged : List Bool → ℕ → List ℕ
flagged [] q = []
flagged (b ∷ bs) q = let rest = flagged bs (suc q) in choose b (q ∷ rest) rest
