-- What a turn of the loop of `mast_next_task` begins with: what is left of the sequence, from the best so far, gives the next task.
use mathlib.Core.Path.{◌≡◌, ◌∙◌}
use mathlib.Core.List.{List, ◌∷◌}
use Prim.Native.Nat.{ℕ, ◌+◌, ◌≤◌, ◌<◌}
use native.Mathlib.Numerals.{add-one}
use native.Mathlib.Omega.{arith}
use lib.ListN.{length, get_or, drop}
use lib.Seq.{drop-cons, drop-length}
use Rattle.rules.specs.declared.Task.{Task}
use Rattle.rules.specs.Machine.{unstarted, with_tasks, most_urgent}
use Rattle.records.specs.Beside.{goes_by, next_of}

module _ (ts : List Task) (rs ws : List ℕ) where
  -- the look along a sequence of tasks, by the numbers that they go by
  abbrev pub along : List ℕ → ℕ → ℕ → ℕ
  along = most_urgent (with_tasks unstarted ts) (goes_by ts ws)

  -- what is left of the sequence behind k places, from the best so far, gives the next task
  abbrev pub UrgentFrom : ℕ → ℕ → ℕ → Type 0
  UrgentFrom k best p = along (drop k rs) best p ≡ next_of ts rs ws

  -- one place more
  pub urgent_more : (k best p q best' p' : ℕ) → k < length rs → q ≡ get_or rs k 0 → UrgentFrom k best p
      → ((qs : List ℕ) → along qs best' p' ≡ along (q ∷ qs) best p) → UrgentFrom (k + 1) best' p'
  urgent_more k best p q best' p' h r e b = b (drop (k + 1) rs) ∙ rw (r, add-one, ← drop-cons rs k 0 h) e

  -- after the last turn
  pub all_seen : (k best p : ℕ) → k ≤ length rs → length rs ≤ k → UrgentFrom k best p → best ≡ next_of ts rs ws
  unfolding most_urgent
  all_seen k best p h h' e = let all : k ≡ length rs = omega arith in rw (all, drop-length rs) at e
