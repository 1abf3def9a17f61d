-- The next task, looked for along the sequence of ready tasks one place after another.
-- The invariant of such a look: what is left of the sequence, from the best so far, gives the next task.
use mathlib.Core.Path.{◌≡◌, refl, ◌∙◌}
use mathlib.Core.Bool.{Bool, true, false}
use mathlib.Core.List.{List, ◌∷◌}
use mathlib.Core.Logic.{⊎_elim}
use Prim.Native.Nat.{ℕ, pred, ◌+◌, ◌≤◌, ◌<◌}
use native.Mathlib.Numerals.{add-one}
use native.Mathlib.Omega.{arith}
use lib.Dec.{leb, ltb}
use lib.ListN.{length, get_or, drop}
use lib.Seq.{drop-cons, drop-length}
use borrow.Author.Tests.{leb-true}
use Rattle.laws.specs.Choose.{◌and◌}
use Rattle.laws.proofs.Choose.{and_both, tested, if_no}
use Rattle.rules.specs.Machine.{Tables, is_task, urgency, most_urgent, next}

abbrev pub UrgentFrom : Tables → ℕ → ℕ → ℕ → Type 0
UrgentFrom t k best p = most_urgent t (urgency t) (drop k t.ready) best p ≡ next t

module _ (t : Tables) where
  pub urgent_begun : UrgentFrom t 0 0 256
  unfolding next
  urgent_begun = refl

  module _ (k best p : ℕ) where
    -- one place more
    pub urgent_more : (q best' p' : ℕ) → k < length t.ready → q ≡ get_or t.ready k 0 → UrgentFrom t k best p
        → ((qs : List ℕ) → most_urgent t (urgency t) qs best' p' ≡ most_urgent t (urgency t) (q ∷ qs) best p) → UrgentFrom t (k + 1) best' p'
    urgent_more q best' p' h r e b = b (drop (k + 1) t.ready) ∙ rw (r, add-one, ← drop-cons t.ready k 0 h) e

    pub urgent_all : k ≡ length t.ready → UrgentFrom t k best p → best ≡ next t
    unfolding most_urgent
    urgent_all h e = rw (h, drop-length t.ready) at e

  module _ (u : ℕ → ℕ) (q best p : ℕ) where
    abbrev pub is_better : Bool
    is_better = is_task t q and ltb (u q) p

    -- a task that is no better leaves the best as it is
    pub passed_over : (is_better ≡ true → ⊥) → (qs : List ℕ) → most_urgent t u qs best p ≡ most_urgent t u (q ∷ qs) best p
    unfolding most_urgent
    passed_over n qs = rw (if_no q best no, if_no (u q) p no)
      where
        no : is_better ≡ false
        no = ⊎_elim (λ (e : is_better ≡ true). absurd (n e)) (λ (e : is_better ≡ false). e) (tested is_better)

    better_task : is_better ≡ true → (1 ≤ q) × (q ≤ length t.tasks)
    better_task e =
        let both = and_both (leb 1 q) _ (and_both (is_task t q) _ e).0 in
        (leb-true 1 q both.0, leb-true q _ both.1)

    -- and so does a number that is no task's: 0, or one whose record would lie beyond the tasks
    pub not_zero : q ≡ 0 → (qs : List ℕ) → most_urgent t u qs best p ≡ most_urgent t u (q ∷ qs) best p
    not_zero z = passed_over (λ e. omega (arith, (better_task e).0))

    pub not_beyond : length t.tasks ≤ pred q → (qs : List ℕ) → most_urgent t u qs best p ≡ most_urgent t u (q ∷ qs) best p
    not_beyond h = passed_over (λ e. omega (arith, (better_task e).0, (better_task e).1))
