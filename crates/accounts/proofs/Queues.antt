-- The place of a task in a queue: after a tick, after another has joined at the rear, and after the first has left.
use mathlib.Core.Path.{◌≡◌, refl, sym, subst}
use mathlib.Core.Bool.{false}
use mathlib.Core.List.{List, [], ◌∷◌, ◌++◌}
use Prim.Native.Nat.{ℕ, zero, suc, pred, ◌≤◌, ◌<◌}
use native.Mathlib.Omega.{arith}
use native.Mathlib.Nat.{not-suc-le-zero}
use lib.ListN.{length, get_or, drop}
use Rattle.laws.proofs.Choose.{if_no, choose_cases}
use Rattle.rules.specs.Machine.{Tables, task_of}
use Rattle.rules.specs.Calls.{expires, still_waiting}

-- task q stands in the queue, with at most k ahead
pub record Stands (k q : ℕ) (queue : List ℕ) : Type 0 where
  pub place : ℕ
  pub most : place ≤ k
  pub inside : place < length queue
  pub here : get_or queue place 0 ≡ q

-- a tick takes nobody's place but of those whose wait it ends
pub stands_still : (t : Tables) (qs : List ℕ) (k q : ℕ) → k < length qs → get_or qs k 0 ≡ q → expires (task_of t q) ≡ false → Stands k q (still_waiting t qs)
unfolding still_waiting
stands_still t [] k q h e n = absurd (not-suc-le-zero h)
stands_still t (x ∷ xs) zero q h e n =
    subst (Stands 0 q) (sym (if_no _ _ (subst (λ (y : ℕ). expires (task_of t y) ≡ false) (sym e) n)))
    (record { place = 0; most = omega arith; inside = omega arith; here = e })
stands_still t (x ∷ xs) (suc k) q h e n =
    let s : Stands k q (still_waiting t xs) = stands_still t xs k q (omega arith) e n in
    choose_cases (Stands (suc k) q) (expires (task_of t x)) (still_waiting t xs) (x ∷ still_waiting t xs)
    (λ y. record { place = s.place; most = omega (arith, s.most); inside = s.inside; here = s.here })
    (λ y. record { place = suc s.place; most = omega (arith, s.most); inside = omega (arith, s.inside); here = s.here })

-- who joins at the rear is ahead of nobody
pub rear_others : (c : ℕ) (qs : List ℕ) (k : ℕ) → k < length qs
    → (k < length (qs ++ c ∷ [])) × (get_or (qs ++ c ∷ []) k 0 ≡ get_or qs k 0)
rear_others c [] k h = absurd (not-suc-le-zero h)
rear_others c (x ∷ xs) zero h = (omega arith, refl)
rear_others c (x ∷ xs) (suc k) h = let r = rear_others c xs k (omega arith) in (omega (arith, r.0), r.1)

-- and has all ahead
pub rear_last : (c : ℕ) (qs : List ℕ)
    → (length qs < length (qs ++ c ∷ [])) × (get_or (qs ++ c ∷ []) (length qs) 0 ≡ c)
rear_last c [] = (omega arith, refl)
rear_last c (x ∷ xs) = let r = rear_last c xs in (omega (arith, r.0), r.1)

-- the first leaves: each of the others has one less ahead
pub first_left : (qs : List ℕ) (k : ℕ) → 1 ≤ k → k < length qs → (pred k < length (drop 1 qs)) × (get_or (drop 1 qs) (pred k) 0 ≡ get_or qs k 0)
first_left [] k l h = absurd (not-suc-le-zero h)
first_left (x ∷ xs) zero l h = absurd (not-suc-le-zero l)
first_left (x ∷ xs) (suc k) l h = (omega arith, refl)
