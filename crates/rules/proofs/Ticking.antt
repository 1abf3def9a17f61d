-- The order in which a queue is served (request 8), and a tick: the tasks whose wait ends leave it, and the others keep their order.
use mathlib.Core.Path.{◌≡◌, refl, sym, ap, ◌∙◌}
use mathlib.Core.Bool.{true, false}
use mathlib.Core.List.{List, [], ◌∷◌}
use mathlib.Core.Logic.{⊎_elim}
use Prim.Native.Nat.{ℕ, zero, suc, ◌≤◌, ◌<◌}
use native.Mathlib.Omega.{arith}
use lib.Dec.{leb}
use borrow.Author.Tests.{leb-true, leb-false}
use Rattle.laws.specs.Choose.{choose}
use Rattle.laws.proofs.Choose.{tested, if_yes, if_no, choose_cases, choose_map}
use Rattle.rules.specs.Numbers.{by_priority}
use Rattle.rules.specs.Machine.{Slot, Tables, task_of}
use Rattle.rules.specs.Semaphore.{ahead, insert_at, arranged, serving_order}
use Rattle.rules.proofs.Serving as serving
use Rattle.rules.specs.Calls.{expires, still_waiting, ticked_slot}

module _ (u : ℕ → ℕ) where
  -- a task put behind all of an equal or lesser number
  abbrev placed : ℕ → List ℕ → List ℕ
  placed q xs = insert_at (ahead u (u q) xs) q xs

  -- ---- the numbers of a list go up, from at least low on

  abbrev Ascending : ℕ → List ℕ → Type 0
  Ascending low [] = Unit {0}
  Ascending low (x ∷ xs) = (low ≤ u x) × Ascending (u x) xs

  ascending_lower : (low high : ℕ) (xs : List ℕ) → low ≤ high → Ascending high xs → Ascending low xs
  ascending_lower low high [] h a = tt
  ascending_lower low high (x ∷ xs) h a = (omega (arith, a.0), a.1)

  ascending_placed : (q low : ℕ) (xs : List ℕ) → low ≤ u q → Ascending low xs → Ascending low (placed q xs)
  unfolding ahead
  ascending_placed q low [] h a = (h, tt)
  ascending_placed q low (x ∷ xs) h a =
      choose_cases (λ (k : ℕ). Ascending low (insert_at k q (x ∷ xs))) (leb (u x) (u q)) (suc (ahead u (u q) xs)) 0
      (λ e. (a.0, ascending_placed q (u x) xs (leb-true (u x) (u q) e) a.1))
      (λ e. (h, (omega (arith, leb-false (u x) (u q) e), a.1)))

  -- of a lesser number than all
  placed_first : (q low : ℕ) (xs : List ℕ) → u q < low → Ascending low xs → placed q xs ≡ q ∷ xs
  unfolding ahead
  placed_first q low [] h a = refl
  placed_first q low (x ∷ xs) h a = serving.before_head u q x xs (omega (arith, a.0))

  module _ (t : Tables) where
    ascending_still : (low : ℕ) (xs : List ℕ) → Ascending low xs → Ascending low (still_waiting t xs)
    unfolding still_waiting
    ascending_still low [] a = tt
    ascending_still low (x ∷ xs) a =
        let rest = ascending_still (u x) xs a.1 in
        choose_cases (Ascending low) (expires (task_of t x)) (still_waiting t xs) (x ∷ still_waiting t xs)
        (λ e. ascending_lower low (u x) (still_waiting t xs) a.0 rest) (λ e. (a.0, rest))

    -- ---- a tick after a task is put in its place

    -- a task whose wait ends is gone from any place
    inserted_gone : (q k : ℕ) (xs : List ℕ) → expires (task_of t q) ≡ true → still_waiting t (insert_at k q xs) ≡ still_waiting t xs
    unfolding still_waiting
    inserted_gone q zero xs y = if_yes _ _ y
    inserted_gone q (suc k) [] y = if_yes _ _ y
    inserted_gone q (suc k) (x ∷ xs) y = ap (λ (l : List ℕ). choose (expires (task_of t x)) l (x ∷ l)) (inserted_gone q k xs y)

    -- a task that waits on has the same place among those that wait on
    placed_stays : (q low : ℕ) (xs : List ℕ) → expires (task_of t q) ≡ false → Ascending low xs
        → still_waiting t (placed q xs) ≡ placed q (still_waiting t xs)
    unfolding still_waiting ahead
    placed_stays q low [] n a = if_no _ _ n
    placed_stays q low (x ∷ xs) n a =
        ⊎_elim
        (λ (e : leb (u x) (u q) ≡ true).
        let h = leb-true (u x) (u q) e in
        ap (still_waiting t) (serving.behind_head u q x xs h)
        ∙ ap (λ (l : List ℕ). choose (expires (task_of t x)) l (x ∷ l)) (placed_stays q (u x) xs n a.1)
        ∙ sym (choose_map (placed q) (expires (task_of t x)) (still_waiting t xs) (x ∷ still_waiting t xs)
        ∙ ap (choose (expires (task_of t x)) (placed q (still_waiting t xs))) (serving.behind_head u q x (still_waiting t xs) h)))
        (λ (e : leb (u x) (u q) ≡ false).
        let h = leb-false (u x) (u q) e in
        ap (still_waiting t) (serving.before_head u q x xs h) ∙ if_no _ _ n
        ∙ sym (placed_first q (u x) (still_waiting t (x ∷ xs)) h (ascending_still (u x) (x ∷ xs) (omega arith, a.1))))
        (tested (leb (u x) (u q)))

    -- so of a whole queue
    arranged_ticked : (before qs : List ℕ) → Ascending 0 before → arranged u (still_waiting t before) (still_waiting t qs) ≡ still_waiting t (arranged u before qs)
    unfolding arranged still_waiting
    arranged_ticked before [] a = refl
    arranged_ticked before (q ∷ qs) a =
        let rest = arranged_ticked (placed q before) qs (ascending_placed q 0 before (omega arith) a) in
        ⊎_elim
        (λ (y : expires (task_of t q) ≡ true). ap (arranged u (still_waiting t before)) (if_yes _ _ y)
        ∙ ap (λ (l : List ℕ). arranged u l (still_waiting t qs)) (sym (inserted_gone q (ahead u (u q) before) before y)) ∙ rest)
        (λ (n : expires (task_of t q) ≡ false). ap (arranged u (still_waiting t before)) (if_no _ _ n)
        ∙ ap (λ (l : List ℕ). arranged u l (still_waiting t qs)) (sym (placed_stays q 0 before n a)) ∙ rest)
        (tested (expires (task_of t q)))

-- a tick takes the tasks whose wait it ends out of the order of serving, and changes nothing else in it
pub order_ticked : (u : ℕ → ℕ) (t : Tables) (s : Slot) → serving_order u (ticked_slot t s) ≡ still_waiting t (serving_order u s)
unfolding serving_order ticked_slot still_waiting
order_ticked u t s =
    ⊎_elim
    (λ (y : by_priority s.attributes ≡ true). if_yes _ _ y ∙ arranged_ticked u t [] s.queue tt ∙ sym (ap (still_waiting t) (if_yes _ _ y)))
    (λ (n : by_priority s.attributes ≡ false). if_no _ _ n ∙ sym (ap (still_waiting t) (if_no _ _ n)))
    (tested (by_priority s.attributes))
