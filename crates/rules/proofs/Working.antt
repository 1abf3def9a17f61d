-- The working priority (request 8): the least number among a task's own and those of all tasks behind it, however long the chain.
use mathlib.Core.Path.{◌≡◌, refl, sym, subst, ◌∙◌}
use mathlib.Core.Bool.{Bool, true, false}
use mathlib.Core.Logic.{◌⊎◌, inl, inr, ⊎_elim}
use Prim.Native.Nat.{ℕ, zero, suc, ◌≤◌}
use native.Mathlib.Omega.{arith}
use native.Mathlib.Decide.{ℕ_discrete}
use lib.Dec.{leb, ltb}
use lib.ListN.{length}
use borrow.Author.Tests.{eqb-true, leb-true, ltb-true, ltb-false}
use Rattle.laws.specs.Choose.{◌and◌}
use Rattle.laws.proofs.Choose.{tested, and_both, if_yes, if_no, choose_cases}
use Rattle.rules.specs.Machine.{Tables, task_of, lends_to, lends, least_of, working_with}

-- ---- the least of some numbers

module _ (test : ℕ → Bool) (u : ℕ → ℕ) (p : ℕ) where
  pub least_most : (n : ℕ) → least_of test u p n ≤ p
  unfolding least_of
  least_most zero = omega arith
  least_most (suc n) =
      let rest = least_most n in
      choose_cases (λ (x : ℕ). x ≤ p) _ _ _ (λ e. let less = ltb-true (u (suc n)) _ (and_both _ _ e).1 in omega arith) (λ e. rest)

  -- one more number makes it no greater
  pub least_falls : (n : ℕ) → least_of test u p (suc n) ≤ least_of test u p n
  unfolding least_of
  least_falls n =
      choose_cases (λ (x : ℕ). x ≤ least_of test u p n) _ _ _ (λ e. let less = ltb-true (u (suc n)) _ (and_both _ _ e).1 in omega arith) (λ e. omega arith)

  pub least_here : (n : ℕ) → test (suc n) ≡ true → least_of test u p (suc n) ≤ u (suc n)
  unfolding least_of
  least_here n h =
      choose_cases (λ (x : ℕ). x ≤ u (suc n)) (test (suc n) and ltb (u (suc n)) (least_of test u p n)) _ _ (λ e. omega arith)
      (λ e. ltb-false (u (suc n)) (least_of test u p n) (sym (if_yes _ _ h) ∙ e))

  pub least_at : (n r : ℕ) → 1 ≤ r → r ≤ n → test r ≡ true → least_of test u p n ≤ u r
  least_at zero r l h e = absurd (omega arith)
  least_at (suc n) r l h e =
      elim (ℕ_discrete r (suc n)) [
        | yes s ↦ subst (λ (k : ℕ). least_of test u p (suc n) ≤ u k) (sym s) (least_here n (subst (λ (k : ℕ). test k ≡ true) s e))
        | no d ↦ omega (arith, least_falls n, least_at n r l (omega arith) e)
      ]

  -- whose number it is: p, or that of one that passes the test
  pub record Found (least : ℕ) : Type 0 where
    pub number : ℕ
    pub passes : test number ≡ true
    pub is : u number ≡ least

  pub least_is : (n : ℕ) → (least_of test u p n ≡ p) ⊎ Found (least_of test u p n)
  unfolding least_of
  least_is zero = inl refl
  least_is (suc n) =
      choose_cases (λ (x : ℕ). (x ≡ p) ⊎ Found x) _ _ _ (λ e. inr (record { number = suc n; passes = (and_both _ _ e).0; is = refl })) (λ e. least_is n)

  -- nobody passes the test
  pub least_alone : (n : ℕ) → ((r : ℕ) → 1 ≤ r → r ≤ n → test r ≡ false) → least_of test u p n ≡ p
  unfolding least_of
  least_alone zero f = refl
  least_alone (suc n) f = if_no _ _ (if_no _ _ (f (suc n) (omega arith) (omega arith))) ∙ least_alone n (λ r l h. f r l (omega arith))

-- ---- the working priority of a task

module _ (t : Tables) where
  -- it is at least as urgent as the task is by itself
  pub working_most : (links q : ℕ) → working_with t links q ≤ (task_of t q).priority
  unfolding working_with
  working_most zero q = omega arith
  working_most (suc links) q = least_most (lends t q) (working_with t links) (task_of t q).priority (length t.tasks)

  -- where nobody lends it is the task's own
  pub working_alone : ((r : ℕ) → 1 ≤ r → r ≤ length t.tasks → lends_to t r ≡ 0) → (links q : ℕ) → working_with t links q ≡ (task_of t q).priority
  unfolding working_with
  working_alone none zero q = refl
  working_alone none (suc links) q =
      least_alone (lends t q) (working_with t links) (task_of t q).priority (length t.tasks) (λ r l h. alone r (none r l h))
    where
      alone : (r : ℕ) → lends_to t r ≡ 0 → lends t q r ≡ false
      alone r e =
          ⊎_elim (λ (y : lends t q r ≡ true).
          let some : 1 ≤ q = leb-true 1 q (and_both (leb 1 q) _ y).0 in
          let same : lends_to t r ≡ q = eqb-true (lends_to t r) q (and_both (leb 1 q) _ y).1 in
          absurd (omega arith))
          (λ (n : lends t q r ≡ false). n) (tested (lends t q r))
