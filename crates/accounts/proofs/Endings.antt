-- The endings of waits, taken from the tasks' answers before and after an event: how many of them are grants, and what a task's own ending is.
use mathlib.Core.Path.{◌≡◌, refl, sym, ap, ◌∙◌}
use mathlib.Core.Bool.{Bool, true, false}
use mathlib.Core.List.{List}
use mathlib.Core.Logic.{⊎_elim}
use Prim.Native.Nat.{ℕ, zero, suc, ◌+◌, ◌≤◌, ◌<◌}
use native.Mathlib.Omega.{arith}
use native.Mathlib.Decide.{ℕ_discrete}
use lib.Dec.{eqb}
use borrow.Author.Tests.{eqb-true, eq-eqb, ne_eqb}
use Rattle.laws.specs.Choose.{choose, bit, ◌and◌, isnt}
use Rattle.laws.proofs.Choose.{tested, never, if_yes, if_no, and_both, both_and, false_isnt, choose_cases}
use Rattle.rules.proofs.Invariants.Lists.{bit_no}
use Rattle.accounts.specs.History.{Ending, endings_from}
use Rattle.accounts.specs.Accounts.{granted}
use Rattle.accounts.specs.Turns.{ending_of}

-- a test whose second part fails
pub second_no : (a b : Bool) → b ≡ false → (a and b) ≡ false
second_no a b n = choose_cases (λ (z : Bool). z ≡ false) a b false (λ e. n) (λ e. refl)

module _ (before after : ℕ → ℕ) where
  abbrev ends : ℕ → Bool
  ends q = eqb (before q) 100 and isnt (eqb (after q) 100)

  module _ (id : ℕ) (on : ℕ → ℕ) where
    abbrev grants : ℕ → Bool
    grants q = eqb (on q) id and eqb (after q) 0

    abbrev all : ℕ → ℕ → ℕ
    all n q = granted id on (endings_from n q before after)

    -- the first of the tasks, where its wait did not end with 0
    granted_other : (n q : ℕ) → (before q ≡ 100 → after q ≡ 0 → ⊥) → all (suc n) q ≡ all n (suc q)
    unfolding endings_from granted
    granted_other n q f =
        choose_cases (λ (ws : List Ending). granted id on ws ≡ all n (suc q)) (ends q) _ _
        (λ e.
        let was : before q ≡ 100 = eqb-true (before q) 100 (and_both _ _ e).0 in
        let none : grants q ≡ false = second_no (eqb (on q) id) _ (ne_eqb (after q) 0 (f was)) in
        omega (arith, bit_no _ none)) (λ e. refl)

    -- no wait ended with 0: nothing is granted
    pub granted_none : (n q : ℕ) → ((x : ℕ) → q ≤ x → before x ≡ 100 → after x ≡ 0 → ⊥) → all n q ≡ 0
    unfolding endings_from granted
    granted_none zero q f = refl
    granted_none (suc n) q f = granted_other n q (f q (omega arith)) ∙ granted_none n (suc q) (λ x l. f x (omega arith))

    -- one wait ended with 0: it is granted if it was on the identifier
    pub granted_one : (w n q : ℕ) → q ≤ w → w < q + n → before w ≡ 100 → after w ≡ 0
        → ((x : ℕ) → q ≤ x → before x ≡ 100 → after x ≡ 0 → x ≡ w) → all n q ≡ bit (eqb (on w) id)
    unfolding endings_from granted
    granted_one w zero q l h b a only = absurd (omega arith)
    granted_one w (suc n) q l h b a only =
        elim (ℕ_discrete q w) [
          | yes e ↦ subst_here (sym e)
          | no d ↦ granted_other n q (λ x y. d (only q (omega arith) x y))
              ∙ granted_one w n (suc q) (omega arith) (omega arith) b a (λ x g. only x (omega arith))
        ]
      where
        ended : ends w ≡ true
        ended = both_and (eq-eqb (before w) 100 b) (false_isnt _ (ne_eqb (after w) 100 (λ z. omega arith)))

        here : all (suc n) w ≡ bit (eqb (on w) id)
        here =
            let none : all n (suc w) ≡ 0 = granted_none n (suc w) (λ x g y z. let s = only x (omega arith) y z in omega arith) in
            let same : grants w ≡ eqb (on w) id =
            choose_cases (λ (z : Bool). z ≡ eqb (on w) id) (eqb (on w) id) (eqb (after w) 0) false (λ y. eq-eqb (after w) 0 a ∙ sym y) (λ y. sym y) in
            ap (granted id on) (if_yes _ _ ended) ∙ omega (arith, none, ap (λ (z : Bool). bit z) same)

        subst_here : w ≡ q → all (suc n) q ≡ bit (eqb (on w) id)
        subst_here e = ap (λ (x : ℕ). all (suc n) x) (sym e) ∙ here

  -- who stands before the first is not among them
  ending_below : (w n q : ℕ) → w < q → ending_of w (endings_from n q before after) ≡ 100
  unfolding endings_from ending_of
  ending_below w zero q l = refl
  ending_below w (suc n) q l =
      let rest = ending_below w n (suc q) (omega arith) in
      choose_cases (λ (ws : List Ending). ending_of w ws ≡ 100) (ends q) _ _ (λ e. if_no _ _ (ne_eqb q w (λ z. omega arith)) ∙ rest) (λ e. rest)

  -- the ending of a task that waited is its answer, of another none
  pub ending_is : (w n q : ℕ) → q ≤ w → w < q + n → ending_of w (endings_from n q before after) ≡ choose (eqb (before w) 100) (after w) 100
  unfolding endings_from ending_of
  ending_is w zero q l h = absurd (omega arith)
  ending_is w (suc n) q l h =
      elim (ℕ_discrete q w) [
        | yes e ↦ ap (λ (x : ℕ). ending_of w (endings_from (suc n) x before after)) e ∙ here
        | no d ↦
            let rest = ending_is w n (suc q) (omega arith) (omega arith) in
            choose_cases (λ (ws : List Ending). ending_of w ws ≡ choose (eqb (before w) 100) (after w) 100) (ends q) _ _
            (λ e. if_no _ _ (ne_eqb q w d) ∙ rest) (λ e. rest)
      ]
    where
      none : ends w ≡ false → choose (eqb (before w) 100) (after w) 100 ≡ 100
      none e =
          choose_cases (λ (a : ℕ). a ≡ 100) (eqb (before w) 100) (after w) 100
          (λ y. ⊎_elim (λ (z : eqb (after w) 100 ≡ true). eqb-true (after w) 100 z)
          (λ (z : eqb (after w) 100 ≡ false). never (both_and y (false_isnt _ z)) e) (tested (eqb (after w) 100)))
          (λ y. refl)

      here : ending_of w (endings_from (suc n) w before after) ≡ choose (eqb (before w) 100) (after w) 100
      here =
          choose_cases (λ (ws : List Ending). ending_of w ws ≡ choose (eqb (before w) 100) (after w) 100) (ends w) _ _
          (λ e. if_yes _ _ (eq-eqb w w refl) ∙ sym (if_yes _ _ (and_both _ _ e).0))
          (λ e. ending_below w n (suc w) (omega arith) ∙ sym (none e))

-- the endings are those of any other answers that are the same of these tasks
pub endings_same : (before after before' after' : ℕ → ℕ) (n q : ℕ) → ((x : ℕ) → q ≤ x → before x ≡ before' x) → ((x : ℕ) → q ≤ x → after x ≡ after' x)
    → endings_from n q before after ≡ endings_from n q before' after'
unfolding endings_from
endings_same before after before' after' zero q f g = refl
endings_same before after before' after' (suc n) q f g =
    let b : before q ≡ before' q = f q (omega arith) in
    let a : after q ≡ after' q = g q (omega arith) in
    let rest = endings_same before after before' after' n (suc q) (λ x l. f x (omega arith)) (λ x l. g x (omega arith)) in
    cc
