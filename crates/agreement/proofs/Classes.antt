-- The test of a semaphore's numbers by its class, which is looked at once, is that of the clauses on owners and on maxima.
use mathlib.Core.Path.{◌≡◌, sym, subst, ◌∙◌}
use mathlib.Core.Bool.{Bool, true, false}
use mathlib.Core.List.{[]}
use mathlib.Core.Logic.{⊎_elim}
use Prim.Native.Nat.{ℕ, ◌≤◌}
use native.Mathlib.Omega.{arith}
use lib.Dec.{leb, eqb}
use borrow.Author.Tests.{leb-true, eqb-true, eq-eqb, le-leb}
use Rattle.laws.specs.Choose.{choose, ◌and◌, ◌or◌}
use Rattle.laws.proofs.Choose.{tested, if_yes, if_no, and_both, both_and, or_either, or_first, or_second, choose_cases, then_when}
use Rattle.rules.specs.Numbers.{max_number, is_binary, is_simple, class_maximum}
use Rattle.rules.specs.Machine.{Slot}
use Rattle.rules.specs.Semaphore.{requeued}
use Rattle.rules.specs.Agreement.{is_binary_right, is_other_right, is_maximum_right}
use Rattle.agreement.specs.Tests.{other_agrees, class_agrees}

module _ (N : ℕ) (s : Slot) where
  abbrev a : ℕ
  a = s.attributes

  -- a maximum of 1, and a count at most that
  one_right : s.maximum ≡ 1 → s.count ≤ 1 → is_maximum_right s ≡ true
  one_right m c =
      let least : 1 ≤ class_maximum a = choose_cases (λ (n : ℕ). 1 ≤ n) (is_binary a or is_simple a) 1 max_number (λ e. omega arith) (λ e. omega arith) in
      both_and (both_and (le-leb 1 s.maximum (omega arith)) (le-leb s.maximum (class_maximum a) (omega arith)))
      (le-leb s.count s.maximum (omega arith))

  -- both binary classes have the maximum 1
  right_one : (is_binary a or is_simple a) ≡ true → is_maximum_right s ≡ true → (s.maximum ≡ 1) × (s.count ≤ 1)
  right_one e r =
      let p = and_both _ _ r in
      let w = and_both _ _ p.0 in
      let least : 1 ≤ s.maximum = leb-true _ _ w.0 in
      let most : s.maximum ≤ 1 = subst (λ (n : ℕ). s.maximum ≤ n) (if_yes _ _ e) (leb-true _ _ w.1) in
      let below : s.count ≤ s.maximum = leb-true _ _ p.1 in
      (omega arith, omega arith)

  module _ (e : class_agrees N s ≡ true) where
    binary : is_binary a ≡ true → (eqb s.maximum 1 and is_binary_right N (requeued s [])) ≡ true
    binary b = sym (if_yes _ _ b) ∙ e

    other : is_binary a ≡ false → other_agrees s ≡ true
    other b = sym (if_no _ _ b) ∙ e

    last : is_binary a ≡ false → choose (is_simple a) (eqb s.maximum 1 and leb s.count 1) (leb 1 s.maximum and leb s.count s.maximum) ≡ true
    last b = (and_both _ _ (and_both _ _ (other b)).1).1

    simple : is_binary a ≡ false → is_simple a ≡ true → (eqb s.maximum 1 and leb s.count 1) ≡ true
    simple b c = sym (if_yes _ _ c) ∙ last b

    pub class_owned : is_binary a ≡ true → is_binary_right N (requeued s []) ≡ true
    class_owned b = (and_both _ _ (binary b)).1

    pub class_other : is_binary a ≡ false → is_other_right s ≡ true
    class_other b =
        let p = and_both _ _ (other b) in
        both_and p.0 (both_and (and_both _ _ p.1).0 (then_when _ _ (λ c. (and_both _ _ (simple b c)).1)))

    pub class_maximum_lem : s.maximum ≤ max_number → is_maximum_right s ≡ true
    class_maximum_lem narrow = ⊎_elim owned (λ b. ⊎_elim (of_simple b) (of_counting b) (tested (is_simple a))) (tested (is_binary a))
      where
        owned : is_binary a ≡ true → is_maximum_right s ≡ true
        owned b =
            let p = and_both _ _ (binary b) in
            let few : s.count ≤ 1 =
            ⊎_elim (λ (x : (eqb s.count 1 and eqb s.owner 0 and eqb s.nest 0) ≡ true). omega (arith, eqb-true s.count 1 (and_both _ _ x).0))
            (λ x. omega (arith, eqb-true s.count 0 (and_both _ _ x).0)) (or_either _ _ p.1)
            in
            one_right (eqb-true _ _ p.0) few

        of_simple : is_binary a ≡ false → is_simple a ≡ true → is_maximum_right s ≡ true
        of_simple b c = let p = and_both _ _ (simple b c) in one_right (eqb-true _ _ p.0) (leb-true _ _ p.1)

        of_counting : is_binary a ≡ false → is_simple a ≡ false → is_maximum_right s ≡ true
        of_counting b c =
            let p = and_both _ _ (sym (if_no _ _ c) ∙ last b) in
            both_and (both_and p.0 (subst (λ (n : ℕ). leb s.maximum n ≡ true) (sym (if_no _ _ (if_no _ _ b ∙ c))) (le-leb _ _ narrow))) p.1

  pub class_agrees_lem : (is_binary a ≡ true → is_binary_right N (requeued s []) ≡ true) → (is_binary a ≡ false → is_other_right s ≡ true) → is_maximum_right s ≡ true
      → class_agrees N s ≡ true
  class_agrees_lem owned unowned right =
      choose_cases (λ (r : Bool). r ≡ true) (is_binary a) _ _ (λ b. both_and (eq-eqb _ _ (right_one (or_first _ _ b) right).0) (owned b))
      (λ b.
      let p = and_both _ _ (unowned b) in
      both_and p.0 (both_and (and_both _ _ p.1).0
      (choose_cases (λ (r : Bool). r ≡ true) (is_simple a) _ _
      (λ c. let one = right_one (or_second _ _ c) right in both_and (eq-eqb _ _ one.0) (le-leb _ _ one.1))
      (λ c. let q = and_both _ _ right in both_and (and_both _ _ q.0).0 q.1))))
