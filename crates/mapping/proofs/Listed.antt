-- std's test of each element of a list, and the test of every number below a bound.
use Rattle.std.proofs.Common.{◌≡◌, ℕ, suc, zero, ◌+◌, ◌≤◌, Bool, true, false, List, [], ◌∷◌, length, get_or, take, map, refl, ap, sym, ◌∙◌, ◌&&◌, arith}
use native.Mathlib.Numerals.{add-one}
use Rattle.std.specs.List.{list_all, range_with_len}
use Rattle.std.proofs.lemmas.List.Folds.{list_all_more, list_all-append, list_all-map}
use Rattle.std.proofs.lemmas.List.FromFn.{map-range_with_len_more}
use Rattle.laws.specs.Choose.{choose, ◌and◌}
use Rattle.laws.specs.All.{all}

both : (a b : Bool) → (a && b) ≡ (a and b)
unfolding choose
both true b = refl
both false b = refl

-- the first k elements
pub all_taken : (p : ℕ → Bool) (list : List ℕ) (k : ℕ) → k ≤ length list → list_all p (take k list) ≡ all k (λ j. p (get_or list j 0))
unfolding all
all_taken p list zero h = refl
all_taken p list (suc k) h =
    ap (λ (n : ℕ). list_all p (take n list)) (sym (add-one k)) ∙ list_all_more p list k 0 (omega arith) ∙ both _ _
    ∙ ap (λ (b : Bool). b and p (get_or list k 0)) (all_taken p list k (omega arith))

-- the numbers below n
pub all_numbers : (p : ℕ → Bool) (n : ℕ) → list_all p (range_with_len 0 n) ≡ all n p
unfolding all
all_numbers p zero = refl
all_numbers p (suc n) =
    ap (λ (k : ℕ). list_all p (range_with_len 0 k)) (sym (add-one n)) ∙ sym (list_all-map p (λ (x : ℕ). x) (range_with_len 0 (n + 1)))
    ∙ ap (λ (xs : List ℕ). list_all p xs) (map-range_with_len_more (λ (x : ℕ). x) 0 n n (omega arith))
    ∙ list_all-append p (map (λ (x : ℕ). x) (range_with_len 0 n)) (n ∷ []) ∙ both _ _
    ∙ (λ i. (list_all-map p (λ (x : ℕ). x) (range_with_len 0 n) ∙ all_numbers p n) i and one (p n) i)
  where
    one : (a : Bool) → (a && true) ≡ a
    one true = refl
    one false = refl
