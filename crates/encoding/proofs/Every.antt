-- A test of every element of a list, one after another, and the connectives that join the tests.
use Rattle.std.proofs.Common.{◌≡◌, ℕ, zero, suc, Bool, true, false, not, ◌&&◌, List, [], ◌∷◌, length, get_or, sym, refl, ap, ◌∙◌}
use Rattle.std.specs.List.{list_all}
use Rattle.laws.specs.Choose.{choose, ◌and◌, isnt}
use Rattle.laws.specs.All.{all}
use Rattle.laws.proofs.All.{all_none}

-- ---- connectives

pub and_true : (b : Bool) → b ≡ (b and true)
unfolding choose
and_true true = refl
and_true false = refl

pub and_is : (a b : Bool) → (a && b) ≡ (a and b)
unfolding choose
and_is true b = refl
and_is false b = refl

pub and_assoc : (a b c : Bool) → ((a and b) and c) ≡ (a and (b and c))
unfolding choose
and_assoc true b c = refl
and_assoc false b c = refl

pub not_isnt : (b : Bool) → not b ≡ isnt b
unfolding choose
not_isnt true = refl
not_isnt false = refl

pub true_and : (b : Bool) → (true and b) ≡ b
unfolding choose
true_and b = refl

pub false_and : (b : Bool) → (false and b) ≡ false
unfolding choose
false_and b = refl

-- `a && b`: the second where the first holds, else the first
pub both : (p q x y : Bool) → x ≡ p → x ≡ true → y ≡ q → y ≡ (p and q)
unfolding choose
both p q x y e h f = f ∙ sym (ap (λ (b : Bool). choose b q false) (sym e ∙ h))

pub first : (p q x : Bool) → x ≡ p → x ≡ false → x ≡ (p and q)
unfolding choose
first p q x e h = h ∙ sym (ap (λ (b : Bool). choose b q false) (sym e ∙ h))

pub ruleset chained = (both, first)

-- ---- a test of every element of a list

all_first : (n : ℕ) (q : ℕ → Bool) → all (suc n) q ≡ (q 0 and all n (λ k. q (suc k)))
unfolding all choose
all_first zero q = and_true (q 0)
all_first (suc n) q =
    ap (λ (b : Bool). b and q (suc n)) (all_first n q) ∙ and_assoc (q 0) (all n (λ k. q (suc k))) (q (suc n))

abbrev pub every : {A : Type 0} → (A → Bool) → A → List A → Bool
every p d xs = all (length xs) (λ k. p (get_or xs k d))

module _ {A : Type 0} (p : A → Bool) (d : A) where
  pub every_none : every p d [] ≡ true
  every_none = all_none (λ k. p (get_or [] k d))

  pub every_cons : (x : A) (xs : List A) → every p d (x ∷ xs) ≡ (p x and every p d xs)
  every_cons x xs = all_first (length xs) (λ k. p (get_or (x ∷ xs) k d))

-- a test of each element by the library's word
pub list_every : {A : Type 0} (p : A → Bool) (d : A) (xs : List A) → list_all p xs ≡ every p d xs
list_every p d [] = sym (every_none p d)
list_every p d (x ∷ xs) = ap (λ (b : Bool). p x && b) (list_every p d xs) ∙ and_is (p x) (every p d xs) ∙ sym (every_cons p d x xs)
