-- A list mapped in place, and one filled with the values of a function, element by element.
use mathlib.Core.Path.{◌≡◌, refl, sym, ap, ◌∙◌}
use mathlib.Core.List.{List, [], ◌∷◌, ◌++◌, map}
use Prim.Native.Nat.{ℕ, zero, suc, ◌+◌, ◌<◌}
use native.Mathlib.Nat.{not-suc-le-zero}
use native.Mathlib.Decide.{ℕ_discrete}
use native.Mathlib.Omega.{arith}
use lib.ListN.{length, get_or, set, take, drop}
use lib.Seq.{get_or-set_same, get_or-set_other}

-- the first i elements mapped, the others as they are
abbrev pub mapped : {A : Type 0} → (A → A) → ℕ → List A → List A
mapped f i xs = map f (take i xs) ++ drop i xs

module _ {A : Type 0} (f : A → A) where
  pub length_mapped : (i : ℕ) (xs : List A) → length (mapped f i xs) ≡ length xs
  length_mapped zero xs = refl
  length_mapped (suc i) [] = refl
  length_mapped (suc i) (x ∷ xs) = ap suc (length_mapped i xs)

  pub mapped_at : (i : ℕ) (xs : List A) (d : A) → get_or (mapped f i xs) i d ≡ get_or xs i d
  mapped_at zero xs d = refl
  mapped_at (suc i) [] d = refl
  mapped_at (suc i) (x ∷ xs) d = mapped_at i xs d

  -- one element more
  pub mapped_next : (i : ℕ) (xs : List A) (d : A) → i < length xs → set (mapped f i xs) i (f (get_or xs i d)) ≡ mapped f (suc i) xs
  mapped_next i [] d h = absurd (not-suc-le-zero h)
  mapped_next zero (x ∷ xs) d h = refl
  mapped_next (suc i) (x ∷ xs) d h = ap (λ (r : List A). f x ∷ r) (mapped_next i xs d (omega arith))

  pub mapped_all : (xs : List A) → mapped f (length xs) xs ≡ map f xs
  mapped_all [] = refl
  mapped_all (x ∷ xs) = ap (λ (r : List A). f x ∷ r) (mapped_all xs)

  -- what holds of each element, and is kept by the map, holds of each
  pub mapped_keeps : (P : A → Type 0) → ((x : A) → P x → P (f x)) → (i : ℕ) (xs : List A) (j : ℕ) (d : A) → P (get_or xs j d) → P (get_or (mapped f i xs) j d)
  mapped_keeps P k zero xs j d h = h
  mapped_keeps P k (suc i) [] j d h = h
  mapped_keeps P k (suc i) (x ∷ xs) zero d h = k x h
  mapped_keeps P k (suc i) (x ∷ xs) (suc j) d h = mapped_keeps P k i xs j d h

-- the first k elements are the values of f
abbrev pub Filled : {A : Type 0} → (ℕ → A) → A → List A → ℕ → Type 0
Filled f d xs k = (j : ℕ) → j < k → get_or xs j d ≡ f j

module _ {A : Type 0} (f : ℕ → A) (d : A) (xs : List A) where
  pub filled_none : Filled f d xs 0
  filled_none j h = absurd (not-suc-le-zero h)

  pub filled_more : (k : ℕ) (x : A) → k < length xs → x ≡ f k → Filled f d xs k → Filled f d (set xs k x) (k + 1)
  filled_more k x h e l j m =
      elim (ℕ_discrete j k) [
        | yes s ↦ ap (λ (n : ℕ). get_or (set xs k x) n d) s ∙ get_or-set_same xs k x d h ∙ e ∙ ap f (sym s)
        | no o ↦ get_or-set_other xs k j x d o ∙ l j (omega arith)
      ]
