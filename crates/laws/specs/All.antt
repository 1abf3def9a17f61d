-- A test of every number below a bound, and the elements of a list that pass one.
use Rattle.std.specs.Prelude.{Bool, true, List, [], ◌∷◌, ℕ, zero, suc}
use Rattle.laws.specs.Choose.{choose, ◌and◌}

-- the test holds of every number below the bound
unfoldable pub all : ℕ → (ℕ → Bool) → Bool
all zero p = true
all (suc n) p = all n p and p n

-- those that pass the test, in their order
unfoldable pub those : {A : Type 0} → (A → Bool) → List A → List A
those p [] = []
those p (x ∷ xs) = let rest = those p xs in choose (p x) (x ∷ rest) rest
