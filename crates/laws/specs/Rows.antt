-- Lists of a fixed length, and rows of one width laid end to end.
use Rattle.std.specs.Prelude.{List, [], ◌∷◌, ◌++◌, ℕ, zero, suc}

-- the list cut, or filled up with `d`, to n elements
unfoldable pub fit : {A : Type 0} → ℕ → A → List A → List A
fit zero d xs = []
fit (suc n) d [] = d ∷ fit n d []
fit (suc n) d (x ∷ xs) = x ∷ fit n d xs

-- the values at 0, 1, .. n - 1
unfoldable pub tabulate : {A : Type 0} → ℕ → (ℕ → A) → List A
tabulate zero f = []
tabulate (suc n) f = f zero ∷ tabulate n (λ i. f (suc i))

-- rows, end to end
unfoldable pub rows : {A : Type 0} → List (List A) → List A
rows [] = []
rows (r ∷ rs) = r ++ rows rs
