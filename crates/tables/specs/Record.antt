-- What rows of words that stand for values keep.
use Rattle.std.specs.Prelude.{◌≡◌, ℕ, List, length}

-- of each kind of row: it has W words, and a value is read back as it was
pub record RecordLaws (A : Type 0) (W : ℕ) (row : A → List ℕ) (value : List ℕ → A) : Type 0 where
  pub width : (x : A) → length (row x) ≡ W
  pub back : (x : A) → value (row x) ≡ x
