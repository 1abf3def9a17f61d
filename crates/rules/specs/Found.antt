-- A number of a task or a slot that may be none, as the rules have it: 0 is none.
use Rattle.std.specs.Prelude.{◌≡◌, ℕ, ◌≤◌, Option, MatchOption}

abbrev pub Finds : Option ℕ → ℕ → Type 0
Finds r n = MatchOption r (n ≡ 0) (λ k. (k ≡ n) × (1 ≤ k))
