-- What is read off the tables before working priorities are asked for.
use Rattle.std.specs.Prelude.{◌≡◌, List, ℕ, suc, length}
use Rattle.laws.specs.Rows.{fit, tabulate}
use Rattle.rules.specs.Machine.{Tables, lends_to, working_with, urgency}
use Rattle.lookup.specs.declared.working.Lenders.{Lenders}

-- whom each task lends to, in 32 places
unfoldable pub lendings : Tables → List ℕ
lendings t = fit 32 0 (tabulate (length t.tasks) (λ i. lends_to t (suc i)))

-- with that list, and the links that it takes
pub record LendersOf (t : Tables) (r : Lenders) : Type 0 where
  pub to : r.to ≡ lendings t
  pub links : (q : ℕ) → working_with t r.links q ≡ urgency t q
