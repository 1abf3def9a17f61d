-- What each test of a chain of checks says of the chain's answer.
use mathlib.Core.Path.{◌≡◌, ap, sym, ◌∙◌}
use mathlib.Core.Bool.{Bool, true, false}
use Prim.Native.Nat.{ℕ, ◌≤◌, ◌<◌}
use borrow.Author.Tests.{le-leb, lt-leb}
use Rattle.laws.specs.Choose.{choose, ◌and◌}
use Rattle.laws.proofs.Choose.{if_yes, if_no, choose_same, both_and}
use Rattle.rules.specs.Numbers.{within}

-- ---- one test of a chain: it holds, or the chain goes on

module _ {A : Type 0} {t : Bool} {y : A} where
  pub holding : {a : A} (b : A) → t ≡ true → y ≡ a → y ≡ choose t a b
  holding {a} b e p = p ∙ sym (if_yes a b e)

  pub failing : {b : A} (a : A) → t ≡ false → y ≡ b → y ≡ choose t a b
  failing {b} a e p = p ∙ sym (if_no a b e)

pub and_first : {a : Bool} (b : Bool) → a ≡ false → (a and b) ≡ false
and_first b e = if_no b false e

pub and_second : (a : Bool) {b : Bool} → b ≡ false → (a and b) ≡ false
and_second a {b} e = ap (λ (b : Bool). a and b) e ∙ choose_same a false

-- ---- a number outside its limits

module _ (low high n : ℕ) where
  pub within_low : n < low → within low high n ≡ false
  within_low h = and_first _ (lt-leb low n h)

  pub within_high : high < n → within low high n ≡ false
  within_high h = and_second _ (lt-leb n high h)

  pub within_both : low ≤ n → n ≤ high → within low high n ≡ true
  within_both l h = both_and (le-leb low n l) (le-leb n high h)
