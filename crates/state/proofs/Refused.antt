-- The status of a test that refuses by 8.
use Rattle.std.proofs.Common.{◌≡◌, ◌≤◌, ℕ, Bool, true, false, refl, arith}
use Rattle.laws.specs.Choose.{choose}
use Rattle.state.specs.Shape.{unless_invalid}

pub invalid : (b : Bool) → b ≡ false → 8 ≡ unless_invalid b
unfolding choose
invalid true e = absurd (cc e)
invalid false e = refl

pub valid : (b : Bool) → b ≡ true → 0 ≡ unless_invalid b
unfolding choose
valid true e = refl
valid false e = absurd (cc e)

pub is_valid : (b : Bool) → unless_invalid b ≡ 0 → b ≡ true
unfolding choose
is_valid true e = refl
is_valid false e = absurd (omega arith)

-- a refusal is 8
pub is_refused : (b : Bool) (n : ℕ) → n ≡ unless_invalid b → 1 ≤ n → (n ≡ 8) × (b ≡ false)
unfolding choose
is_refused true n e some = absurd (omega (arith, e, some))
is_refused false n e some = (e, refl)
