-- Numbers with a sign, as the machine reads them back from their bits, and tests of them.
use mathlib.Core.Path.{◌≡◌, refl, sym, ap, subst, ◌∙◌}
use mathlib.Core.Bool.{true, false, false≢true}
use Prim.Native.Nat.{zero, suc, ◌^◌, ◌<◌}
use native.Mathlib.Nat.{lt_of_le_of_lt}
use native.Mathlib.Omega.{arith}
use lib.Dec.{T, lit<}
use lib.IntN.{ℤ, pos, negsuc, nat_abs}
use lib.Signed.{mag, lt_z, le_z, non_neg, nat_abs-le}
use mir.Syntax.{w32}
use mir.Val.{Fits, SFits, to_z, of_z}
use mir.ValLaws.{to_z-of_z}
use borrow.Author.Tests.{ltb-true, ltb-false, le-leb, lt-leb}
use Rattle.rules.specs.declared.Wait.{Wait}
use Rattle.rules.specs.declared.Wait.TheVariants.{Poll, Forever, Ticks}
use Rattle.laws.proofs.Choose.{and_both}
use Rattle.itron.specs.Calls.{counts_allowed, wait_for}

below : (z : ℤ) → lt_z z (pos 0) ≡ true → non_neg z ≡ false
below (pos n) e = absurd (omega (arith, ltb-true n 0 e))
below (negsuc n) e = refl

above : (z : ℤ) → lt_z z (pos 0) ≡ false → non_neg z ≡ true
above (pos n) e = refl
above (negsuc n) e = sym e

module _ {z : ℤ} (f : SFits w32 z) where
  pub read : to_z w32 (of_z w32 z) ≡ z
  read = to_z-of_z w32 z f

  pub is_negative : lt_z (to_z w32 (of_z w32 z)) (pos 0) ≡ true → non_neg z ≡ false
  is_negative e = below z (subst (λ (v : ℤ). lt_z v (pos 0) ≡ true) read e)

  -- compared with a literal
  pub le_literal : (y : ℤ) → le_z (to_z w32 (of_z w32 z)) y ≡ le_z z y
  le_literal y = ap (λ (v : ℤ). le_z v y) read

  pub not_negative : lt_z (to_z w32 (of_z w32 z)) (pos 0) ≡ false → non_neg z ≡ true
  not_negative e = above z (subst (λ (v : ℤ). lt_z v (pos 0) ≡ false) read e)

-- a call's result
pub got : {z : ℤ} → mag z < 2 ^ 31 → to_z w32 (of_z w32 z) ≡ z
got ok = read (record { sfits = ok })

-- two that the machine compares
module _ {y z : ℤ} (f : SFits w32 y) (g : SFits w32 z) where
  pub le_read : le_z (to_z w32 (of_z w32 y)) (to_z w32 (of_z w32 z)) ≡ le_z y z
  le_read = λ i. le_z (read f i) (read g i)

-- a test below 1 is one of at least 1 that fails
pub below_one : {z : ℤ} → SFits w32 z → lt_z (to_z w32 (of_z w32 z)) (pos 1) ≡ true → le_z (pos 1) z ≡ false
below_one {z} f e = small z (subst (λ (v : ℤ). lt_z v (pos 1) ≡ true) (read f) e)
  where
    small : (z : ℤ) → lt_z z (pos 1) ≡ true → le_z (pos 1) z ≡ false
    small (pos n) e = lt-leb 1 n (ltb-true n 1 e)
    small (negsuc n) e = refl

pub at_least_one : {z : ℤ} → SFits w32 z → lt_z (to_z w32 (of_z w32 z)) (pos 1) ≡ false → le_z (pos 1) z ≡ true
at_least_one {z} f e = large z (subst (λ (v : ℤ). lt_z v (pos 1) ≡ false) (read f) e)
  where
    large : (z : ℤ) → lt_z z (pos 1) ≡ false → le_z (pos 1) z ≡ true
    large (pos n) e = le-leb 1 n (ltb-false n 1 e)
    large (negsuc n) e = sym e

-- at least 0
pub least_zero : (z : ℤ) → le_z (pos 0) z ≡ non_neg z
least_zero (pos n) = le-leb 0 n (omega arith)
least_zero (negsuc n) = refl

pub least_one : (z : ℤ) → le_z (pos 1) z ≡ true → non_neg z ≡ true
least_one (pos n) e = refl
least_one (negsuc n) e = e

-- ---- as a number without a sign

module _ {z : ℤ} (f : SFits w32 z) (n : non_neg z ≡ true) where
  pub cast_read : T (non_neg (to_z w32 (of_z w32 z))) × Fits w32 (nat_abs (to_z w32 (of_z w32 z)))
  cast_read =
      subst (λ (v : ℤ). T (non_neg v) × Fits w32 (nat_abs v)) (sym (read f))
      (subst T (sym n) tt, record { fits = lt_of_le_of_lt (nat_abs-le z f.sfits) (lit< tt) })

  pub natural_read : nat_abs (to_z w32 (of_z w32 z)) ≡ nat_abs z
  natural_read = ap nat_abs (read f)

-- ---- the counts of a create that are allowed

-- both are natural numbers
pub counts_natural : (isemcnt maxsem : ℤ) → counts_allowed isemcnt maxsem ≡ true → (non_neg isemcnt ≡ true) × (non_neg maxsem ≡ true)
counts_natural isemcnt maxsem e =
    let first = and_both (le_z (pos 0) isemcnt) _ e in
    (sym (least_zero isemcnt) ∙ first.0, least_one maxsem (and_both (le_z (pos 1) maxsem) _ first.1).0)

module _ {y z : ℤ} (f : SFits w32 y) (g : SFits w32 z) (allowed : counts_allowed (to_z w32 (of_z w32 y)) (to_z w32 (of_z w32 z)) ≡ true) where
  naturals : (non_neg y ≡ true) × (non_neg z ≡ true)
  naturals = counts_natural y z ((λ i. counts_allowed (sym (read f) i) (sym (read g) i)) ∙ allowed)

  pub cast_count : T (non_neg (to_z w32 (of_z w32 y))) × Fits w32 (nat_abs (to_z w32 (of_z w32 y)))
  cast_count = cast_read f naturals.0

  pub cast_maximum : T (non_neg (to_z w32 (of_z w32 z))) × Fits w32 (nat_abs (to_z w32 (of_z w32 z)))
  cast_maximum = cast_read g naturals.1

pub ruleset counts = (read, cast_count, cast_maximum)

-- ---- how a wait is given

wait_zero : (z : ℤ) → non_neg z ≡ true → of_z w32 z ≡ 0 → Poll ≡ wait_for z
unfolding wait_for
wait_zero (pos zero) n e = refl
wait_zero (pos (suc k)) n e = absurd (omega arith)
wait_zero (negsuc k) n e = absurd (false≢true n)

wait_some : (z : ℤ) → non_neg z ≡ true → (of_z w32 z ≡ 0 → ⊥) → Ticks (nat_abs z) ≡ wait_for z
unfolding wait_for
wait_some (pos zero) n e = absurd (e refl)
wait_some (pos (suc k)) n e = refl
wait_some (negsuc k) n e = absurd (false≢true n)

wait_less : (z : ℤ) → non_neg z ≡ false → Forever ≡ wait_for z
unfolding wait_for
wait_less (pos k) n = absurd (false≢true (sym n))
wait_less (negsuc k) n = refl

module _ {z : ℤ} (f : SFits w32 z) where
  pub waits_for_ever : lt_z (to_z w32 (of_z w32 z)) (pos 0) ≡ true → Forever ≡ wait_for z
  waits_for_ever e = wait_less z (is_negative f e)

  module _ (least : lt_z (to_z w32 (of_z w32 z)) (pos 0) ≡ false) where
    pub waits_not : of_z w32 z ≡ 0 → Poll ≡ wait_for z
    waits_not e = wait_zero z (not_negative f least) e

    pub waits_ticks : (of_z w32 z ≡ 0 → ⊥) → Ticks (nat_abs (to_z w32 (of_z w32 z))) ≡ wait_for z
    waits_ticks e = ap {B = Wait} Ticks (natural_read f (not_negative f least)) ∙ wait_some z (not_negative f least) e

pub ruleset waits = (cast_read, waits_for_ever, waits_not, waits_ticks)
