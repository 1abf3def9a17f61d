-- From a test of every number below a bound to facts, and back.
use mathlib.Core.Path.{◌≡◌, refl, subst, sym}
use mathlib.Core.Bool.{Bool, true, false}
use mathlib.Core.Logic.{◌⊎◌, inl, inr, ⊎_elim}
use Prim.Native.Nat.{ℕ, zero, suc, ◌+◌, ◌<◌}
use native.Mathlib.Nat.{not-suc-le-zero}
use native.Mathlib.Numerals.{add-one}
use native.Mathlib.Omega.{arith}
use native.Mathlib.Decide.{ℕ_discrete}
use Rattle.laws.proofs.Choose.{and_both, both_and, tested, never}
use Rattle.laws.specs.All.{all}

below_suc : (k n : ℕ) → k < suc n → (k < n) ⊎ (k ≡ n)
below_suc k n h = elim (ℕ_discrete k n) [ yes e ↦ inr e | no d ↦ inl (omega arith) ]

pub all_at : (n : ℕ) (p : ℕ → Bool) → all n p ≡ true → (k : ℕ) → k < n → p k ≡ true
unfolding all
all_at zero p e k h = absurd (not-suc-le-zero h)
all_at (suc n) p e k h =
    ⊎_elim (λ (l : k < n). all_at n p (and_both (all n p) (p n) e).0 k l)
    (λ (s : k ≡ n). subst (λ (m : ℕ). p m ≡ true) (sym s) (and_both (all n p) (p n) e).1)
    (below_suc k n h)

pub all_of : (n : ℕ) (p : ℕ → Bool) → ((k : ℕ) → k < n → p k ≡ true) → all n p ≡ true
unfolding all
all_of zero p f = refl
all_of (suc n) p f = both_and (all_of n p (λ k h. f k (omega arith))) (f n (omega arith))

pub all_none : (p : ℕ → Bool) → all 0 p ≡ true
unfolding all
all_none p = refl

-- one number more
pub all_more : (n : ℕ) (p : ℕ → Bool) → all n p ≡ true → p n ≡ true → all (n + 1) p ≡ true
unfolding all
all_more n p e f = rw add-one (both_and e f)

-- a number at which the test fails
pub all_not : (n : ℕ) (p : ℕ → Bool) (k : ℕ) → k < n → p k ≡ false → all n p ≡ false
all_not n p k h e =
    ⊎_elim (λ (t : all n p ≡ true). never (all_at n p t k h) e) (λ (f : all n p ≡ false). f) (tested (all n p))
