-- A number read digit by digit, as the scan reads it, is a number as document 01 has it.
use mathlib.Core.Path.{◌≡◌, refl, sym, ap, ◌∙◌}
use mathlib.Core.Bool.{Bool, true, false}
use mathlib.Core.List.{List, [], ◌∷◌}
use Prim.Native.Nat.{ℕ, suc, ◌+◌, ◌-◌, ◌*◌, ◌≤◌}
use native.Mathlib.Nat.{le_trans, le_refl, lt_of_lt_of_le}
use native.Mathlib.Omega.{arith}
use native.Mathlib.Decide.{ℕ_discrete}
use lib.Dec.{leb, eqb}
use lib.ListN.{length}
use borrow.Author.Tests.{le-leb, lt-leb, eq-eqb, ne_eqb, leb-true, leb-false, eqb-false}
use Rattle.laws.specs.Choose.{choose, ◌and◌, ◌or◌, isnt}
use Rattle.laws.proofs.Choose.{never, and_both, choose_same}
use Rattle.rules.specs.Numbers.{max_number, within}
use Rattle.line.specs.Line.{all_digits, spelled, is_number}
use Rattle.line.specs.Scan.{goes_on}

-- the rest of a field goes on with a number of so many digits, and leaves one that is whole
unfoldable pub goes_on_by : ℕ → ℕ → List ℕ → Bool
goes_on_by digits value [] = leb 1 digits
goes_on_by digits value (b ∷ bs) = let rest = goes_on_by (suc digits) (value * 10 + (b - 48)) bs in goes_on digits value b and rest

-- what the rest of a field must be behind a digit
abbrev rest_of : ℕ → List ℕ → Bool
rest_of value bs = all_digits bs and (eqb (length bs) 0 or isnt (eqb value 0)) and leb (spelled value bs) max_number

-- digits behind a value only raise it
spelled_raises : (bs : List ℕ) (value : ℕ) → value ≤ spelled value bs
unfolding spelled
spelled_raises [] value = le_refl value
spelled_raises (b ∷ bs) value = le_trans (omega arith) (spelled_raises bs (value * 10 + (b - 48)))

and_false : (a : Bool) {b : Bool} → b ≡ false → (a and b) ≡ false
and_false a e = ap (λ (b : Bool). a and b) e ∙ choose_same a false

-- ---- the tests of both readings, by cases
-- D: the byte is a digit. Z: the value is 0. M: it stays small enough. A, S, N: the bytes behind are digits, spell a small enough number, are none.

one_more :
    (D Z M A S N L E Z' rest : Bool)
    → L ≡ true
    → E ≡ false
    → (M ≡ false → S ≡ false)
    → (Z ≡ false → Z' ≡ false)
    → (M ≡ true → rest ≡ (A and (N or isnt Z') and S))
    → ((D and isnt (L and Z) and M) and rest) ≡ ((D and A) and (E or isnt Z) and S)
unfolding choose
one_more false Z M A S N L E Z' rest l e s z r = refl
one_more true Z M A S N false E Z' rest l e s z r = never l refl
one_more true Z M A S N true true Z' rest l e s z r = never refl e
one_more true true M A S N true false Z' rest l e s z r = sym (choose_same A false)
one_more true false false A S N true false Z' rest l e s z r = sym (and_false A (s refl))
one_more true false true A S N true false true rest l e s z r = never refl (z refl)
one_more true false true A S true true false false rest l e s z r = r refl
one_more true false true A S false true false false rest l e s z r = r refl

the_first :
    (D M A S N O Z Z' rest : Bool)
    → (D ≡ true → M ≡ true)
    → O ≡ N
    → (D ≡ true → Z ≡ Z')
    → (D ≡ true → rest ≡ (A and (N or isnt Z') and S))
    → ((D and A) and (O or isnt Z) and S) ≡ ((D and true and M) and rest)
unfolding choose
the_first false M A S N O Z Z' rest m o z r = refl
the_first true false A S N O Z Z' rest m o z r = never (m refl) refl
the_first true true A S N O Z Z' rest m o z r = (rw (o, z refl)) ∙ sym (r refl)

pub rest_is : (bs : List ℕ) (digits value : ℕ) → 1 ≤ digits → value ≤ max_number → goes_on_by digits value bs ≡ rest_of value bs
unfolding goes_on_by all_digits spelled choose
rest_is [] digits value h m = le-leb 1 digits h ∙ sym (le-leb value max_number m)
rest_is (b ∷ bs) digits value h m =
    let raised : ℕ = value * 10 + (b - 48) in
    one_more (within 48 57 b) (eqb value 0) (leb raised max_number) (all_digits bs) (leb (spelled raised bs) max_number) (eqb (length bs) 0) (leb 1 digits)
    (eqb (suc (length bs)) 0) (eqb raised 0) (goes_on_by (suc digits) raised bs)
    (le-leb 1 digits h)
    (ne_eqb (suc (length bs)) 0 (omega arith))
    (λ e. lt-leb (spelled raised bs) max_number (lt_of_lt_of_le (leb-false raised max_number e) (spelled_raises bs raised)))
    (λ e. let d = eqb-false value 0 e in ne_eqb raised 0 (λ f. d (omega arith)))
    (λ e. rest_is bs (suc digits) raised (omega arith) (leb-true raised max_number e))

same_test : (x y z w : ℕ) → (x ≡ y → z ≡ w) → (z ≡ w → x ≡ y) → eqb x y ≡ eqb z w
same_test x y z w f g = elim (ℕ_discrete x y) [
  | yes e ↦ eq-eqb x y e ∙ sym (eq-eqb z w (f e))
  | no d ↦ ne_eqb x y d ∙ sym (ne_eqb z w (λ e. d (g e)))
]

-- a byte that is a digit
digit_range : (b : ℕ) → within 48 57 b ≡ true → (48 ≤ b) × (b ≤ 57)
digit_range b e = let both = and_both (leb 48 b) (leb b 57) e in (leb-true 48 b both.0, leb-true b 57 both.1)

pub is_number_lem : (f : List ℕ) → is_number f ≡ goes_on_by 0 0 f
unfolding is_number goes_on_by all_digits spelled choose
is_number_lem [] = refl
is_number_lem (b ∷ bs) =
    let value : ℕ = 0 * 10 + (b - 48) in
    ap (λ (t : Bool). t and all_digits (b ∷ bs) and (eqb (suc (length bs)) 1 or isnt (eqb b 48)) and leb (spelled value bs) max_number)
    (le-leb 1 (suc (length bs)) (omega arith))
    ∙ the_first (within 48 57 b) (leb value max_number) (all_digits bs) (leb (spelled value bs) max_number) (eqb (length bs) 0) (eqb (suc (length bs)) 1)
    (eqb b 48) (eqb value 0) (goes_on_by 1 value bs)
    (λ e. let r = digit_range b e in le-leb value max_number (omega arith))
    (same_test (suc (length bs)) 1 (length bs) 0 (λ e. omega arith) (λ e. omega arith))
    (λ e. let r = digit_range b e in same_test b 48 value 0 (λ e. omega arith) (λ e. omega arith))
    (λ e. let r = digit_range b e in rest_is bs 1 value (omega arith) (omega arith))
