-- What each test says of a choice, and of the connectives.
use mathlib.Core.Path.{◌≡◌, refl, ap, sym}
use mathlib.Core.Bool.{Bool, true, false, true≢false, false≢true}
use mathlib.Core.Logic.{◌⊎◌, inl, inr}
use Prim.Native.Nat.{ℕ, ◌≤◌, ◌<◌}
use lib.Dec.{leb, ltb, eqb}
use borrow.Author.Tests.{lt-ltb, le-ltb, le-leb, lt-leb, eq-eqb, ne_eqb}
use Rattle.laws.specs.Choose.{choose, ◌and◌, ◌or◌, isnt, when}

module _ {A : Type 0} {t : Bool} where
  pub if_yes : (a b : A) → t ≡ true → choose t a b ≡ a
  unfolding choose
  if_yes a b e = ap (λ (t : Bool). choose t a b) e

  pub if_no : (a b : A) → t ≡ false → choose t a b ≡ b
  unfolding choose
  if_no a b e = ap (λ (t : Bool). choose t a b) e

module _ {A : Type 0} (x y : ℕ) (a b : A) where
  pub if_lt : x < y → choose (ltb x y) a b ≡ a
  if_lt h = if_yes a b (lt-ltb x y h)

  pub if_not_lt : y ≤ x → choose (ltb x y) a b ≡ b
  if_not_lt h = if_no a b (le-ltb x y h)

  pub if_le : x ≤ y → choose (leb x y) a b ≡ a
  if_le h = if_yes a b (le-leb x y h)

  pub if_not_le : y < x → choose (leb x y) a b ≡ b
  if_not_le h = if_no a b (lt-leb x y h)

  pub if_eq : x ≡ y → choose (eqb x y) a b ≡ a
  if_eq h = if_yes a b (eq-eqb x y h)

  pub if_ne : (x ≡ y → ⊥) → choose (eqb x y) a b ≡ b
  if_ne h = if_no a b (ne_eqb x y h)

pub ruleset cases = (if_lt, if_not_lt, if_le, if_not_le, if_eq, if_ne, if_yes, if_no)

-- a test holds or does not
pub tested : (t : Bool) → (t ≡ true) ⊎ (t ≡ false)
tested true = inl refl
tested false = inr refl

pub never : {A : Type 0} {t : Bool} → t ≡ true → t ≡ false → A
never {A} {t} e f = absurd (go t e f)
  where
    go : (t : Bool) → t ≡ true → t ≡ false → ⊥
    go true e f = true≢false f
    go false e f = false≢true e

-- two tests that imply each other
pub same_test : (a b : Bool) → (a ≡ true → b ≡ true) → (b ≡ true → a ≡ true) → a ≡ b
same_test true true f g = refl
same_test true false f g = sym (f refl)
same_test false true f g = g refl
same_test false false f g = refl

-- a choice by cases
pub choose_cases : {A : Type 0} (P : A → Type 0) (t : Bool) (a b : A) → (t ≡ true → P a) → (t ≡ false → P b) → P (choose t a b)
unfolding choose
choose_cases P true a b f g = f refl
choose_cases P false a b f g = g refl

-- a function of a choice
pub choose_map : {A B : Type 0} (f : A → B) (t : Bool) (a b : A) → f (choose t a b) ≡ choose t (f a) (f b)
unfolding choose
choose_map f true a b = refl
choose_map f false a b = refl

pub choose_same : {A : Type 0} (t : Bool) (a : A) → choose t a a ≡ a
unfolding choose
choose_same true a = refl
choose_same false a = refl

-- the parts of a test that holds, and the test from its parts
pub and_both : (a b : Bool) → (a and b) ≡ true → (a ≡ true) × (b ≡ true)
unfolding choose
and_both true b e = (refl, e)
and_both false b e = absurd (false≢true e)

pub both_and : {a b : Bool} → a ≡ true → b ≡ true → (a and b) ≡ true
unfolding choose
both_and {a} {b} e f = go a e
  where
    go : (a : Bool) → a ≡ true → (a and b) ≡ true
    go true e = f
    go false e = e

pub when_then : (a b : Bool) → when a b ≡ true → a ≡ true → b ≡ true
unfolding choose
when_then true b e f = e
when_then false b e f = absurd (false≢true f)

pub then_when : (a b : Bool) → (a ≡ true → b ≡ true) → when a b ≡ true
unfolding choose
then_when true b f = f refl
then_when false b f = refl

pub or_either : (a b : Bool) → (a or b) ≡ true → (a ≡ true) ⊎ (b ≡ true)
unfolding choose
or_either true b e = inl refl
or_either false b e = inr e

pub or_first : (a b : Bool) → a ≡ true → (a or b) ≡ true
unfolding choose
or_first true b e = refl
or_first false b e = absurd (false≢true e)

pub or_second : (a b : Bool) → b ≡ true → (a or b) ≡ true
unfolding choose
or_second true b e = refl
or_second false b e = e

pub isnt_false : (a : Bool) → isnt a ≡ true → a ≡ false
unfolding choose
isnt_false true e = absurd (false≢true e)
isnt_false false e = refl

pub false_isnt : (a : Bool) → a ≡ false → isnt a ≡ true
unfolding choose
false_isnt true e = absurd (true≢false e)
false_isnt false e = refl
