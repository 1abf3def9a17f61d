-- Reading the rest of a line with what is read so far: one equation for each step of the scan.
use mathlib.Core.Path.{◌≡◌, refl, sym, ap, ◌∙◌}
use mathlib.Core.Bool.{Bool, true, false}
use mathlib.Core.List.{List, [], ◌∷◌, ◌++◌, append-nil, append_assoc}
use mathlib.Core.Logic.{⊎_elim}
use mathlib.Core.Option.{Option, none, some}
use Prim.Native.Nat.{ℕ, suc, ◌+◌, ◌-◌, ◌*◌, ◌≤◌, ◌<◌}
use native.Mathlib.Omega.{arith}
use lib.Dec.{leb, eqb}
use lib.ListN.{length, get_or, drop, drop_of_length-le}
use borrow.Author.Tests.{le-leb, lt-leb, ne_eqb}
use Rattle.laws.specs.Choose.{choose, ◌and◌, isnt}
use Rattle.laws.proofs.Choose.{choose_same, tested, never, if_yes, if_no}
use Rattle.line.specs.Line.{are_numbers, numbers, spelled}
use Rattle.line.specs.Scan.{first, others, all_numbers, goes_on, digit_behind}
use Rattle.std.specs.Prelude.{Some, None}
use Rattle.line.proofs.Fields.{others_none, others_space, first_cons, others_cons, from_here, field_ends, in_line}
use Rattle.line.proofs.Digits.{goes_on_by, is_number_lem}

-- between two fields: `ns` are read, and the rest begins with a space or is empty
unfoldable pub between : List ℕ → List ℕ → Option (List ℕ)
between ns bs = choose (are_numbers (others bs)) (some (ns ++ numbers (others bs))) none

-- inside a field, of which so many digits are read that spell `value`
unfoldable pub inside : List ℕ → ℕ → ℕ → List ℕ → Option (List ℕ)
inside ns digits value bs =
    choose (goes_on_by digits value (first bs) and are_numbers (others bs)) (some (ns ++ spelled value (first bs) ∷ numbers (others bs))) none

pub reading_starts : (bs : List ℕ) → all_numbers (others bs) ≡ between [] bs
unfolding all_numbers between
reading_starts bs = refl

-- ---- what the first of three tests decides, and what an answer of one byte says

test_fails : {X : Type 0} (t a b : Bool) (x : Option X) → t ≡ false → choose ((t and a) and b) x none ≡ none
unfolding choose
test_fails true a b x e = never refl e
test_fails false a b x e = refl

test_holds : {X : Type 0} (t a b : Bool) (x : Option X) → t ≡ true → choose ((t and a) and b) x none ≡ choose (a and b) x none
unfolding choose
test_holds true a b x e = refl
test_holds false a b x e = never e refl

module _ (digits value b : ℕ) where
  no_digit : digit_behind digits value b ≡ None → goes_on digits value b ≡ false
  unfolding digit_behind
  no_digit e =
      ⊎_elim (λ (t : goes_on digits value b ≡ true). let f = if_yes (Some (value * 10 + (b - 48))) None t in let z : ◌≡◌ {A = ℕ} 0 1 = cc in absurd
      (omega arith))
      (λ (t : goes_on digits value b ≡ false). t)
      (tested (goes_on digits value b))

  a_digit : (v : ℕ) → digit_behind digits value b ≡ Some v → (goes_on digits value b ≡ true) × (v ≡ value * 10 + (b - 48))
  unfolding digit_behind
  a_digit v e =
      ⊎_elim (λ (t : goes_on digits value b ≡ true). let f = if_yes (Some (value * 10 + (b - 48))) None t in (t, cc))
      (λ (t : goes_on digits value b ≡ false). let f = if_no (Some (value * 10 + (b - 48))) None t in let z : ◌≡◌ {A = ℕ} 0 1 = cc in absurd (omega arith))
      (tested (goes_on digits value b))

-- no lone zero stands before a byte: it is the first, or what stands there is more than 0
pub first_digit : (digits value : ℕ) → digits ≤ 0 → isnt (leb 1 digits and eqb value 0) ≡ true
unfolding choose
first_digit digits value h = ap (λ (t : Bool). isnt (t and eqb value 0)) (lt-leb 1 digits (omega arith))

pub later_digit : (digits value : ℕ) → (value ≡ 0 → ⊥) → isnt (leb 1 digits and eqb value 0) ≡ true
unfolding choose
later_digit digits value d = ap (λ (t : Bool). isnt (leb 1 digits and t)) (ne_eqb value 0 d) ∙ ap isnt (choose_same (leb 1 digits) false)

-- ---- the steps

module _ (l : List ℕ) (at : ℕ) (ns : List ℕ) where
  pub at_end_lem : length l ≤ at → between ns (drop at l) ≡ some ns
  unfolding between are_numbers numbers choose
  at_end_lem h =
      ap (between ns) (drop_of_length-le l h)
      ∙ ap (λ (fs : List (List ℕ)). choose (are_numbers fs) (some (ns ++ numbers fs)) none) others_none
      ∙ ap some (append-nil ns)

  pub field_begins : at < length l → get_or l at 32 ≡ 32 → between ns (drop at l) ≡ inside ns 0 0 (drop (at + 1) l)
  unfolding between inside are_numbers numbers
  field_begins h e =
      let rest : List ℕ = drop (at + 1) l in
      ap (between ns) (from_here l at h ∙ ap (λ (b : ℕ). b ∷ rest) e)
      ∙ ap (λ (fs : List (List ℕ)). choose (are_numbers fs) (some (ns ++ numbers fs)) none) (others_space rest)
      ∙ ap (λ (t : Bool). choose (t and are_numbers (others rest)) (some (ns ++ spelled 0 (first rest) ∷ numbers (others rest))) none) (is_number_lem (first rest))

  module _ (digits value : ℕ) where
    -- a field that ends at once is no number
    pub field_empty : get_or l at 32 ≡ 32 → inside ns 0 value (drop at l) ≡ none
    unfolding inside goes_on_by choose
    field_empty e =
        ap (λ (f : List ℕ). choose (goes_on_by 0 value f and are_numbers (others (drop at l)))
        (some (ns ++ spelled value f ∷ numbers (others (drop at l)))) none) (field_ends l at e)

    pub field_over : 1 ≤ digits → get_or l at 32 ≡ 32 → inside ns digits value (drop at l) ≡ between (ns ++ value ∷ []) (drop at l)
    unfolding inside between goes_on_by spelled choose
    field_over h e =
        let fs : List (List ℕ) = others (drop at l) in
        ap (λ (f : List ℕ). choose (goes_on_by digits value f and are_numbers fs) (some (ns ++ spelled value f ∷ numbers fs)) none) (field_ends l at e)
        ∙ ap (λ (t : Bool). choose (t and are_numbers fs) (some (ns ++ value ∷ numbers fs)) none) (le-leb 1 digits h)
        ∙ ap (λ (xs : List ℕ). choose (are_numbers fs) (some xs) none) (sym (append_assoc ns (value ∷ []) (numbers fs)))

    module _ (goes : get_or l at 32 ≡ 32 → ⊥) where
      one_byte : inside ns digits value (drop at l)
          ≡ choose ((goes_on digits value (get_or l at 32) and goes_on_by (suc digits) (value * 10 + (get_or l at 32 - 48))
          (first (drop (at + 1) l))) and are_numbers (others (drop (at + 1) l)))
          (some (ns ++ spelled (value * 10 + (get_or l at 32 - 48)) (first (drop (at + 1) l)) ∷ numbers (others (drop (at + 1) l))))
          none
      unfolding inside goes_on_by spelled
      one_byte =
          let b : ℕ = get_or l at 32 in
          let rest : List ℕ = drop (at + 1) l in
          ap (inside ns digits value) (from_here l at (in_line l at goes))
          ∙ ap (λ (f : List ℕ). choose (goes_on_by digits value f and are_numbers (others (b ∷ rest)))
          (some (ns ++ spelled value f ∷ numbers (others (b ∷ rest)))) none) (first_cons b rest goes)
          ∙ ap (λ (fs : List (List ℕ)). choose (goes_on_by digits value (b ∷ first rest) and are_numbers fs)
          (some (ns ++ spelled value (b ∷ first rest) ∷ numbers fs)) none) (others_cons b rest goes)

      -- a byte that breaks the number
      pub number_breaks : digit_behind digits value (get_or l at 32) ≡ None → inside ns digits value (drop at l) ≡ none
      number_breaks e = one_byte ∙ test_fails _ _ _ _ (no_digit digits value (get_or l at 32) e)

      -- a digit more
      pub number_goes_on : (v : ℕ) → digit_behind digits value (get_or l at 32) ≡ Some v
          → inside ns digits value (drop at l) ≡ inside ns (suc digits) v (drop (at + 1) l)
      unfolding inside
      number_goes_on v e =
          let d = a_digit digits value (get_or l at 32) v e in
          one_byte ∙ test_holds _ _ _ _ d.0 ∙ ap (λ (x : ℕ). inside ns (suc digits) x (drop (at + 1) l)) (sym d.1)
