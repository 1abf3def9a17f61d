-- The first field of bytes and those behind it: what one byte more makes of them, and what a place in a line says of them.
use mathlib.Core.Path.{◌≡◌, refl, sym, ap, ◌∙◌}
use mathlib.Core.List.{List, [], ◌∷◌}
use Prim.Native.Nat.{ℕ, zero, suc, ◌+◌, ◌≤◌, ◌<◌}
use native.Mathlib.Numerals.{add-one}
use native.Mathlib.Omega.{arith}
use native.Mathlib.Decide.{ℕ_discrete, dec_lt}
use lib.Dec.{eqb}
use lib.ListN.{length, get_or, take, drop, drop_of_length-le, get_or-eq_default}
use lib.Seq.{drop-cons}
use Rattle.laws.specs.Choose.{choose}
use Rattle.laws.proofs.Choose.{choose_cases, if_ne}
use Rattle.line.specs.Line.{fields, onto_first}
use Rattle.line.specs.Scan.{first, others}

-- ---- there is always a first field

onto_shape : (b : ℕ) (fs : List (List ℕ)) → fs ≡ get_or fs 0 [] ∷ drop 1 fs → onto_first b fs ≡ (b ∷ get_or fs 0 []) ∷ drop 1 fs
onto_shape b [] e = cc
onto_shape b (f ∷ fs) e = refl

pub fields_shape : (bs : List ℕ) → fields bs ≡ first bs ∷ others bs
unfolding fields
fields_shape [] = refl
fields_shape (b ∷ bs) =
    choose_cases (λ (fs : List (List ℕ)). fs ≡ get_or fs 0 [] ∷ drop 1 fs) (eqb b 32) ([] ∷ fields bs) (onto_first b (fields bs))
    (λ _. refl)
    (λ _. let e = onto_shape b (fields bs) (fields_shape bs) in e ∙ ap (λ (fs : List (List ℕ)). get_or fs 0 [] ∷ drop 1 fs) (sym e))

-- ---- one byte more

pub first_none : first [] ≡ []
unfolding fields
first_none = refl

pub others_none : others [] ≡ []
unfolding fields
others_none = refl

pub first_space : (bs : List ℕ) → first (32 ∷ bs) ≡ []
unfolding fields choose
first_space bs = refl

pub others_space : (bs : List ℕ) → others (32 ∷ bs) ≡ first bs ∷ others bs
unfolding fields choose
others_space bs = fields_shape bs

fields_cons : (b : ℕ) (bs : List ℕ) → (b ≡ 32 → ⊥) → fields (b ∷ bs) ≡ (b ∷ first bs) ∷ others bs
unfolding fields
fields_cons b bs d = if_ne b 32 ([] ∷ fields bs) (onto_first b (fields bs)) d ∙ onto_shape b (fields bs) (fields_shape bs)

pub first_cons : (b : ℕ) (bs : List ℕ) → (b ≡ 32 → ⊥) → first (b ∷ bs) ≡ b ∷ first bs
first_cons b bs d = ap (λ (fs : List (List ℕ)). get_or fs 0 []) (fields_cons b bs d)

pub others_cons : (b : ℕ) (bs : List ℕ) → (b ≡ 32 → ⊥) → others (b ∷ bs) ≡ others bs
others_cons b bs d = ap (λ (fs : List (List ℕ)). drop 1 fs) (fields_cons b bs d)

-- ---- a place in a line; its end reads as a space

pub get_d_within : (l : List ℕ) (i d e : ℕ) → i < length l → get_or l i d ≡ get_or l i e
get_d_within [] i d e h = absurd (omega arith)
get_d_within (x ∷ xs) zero d e h = refl
get_d_within (x ∷ xs) (suc i) d e h = get_d_within xs i d e (omega arith)

pub in_line : (l : List ℕ) (i : ℕ) → (get_or l i 32 ≡ 32 → ⊥) → i < length l
in_line l i d = elim (dec_lt i (length l)) [ yes h ↦ h | no n ↦ absurd (d (get_or-eq_default l 32 (omega arith))) ]

pub from_here : (l : List ℕ) (i : ℕ) → i < length l → drop i l ≡ get_or l i 32 ∷ drop (i + 1) l
from_here l i h = rw (add-one, drop-cons l i 32)

-- at a space or the end a field ends
pub field_ends : (l : List ℕ) (i : ℕ) → get_or l i 32 ≡ 32 → first (drop i l) ≡ []
field_ends l i e = elim (dec_lt i (length l)) [
  | yes h ↦ ap first (from_here l i h ∙ ap (λ (b : ℕ). b ∷ drop (i + 1) l) e) ∙ first_space (drop (i + 1) l)
  | no n ↦ let h : length l ≤ i = omega arith in ap first (drop_of_length-le l h) ∙ first_none
]

-- ---- the word: a first field of so many bytes

word_at : (b : ℕ) (bs f : List ℕ) → first (b ∷ bs) ≡ f → f ≡ take (length f) (b ∷ bs) → first (b ∷ bs) ≡ take (length (first (b ∷ bs))) (b ∷ bs)
word_at b bs f e t = e ∙ t ∙ sym (ap (λ (g : List ℕ). take (length g) (b ∷ bs)) e)

pub word_is : (bs : List ℕ) → first bs ≡ take (length (first bs)) bs
word_is [] = first_none ∙ sym (ap (λ (f : List ℕ). take (length f) []) first_none)
word_is (b ∷ bs) = elim (ℕ_discrete b 32) [
  | yes e ↦ word_at b bs [] (ap (λ (x : ℕ). first (x ∷ bs)) e ∙ first_space bs) refl
  | no d ↦ word_at b bs (b ∷ first bs) (first_cons b bs d) (ap (λ (f : List ℕ). b ∷ f) (word_is bs))
]

pub behind_word : (bs : List ℕ) → others bs ≡ others (drop (length (first bs)) bs)
unfolding fields
behind_word [] = refl
behind_word (b ∷ bs) = elim (ℕ_discrete b 32) [
  | yes e ↦ sym (ap (λ (f : List ℕ). others (drop (length f) (b ∷ bs))) (ap (λ (x : ℕ). first (x ∷ bs)) e ∙ first_space bs))
  | no d ↦ others_cons b bs d ∙ behind_word bs ∙ sym (ap (λ (f : List ℕ). others (drop (length f) (b ∷ bs))) (first_cons b bs d))
]

-- the word ends at a space or the end
pub word_ends : (bs : List ℕ) → get_or bs (length (first bs)) 32 ≡ 32
word_ends [] = refl
word_ends (b ∷ bs) = elim (ℕ_discrete b 32) [
  | yes e ↦ ap (λ (f : List ℕ). get_or (b ∷ bs) (length f) 32) (ap (λ (x : ℕ). first (x ∷ bs)) e ∙ first_space bs) ∙ e
  | no d ↦ ap (λ (f : List ℕ). get_or (b ∷ bs) (length f) 32) (first_cons b bs d) ∙ word_ends bs
]
