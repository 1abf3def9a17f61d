-- A test of every number of a range, as an iterator's `all` makes it and as `all` says it.
use Rattle.std.proofs.Common.{◌≡◌, ◌∙◌, ◌+◌, [], ◌∷◌, ℕ, zero, suc, refl, sym, ap, arith, Bool, true, false, ◌&&◌, map}
use native.Mathlib.Numerals.{add-one}
use Rattle.std.specs.List.{list_all, range_with_len}
use Rattle.std.proofs.lemmas.List.Folds.{list_all-append, list_all-map}
use Rattle.std.proofs.lemmas.List.FromFn.{map-range_with_len_more}
use Rattle.laws.specs.Choose.{choose, ◌and◌}
use Rattle.laws.specs.All.{all}

both : (a b : Bool) → (a && (b && true)) ≡ (a and b)
unfolding choose
both true true = refl
both true false = refl
both false b = refl

answers : (n : ℕ) (p : ℕ → Bool) → list_all p (range_with_len 0 n) ≡ list_all (λ (b : Bool). b) (map p (range_with_len 0 n))
answers n p = sym (list_all-map (λ (b : Bool). b) p (range_with_len 0 n))

one_more : (n : ℕ) (p : ℕ → Bool) → list_all p (range_with_len 0 (n + 1)) ≡ (list_all p (range_with_len 0 n) and p n)
one_more n p =
    answers (n + 1) p
    ∙ ap (list_all (λ (b : Bool). b)) (map-range_with_len_more p 0 n n (omega arith))
    ∙ list_all-append (λ (b : Bool). b) (map p (range_with_len 0 n)) (p n ∷ [])
    ∙ both _ (p n)
    ∙ ap (λ (a : Bool). a and p n) (sym (answers n p))

pub all_range : (n : ℕ) (p : ℕ → Bool) → list_all p (range_with_len 0 n) ≡ all n p
unfolding all
all_range zero p = refl
all_range (suc n) p =
    ap (λ (k : ℕ). list_all p (range_with_len 0 k)) (sym (add-one n)) ∙ one_more n p ∙ ap (λ (a : Bool). a and p n) (all_range n p)
