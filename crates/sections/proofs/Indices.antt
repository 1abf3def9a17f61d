-- Laws of a script's place in the list, and of a list to which each script adds at most one.
use mathlib.Core.Path.{◌≡◌, refl, subst, ap, ◌∙◌}
use mathlib.Core.Bool.{Bool, true, false}
use mathlib.Core.List.{List, [], ◌∷◌, ◌++◌}
use mathlib.Core.Logic.{◌⊎◌, inl, inr, ⊎_elim}
use Prim.Native.Nat.{ℕ, zero, suc, ◌<◌}
use native.Mathlib.Nat.{not-suc-le-zero}
use native.Mathlib.Omega.{arith}
use lib.Dec.{eqb}
use lib.ListN.{length}
use borrow.Author.Tests.{eqb-true}
use Rattle.laws.specs.Choose.{choose}
use Rattle.laws.specs.Rows.{tabulate, rows}
use Rattle.laws.proofs.Choose.{choose_cases, tested, if_yes, if_no}
use Rattle.sections.specs.Scripts.{Script, script_at, index_of}

pub index_task : (q : ℕ) (scripts : List Script) → index_of q scripts < length scripts → (script_at scripts (index_of q scripts)).task ≡ q
unfolding index_of
index_task q [] = λ h. absurd (not-suc-le-zero h)
index_task q (s ∷ ss) =
    choose_cases (λ (n : ℕ). n < length (s ∷ ss) → (script_at (s ∷ ss) n).task ≡ q) (eqb s.task q) 0 (suc (index_of q ss))
    (λ e h. eqb-true _ _ e) (λ e h. index_task q ss (omega arith))

-- some test below a bound holds, or none
pub some_or_none : (n : ℕ) (b : ℕ → Bool) → ((k : ℕ) × (k < n) × (b k ≡ true)) ⊎ ((i : ℕ) → i < n → b i ≡ false)
some_or_none zero b = inr (λ i h. absurd (not-suc-le-zero h))
some_or_none (suc n) b =
    ⊎_elim (λ (e : b 0 ≡ true). inl (0, omega arith, e))
    (λ (e : b 0 ≡ false).
    ⊎_elim (λ (s : (k : ℕ) × (k < n) × (b (suc k) ≡ true)). inl (suc s.0, omega (arith, s.1), s.2))
    (λ (f : (i : ℕ) → i < n → b (suc i) ≡ false). inr (later e f))
    (some_or_none n (λ i. b (suc i))))
    (tested (b 0))
  where
    later : b 0 ≡ false → ((i : ℕ) → i < n → b (suc i) ≡ false) → (i : ℕ) → i < suc n → b i ≡ false
    later e f zero h = e
    later e f (suc i) h = f i (omega arith)

module _ {A : Type 0} where
  pub rows_none : (n : ℕ) (b : ℕ → Bool) (g : ℕ → A) → ((i : ℕ) → i < n → b i ≡ false) → rows (tabulate n (λ i. choose (b i) (g i ∷ []) [])) ≡ []
  unfolding rows tabulate
  rows_none zero b g f = refl
  rows_none (suc n) b g f =
      ap (λ (l : List A). l ++ rows (tabulate n (λ i. choose (b (suc i)) (g (suc i) ∷ []) []))) (if_no (g 0 ∷ []) [] (f 0 (omega arith)))
      ∙ rows_none n (λ i. b (suc i)) (λ i. g (suc i)) (λ i h. f (suc i) (omega arith))

  pub rows_one : (n : ℕ) (b : ℕ → Bool) (g : ℕ → A) (k : ℕ) → k < n → b k ≡ true → ((i : ℕ) → i < n → b i ≡ true → i ≡ k)
      → rows (tabulate n (λ i. choose (b i) (g i ∷ []) [])) ≡ g k ∷ []
  unfolding rows tabulate
  rows_one zero b g k h e f = absurd (not-suc-le-zero h)
  rows_one (suc n) b g zero h e f =
      ap (λ (l : List A). l ++ rows (tabulate n (λ i. choose (b (suc i)) (g (suc i) ∷ []) []))) (if_yes (g 0 ∷ []) [] e)
      ∙ ap (λ (l : List A). g 0 ∷ l) (rows_none n (λ i. b (suc i)) (λ i. g (suc i))
      (λ i l. ⊎_elim (λ (t : b (suc i) ≡ true). absurd (omega (arith, f (suc i) (omega arith) t))) (λ (t : b (suc i) ≡ false). t) (tested (b (suc i)))))
  rows_one (suc n) b g (suc k) h e f =
      ap (λ (l : List A). l ++ rows (tabulate n (λ i. choose (b (suc i)) (g (suc i) ∷ []) [])))
      (if_no (g 0 ∷ []) [] (⊎_elim (λ (t : b 0 ≡ true). absurd (omega (arith, f 0 (omega arith) t))) (λ (t : b 0 ≡ false). t) (tested (b 0))))
      ∙ rows_one n (λ i. b (suc i)) (λ i. g (suc i)) k (omega arith) e (λ i l t. omega (arith, f (suc i) (omega arith) t))

  -- an element more than none: one of them is there
  pub rows_empty : (n : ℕ) (b : ℕ → Bool) (g : ℕ → A) → rows (tabulate n (λ i. choose (b i) (g i ∷ []) [])) ≡ [] → (i : ℕ) → i < n → b i ≡ false
  unfolding rows tabulate
  rows_empty zero b g e i h = absurd (not-suc-le-zero h)
  rows_empty (suc n) b g e i h = ⊎_elim (full e) (λ (t : b 0 ≡ false). later (rows_empty n (λ i. b (suc i)) (λ i. g (suc i))) t i h) (tested (b 0))
    where
      rest : List A
      rest = rows (tabulate n (λ i. choose (b (suc i)) (g (suc i) ∷ []) []))

      full : choose (b 0) (g 0 ∷ []) [] ++ rest ≡ [] → b 0 ≡ true → b i ≡ false
      full z t = let y : g 0 ∷ rest ≡ [] = subst (λ (l : List A). l ++ rest ≡ []) (if_yes (g 0 ∷ []) [] t) z in let x : ◌≡◌ {A = ℕ} 0 1 = cc in absurd
          (omega arith)

      later : (rest ≡ [] → (i : ℕ) → i < n → b (suc i) ≡ false) → b 0 ≡ false → (i : ℕ) → i < suc n → b i ≡ false
      later rec t zero l = t
      later rec t (suc i) l = rec (subst (λ (l : List A). l ++ rest ≡ []) (if_no (g 0 ∷ []) [] t) e) i (omega arith)
