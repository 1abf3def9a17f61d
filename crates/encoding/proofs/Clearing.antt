-- Places cleared number by number: what is left to clear gives the whole.
use Rattle.std.proofs.Common.{◌≡◌, ℕ, zero, suc, ◌+◌, ◌-◌, ◌*◌, ◌/◌, ◌<◌, ◌≤◌, List, [], ◌∷◌, map, length, set, replicate, sym, refl, ap, ◌∙◌, add-one, arith}
use lib.Seq.{sets, set_out}
use Rattle.laws.specs.Rows.{rows}
use Rattle.sections.specs.Run.{at}
use Rattle.encoding.specs.Laid.{place_row, laid_places, laid_grants}

-- two zeros for each script
zeros : (n : ℕ) → replicate (2 * n) 0 ≡ rows (map place_row (replicate n (at 0 0)))
unfolding rows
zeros zero = refl
zeros (suc n) =
    let two : 2 * suc n ≡ suc (suc (2 * n)) = omega arith in
    ap (λ (k : ℕ). replicate k 0) two ∙ ap (λ (r : List ℕ). 0 ∷ 0 ∷ r) (zeros n)

-- stores behind the end do nothing
sets_past : (ps : List ℕ) (k : ℕ) (vs : List ℕ) → length ps ≤ k → ps ≡ sets ps k vs
sets_past ps k [] h = refl
sets_past ps k (v ∷ vs) h = sets_past ps (suc k) vs (omega arith) ∙ ap (λ (l : List ℕ). sets l (suc k) vs) (sym (set_out ps k v h))

-- what is left behind the first k numbers, cleared, gives all of the places at the start
abbrev pub Clearing : (places₀ : List ℕ) (n : ℕ) (places : List ℕ) (k : ℕ) → Type 0
Clearing places₀ n places k = sets places k (replicate (2 * n - k) 0) ≡ laid_places places₀ (replicate n (at 0 0))

pub clearing_none : (places₀ : List ℕ) (n : ℕ) → Clearing places₀ n places₀ 0
unfolding laid_places
clearing_none places₀ n =
    let all : 2 * n - 0 ≡ 2 * n = omega arith in
    ap (λ (j : ℕ). sets places₀ 0 (replicate j 0)) all ∙ ap (λ (r : List ℕ). sets places₀ 0 r) (zeros n)

module _ (places₀ : List ℕ) (n : ℕ) (places : List ℕ) (k : ℕ) (l : Clearing places₀ n places k) where
  pub clearing_more : k / 2 < n → Clearing places₀ n (set places k 0) (k + 1)
  clearing_more h =
      let m : 2 * n - k ≡ suc (2 * n - (k + 1)) = omega arith in
      ap (λ (j : ℕ). sets (set places k 0) j (replicate (2 * n - (k + 1)) 0)) (add-one k)
      ∙ ap (λ (j : ℕ). sets places k (replicate j 0)) (sym m)
      ∙ l

  pub cleared : n ≤ k / 2 → places ≡ laid_places places₀ (replicate n (at 0 0))
  cleared h = let none : 0 ≡ 2 * n - k = omega arith in ap (λ (j : ℕ). sets places k (replicate j 0)) none ∙ l

  pub cleared_short : length places ≤ k → places ≡ laid_places places₀ (replicate n (at 0 0))
  cleared_short h = sets_past places k (replicate (2 * n - k) 0) h ∙ l

pub no_grants : (grants₀ grants : List ℕ) → grants ≡ set grants₀ 0 0 → grants ≡ laid_grants grants₀ []
unfolding laid_grants rows
no_grants grants₀ grants e = e
