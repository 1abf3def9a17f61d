-- The answer to a script's obtain, noted in lent numbers.
use Rattle.std.proofs.Common.{◌≡◌, ℕ, suc, eqb, List, [], ◌∷◌, ◌++◌, get_or, set, sym, ap, ◌∙◌, append-nil, arith}
use lib.Seq.{set-get_or}
use Rattle.laws.proofs.Choose.{if_eq, if_ne}
use Rattle.sections.specs.Scripts.{Grant}
use Rattle.sections.specs.Run.{Place, at, place_after, grant_if}
use Rattle.sections.proofs.Standing.{place_said, place_granted, place_skipped}
use Rattle.encoding.specs.Laid.{laid_places, laid_grants, Reports}

module _ (places₀ grants₀ : List ℕ) (ps : List Place) (gs : List Grant) (places grants : List ℕ) (R : Reports places₀ grants₀ ps gs places grants) (i q answer
    : ℕ) where
  abbrev p : Place
  p = get_or ps i (at 0 0)

  abbrev Noted : List ℕ → List ℕ → Type 0
  Noted places' grants' = Reports places₀ grants₀ (set ps i (place_after answer p)) (gs ++ grant_if (eqb answer 0) q p.section) places' grants'

  ungranted : (answer ≡ 0 → ⊥) → grants ≡ laid_grants grants₀ (gs ++ grant_if (eqb answer 0) q p.section)
  ungranted n = R.grants ∙ ap (laid_grants grants₀) (sym (ap (λ (x : List Grant). gs ++ x) (if_ne answer 0 _ _ n) ∙ append-nil gs))

  pub noted_none : answer ≡ 100 → Noted places grants
  noted_none e =
      record {
        places = R.places ∙ ap (laid_places places₀) (sym (ap (λ (x : Place). set ps i x) (ap (λ (n : ℕ). place_after n p) e ∙ place_said p) ∙ set-get_or ps i (at
            0 0)));
        grants = ungranted (λ z. omega arith);
      }

  pub noted_skip : (answer ≡ 100 → ⊥) → (answer ≡ 0 → ⊥) → (section : ℕ) → section ≡ suc p.section → (places' : List ℕ)
      → places' ≡ laid_places places₀ (set ps i (at section 0)) → Noted places' grants
  noted_skip n m section e places' d =
      record {
        places = d ∙ ap (λ (x : Place). laid_places places₀ (set ps i x)) (ap (λ (k : ℕ). at k 0) e ∙ sym (place_skipped answer p m n));
        grants = ungranted m;
      }

  pub noted_grant : answer ≡ 0 → (section : ℕ) → section ≡ p.section → (places' grants' : List ℕ) → places' ≡ laid_places places₀ (set ps i (at section 1))
      → grants' ≡ laid_grants grants₀ (gs ++ record { task = q; section = section } ∷ []) → Noted places' grants'
  noted_grant z section e places' grants' d h =
      record {
        places = d ∙ ap (λ (x : Place). laid_places places₀ (set ps i x)) (ap (λ (k : ℕ). at k 1) e ∙ sym (ap (λ (n : ℕ). place_after n p) z ∙ place_granted p));
        grants =
            h
            ∙ ap (λ (k : ℕ). laid_grants grants₀ (gs ++ record { task = q; section = k } ∷ [])) e
            ∙ ap (λ (x : List Grant). laid_grants grants₀ (gs ++ x)) (sym (if_eq answer 0 _ _ z));
      }
