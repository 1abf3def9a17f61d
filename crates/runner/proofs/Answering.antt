-- The answers of a call to the scripts' obtains, noted in lent numbers one script after another.
use Rattle.std.proofs.Common.{◌≡◌, ℕ, zero, suc, ◌+◌, ◌<◌, ◌≤◌, eqb, List, [], ◌∷◌, ◌++◌, length, get_or, drop, set, sym, refl, ap, ◌∙◌, ap₂, append_assoc, append-nil, add-one, arith, length-append, length-drop, drop_of_length-le, drop-cons}
use lib.Seq.{set_at, get_or_at}
use Rattle.laws.specs.Rows.{tabulate, rows}
use Rattle.laws.proofs.Fit.{length_tabulate}
use Rattle.sections.specs.Scripts.{Script, Grant, script_at}
use Rattle.sections.specs.Run.{Place, at, place_after, grant_if}
use Rattle.encoding.specs.Rows.{scripts_of}
use Rattle.encoding.specs.Laid.{laid_places, laid_grants, Reports, Answers}
use Rattle.runner.specs.State.{Room, Settles, places_after, grants_after}
use Rattle.encoding.proofs.Found.{left_first, left_none}

-- ---- all scripts

module _ {A : Type 0} where
  tabulate_suc : (i : ℕ) (f : ℕ → A) → tabulate (suc i) f ≡ tabulate i f ++ f i ∷ []
  unfolding tabulate
  tabulate_suc zero f = refl
  tabulate_suc (suc i) f = ap (λ (r : List A). f 0 ∷ r) (tabulate_suc i (λ j. f (suc j)))

  tabulate_more : (i : ℕ) (f : ℕ → A) → tabulate (i + 1) f ≡ tabulate i f ++ f i ∷ []
  tabulate_more i f = ap (λ (n : ℕ). tabulate n f) (add-one i) ∙ tabulate_suc i f

  module _ (d : A) (f : ℕ → A) (xs : List A) (i : ℕ) where
    swept_length : i ≤ length xs → length (tabulate i f ++ drop i xs) ≡ length xs
    swept_length h = length-append (tabulate i f) (drop i xs) ∙ (omega (arith, length_tabulate i f, length-drop i xs))

    module _ (h : i < length xs) where
      swept_next : get_or (tabulate i f ++ drop i xs) i d ≡ get_or xs i d
      swept_next =
          ap (λ (x : List A). get_or (tabulate i f ++ x) i d) (drop-cons xs i d h)
          ∙ get_or_at (tabulate i f) (get_or xs i d) (drop (suc i) xs) d i (length_tabulate i f)

      swept_more : set (tabulate i f ++ drop i xs) i (f i) ≡ tabulate (i + 1) f ++ drop (i + 1) xs
      swept_more =
          ap (λ (x : List A). set (tabulate i f ++ x) i (f i)) (drop-cons xs i d h)
          ∙ set_at (tabulate i f) (get_or xs i d) (drop (suc i) xs) (f i) i (length_tabulate i f)
          ∙ sym (append_assoc (tabulate i f) (f i ∷ []) (drop (suc i) xs))
          ∙ ap₂ (λ (x : List A) (n : ℕ). x ++ drop n xs) (sym (tabulate_more i f)) (sym (add-one i))

module _ {A : Type 0} where
  rows_more : (rs : List (List A)) (r : List A) → rows (rs ++ r ∷ []) ≡ rows rs ++ r
  unfolding rows
  rows_more [] r = append-nil r
  rows_more (x ∷ rs) r = ap (λ (y : List A). x ++ y) (rows_more rs r) ∙ sym (append_assoc x (rows rs) r)

  pub rows_tabulate_more : (i : ℕ) (f : ℕ → List A) → rows (tabulate (i + 1) f) ≡ rows (tabulate i f) ++ f i
  rows_tabulate_more i f = ap (λ (x : List (List A)). rows x) (tabulate_more i f) ∙ rows_more (tabulate i f) (f i)

-- the answers to the first i scripts' obtains are noted
abbrev pub Settling : (ns places₁ grants₁ : List ℕ) (answer : ℕ → ℕ) (i : ℕ) (places grants : List ℕ) → Type 0
Settling ns places₁ grants₁ answer i places grants =
    (places₀ grants₀ : List ℕ) (ps : List Place) (gs : List Grant) → Reports places₀ grants₀ ps gs places₁ grants₁ → Room (scripts_of ns) answer ps gs
    → Reports places₀ grants₀ (places_after i answer ps ++ drop i ps) (gs ++ grants_after i (scripts_of ns) answer ps) places grants

module _ (ns places₁ grants₁ : List ℕ) (answer : ℕ → ℕ) where
  pub settling_none : Settling ns places₁ grants₁ answer 0 places₁ grants₁
  unfolding tabulate rows
  settling_none places₀ grants₀ ps gs R room = record { places = R.places; grants = R.grants ∙ ap (laid_grants grants₀) (sym (append-nil gs)) }

  pub settling_more : (i : ℕ) (places grants : List ℕ) → i < length (scripts_of ns) → Settling ns places₁ grants₁ answer i places grants
      → (q a : ℕ) → (script_at (scripts_of ns) i).task ≡ q → a ≡ answer i → (places' grants' : List ℕ) → Answers places grants i q a places' grants'
      → Settling ns places₁ grants₁ answer (i + 1) places' grants'
  settling_more i places grants h S q a eq ea places' grants' A places₀ grants₀ ps gs R room =
      let r = A places₀ grants₀ swept (gs ++ before) (S places₀ grants₀ ps gs R room) (omega (arith, many, room.many))
      (λ n. omega (arith, ap (λ (p : Place). p.section) next, room.small i h (λ z. n (ea ∙ z)))) (λ z. room.few i h (sym ea ∙ z))
      in
      record {
        places = r.places ∙ ap (laid_places places₀) (ap₂ (λ (n : ℕ) (p : Place). set swept i (place_after n p)) ea next ∙ swept_more (at 0 0) f ps i within);
        grants = r.grants ∙ ap (laid_grants grants₀) (append_assoc gs before _ ∙ ap (λ (x : List Grant). gs ++ x) (same ∙ sym (rows_tabulate_more i g)));
      }
    where
      f : ℕ → Place
      f j = place_after (answer j) (get_or ps j (at 0 0))

      g : ℕ → List Grant
      g j = grant_if (eqb (answer j) 0) (script_at (scripts_of ns) j).task (get_or ps j (at 0 0)).section

      swept : List Place
      swept = places_after i answer ps ++ drop i ps

      before : List Grant
      before = grants_after i (scripts_of ns) answer ps

      within : i < length ps
      within = omega (arith, room.many)

      many : length swept ≡ length ps
      many = swept_length (at 0 0) f ps i (omega (arith, room.many))

      next : get_or swept i (at 0 0) ≡ get_or ps i (at 0 0)
      next = swept_next (at 0 0) f ps i within

      same : before ++ grant_if (eqb a 0) q (get_or swept i (at 0 0)).section ≡ before ++ g i
      same =
          ap (λ (n : ℕ). before ++ grant_if (eqb n 0) q (get_or swept i (at 0 0)).section) ea
          ∙ ap₂ (λ (k : ℕ) (p : Place). before ++ grant_if (eqb (answer i) 0) k p.section) (sym eq) next

  pub settling_all : (i : ℕ) (places grants : List ℕ) → length (scripts_of ns) ≤ i → i ≤ length (scripts_of ns) → Settling ns places₁ grants₁ answer i places
      grants
      → Settles ns places₁ grants₁ answer places grants
  settling_all i places grants l h S places₀ grants₀ ps gs R room =
      let r = S places₀ grants₀ ps gs R room in
      let e : i ≡ length (scripts_of ns) = omega arith in
      record {
        places =
            r.places
            ∙ ap (laid_places places₀)
            (ap (λ (x : List Place). places_after i answer ps ++ x) (drop_of_length-le ps {i = i} (omega (arith, room.many)))
            ∙ append-nil (places_after i answer ps)
            ∙ ap (λ (n : ℕ). places_after n answer ps) e);
        grants = r.grants ∙ ap (λ (n : ℕ). laid_grants grants₀ (gs ++ grants_after n (scripts_of ns) answer ps)) e;
      }

-- ---- the walk over the scripts

module _ (scripts left : List Script) (i : ℕ) (e : left ≡ drop i scripts) where
  pub script_next : {s : Script} {later : List Script} → left ≡ s ∷ later → (i < length scripts) × ((script_at scripts i).task ≡ s.task) × (later ≡ drop (i + 1) scripts)
  script_next h =
      let f = left_first (record { task = 0; sections = [] }) scripts i (sym e ∙ h) in
      (f.0, ap (λ (s : Script). s.task) f.1, sym f.2)

  pub scripts_all : left ≡ [] → length scripts ≤ i
  scripts_all h = left_none (record { task = 0; sections = [] }) scripts i (sym e ∙ h)
