-- A list without an identifier, entry by entry.
use mathlib.Core.Path.{◌≡◌, refl, ap, subst, sym, ◌∙◌}
use mathlib.Core.List.{List, map}
use Prim.Native.Nat.{ℕ, ◌+◌, ◌<◌}
use native.Mathlib.Numerals.{add-one}
use lib.Dec.{eqb}
use lib.ListN.{length, get_or, set, length-map, get_or-map}
use Rattle.laws.specs.Choose.{choose}
use Rattle.laws.proofs.Choose.{if_eq, if_ne, choose_same}
use Rattle.laws.proofs.Mapped.{mapped, length_mapped, mapped_at, mapped_next, mapped_all}
use Rattle.mapping.specs.Mapping.{forgotten}

module _ (id : ℕ) where
  -- what an entry is from then on
  abbrev pub kept : ℕ → ℕ
  kept entry = choose (eqb entry id) 0 entry

  -- the first k entries without it
  pub record Forgets (list now : List ℕ) (k : ℕ) : Type 0 where
    pub same : now ≡ mapped kept k list
    pub long : length now ≡ length list

  module _ (list : List ℕ) where
    pub forgets_none : Forgets list list 0
    forgets_none = record { same = refl; long = refl }

    pub forgets_all : {now : List ℕ} {k : ℕ} → k ≡ length list → Forgets list now k → now ≡ forgotten id list
    unfolding forgotten
    forgets_all e f = f.same ∙ ap (λ (k : ℕ). mapped kept k list) e ∙ mapped_all kept list

    module _ {now : List ℕ} {k : ℕ} (within : k < length list) (f : Forgets list now k) where
      -- the entry at hand is the list's own
      here : get_or now k 0 ≡ get_or list k 0
      here = ap (λ (l : List ℕ). get_or l k 0) f.same ∙ mapped_at kept k list 0

      stored : {after : List ℕ} → after ≡ set now k (kept (get_or list k 0)) → Forgets list after (k + 1)
      stored {after} e =
          let same : after ≡ mapped kept (k + 1) list =
          e ∙ ap (λ (l : List ℕ). set l k (kept (get_or list k 0))) f.same ∙ mapped_next kept k list 0 within
          ∙ ap (λ (n : ℕ). mapped kept n list) (sym (add-one k))
          in
          record { same = same; long = ap (λ (l : List ℕ). length l) same ∙ length_mapped kept (k + 1) list }

      pub forgets_it : {after : List ℕ} → after ≡ set now k 0 → get_or now k 0 ≡ id → Forgets list after (k + 1)
      forgets_it s e = stored (s ∙ ap (λ (x : ℕ). set now k x) (sym (if_eq (get_or list k 0) id 0 _ (sym here ∙ e))))

      pub forgets_not : {after : List ℕ} → after ≡ set now k (get_or now k 0) → (get_or now k 0 ≡ id → ⊥) → Forgets list after (k + 1)
      forgets_not s n =
          let same : kept (get_or list k 0) ≡ get_or now k 0 = if_ne (get_or list k 0) id 0 _ (λ e. n (here ∙ e)) ∙ sym here in
          stored (s ∙ sym (ap (λ (x : ℕ). set now k x) same))

pub ruleset forgets = (forgets_none, forgets_all, forgets_it, forgets_not)

-- ---- what it leaves

pub length_forgotten : (id : ℕ) (list : List ℕ) → length (forgotten id list) ≡ length list
unfolding forgotten
length_forgotten id list = length-map list (kept id)

pub get_d_forgotten : (id : ℕ) (list : List ℕ) (k : ℕ) → get_or (forgotten id list) k 0 ≡ choose (eqb (get_or list k 0) id) 0 (get_or list k 0)
unfolding forgotten
get_d_forgotten id list k =
    subst (λ (none : ℕ). get_or (map (kept id) list) k none ≡ kept id (get_or list k 0)) (choose_same (eqb 0 id) 0) (get_or-map (kept id) list k 0)
