-- A list that agrees still does, where the semaphores of its entries stay, one entry more or fewer stands in it.
use mathlib.Core.Path.{◌≡◌, refl, sym, ap, subst, ◌∙◌}
use mathlib.Core.Bool.{true, false}
use mathlib.Core.List.{List}
use mathlib.Core.Logic.{◌≢◌, ⊎_elim}
use Prim.Native.Nat.{ℕ, ◌%◌, ◌≤◌, ◌<◌}
use native.Mathlib.Omega.{arith}
use native.Mathlib.Decide.{ℕ_discrete, dec_lt}
use lib.Dec.{eqb}
use lib.ListN.{length, get_or, set, length-set, get_or-eq_default}
use lib.Seq.{get_or-set_same, get_or-set_other}
use borrow.Author.Tests.{leb-true, le-leb, eqb-false}
use Rattle.laws.specs.Choose.{choose}
use Rattle.laws.proofs.Choose.{and_both, both_and, if_yes, if_no, tested}
use Rattle.rules.specs.Machine.{Tables, slot_of}
use Rattle.rules.proofs.History.Used.{Named, names_named, named_names}
use Rattle.mapping.specs.Mapping.{greatest_count, is_counting, is_itron, is_mappable, forgotten, ListFits}
use Rattle.mapping.proofs.Forgotten.{length_forgotten, get_d_forgotten}
use Rattle.family.proofs.Stays.{Stays}

-- an identifier of a live counting semaphore with a maximum of at most 2147483647
pub record Mappable (t : Tables) (id : ℕ) : Type 0 where
  pub named : Named t id
  pub counting : is_counting (slot_of t (id % 65536)).attributes ≡ true
  pub most : (slot_of t (id % 65536)).maximum ≤ greatest_count

module _ (t : Tables) (id : ℕ) where
  pub mappable_is : is_mappable t id ≡ true → Mappable t id
  unfolding is_mappable
  mappable_is e =
      let p = and_both _ _ e in
      let q = and_both _ _ (subst (λ (n : ℕ). is_itron (slot_of t n) ≡ true) (if_yes _ _ p.0) p.1) in
      record { named = names_named t id p.0; counting = q.0; most = leb-true _ _ q.1 }

  pub is_mappable_lem : Mappable t id → is_mappable t id ≡ true
  unfolding is_mappable
  is_mappable_lem m =
      let n = named_names t id m.named in
      both_and n (subst (λ (n : ℕ). is_itron (slot_of t n) ≡ true) (sym (if_yes _ _ n)) (both_and m.counting (le-leb _ _ m.most)))

-- of two identifiers in one slot only one names
pub same_slot : (t : Tables) (a b : ℕ) → Named t a → Named t b → a % 65536 ≡ b % 65536 → a ≡ b
same_slot t a b m n e = omega (arith, ap (λ (k : ℕ). (slot_of t k).generation) e, m.generation, n.generation)

module _ {t t' : Tables} {freed : ℕ} (stays : Stays t t' freed) where
  pub mappable_stays : (id : ℕ) → id % 65536 ≢ freed → Mappable t id → Mappable t' id
  mappable_stays id d m =
      let n = m.named in
      let s = stays.slots (id % 65536) n.low d n.lives in
      record {
        named = record { low = n.low; high = omega (arith, n.high, stays.same_size); lives = s.lives; generation = s.generation ∙ n.generation };
        counting = subst (λ (a : ℕ). is_counting a ≡ true) (sym s.attributes) m.counting;
        most = omega (arith, s.maximum, m.most);
      }

  module _ (list : List ℕ) (f : ListFits t list) where
    -- each entry is as it was, with a slot that stays, or is nothing now
    pub fewer_fit : (list' : List ℕ) → length list' ≡ length list
        → ((k : ℕ) → get_or list' k 0 ≢ 0 → (get_or list k 0 ≡ get_or list' k 0) × (get_or list k 0 % 65536 ≢ freed)) → ListFits t' list'
    fewer_fit list' long each = record {
      long = long ∙ f.long;
      mappable = λ k n.
          let a = each k n in
          is_mappable_lem t' _ (subst (Mappable t') a.0 (mappable_stays _ a.1 (mappable_is t _ (f.mappable k (λ z. n (sym a.0 ∙ z))))));
      within = λ k n. let a = each k n in omega (arith, f.within k (λ z. n (sym a.0 ∙ z)), stays.same_size);
      once = λ j k n e.
          let a = each j n in
          let b = each k (λ z. n (e ∙ z)) in
          f.once j k (λ z. n (sym a.0 ∙ z)) (a.0 ∙ e ∙ sym b.0);
    }

    pub all_fit : ((k : ℕ) → get_or list k 0 ≢ 0 → get_or list k 0 % 65536 ≢ freed) → ListFits t' list
    all_fit each = fewer_fit list refl (λ k n. (refl, each k n))

    -- where the freed slot is that of an identifier, the entries with another stay
    module _ (id : ℕ) (named : Named t id) (slot : id % 65536 ≡ freed) where
      other_stays : (k : ℕ) → get_or list k 0 ≢ 0 → get_or list k 0 ≢ id → get_or list k 0 % 65536 ≢ freed
      other_stays k n d e = d (same_slot t _ id (mappable_is t _ (f.mappable k n)).named named (e ∙ sym slot))

      pub unlisted_fit : ((k : ℕ) → get_or list k 0 ≢ id) → ListFits t' list
      unlisted_fit d = all_fit (λ k n. other_stays k n (d k))

      -- the entry that was the identifier is nothing now
      pub dropped_fit : (p : ℕ) → get_or list p 0 ≡ id → id ≢ 0 → ListFits t' (set list p 0)
      dropped_fit p e z =
          fewer_fit (set list p 0) (length-set list p 0)
          (λ k n.
          elim (ℕ_discrete k p) [
            | yes s ↦ absurd (n (ap (λ (i : ℕ). get_or (set list p 0) i 0) s ∙ there))
            | no d ↦
                let same = get_or-set_other list p k 0 0 d in
                (sym same, other_stays k (λ y. n (same ∙ y)) (λ y. d (f.once k p (λ x. z (sym y ∙ x)) (y ∙ sym e))))
          ])
        where
          inside : p < length list
          inside =
              elim (dec_lt p (length list)) [
                | yes h ↦ h
                | no o ↦ let l : length list ≤ p = omega arith in absurd (z (sym e ∙ get_or-eq_default list 0 l))
              ]

          there : get_or (set list p 0) p 0 ≡ 0
          there = get_or-set_same list p 0 0 inside

      pub forgotten_fit : ListFits t' (forgotten id list)
      forgotten_fit = fewer_fit (forgotten id list) (length_forgotten id list) (λ k n. at k (get_d_forgotten id list k) n)
        where
          at : (k : ℕ) → get_or (forgotten id list) k 0 ≡ choose (eqb (get_or list k 0) id) 0 (get_or list k 0) → get_or (forgotten id list) k 0 ≢ 0
              → (get_or list k 0 ≡ get_or (forgotten id list) k 0) × (get_or list k 0 % 65536 ≢ freed)
          at k is n =
              ⊎_elim (λ (y : eqb (get_or list k 0) id ≡ true). absurd (n (is ∙ if_yes _ _ y)))
              (λ (y : eqb (get_or list k 0) id ≡ false).
              let same = is ∙ if_no _ _ y in (sym same, other_stays k (λ z. n (same ∙ z)) (eqb-false _ _ y)))
              (tested (eqb (get_or list k 0) id))

-- slot 0 is no slot, so that nothing is freed
pub unfreed_fit : {t t' : Tables} → Stays t t' 0 → (list : List ℕ) → ListFits t list → ListFits t' list
unfreed_fit {t} stays list f = all_fit stays list f (λ k n e. slotless (mappable_is t _ (f.mappable k n)).named e)
  where
    slotless : {n : ℕ} → Named t n → n % 65536 ≡ 0 → ⊥
    slotless m e = omega (arith, m.low)

-- one entry more, of an identifier that stood nowhere
module _ {t t' : Tables} (stays : Stays t t' 0) (list : List ℕ) (f : ListFits t list) (p id : ℕ) (inside : p < length list) (low : p < length t.slots)
    (nothing : get_or list p 0 ≡ 0) (fresh : (k : ℕ) → get_or list k 0 ≢ id) (new : Mappable t' id) where
  abbrev added : List ℕ
  added = set list p id

  here : (k : ℕ) → k ≡ p → get_or added k 0 ≡ id
  here k e = ap (λ (i : ℕ). get_or added i 0) e ∙ get_or-set_same list p id 0 inside

  there : (k : ℕ) → k ≢ p → get_or added k 0 ≡ get_or list k 0
  there k d = get_or-set_other list p k id 0 d

  old : ListFits t' list
  old = unfreed_fit stays list f

  pub added_fit : ListFits t' added
  added_fit = record {
    long = length-set list p id ∙ f.long;
    mappable = λ k n.
        elim (ℕ_discrete k p) [
          | yes e ↦ subst (λ (i : ℕ). is_mappable t' i ≡ true) (sym (here k e)) (is_mappable_lem t' id new)
          | no d ↦ subst (λ (i : ℕ). is_mappable t' i ≡ true) (sym (there k d)) (old.mappable k (λ z. n (there k d ∙ z)))
        ];
    within = λ k n.
        elim (ℕ_discrete k p) [ yes e ↦ omega (arith, stays.same_size) | no d ↦ old.within k (λ z. n (there k d ∙ z)) ];
    once = λ j k n e.
        elim (ℕ_discrete j p) [
          | yes a ↦ elim (ℕ_discrete k p) [ yes b ↦ omega arith | no d ↦ absurd (fresh k (sym (there k d) ∙ sym e ∙ here j a)) ]
          | no c ↦ elim (ℕ_discrete k p) [
            | yes b ↦ absurd (fresh j (sym (there j c) ∙ e ∙ here k b))
            | no d ↦ old.once j k (λ z. n (there j c ∙ z)) (sym (there j c) ∙ e ∙ there k d)
          ]
        ];
  }
