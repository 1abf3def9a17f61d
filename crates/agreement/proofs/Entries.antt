-- The tests of the places of a queue and of the sequence of ready tasks, and what they say of how often a task stands in it.
use mathlib.Core.Path.{◌≡◌, refl, sym, subst}
use mathlib.Core.Bool.{Bool, true, false}
use mathlib.Core.List.{List, [], ◌∷◌}
use mathlib.Core.Logic.{⊎_elim}
use Rattle.std.specs.Prelude.{Some, None}
use Prim.Native.Nat.{ℕ, zero, suc, pred, ◌≤◌, ◌<◌}
use native.Mathlib.Omega.{arith}
use native.Mathlib.Nat.{not-suc-le-zero}
use native.Mathlib.Decide.{dec_lt}
use lib.Dec.{eqb}
use lib.ListN.{length, get_or}
use borrow.Author.Tests.{leb-true, eqb-true, eqb-false, eq-eqb, ne_eqb}
use Rattle.laws.specs.Choose.{isnt}
use Rattle.laws.proofs.Choose.{tested, never, if_yes, and_both, both_and, isnt_false, false_isnt}
use Rattle.rules.specs.Machine.{Slot, Tables}
use Rattle.rules.specs.Agreement.{occurs, is_waiter, is_ready_task}
use Rattle.rules.proofs.Invariants.Lists.{bit_yes, bit_no, bit_same, occurs_none, occurs_cons, occurs_at, occurs_not}
use Rattle.agreement.specs.Tests.{seen_at, number_agrees, place_agrees}
use Rattle.agreement.proofs.Marks.{Place, seen_made, seen_from}

-- ---- how often

-- who passes no test of the entries
pub occurs_apart : (q : ℕ) (xs : List ℕ) → ((k : ℕ) → k < length xs → get_or xs k 0 ≡ q → ⊥) → occurs q xs ≡ 0
occurs_apart q xs f =
    occurs_not (λ x. isnt (eqb x q)) q (if_yes false true (eq-eqb q q refl)) xs (λ k h. false_isnt _ (ne_eqb _ _ (f k h)))

-- an entry that stands at one place only
pub occurs_once : (xs : List ℕ) (k : ℕ) → k < length xs → ((j : ℕ) → j < length xs → get_or xs j 0 ≡ get_or xs k 0 → j ≡ k) → occurs (get_or xs k 0) xs ≡ 1
occurs_once [] k h f = absurd (not-suc-le-zero h)
occurs_once (x ∷ xs) zero h f =
    let others : occurs x xs ≡ 0 = occurs_apart x xs (λ k b e. let z : suc k ≡ 0 = f (suc k) (omega arith) e in omega arith) in
    omega (arith, occurs_cons x x xs, bit_same x)
occurs_once (x ∷ xs) (suc k) h f =
    let q : ℕ = get_or xs k 0 in
    let other : eqb q x ≡ false = ne_eqb q x (λ e. let z : 0 ≡ suc k = f 0 (omega arith) (sym e) in omega arith) in
    let rest : occurs q xs ≡ 1 = occurs_once xs k (omega arith) (λ j b e. let z : suc j ≡ suc k = f (suc j) (omega arith) e in omega arith) in
    omega (arith, occurs_cons q x xs, bit_no (eqb q x) other)

-- one that stands at two
pub occurs_twice : (xs : List ℕ) (j k : ℕ) → j < k → k < length xs → get_or xs j 0 ≡ get_or xs k 0 → 2 ≤ occurs (get_or xs k 0) xs
occurs_twice [] j k l h e = absurd (not-suc-le-zero h)
occurs_twice (x ∷ xs) j zero l h e = absurd (not-suc-le-zero l)
occurs_twice (x ∷ xs) zero (suc k) l h e =
    let q : ℕ = get_or xs k 0 in
    omega (arith, occurs_cons q x xs, bit_yes (eqb q x) (eq-eqb q x (sym e)), occurs_at xs k (omega arith))
occurs_twice (x ∷ xs) (suc j) (suc k) l h e =
    let rest : 2 ≤ occurs (get_or xs k 0) xs = occurs_twice xs j k (omega arith) (omega arith) e in
    omega (arith, occurs_cons (get_or xs k 0) x xs)

-- where it stands
pub record Found (xs : List ℕ) (q : ℕ) : Type 0 where
  pub place : ℕ
  pub within : place < length xs
  pub is : get_or xs place 0 ≡ q

pub occurs_found : (q : ℕ) (xs : List ℕ) → 1 ≤ occurs q xs → Found xs q
occurs_found q [] h = absurd (omega (arith, occurs_none q))
occurs_found q (x ∷ xs) h =
    ⊎_elim (λ (e : eqb q x ≡ true). record { place = 0; within = omega arith; is = sym (eqb-true q x e) })
    (λ (e : eqb q x ≡ false).
    let f = occurs_found q xs (omega (arith, occurs_cons q x xs, bit_no (eqb q x) e)) in
    record { place = suc f.place; within = omega (arith, f.within); is = f.is })
    (tested (eqb q x))

-- ---- marks: a number that is new at each of its places stands at one

module _ (seen : List Bool) (xs : List ℕ) where
  module _
      (within : (k : ℕ) → k < length xs → pred (get_or xs k 0) < length seen)
      (fresh : (k : ℕ) → k < length xs → get_or (seen_at seen xs k) (pred (get_or xs k 0)) false ≡ false)
    where
      -- where it stands first it is marked
      first : (j k : ℕ) → j < k → k < length xs → get_or xs j 0 ≡ get_or xs k 0 → ⊥
      first j k b h same =
          let marked = seen_made seen xs k j b (within j (omega arith)) in
          never (subst (λ (q : ℕ). get_or (seen_at seen xs k) (pred q) false ≡ true) same marked) (fresh k h)

      pub fresh_once : (k : ℕ) → k < length xs → occurs (get_or xs k 0) xs ≡ 1
      fresh_once k h = occurs_once xs k h same
        where
          same : (j : ℕ) → j < length xs → get_or xs j 0 ≡ get_or xs k 0 → j ≡ k
          same j b q =
              elim (dec_lt j k) [
                | yes p ↦ absurd (first j k p h q)
                | no p ↦ elim (dec_lt k j) [ yes r ↦ absurd (first k j r b (sym q)) | no r ↦ omega arith ]
              ]

  -- and back, where it was not marked before
  module _ (least : (k : ℕ) → k < length xs → 1 ≤ get_or xs k 0) (k : ℕ) (h : k < length xs) (most : occurs (get_or xs k 0) xs ≤ 1) where
    here : Place xs k (pred (get_or xs k 0)) → ⊥
    here p =
        let same : get_or xs p.place 0 ≡ get_or xs k 0 = omega (arith, p.is, least k h, least p.place (omega (arith, p.within))) in
        omega (arith, occurs_twice xs p.place k p.within h same, most)

    pub once_fresh : (get_or seen (pred (get_or xs k 0)) false ≡ true → ⊥) → get_or (seen_at seen xs k) (pred (get_or xs k 0)) false ≡ false
    once_fresh before =
        ⊎_elim (λ (m : get_or (seen_at seen xs k) (pred (get_or xs k 0)) false ≡ true). absurd (⊎_elim before here (seen_from seen xs k _ m)))
        (λ (n : get_or (seen_at seen xs k) (pred (get_or xs k 0)) false ≡ false). n)
        (tested (get_or (seen_at seen xs k) (pred (get_or xs k 0)) false))

-- ---- the test of a place of a queue

pub record EntryFits (t : Tables) (seen : List Bool) (id : ℕ) (s : Slot) (k : ℕ) : Type 0 where
  pub waiter : is_waiter t id (get_or s.queue k 0) ≡ true
  pub apart : get_or s.queue k 0 ≡ s.owner → ⊥
  pub fresh : get_or (seen_at seen s.queue k) (pred (get_or s.queue k 0)) false ≡ false

module _ (t : Tables) (seen : List Bool) (id : ℕ) (s : Slot) (k : ℕ) where
  pub entry_fits : place_agrees t seen s.owner (Some id) s.queue k ≡ true → EntryFits t seen id s k
  unfolding place_agrees number_agrees
  entry_fits e =
      let number = and_both _ _ e in
      let task = and_both _ _ number.0 in
      let mark = and_both _ _ number.1 in
      record {
        waiter = both_and task.0 mark.1;
        apart = eqb-false _ _ (isnt_false _ task.1);
        fresh = isnt_false _ mark.0;
      }

  pub fits_entry : EntryFits t seen id s k → place_agrees t seen s.owner (Some id) s.queue k ≡ true
  unfolding place_agrees number_agrees
  fits_entry f =
      let waiter = and_both _ _ f.waiter in
      both_and (both_and waiter.0 (false_isnt _ (ne_eqb _ _ f.apart)))
      (both_and (false_isnt _ f.fresh) waiter.1)

-- ---- and of the sequence

pub record PlaceFits (t : Tables) (seen : List Bool) (k : ℕ) : Type 0 where
  pub ready : is_ready_task t (get_or t.ready k 0) ≡ true
  pub fresh : get_or (seen_at seen t.ready k) (pred (get_or t.ready k 0)) false ≡ false

module _ (t : Tables) (seen : List Bool) (k : ℕ) where
  pub place_fits : place_agrees t seen 0 None t.ready k ≡ true → PlaceFits t seen k
  unfolding place_agrees number_agrees
  place_fits e =
      let number = and_both _ _ e in
      let mark = and_both _ _ number.1 in
      record { ready = both_and (and_both _ _ number.0).0 mark.1; fresh = isnt_false _ mark.0 }

  pub fits_place : PlaceFits t seen k → place_agrees t seen 0 None t.ready k ≡ true
  unfolding place_agrees number_agrees
  fits_place f =
      let ready = and_both _ _ f.ready in
      let least : 1 ≤ get_or t.ready k 0 = leb-true _ _ (and_both _ _ ready.0).0 in
      both_and (both_and ready.0 (false_isnt _ (ne_eqb _ _ (λ (z : get_or t.ready k 0 ≡ 0). omega arith))))
      (both_and (false_isnt _ f.fresh) ready.1)
