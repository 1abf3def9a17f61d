-- The slots that ident's search looks at: 1, 2, 3 .. in turn, up to its match or to the last.
use mathlib.Core.Path.{◌≡◌, refl, sym, ap, ap₂, subst, ◌∙◌}
use mathlib.Core.Bool.{true, false, true≢false}
use mathlib.Core.List.{List, [], ◌∷◌}
use mathlib.Core.Logic.{◌⊎◌, inl, inr, ⊎_elim}
use Prim.Native.Nat.{ℕ, zero, suc, pred, ◌+◌, ◌≤◌, ◌<◌}
use native.Mathlib.Numerals.{add-one}
use native.Mathlib.Omega.{arith}
use lib.Dec.{eqb}
use lib.ListN.{length, get_or, drop}
use lib.Seq.{drop-cons, drop-length}
use borrow.Author.Tests.{eq-eqb, ne_eqb}
use Rattle.laws.specs.Choose.{choose, ◌or◌}
use Rattle.laws.specs.Rows.{tabulate}
use Rattle.laws.proofs.Choose.{tested, if_yes, if_no, or_first, or_second, choose_same}
use Rattle.rules.specs.Machine.{Slot, Tables, unstarted, free_slot, slot_of, id_of}
use Rattle.rules.specs.Calls.{Outcome, answered, refused, first_named, ident, searched_slots, looked}
use Rattle.rules.proofs.Searching.{is_named, named_hit}

-- a search ends with a match, at the slot that it looks at last, where k slots stand before these
pub record Matched (name : ℕ) (ss : List Slot) (k : ℕ) : Type 0 where
  pub place : ℕ
  pub within : place < length ss
  pub number : first_named name ss (suc k) ≡ suc (k + place)
  pub looks : length (searched_slots name ss (suc k)) ≡ suc place
  pub holds : is_named name (get_or ss place (free_slot 0)) ≡ true

-- or with none, and then it has looked at all
pub record Unmatched (name : ℕ) (ss : List Slot) (k : ℕ) : Type 0 where
  pub number : first_named name ss (suc k) ≡ 0
  pub looks : length (searched_slots name ss (suc k)) ≡ length ss
  pub fails : (i : ℕ) → i < length ss → is_named name (get_or ss i (free_slot 0)) ≡ false

module _ (name : ℕ) where
  -- one slot, and the rest unless it matches
  here : (s : Slot) (ss : List Slot) (n : ℕ) → is_named name s ≡ true → searched_slots name (s ∷ ss) n ≡ n ∷ []
  unfolding searched_slots
  here s ss n e = ap (λ (l : List ℕ). n ∷ l) (if_yes [] (searched_slots name ss (suc n)) e)

  later : (s : Slot) (ss : List Slot) (n : ℕ) → is_named name s ≡ false → searched_slots name (s ∷ ss) n ≡ n ∷ searched_slots name ss (suc n)
  unfolding searched_slots
  later s ss n e = ap (λ (l : List ℕ). n ∷ l) (if_no [] (searched_slots name ss (suc n)) e)

  pub ends : (ss : List Slot) (k : ℕ) → Matched name ss k ⊎ Unmatched name ss k
  unfolding first_named searched_slots
  ends [] k = inr (record { number = refl; looks = refl; fails = λ i h. absurd (omega arith) })
  ends (s ∷ ss) k = ⊎_elim at_this (λ f. ⊎_elim (behind f) (nowhere f) (ends ss (suc k))) (tested (is_named name s))
    where
      at_this : is_named name s ≡ true → Matched name (s ∷ ss) k ⊎ Unmatched name (s ∷ ss) k
      at_this e =
          let n = if_yes (suc k) (first_named name ss (suc (suc k))) e in
          inl (record { place = 0; within = omega arith; number = omega (arith, n); looks = ap length (here s ss (suc k) e); holds = e })

      behind : is_named name s ≡ false → Matched name ss (suc k) → Matched name (s ∷ ss) k ⊎ Unmatched name (s ∷ ss) k
      behind f m =
          let n = if_no (suc k) (first_named name ss (suc (suc k))) f in
          inl (record {
            place = suc m.place;
            within = omega (arith, m.within);
            number = omega (arith, n, m.number);
            looks = omega (arith, ap length (later s ss (suc k) f), m.looks);
            holds = m.holds;
          })

      nowhere : is_named name s ≡ false → Unmatched name ss (suc k) → Matched name (s ∷ ss) k ⊎ Unmatched name (s ∷ ss) k
      nowhere f u =
          let n = if_no (suc k) (first_named name ss (suc (suc k))) f in
          inr (record { number = n ∙ u.number; looks = omega (arith, ap length (later s ss (suc k) f), u.looks); fails = fails })
        where
          fails : (i : ℕ) → i < length (s ∷ ss) → is_named name (get_or (s ∷ ss) i (free_slot 0)) ≡ false
          fails zero h = f
          fails (suc i) h = u.fails i (omega (arith, h))

  -- in turn, each once
  abbrev Turns : (ℕ → ℕ) → List ℕ → Type 0
  Turns f l = l ≡ tabulate (length l) f

  in_turn_lem : (ss : List Slot) (n : ℕ) (f : ℕ → ℕ) → ((i : ℕ) → f i ≡ n + i) → Turns f (searched_slots name ss n)
  unfolding searched_slots tabulate
  in_turn_lem [] n f e = refl
  in_turn_lem (s ∷ ss) n f e = ⊎_elim at_this (behind (in_turn_lem ss (suc n) (λ i. f (suc i)) (λ i. omega (arith, e (suc i))))) (tested (is_named name s))
    where
      first : n ≡ f 0
      first = omega (arith, e 0)

      at_this : is_named name s ≡ true → Turns f (searched_slots name (s ∷ ss) n)
      at_this t = subst (Turns f) (sym (here s ss n t)) (ap (λ (m : ℕ). m ∷ []) first)

      behind : Turns (λ i. f (suc i)) (searched_slots name ss (suc n)) → is_named name s ≡ false → Turns f (searched_slots name (s ∷ ss) n)
      behind rest t = subst (Turns f) (sym (later s ss n t)) (ap₂ (λ (m : ℕ) (l : List ℕ). m ∷ l) first rest)

  -- at no more slots than there are
  pub looks_few : (ss : List Slot) (k : ℕ) → length (searched_slots name ss (suc k)) ≤ length ss
  looks_few ss k = ⊎_elim (λ m. omega (arith, m.looks, m.within)) (λ u. omega (arith, u.looks)) (ends ss k)

  -- and at the same ones, whatever slots stand behind the last that it looks at
  pub looks_same : (ss others : List Slot) (n : ℕ) → length ss ≡ length others
      → ((i : ℕ) → i < length (searched_slots name ss n) → get_or ss i (free_slot 0) ≡ get_or others i (free_slot 0))
      → searched_slots name ss n ≡ searched_slots name others n
  unfolding searched_slots
  looks_same [] [] n e same = refl
  looks_same [] (o ∷ others) n e same = absurd (omega (arith, e))
  looks_same (s ∷ ss) [] n e same = absurd (omega (arith, e))
  looks_same (s ∷ ss) (o ∷ others) n e same =
      ⊎_elim at_this (behind (looks_same ss others (suc n) (omega (arith, e)))) (tested (is_named name s))
    where
      first : s ≡ o
      first = same 0 (omega arith)

      at_this : is_named name s ≡ true → searched_slots name (s ∷ ss) n ≡ searched_slots name (o ∷ others) n
      at_this t = here s ss n t ∙ sym (here o others n (ap (is_named name) (sym first) ∙ t))

      behind : (((i : ℕ) → i < length (searched_slots name ss (suc n)) → get_or ss i (free_slot 0) ≡ get_or others i (free_slot 0))
          → searched_slots name ss (suc n) ≡ searched_slots name others (suc n))
          → is_named name s ≡ false → searched_slots name (s ∷ ss) n ≡ searched_slots name (o ∷ others) n
      behind rest t =
          later s ss n t
          ∙ ap (λ (l : List ℕ). n ∷ l) (rest (λ i h. same (suc i) (omega (arith, h, ap length (later s ss n t)))))
          ∙ sym (later o others n (ap (is_named name) (sym first) ∙ t))

-- ---- a search under way: i slots have been looked at, and what is left of it looks at the rest

abbrev pub LooksFrom : ℕ → List Slot → ℕ → Type 0
LooksFrom name ss i = i + length (searched_slots name (drop i ss) (suc i)) ≡ length (searched_slots name ss 1)

pub looks_first : (name : ℕ) (ss : List Slot) → LooksFrom name ss 0
looks_first name ss = omega arith

module _ (name : ℕ) (ss : List Slot) (i : ℕ) (from : LooksFrom name ss i) where
  pub looks_all : i ≡ length ss → length (searched_slots name ss 1) ≡ i
  unfolding searched_slots
  looks_all e =
      let none : searched_slots name (drop i ss) (suc i) ≡ [] = rw (e, drop-length ss) refl in
      omega (arith, from, ap length none)

  module _ (h : i < length ss) where
    this : searched_slots name (drop i ss) (suc i) ≡ searched_slots name (get_or ss i (free_slot 0) ∷ drop (suc i) ss) (suc i)
    this = ap (λ (l : List Slot). searched_slots name l (suc i)) (drop-cons ss i (free_slot 0) h)

    pub looks_matched : is_named name (get_or ss i (free_slot 0)) ≡ true → length (searched_slots name ss 1) ≡ i + 1
    looks_matched e = omega (arith, from, ap length (this ∙ here name _ _ (suc i) e))

    pub looks_on : is_named name (get_or ss i (free_slot 0)) ≡ false → LooksFrom name ss (i + 1)
    looks_on e = rw add-one (omega (arith, from, ap length (this ∙ later name _ _ (suc i) e)))

    -- it looks at one more at least
    pub looks_more : i + 1 ≤ length (searched_slots name ss 1)
    looks_more = ⊎_elim (λ e. omega (arith, looks_matched e)) (λ e. omega (arith, looks_on e)) (tested (is_named name (get_or ss i (free_slot 0))))

-- ---- the number

pub looked_is : (t : Tables) (name : ℕ) → (name ≡ 0 → ⊥) → looked t name ≡ length (searched_slots name t.slots 1)
unfolding looked
looked_is t name some = if_no 0 _ (ne_eqb name 0 some) ∙ ⊎_elim matched unmatched (ends name t.slots 0)
  where
    n : ℕ
    n = first_named name t.slots 1

    matched : Matched name t.slots 0 → choose (eqb n 0) (length t.slots) n ≡ length (searched_slots name t.slots 1)
    matched m = if_no _ _ (ne_eqb n 0 (λ z. omega (arith, z, m.number))) ∙ omega (arith, m.number, m.looks)

    unmatched : Unmatched name t.slots 0 → choose (eqb n 0) (length t.slots) n ≡ length (searched_slots name t.slots 1)
    unmatched u = if_yes _ _ (eq-eqb n 0 u.number) ∙ sym u.looks

pub looked_nameless : (t : Tables) (name : ℕ) → name ≡ 0 → looked t name ≡ 0
unfolding looked
looked_nameless t name z = if_yes 0 _ (eq-eqb name 0 z)

pub looked_unstarted : (name : ℕ) → looked unstarted name ≡ 0
unfolding looked first_named choose
looked_unstarted name = choose_same (eqb name 0) 0

-- slot k is looked at exactly for k up to the number, in turn and once
pub looked_in_turn : (t : Tables) (name : ℕ) → (name ≡ 0 → ⊥) → searched_slots name t.slots 1 ≡ tabulate (looked t name) suc
looked_in_turn t name some = rw (looked_is t name some) (in_turn_lem name t.slots 1 suc (λ i. omega arith))

-- ---- the number and the answer

module _ (t : Tables) (name : ℕ) where
  abbrev slot : ℕ
  slot = first_named name t.slots 1

  abbrev refusal : ℕ
  refusal = choose (eqb name 0 or eqb slot 0) 3 0

  refused_then : (eqb name 0 or eqb slot 0) ≡ true → (ident t name).answer.status ≡ 3
  unfolding ident
  refused_then e =
      let r : refusal ≡ 3 = if_yes 3 0 e in
      let kept = if_no (answered 0 (id_of slot (slot_of t slot)) t) (refused t refusal) (ne_eqb refusal 0 (λ z. omega (arith, r, z))) in
      ap (λ (o : Outcome). o.answer.status) kept ∙ r

  done_then : (eqb name 0 or eqb slot 0) ≡ false → ident t name ≡ answered 0 (id_of slot (slot_of t slot)) t
  unfolding ident
  done_then e = if_yes (answered 0 (id_of slot (slot_of t slot)) t) (refused t refusal) (eq-eqb refusal 0 (if_no 3 0 e))

  -- done: the slot looked at last is the match, and the identifier is its own
  pub found_last : (ident t name).answer.status ≡ 0
      → (is_named name (slot_of t (looked t name)) ≡ true) × ((ident t name).answer.value ≡ id_of (looked t name) (slot_of t (looked t name)))
  unfolding looked
  found_last e = ⊎_elim (λ z. refused (or_first _ _ z)) (λ n. ⊎_elim (λ z. refused (or_second _ _ z)) (found n) (tested (eqb slot 0))) (tested (eqb name 0))
    where
      refused : (eqb name 0 or eqb slot 0) ≡ true
          → (is_named name (slot_of t (looked t name)) ≡ true) × ((ident t name).answer.value ≡ id_of (looked t name) (slot_of t (looked t name)))
      refused z = absurd (omega (arith, e, refused_then z))

      found : eqb name 0 ≡ false → eqb slot 0 ≡ false
          → (is_named name (slot_of t (looked t name)) ≡ true) × ((ident t name).answer.value ≡ id_of (looked t name) (slot_of t (looked t name)))
      found n s =
          let last = if_no 0 (choose (eqb slot 0) (length t.slots) slot) n ∙ if_no (length t.slots) slot s in
          let h = named_hit t name slot refl (λ z. true≢false (sym (eq-eqb slot 0 z) ∙ s)) in
          let place : h.place ≡ pred slot = omega (arith, h.number) in
          let holds = subst (λ (k : ℕ). is_named name (get_or t.slots k (free_slot 0)) ≡ true) place h.holds in (
            subst (λ (k : ℕ). is_named name (slot_of t k) ≡ true) (sym last) holds,
            ap (λ (o : Outcome). o.answer.value) (done_then (if_no true (eqb slot 0) n ∙ s)) ∙ ap (λ (n : ℕ). id_of n (slot_of t n)) (sym last),
          )

  -- refused for a name that is not 0: all slots were looked at
  pub missed_all : (name ≡ 0 → ⊥) → (ident t name).answer.status ≡ 3 → looked t name ≡ length t.slots
  unfolding looked
  missed_all some e = if_no 0 _ (ne_eqb name 0 some) ∙ ⊎_elim (λ z. if_yes _ _ z) found (tested (eqb slot 0))
    where
      found : eqb slot 0 ≡ false → choose (eqb slot 0) (length t.slots) slot ≡ length t.slots
      found f = absurd (omega (arith, e, ap (λ (o : Outcome). o.answer.status) (done_then (if_no true (eqb slot 0) (ne_eqb name 0 some) ∙ f))))
