-- What a create, a delete and an ident that answer 0 have found and left.
use mathlib.Core.Path.{◌≡◌, refl, sym, ap, subst, ◌∙◌}
use mathlib.Core.Bool.{true}
use mathlib.Core.List.{List}
use Prim.Native.Nat.{ℕ, pred, ◌+◌, ◌*◌, ◌/◌, ◌%◌, ◌≤◌, ◌<◌}
use native.Mathlib.Omega.{arith}
use lib.Dec.{eqb}
use lib.ListN.{length, get_or, length-set}
use lib.Seq.{get_or-set_same}
use borrow.Author.Tests.{eqb-true, eqb-false, eq-eqb}
use Rattle.laws.specs.Choose.{choose, ◌or◌}
use Rattle.laws.proofs.Choose.{choose_cases, if_yes, and_both, or_second, never}
use Rattle.rules.specs.declared.Call.{Call}
use Rattle.rules.specs.declared.Call.TheVariants.{Create, Ident, Delete}
use Rattle.rules.specs.Numbers.{max_slots, max_generation}
use Rattle.rules.specs.Machine.{Slot, Tables, free_slot, slot_of, put_slot, is_live, urgency, id_of, names, slot_named}
use Rattle.rules.specs.Agreement.{agrees}
use Rattle.rules.specs.Semaphore.{serving_order}
use Rattle.rules.specs.Calls.{Outcome, answered, unless, refused, wake_all, open_slot, create_refusal, new_semaphore, create, first_named, ident}
use Rattle.rules.specs.Calls.{delete_refusal, delete, perform, step}
use Rattle.rules.proofs.History.Forward.{woken_slots}
use Rattle.rules.proofs.History.CallsForward.{agreeing_started}
use Rattle.rules.proofs.History.Used.{Ended, names_named, named_names}
use Rattle.rules.proofs.History.Passed.{delete_passed, create_passed, open_young}
use Rattle.rules.proofs.Searching.{Hit, is_named, named_hit}
use Rattle.rules.proofs.Invariants.Refusals.{mustnt}

-- a call that answers 0 was performed on agreeing tables, past its checks
done_performed : (t : Tables) (call : Call) (priorities : List ℕ) → (step t call priorities).answer.status ≡ 0
    → (agrees t ≡ true) × (step t call priorities ≡ perform t call priorities)
unfolding step
done_performed t call priorities =
    choose_cases (λ (o : Outcome). o.answer.status ≡ 0 → (agrees t ≡ true) × (o ≡ perform t call priorities)) (agrees t) _ _
    (λ a e. (a, refl)) (λ a e. absurd (omega arith))

done_unless : (t : Tables) (refusal : ℕ) (o : Outcome) → (unless refusal t o).answer.status ≡ 0 → (refusal ≡ 0) × (unless refusal t o ≡ o)
done_unless t refusal o =
    choose_cases (λ (x : Outcome). x.answer.status ≡ 0 → (refusal ≡ 0) × (x ≡ o)) (eqb refusal 0) o (refused t refusal)
    (λ e f. (eqb-true refusal 0 e, refl)) (λ e f. absurd (eqb-false refusal 0 e f))

-- an identifier's slot and generation
pub id_parts : (g n : ℕ) → n < 65536 → ((g * 65536 + n) % 65536 ≡ n) × ((g * 65536 + n) / 65536 ≡ g)
id_parts g n h = omega arith

-- a done create: the slot it took, its new generation, the identifier that it gives, and the maximum that it was given
pub record Created (t : Tables) (maximum : ℕ) (o : Outcome) : Type 0 where
  pub low : 1 ≤ open_slot t
  pub high : open_slot t ≤ length t.slots
  pub few : length t.slots ≤ max_slots
  pub young : (slot_of t (open_slot t)).generation < max_generation
  pub value : o.answer.value ≡ ((slot_of t (open_slot t)).generation + 1) * 65536 + open_slot t
  pub same_size : length o.tables.slots ≡ length t.slots
  pub lives : is_live (slot_of o.tables (open_slot t)) ≡ true
  pub generation : (slot_of o.tables (open_slot t)).generation ≡ (slot_of t (open_slot t)).generation + 1
  pub given : (slot_of o.tables (open_slot t)).maximum ≡ maximum

module _ (t : Tables) (caller name count attributes maximum : ℕ) where
  abbrev made : Slot
  made = new_semaphore (slot_of t (open_slot t)).generation caller name count attributes maximum

  abbrev left : Tables
  left = put_slot t (open_slot t) made

  abbrev outcome : Outcome
  outcome = answered 0 (id_of (open_slot t) made) left

  made_live : is_live made ≡ true
  unfolding new_semaphore
  made_live = refl

  made_generation : made.generation ≡ (slot_of t (open_slot t)).generation + 1
  unfolding new_semaphore
  made_generation = refl

  made_maximum : made.maximum ≡ maximum
  unfolding new_semaphore
  made_maximum = refl

  create_found : agrees t ≡ true → (create t caller name count attributes maximum).answer.status ≡ 0
      → Created t maximum (create t caller name count attributes maximum)
  unfolding create
  create_found a e =
      subst (Created t maximum) (sym past.1) (record {
        low = within.0;
        high = omega (arith, within);
        few = (agreeing_started t a (omega (arith, within))).slots;
        young = open_young t (create_passed t caller name count attributes maximum past.0);
        value = ap (λ (g : ℕ). g * 65536 + open_slot t) made_generation;
        same_size = length-set t.slots (pred (open_slot t)) made;
        lives = rw there made_live;
        generation = rw there made_generation;
        given = rw there made_maximum;
      })
    where
      past : (create_refusal t caller name count attributes maximum ≡ 0) × (create t caller name count attributes maximum ≡ outcome)
      past = done_unless t (create_refusal t caller name count attributes maximum) outcome e

      within : (1 ≤ open_slot t) × (open_slot t < 1 + length t.slots)
      within = let h = create_passed t caller name count attributes maximum past.0 in (omega (arith, h.number), omega (arith, h.number, h.within))

      there : slot_of left (open_slot t) ≡ made
      there = get_or-set_same t.slots (pred (open_slot t)) made (free_slot 0) (omega (arith, within))

  pub create_done : (priorities : List ℕ) → let o = step t (Create caller name count attributes maximum) priorities in o.answer.status ≡ 0
      → Created t maximum o
  unfolding perform
  create_done priorities e =
      let p = done_performed t (Create caller name count attributes maximum) priorities e in
      subst (Created t maximum) (sym p.1) (create_found p.0 (subst (λ (o : Outcome). o.answer.status ≡ 0) p.1 e))

-- a done delete: the identifier named a semaphore, and has ended
freed : (t : Tables) (n g : ℕ) (qs : List ℕ) (answer : ℕ) → 1 ≤ n → n ≤ length t.slots → slot_of (wake_all (put_slot t n (free_slot g)) qs answer) n ≡ free_slot g
freed t n g qs answer l h =
    rw (woken_slots (put_slot t n (free_slot g)) qs answer) (get_or-set_same t.slots (pred n) (free_slot g) (free_slot 0) (omega arith))

-- the identifier was a live semaphore's, and its slot is free
pub record Deleted (t : Tables) (id : ℕ) (o : Outcome) : Type 0 where
  pub named : names t id ≡ true
  pub same_size : length o.tables.slots ≡ length t.slots
  pub slot : slot_of o.tables (id % 65536) ≡ free_slot (id / 65536)

-- so it has ended
pub deleted_ended : {t : Tables} {id : ℕ} {o : Outcome} → Deleted t id o → Ended o.tables id
deleted_ended {t} {id} d =
    let n = names_named t id d.named in
    record {
      used = record { low = n.low; high = omega (arith, n.high, d.same_size); reached = omega (arith, ap (λ (s : Slot). s.generation) d.slot) };
      gone = λ e. ap is_live d.slot;
    }

module _ (t : Tables) (caller id : ℕ) where
  abbrev rid : ℕ → Tables
  rid n = wake_all (put_slot t n (free_slot (slot_of t n).generation)) (serving_order (urgency t) (slot_of t n)) 7

  delete_found : (delete t caller id).answer.status ≡ 0 → Deleted t id (delete t caller id)
  unfolding delete
  delete_found e =
      let past = done_unless t (delete_refusal t caller id) (answered 0 0 (rid (slot_named t id))) e in
      let named = delete_passed t caller id past.0 in
      let n = names_named t id named in
      let free = free_slot (slot_of t (id % 65536)).generation in
      let there : slot_of (rid (id % 65536)) (id % 65536) ≡ free_slot (id / 65536) =
      freed t (id % 65536) (slot_of t (id % 65536)).generation _ 7 n.low n.high ∙ ap {B = Slot} (λ (g : ℕ). free_slot g) n.generation
      in
      let long : length (rid (id % 65536)).slots ≡ length t.slots =
      ap length (woken_slots (put_slot t (id % 65536) free) _ 7) ∙ length-set t.slots (pred (id % 65536)) free
      in
      subst (Deleted t id) (sym (past.1 ∙ ap {B = Outcome} (λ (n : ℕ). answered 0 0 (rid n)) (if_yes (id % 65536) 0 named)))
      (record { named = named; same_size = long; slot = there })

  pub delete_done : (priorities : List ℕ) → let o = step t (Delete caller id) priorities in o.answer.status ≡ 0 → Deleted t id o
  unfolding perform
  delete_done priorities e =
      let p = done_performed t (Delete caller id) priorities e in
      subst (Deleted t id) (sym p.1) (delete_found (subst (λ (o : Outcome). o.answer.status ≡ 0) p.1 e))

-- a done ident: its value names a live semaphore
module _ (t : Tables) (name : ℕ) where
  abbrev slot : ℕ
  slot = first_named name t.slots 1

  hit_named : agrees t ≡ true → Hit (is_named name) t.slots 0 slot → names t (id_of slot (slot_of t slot)) ≡ true
  hit_named a h =
      let few = (agreeing_started t a (omega (arith, h.within))).slots in
      let place : pred slot ≡ h.place = omega (arith, h.number) in
      let parts = id_parts (slot_of t slot).generation slot (omega (arith, h.number, h.within)) in
      let lives : is_live (slot_of t slot) ≡ true = subst (λ (k : ℕ). is_live (get_or t.slots k (free_slot 0)) ≡ true) (sym place) (and_both _ _ h.holds).0 in
      named_names t (id_of slot (slot_of t slot)) (record {
        low = omega (arith, parts.0, h.number);
        high = omega (arith, parts.0, h.number, h.within);
        lives = rw parts.0 lives;
        generation = rw parts.0 (sym parts.1);
      })

  ident_found : agrees t ≡ true → (ident t name).answer.status ≡ 0 → names t (ident t name).answer.value ≡ true
  unfolding ident
  ident_found a e =
      let past = done_unless t (choose (eqb name 0 or eqb slot 0) 3 0) (answered 0 (id_of slot (slot_of t slot)) t) e in
      let some = (mustnt (eqb name 0 or eqb slot 0) 3 0 (omega arith) past.0).0 in
      rw past.1 (hit_named a (named_hit t name slot refl (λ z. never (or_second (eqb name 0) _ (eq-eqb slot 0 z)) some)))

  pub ident_done : (priorities : List ℕ) → let o = step t (Ident name) priorities in o.answer.status ≡ 0 → names t o.answer.value ≡ true
  unfolding perform
  ident_done priorities e =
      let p = done_performed t (Ident name) priorities e in
      subst (λ (o : Outcome). names t o.answer.value ≡ true) (sym p.1) (ident_found p.0 (subst (λ (o : Outcome). o.answer.status ≡ 0) p.1 e))
