-- Tasks and queues stay linked: when waits end, when a task joins a queue, when a slot comes to life.
use mathlib.Core.Path.{◌≡◌, refl, sym, subst, ap, ◌∙◌}
use mathlib.Core.Bool.{Bool, true, false}
use mathlib.Core.Logic.{⊎_elim, ◌≢◌}
use Prim.Native.Nat.{ℕ, suc, ◌+◌, ◌*◌, ◌≤◌, ◌<◌}
use native.Mathlib.Omega.{arith}
use lib.Dec.{eqb}
use lib.ListN.{length}
use borrow.Author.Tests.{eqb-true, eq-eqb, ne_eqb}
use Rattle.laws.specs.Choose.{choose, bit}
use Rattle.laws.proofs.Choose.{tested, never, and_both, both_and, if_yes, if_no}
use Rattle.rules.specs.declared.Task.{Task}
use Rattle.rules.specs.Machine.{Slot, waits, is_live, id_of}
use Rattle.rules.specs.Agreement.{occurs}
use Rattle.rules.proofs.Invariants.Lists.{bit_yes, bit_no, bit_true, bit_most, bit_same, occurs_empty, Updated, updated_cases}
use Rattle.rules.proofs.Invariants.Facts.{waits_on, Names, Counted, Linked}

-- a task that does not wait, or not on the identifier
pub not_waiting : (v : Task) (id : ℕ) → waits v ≡ false → waits_on v id ≡ false
not_waiting v id e = if_no _ _ e

pub not_on : (v : Task) (id : ℕ) → (v.awaited ≡ id → ⊥) → waits_on v id ≡ false
not_on v id n = ⊎_elim (λ (y : waits_on v id ≡ true). absurd (n (eqb-true _ _ (and_both _ _ y).1))) (λ (e : waits_on v id ≡ false). e) (tested (waits_on v id))

-- a queue from which the tasks that W names are gone; the identifier stays
pub record Shrunk (W : ℕ → Bool) (s s' : Slot) : Type 0 where
  pub live : is_live s ≡ true
  pub generation : s'.generation ≡ s.generation
  pub queue : (i : ℕ) → occurs (suc i) s'.queue ≡ choose (W i) 0 (occurs (suc i) s.queue)

-- the task's wait, if any, goes on
pub record SameWait (v v' : Task) : Type 0 where
  pub answer : v'.answer ≡ v.answer
  pub awaited : v'.awaited ≡ v.awaited

module _ (task : ℕ → Task) (slot : ℕ → Slot) (below : (j : ℕ) → is_live (slot j) ≡ true → j < 64) (linked : Linked task slot) where
  -- live slots have different identifiers
  pub place_of_id : (j k : ℕ) → is_live (slot j) ≡ true → is_live (slot k) ≡ true → id_of (suc j) (slot j) ≡ id_of (suc k) (slot k) → j ≡ k
  place_of_id j k l m e = omega (arith, below j l, below k m)

  -- who stands in a queue waits on its slot
  pub waits_there : (i j : ℕ) → is_live (slot j) ≡ true → 1 ≤ occurs (suc i) (slot j).queue → waits_on (task i) (id_of (suc j) (slot j)) ≡ true
  waits_there i j l h = bit_true _ (subst (λ (n : ℕ). 1 ≤ n) (linked.counted i j l) h)

  pub once : (i j : ℕ) → is_live (slot j) ≡ true → occurs (suc i) (slot j).queue ≤ 1
  once i j l = rw (linked.counted i j l) (bit_most _)

  -- a task stands in one queue only
  pub elsewhere : (i j k : ℕ) → is_live (slot j) ≡ true → is_live (slot k) ≡ true → j ≢ k → 1 ≤ occurs (suc i) (slot j).queue
      → occurs (suc i) (slot k).queue ≡ 0
  elsewhere i j k l m n h =
      linked.counted i k m
      ∙ bit_no _ (not_on (task i) (id_of (suc k) (slot k))
      (λ e. n (place_of_id j k l m (sym (eqb-true _ _ (and_both _ _ (waits_there i j l h)).1) ∙ e))))

  -- who does not wait stands nowhere
  pub nowhere : (i j : ℕ) → waits (task i) ≡ false → is_live (slot j) ≡ true → occurs (suc i) (slot j).queue ≡ 0
  nowhere i j w l = linked.counted i j l ∙ bit_no _ (not_waiting (task i) (id_of (suc j) (slot j)) w)

  -- an identifier's slot stays where it is
  pub moved : (slot' : ℕ → Slot) (id : ℕ)
      → ((k : ℕ) → is_live (slot k) ≡ true → (is_live (slot' k) ≡ true) × ((slot' k).generation ≡ (slot k).generation)) → Names slot id → Names slot' id
  moved slot' id f n =
      let g = f n.place n.live in
      record { place = n.place; live = g.0; is = n.is ∙ ap (λ (g : ℕ). g * 65536 + suc n.place) (sym g.1) }

  module _ (task' : ℕ → Task) (slot' : ℕ → Slot) where
    -- the waits that W names end, and those tasks leave their queues
    pub ended : (W : ℕ → Bool)
        → ((i : ℕ) → W i ≡ true → waits (task' i) ≡ false)
        → ((i : ℕ) → W i ≡ false → SameWait (task i) (task' i))
        → ((j : ℕ) → is_live (slot' j) ≡ true → Shrunk W (slot j) (slot' j))
        → ((i j : ℕ) → W i ≡ false → is_live (slot j) ≡ true → 1 ≤ occurs (suc i) (slot j).queue → is_live (slot' j) ≡ true)
        → Linked task' slot'
    ended W woken others shrunk stays = record { counted = counted; named = named }
      where
        counted : (i j : ℕ) → Counted i (task' i) j (slot' j)
        counted i j l =
            ⊎_elim
            (λ (w : W i ≡ true). (shrunk j l).queue i ∙ if_yes _ _ w ∙ sym (bit_no _ (not_waiting (task' i) (id_of (suc j) (slot' j)) (woken i w))))
            (λ (w : W i ≡ false).
            let s = shrunk j l in
            let v = others i w in
            s.queue i ∙ if_no _ _ w ∙ linked.counted i j s.live
            ∙ cc)
            (tested (W i))

        named : (i : ℕ) → waits (task' i) ≡ true → Names slot' (task' i).awaited
        named i w =
            ⊎_elim (λ (e : W i ≡ true). never w (woken i e))
            (λ (e : W i ≡ false).
            let v = others i e in
            let n = linked.named i (subst (λ (a : ℕ). eqb a 100 ≡ true) v.answer w) in
            let on : waits_on (task i) (id_of (suc n.place) (slot n.place)) ≡ true = both_and
            (subst (λ (a : ℕ). eqb a 100 ≡ true) v.answer w) (eq-eqb _ _ n.is) in
            let there : 1 ≤ occurs (suc i) (slot n.place).queue = omega (arith, linked.counted i n.place n.live, bit_yes _ on) in
            let l = stays i n.place e n.live there in
            record { place = n.place; live = l; is = v.awaited ∙ n.is ∙ ap (λ (g : ℕ). g * 65536 + suc n.place) (sym (shrunk n.place l).generation) })
            (tested (W i))

    -- a task that did not wait joins the queue of the slot it now waits on
    pub joined : (c j : ℕ) (v : Task) (s : Slot) → Updated task task' c v → Updated slot slot' j s
        → waits (task c) ≡ false → is_live (slot j) ≡ true → waits v ≡ true → v.awaited ≡ id_of (suc j) (slot j)
        → is_live s ≡ true → s.generation ≡ (slot j).generation
        → ((i : ℕ) → occurs (suc i) s.queue ≡ bit (eqb (suc i) (suc c)) + occurs (suc i) (slot j).queue)
        → Linked task' slot'
    joined c j v s tasks slots ready l w id l' g queue = record { counted = counted; named = named }
      where
        -- the identifier is the same
        same : id_of (suc j) s ≡ id_of (suc j) (slot j)
        same = ap (λ (g : ℕ). g * 65536 + suc j) g

        own : (k : ℕ) → Counted c v k (slot' k)
        own k =
            updated_cases (λ k z. Counted c v k z) slots k
            (λ m. omega (arith, queue c, bit_same (suc c), nowhere c j ready l, bit_yes _ (both_and w (eq-eqb _ _ (id ∙ sym same)))))
            (λ n m. nowhere c k ready m ∙ sym (bit_no _ (not_on v (id_of (suc k) (slot k)) (λ e. n (place_of_id k j m l (sym e ∙ id))))))

        others : (i k : ℕ) → i ≢ c → Counted i (task i) k (slot' k)
        others i k m =
            updated_cases (λ k z. Counted i (task i) k z) slots k
            (λ a. queue i ∙ rw same (omega (arith, bit_no (eqb (suc i) (suc c)) (ne_eqb _ _ (λ (e : suc i ≡ suc c). m (omega arith))), linked.counted i j l)))
            (λ n. linked.counted i k)

        counted : (i k : ℕ) → Counted i (task' i) k (slot' k)
        counted i k = updated_cases (λ i z. Counted i z k (slot' k)) tasks i (own k) (others i k)

        stays : (k : ℕ) → is_live (slot k) ≡ true → (is_live (slot' k) ≡ true) × ((slot' k).generation ≡ (slot k).generation)
        stays k m = updated_cases (λ k z. (is_live z ≡ true) × (z.generation ≡ (slot k).generation)) slots k (l', g) (λ n. (m, refl))

        named : (i : ℕ) → waits (task' i) ≡ true → Names slot' (task' i).awaited
        named i =
            updated_cases (λ i z. waits z ≡ true → Names slot' z.awaited) tasks i
            (λ m. moved slot' v.awaited stays (record { place = j; live = l; is = id }))
            (λ n m. moved slot' (task i).awaited stays (linked.named i m))

  -- a free slot comes to life, with an empty queue: nobody waits on its identifier
  pub opened : (slot' : ℕ → Slot) (j : ℕ) (s : Slot) → Updated slot slot' j s → j < 64 → is_live (slot j) ≡ false → length s.queue ≡ 0 → Linked task slot'
  opened slot' j s slots b free empty = record { counted = counted; named = named }
    where
      unknown : (i : ℕ) → waits_on (task i) (id_of (suc j) s) ≡ true → ⊥
      unknown i e =
          let w = and_both _ _ e in
          let n = linked.named i w.0 in
          let is : (task i).awaited ≡ (slot n.place).generation * 65536 + suc n.place = n.is in
          let on : (task i).awaited ≡ s.generation * 65536 + suc j = eqb-true _ _ w.1 in
          let p : n.place < 64 = below n.place n.live in
          let same : n.place ≡ j = omega arith in
          never (subst (λ (k : ℕ). is_live (slot k) ≡ true) same n.live) free

      nobody : (i : ℕ) → waits_on (task i) (id_of (suc j) s) ≡ false
      nobody i =
          ⊎_elim (λ (e : waits_on (task i) (id_of (suc j) s) ≡ true). absurd (unknown i e)) (λ (e : waits_on (task i) (id_of (suc j) s) ≡ false). e)
          (tested (waits_on (task i) (id_of (suc j) s)))

      counted : (i k : ℕ) → Counted i (task i) k (slot' k)
      counted i k =
          updated_cases (λ k z. Counted i (task i) k z) slots k (λ m. occurs_empty (suc i) s.queue empty ∙ sym (bit_no _ (nobody i)))
          (λ n. linked.counted i k)

      named : (i : ℕ) → waits (task i) ≡ true → Names slot' (task i).awaited
      named i w =
          moved slot' (task i).awaited
          (λ k m.
          let n : k ≢ j = λ e. never (subst (λ (k : ℕ). is_live (slot k) ≡ true) e m) free in
          (subst (λ (z : Slot). is_live z ≡ true) (sym (slots.other k n)) m, ap (λ (z : Slot). z.generation) (slots.other k n)))
          (linked.named i w)
