-- The tests of agreement give the facts.
use mathlib.Core.Path.{◌≡◌, refl, sym, subst, ◌∙◌}
use mathlib.Core.Bool.{true, false}
use mathlib.Core.Logic.{◌⊎◌, inl, inr, ⊎_elim}
use Prim.Native.Nat.{ℕ, zero, suc, pred, ◌%◌, ◌/◌, ◌+◌, ◌*◌, ◌≤◌, ◌<◌}
use native.Mathlib.Omega.{arith}
use lib.Dec.{leb}
use lib.ListN.{length}
use borrow.Author.Tests.{leb-true, eqb-true, eqb-false, le-leb}
use Rattle.laws.specs.Choose.{bit}
use Rattle.laws.proofs.Choose.{tested, never, and_both, or_either, when_then, isnt_false}
use Rattle.laws.proofs.All.{all_at}
use Rattle.rules.specs.Numbers.{max_priority, is_binary}
use Rattle.rules.specs.Machine.{Tables, no_task, free_slot, slot_of, waits, is_live, id_of, names}
use Rattle.rules.specs.Agreement.{Agrees, is_waiter, is_ready_task, occurs}
use Rattle.rules.proofs.Invariants.Lists.{bit_yes, bit_no, occurs_not}
use Rattle.rules.proofs.Invariants.Agreeing.{LiveAgrees, ItemsAgree, sizes_within, agrees_items}
use Rattle.rules.proofs.Invariants.Facts.{nth_task, nth_slot, waits_on, TaskFits, Unheld, Held, Unowned, MaximumFits, LiveFits, FreeFits, SlotFits, Names}
use Rattle.rules.proofs.Invariants.Facts.{Counted, Facts, none_fits, free_fits, everywhere, waits_within, live_within}

-- an identifier that names a live semaphore is that of a live slot
pub named_of : (t : Tables) (id : ℕ) → names t id ≡ true → Names (nth_slot t) id
named_of t id e =
    let first : 1 ≤ id % 65536 = leb-true _ _ (and_both _ _ e).0 in
    let rest = and_both _ _ (and_both _ _ (and_both _ _ e).1).1 in
    let generation : (slot_of t (id % 65536)).generation ≡ id / 65536 = eqb-true _ _ rest.1 in
    record { place = pred (id % 65536); live = rest.0; is = omega arith }

module _ (t : Tables) (a : ItemsAgree t) where
  urgent : (i : ℕ) → i < length t.tasks → (1 ≤ (nth_task t i).priority) × ((nth_task t i).priority ≤ max_priority)
  urgent i h =
      let e = and_both _ _ (and_both _ _ (a.task i h).numbers).0 in
      (leb-true _ _ e.0, leb-true _ _ e.1)

  task_fits : (i : ℕ) → i < length t.tasks → TaskFits (nth_task t i)
  task_fits i h =
      let e = and_both _ _ (and_both _ _ (a.task i h).numbers).1 in
      record {
        answer = (a.task i h).answer;
        awaited = leb-true _ _ e.0;
        ticks = leb-true _ _ e.1;
        at_rest = λ w. let z = and_both _ _ ((a.task i h).at_rest w) in (eqb-true _ _ z.0, eqb-true _ _ z.1);
      }

  module _ (j : ℕ) (h : j < length t.slots) where
    live : is_live (nth_slot t j) ≡ true → LiveAgrees t (suc j) (nth_slot t j)
    live = (a.slot j h).when_live

    slot_owned : is_live (nth_slot t j) ≡ true → is_binary (nth_slot t j).attributes ≡ true → Unheld (nth_slot t j) ⊎ Held (length t.tasks) (nth_slot t j)
    slot_owned l b =
        ⊎_elim
        (λ e.
        let f = and_both _ _ e in
        let g = and_both _ _ f.1 in
        inl (record { count = eqb-true _ _ f.0; owner = eqb-true _ _ g.0; nest = eqb-true _ _ g.1 }))
        (λ e.
        let f = and_both _ _ e in
        let g = and_both _ _ f.1 in
        let k = and_both _ _ g.1 in
        inr
        (record {
          count = eqb-true _ _ f.0;
          task = leb-true _ _ (and_both _ _ g.0).0;
          most = leb-true _ _ (and_both _ _ g.0).1;
          apart = eqb-true _ _ k.0;
          nest = leb-true _ _ k.1;
        }))
        (or_either _ _ ((live l).owned b))

    slot_unowned : is_live (nth_slot t j) ≡ true → is_binary (nth_slot t j).attributes ≡ false → Unowned (nth_slot t j)
    slot_unowned l b =
        let f = and_both _ _ ((live l).unowned b) in
        let g = and_both _ _ f.1 in
        record { owner = eqb-true _ _ f.0; nest = eqb-true _ _ g.0; simple = λ s. leb-true _ _ (when_then _ _ g.1 s) }

    slot_maximum : is_live (nth_slot t j) ≡ true → MaximumFits (nth_slot t j)
    slot_maximum l =
        let f = and_both _ _ (live l).maximum in
        let g = and_both _ _ f.0 in
        record { least = leb-true _ _ g.0; most = leb-true _ _ g.1; count = leb-true _ _ f.1 }

    slot_live : is_live (nth_slot t j) ≡ true → LiveFits (length t.tasks) (nth_slot t j)
    slot_live l =
        let n = and_both _ _ (live l).named in
        let unnamed : (nth_slot t j).name ≡ 0 → ⊥ = eqb-false _ _ (isnt_false _ n.1) in
        record {
          generation = leb-true _ _ n.0;
          named = omega arith;
          attributed = (live l).attributed;
          entries = occurs_not (leb 1) 0 refl (nth_slot t j).queue (λ k b. (and_both _ _ (and_both _ _ (all_at _ _ (live l).waiting k b)).0).0);
          at_zero = λ q. eqb-true _ _ (when_then _ _ (live l).at_zero (le-leb _ _ q));
          owned = slot_owned l;
          unowned = slot_unowned l;
          maximum = slot_maximum l;
        }

    slot_free : is_live (nth_slot t j) ≡ false → FreeFits (nth_slot t j)
    slot_free l =
        let e₁ = and_both _ _ ((a.slot j h).when_free l) in
        let e₂ = and_both _ _ e₁.1 in
        let e₃ = and_both _ _ e₂.1 in
        let e₄ = and_both _ _ e₃.1 in
        let e₅ = and_both _ _ e₄.1 in
        let e₆ = and_both _ _ e₅.1 in
        record {
          name = eqb-true _ _ e₁.0;
          attributes = eqb-true _ _ e₂.0;
          count = eqb-true _ _ e₃.0;
          owner = eqb-true _ _ e₄.0;
          nest = eqb-true _ _ e₅.0;
          maximum = eqb-true _ _ e₆.0;
          queue = eqb-true _ _ e₆.1;
        }

    slot_fits : SlotFits (length t.tasks) (nth_slot t j)
    slot_fits =
        let e₁ = and_both _ _ (a.slot j h).numbers in
        let e₂ = and_both _ _ e₁.1 in
        let e₃ = and_both _ _ e₂.1 in
        let e₄ = and_both _ _ e₃.1 in
        record {
          generation = leb-true _ _ e₁.0;
          live = leb-true _ _ e₂.0;
          name = leb-true _ _ e₃.0;
          count = leb-true _ _ e₄.0;
          nest = leb-true _ _ e₄.1;
          when_live = slot_live;
          when_free = slot_free;
        }

  -- a waiting task stands once in the queue that it waits in
  waiter_once : (i : ℕ) → waits (nth_task t i) ≡ true
      → (names t (nth_task t i).awaited ≡ true) × (occurs (suc i) (slot_of t ((nth_task t i).awaited % 65536)).queue ≡ 1)
  waiter_once i w =
      let e = and_both _ _ ((a.task i (waits_within t i w)).waiter w) in
      (e.0, eqb-true _ _ e.1)

  counted : (i j : ℕ) → Counted i (nth_task t i) j (nth_slot t j)
  counted i j l =
      ⊎_elim
      (λ (e : waits_on (nth_task t i) (id_of (suc j) (nth_slot t j)) ≡ true).
      let w = and_both _ _ e in
      let id : (nth_task t i).awaited ≡ (nth_slot t j).generation * 65536 + suc j = eqb-true _ _ w.1 in
      let below : length t.slots ≤ 64 = (sizes_within t a.sizes).slots in
      let b : j < length t.slots = live_within t j l in
      let number : (nth_task t i).awaited % 65536 ≡ suc j = omega arith in
      subst (λ (n : ℕ). occurs (suc i) (slot_of t n).queue ≡ 1) number (waiter_once i w.0).1 ∙ sym (bit_yes _ e))
      (λ (e : waits_on (nth_task t i) (id_of (suc j) (nth_slot t j)) ≡ false).
      occurs_not (is_waiter t (id_of (suc j) (nth_slot t j))) (suc i) (absent e) (nth_slot t j).queue
      (all_at _ _ (live j (live_within t j l) l).waiting) ∙ sym (bit_no _ e))
      (tested (waits_on (nth_task t i) (id_of (suc j) (nth_slot t j))))
    where
      absent : waits_on (nth_task t i) (id_of (suc j) (nth_slot t j)) ≡ false → is_waiter t (id_of (suc j) (nth_slot t j)) (suc i) ≡ false
      absent e =
          ⊎_elim (λ (y : is_waiter t (id_of (suc j) (nth_slot t j)) (suc i) ≡ true). never (and_both _ _ y).1 e)
          (λ (n : is_waiter t (id_of (suc j) (nth_slot t j)) (suc i) ≡ false). n) (tested (is_waiter t (id_of (suc j) (nth_slot t j)) (suc i)))

  sequenced : (q : ℕ) → is_ready_task t q ≡ true → occurs q t.ready ≡ 1
  sequenced zero e = never (and_both _ _ (and_both _ _ e).0).0 refl
  sequenced (suc i) e =
      let w = and_both _ _ e in
      eqb-true _ _ ((a.task i (leb-true _ _ (and_both _ _ w.0).1)).sequenced (isnt_false _ w.1))

  ready : (q : ℕ) → occurs q t.ready ≡ bit (is_ready_task t q)
  ready q =
      ⊎_elim (λ (e : is_ready_task t q ≡ true). sequenced q e ∙ sym (bit_yes _ e))
      (λ (e : is_ready_task t q ≡ false). occurs_not (is_ready_task t) q e t.ready a.place ∙ sym (bit_no _ e)) (tested (is_ready_task t q))

  items_facts : Facts t
  items_facts =
      record {
        sizes = a.sizes;
        urgent = urgent;
        tasks = everywhere TaskFits t.tasks no_task none_fits task_fits;
        slots = everywhere (SlotFits (length t.tasks)) t.slots (free_slot 0) (free_fits _ 0 (omega arith)) slot_fits;
        linked = record { counted = counted; named = λ i w. named_of t (nth_task t i).awaited (waiter_once i w).0 };
        ready = ready;
      }

pub agrees_facts : (t : Tables) → Agrees t → Facts t
agrees_facts t a = items_facts t (agrees_items t a)
