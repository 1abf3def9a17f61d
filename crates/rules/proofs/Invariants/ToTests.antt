-- The facts give the tests of agreement.
use mathlib.Core.Path.{◌≡◌, sym, subst, ◌∙◌}
use mathlib.Core.Bool.{true}
use mathlib.Core.List.{List}
use mathlib.Core.Logic.{◌⊎◌, ⊎_elim}
use Prim.Native.Nat.{ℕ, zero, suc, ◌%◌, ◌/◌, ◌+◌, ◌*◌, ◌≤◌, ◌<◌}
use native.Mathlib.Omega.{arith}
use lib.Dec.{leb, eqb}
use lib.ListN.{length, get_or}
use borrow.Author.Tests.{leb-true, eq-eqb, ne_eqb, le-leb}
use Rattle.laws.specs.Choose.{◌and◌}
use Rattle.laws.proofs.Choose.{and_both, both_and, or_first, or_second, then_when, false_isnt}
use Rattle.laws.proofs.All.{all_of}
use Rattle.rules.specs.Machine.{Slot, Tables, slot_of, waits, is_live, id_of, names}
use Rattle.rules.specs.Agreement.{Agrees, is_waiter, is_ready_task, is_queued_once, is_binary_right, occurs, sizes_fit}
use Rattle.rules.proofs.Invariants.Lists.{bit_yes, bit_true, occurs_at}
use Rattle.rules.proofs.Invariants.Agreeing.{TaskAgrees, LiveAgrees, SlotAgrees, sizes_within, items_agree}
use Rattle.rules.proofs.Invariants.Facts.{nth_task, nth_slot, waits_on, Unheld, Held, Names, Facts, waits_within, live_within}

-- the identifier of a live slot names it
pub names_of : (t : Tables) → sizes_fit t ≡ true → (id : ℕ) (n : Names (nth_slot t) id) → (names t id ≡ true) × (id % 65536 ≡ suc n.place)
names_of t sizes id n =
    let below : length t.slots ≤ 64 = (sizes_within t sizes).slots in
    let b : n.place < length t.slots = live_within t n.place n.live in
    let is : id ≡ (nth_slot t n.place).generation * 65536 + suc n.place = n.is in
    let number : id % 65536 ≡ suc n.place = omega arith in
    let generation : (nth_slot t n.place).generation ≡ id / 65536 = omega arith in (
      subst (λ (m : ℕ). (leb 1 m and leb m (length t.slots) and is_live (slot_of t m) and eqb (slot_of t m).generation (id / 65536)) ≡ true) (sym number)
          (both_and (le-leb 1 (suc n.place) (omega arith)) (both_and (le-leb _ _ b) (both_and n.live (eq-eqb _ _ generation)))),
      number,
    )

module _ (t : Tables) (f : Facts t) where
  -- a waiting task stands once in the queue of the live semaphore that it waits on
  once : (i : ℕ) → waits (nth_task t i) ≡ true → is_queued_once t (suc i) (nth_task t i).awaited ≡ true
  once i w =
      let n = f.linked.named i w in
      let e = names_of t f.sizes (nth_task t i).awaited n in
      let on : waits_on (nth_task t i) (id_of (suc n.place) (nth_slot t n.place)) ≡ true = both_and w (eq-eqb _ _ n.is) in
      both_and e.0
      (eq-eqb _ _ (subst (λ (m : ℕ). occurs (suc i) (slot_of t m).queue ≡ 1) (sym e.1) (f.linked.counted i n.place n.live ∙ bit_yes _ on)))

  -- what stands in a queue waits there
  pub entry : (j : ℕ) → is_live (nth_slot t j) ≡ true → (q : ℕ) → 1 ≤ occurs q (nth_slot t j).queue → is_waiter t (id_of (suc j) (nth_slot t j)) q ≡ true
  entry j l zero o = absurd (let z : occurs 0 (nth_slot t j).queue ≡ 0 = ((f.slots j).when_live l).entries in omega arith)
  entry j l (suc i) o =
      let on = bit_true _ (subst (λ (n : ℕ). 1 ≤ n) (f.linked.counted i j l) o) in
      both_and (both_and (le-leb 1 (suc i) (omega arith)) (le-leb _ _ (waits_within t i (and_both _ _ on).0))) on

  task : (i : ℕ) → i < length t.tasks → TaskAgrees t (suc i) (nth_task t i)
  task i h =
      let v = f.tasks i in
      record {
        numbers =
            both_and (both_and (le-leb _ _ (f.urgent i h).0) (le-leb _ _ (f.urgent i h).1)) (both_and (le-leb _ _ v.awaited) (le-leb _ _ v.ticks));
        answer = v.answer;
        waiter = once i;
        at_rest = λ w. let r = v.at_rest w in both_and (eq-eqb _ _ r.0) (eq-eqb _ _ r.1);
        sequenced = λ w.
            eq-eqb _ _ (f.ready (suc i) ∙ bit_yes _ (both_and (both_and (le-leb 1 (suc i) (omega arith)) (le-leb _ _ h)) (false_isnt _ w)));
      }

  held : (s : Slot) → Unheld s ⊎ Held (length t.tasks) s → is_binary_right (length t.tasks) s ≡ true
  held s =
      ⊎_elim
      (λ u. or_first _ _ (both_and (eq-eqb _ _ u.count) (both_and (eq-eqb _ _ u.owner) (eq-eqb _ _ u.nest))))
      (λ u.
      or_second _ _
      (both_and (eq-eqb _ _ u.count)
      (both_and (both_and (le-leb _ _ u.task) (le-leb _ _ u.most)) (both_and (eq-eqb _ _ u.apart) (le-leb _ _ u.nest)))))

  live : (j : ℕ) → is_live (nth_slot t j) ≡ true → LiveAgrees t (suc j) (nth_slot t j)
  live j l =
      let s = (f.slots j).when_live l in
      let queue : List ℕ = (nth_slot t j).queue in
      let n : 1 ≤ (nth_slot t j).name = s.named in
      record {
        named = both_and (le-leb _ _ s.generation) (false_isnt _ (ne_eqb _ _ (λ (z : (nth_slot t j).name ≡ 0). omega arith)));
        attributed = s.attributed;
        waiting = all_of _ _ (λ k b. entry j l (get_or queue k 0) (occurs_at queue k b));
        at_zero = then_when _ _ (λ q. eq-eqb _ _ (s.at_zero (leb-true _ _ q)));
        owned = λ b. held (nth_slot t j) (s.owned b);
        unowned = λ b.
            let u = s.unowned b in
            both_and (eq-eqb _ _ u.owner) (both_and (eq-eqb _ _ u.nest) (then_when _ _ (λ c. le-leb _ _ (u.simple c))));
        maximum =
            let m = s.maximum in
            both_and (both_and (le-leb _ _ m.least) (le-leb _ _ m.most)) (le-leb _ _ m.count);
      }

  slot : (j : ℕ) → SlotAgrees t (suc j) (nth_slot t j)
  slot j =
      let s = f.slots j in
      record {
        numbers =
            both_and (le-leb _ _ s.generation)
            (both_and (le-leb _ _ s.live) (both_and (le-leb _ _ s.name) (both_and (le-leb _ _ s.count) (le-leb _ _ s.nest))));
        when_live = live j;
        when_free = λ l. let c = s.when_free l in
            both_and (eq-eqb _ _ c.name) (both_and (eq-eqb _ _ c.attributes) (both_and (eq-eqb _ _ c.count)
            (both_and (eq-eqb _ _ c.owner) (both_and (eq-eqb _ _ c.nest) (both_and (eq-eqb _ _ c.maximum) (eq-eqb _ _ c.queue))))));
      }

  -- what stands in the sequence is ready
  place : (k : ℕ) → k < length t.ready → is_ready_task t (get_or t.ready k 0) ≡ true
  place k h = bit_true _ (subst (λ (n : ℕ). 1 ≤ n) (f.ready (get_or t.ready k 0)) (occurs_at t.ready k h))

  pub facts_agrees : Agrees t
  facts_agrees = items_agree t (record { sizes = f.sizes; task = task; slot = λ j h. slot j; place = place })
