-- The passes over the slots, over the sequence of ready tasks and over the tasks are agreement, for tables whose numbers fit 32 bits.
use mathlib.Core.Path.{◌≡◌, ap, sym, subst, ◌∙◌}
use mathlib.Core.Bool.{Bool, true, false}
use mathlib.Core.List.{List, []}
use mathlib.Core.Logic.{⊎_elim}
use Prim.Native.Nat.{ℕ, suc, pred, ◌+◌, ◌*◌, ◌≤◌, ◌<◌}
use native.Mathlib.Omega.{arith}
use lib.Dec.{leb, eqb}
use lib.ListN.{length, get_or}
use borrow.Author.Tests.{leb-true, eqb-true, eqb-false, eq-eqb, le-leb}
use Rattle.std.specs.Prelude.{Some, None}
use Rattle.laws.specs.Choose.{choose, ◌and◌}
use Rattle.laws.proofs.Choose.{tested, never, same_test, choose_cases, if_yes, if_no, and_both, both_and, or_either, or_first, or_second}
use Rattle.laws.proofs.Choose.{when_then, then_when, isnt_false, false_isnt}
use Rattle.laws.proofs.All.{all_at, all_of}
use Rattle.rules.specs.Numbers.{max_number, is_binary}
use Rattle.rules.specs.Machine.{Slot, Tables, task_of, slot_of, is_task, waits, is_live, id_of}
use Rattle.rules.specs.Semaphore.{requeued}
use Rattle.rules.specs.Agreement.{Agrees, agrees, sizes_fit, occurs, is_waiter, is_ready_task, is_queued_once, is_binary_right, is_clear, is_ending, answer_fits}
use Rattle.rules.proofs.Invariants.Lists.{bit_yes, bit_most, occurs_none, occurs_at}
use Rattle.rules.proofs.Invariants.Agreeing.{Sizes, TaskAgrees, LiveAgrees, SlotAgrees, ItemsAgree, sizes_within}
use Rattle.rules.proofs.Invariants.Agreeing.{agrees_true, true_agrees, agrees_items, items_agree}
use Rattle.rules.proofs.Invariants.Facts.{nth_task, nth_slot, waits_on, Unheld, Held, Facts, live_within}
use Rattle.rules.proofs.Invariants.FromTests.{agrees_facts}
use Rattle.rules.proofs.Invariants.ToTests.{names_of}
use Rattle.agreement.specs.Tests.{seen_at, seen_below, queue_agrees, head_agrees, slot_agrees, task_agrees, slots_agree}
use Rattle.agreement.specs.Tests.{place_agrees, sequence_agrees, seen_all, tasks_agree}
use Rattle.agreement.proofs.Marks.{queue_of, entry_of, Place, length_below, seen_kept, seen_made, seen_from, below_made, below_from}
use Rattle.agreement.proofs.Classes.{class_owned, class_other, class_maximum_lem, class_agrees_lem}
use Rattle.agreement.proofs.Entries.{EntryFits, entry_fits, fits_entry, PlaceFits, place_fits, fits_place}
use Rattle.agreement.proofs.Entries.{occurs_apart, occurs_found, fresh_once, once_fresh}

-- the numbers that have no other limit than their 32 bits
pub record Narrow (t : Tables) : Type 0 where
  pub awaited : (q : ℕ) → (task_of t q).awaited ≤ max_number
  pub ticks : (q : ℕ) → (task_of t q).ticks ≤ max_number
  pub name : (n : ℕ) → (slot_of t n).name ≤ max_number
  pub count : (n : ℕ) → (slot_of t n).count ≤ max_number
  pub nest : (n : ℕ) → (slot_of t n).nest ≤ max_number
  pub maximum : (n : ℕ) → (slot_of t n).maximum ≤ max_number

-- a choice between tests that holds
chosen : (a b c : Bool) → choose a b c ≡ true → a ≡ true → b ≡ true
chosen a b c e y = sym (if_yes _ _ y) ∙ e

other : (a b c : Bool) → choose a b c ≡ true → a ≡ false → c ≡ true
other a b c e n = sym (if_no _ _ n) ∙ e

either : (a b c : Bool) → (a ≡ true → b ≡ true) → (a ≡ false → c ≡ true) → choose a b c ≡ true
either a b c = choose_cases (λ (r : Bool). r ≡ true) a b c

-- the marks of all slots
abbrev pub seen_queued : Tables → List Bool
seen_queued t = seen_below t (length t.slots)

-- the sequence passes with these
abbrev pub sequence_passes : Tables → Bool
sequence_passes t = sequence_agrees t (seen_queued t)

-- each task has a mark
has_mark : (t : Tables) → Sizes t → (seen : List Bool) → length seen ≡ 32 → (q : ℕ) → is_task t q ≡ true → pred q < length seen
has_mark t sizes seen long q e =
    let most : q ≤ length t.tasks = leb-true _ _ (and_both _ _ e).1 in
    omega (arith, sizes.tasks)

-- a semaphore owned right, with another queue that its owner is not in
owned_with : (N : ℕ) (s : Slot) (queue : List ℕ) → occurs s.owner queue ≡ 0 → is_binary_right N s ≡ true → is_binary_right N (requeued s queue) ≡ true
owned_with N s queue apart e =
    ⊎_elim (λ (a : (eqb s.count 1 and eqb s.owner 0 and eqb s.nest 0) ≡ true). or_first _ _ a)
    (λ b.
    let f = and_both _ _ b in
    let g = and_both _ _ f.1 in
    or_second _ _ (both_and f.0 (both_and g.0 (both_and (eq-eqb _ _ apart) (and_both _ _ g.1).1))))
    (or_either _ _ e)

-- ---- the tests give the clauses

module _ (t : Tables) (sizes : Sizes t) (seen : List Bool) (long : length seen ≡ 32) (n : ℕ) (s : Slot) (e : slot_agrees t seen n s ≡ true) where
  when_live_lem : is_live s ≡ true → (head_agrees (length t.tasks) s ≡ true) × ((k : ℕ) → k < length s.queue → EntryFits t seen (id_of n s) s k)
  unfolding slot_agrees queue_agrees
  when_live_lem l =
      let f = and_both _ _ (chosen _ _ _ (and_both _ _ e).1 l) in
      (f.0, λ k h. entry_fits t seen (id_of n s) s k (all_at _ _ f.1 k h))

  pub entry : is_live s ≡ true → (k : ℕ) → k < length s.queue → EntryFits t seen (id_of n s) s k
  entry l = (when_live_lem l).1

  when_free_lem : is_live s ≡ false → (eqb s.live 0 and is_clear s) ≡ true
  unfolding slot_agrees
  when_free_lem l = other _ _ _ (and_both _ _ e).1 l

  at_most_one : s.live ≤ 1
  at_most_one =
      ⊎_elim (λ (l : is_live s ≡ true). let one : s.live ≡ 1 = eqb-true _ _ l in omega arith)
      (λ (l : is_live s ≡ false). let none : s.live ≡ 0 = eqb-true _ _ (and_both _ _ (when_free_lem l)).0 in omega arith)
      (tested (is_live s))

  pub once : is_live s ≡ true → (k : ℕ) → k < length s.queue → occurs (get_or s.queue k 0) s.queue ≡ 1
  once l =
      fresh_once seen s.queue (λ k h. has_mark t sizes seen long (get_or s.queue k 0) (and_both _ _ (entry l k h).waiter).0) (λ k h. (entry l k h).fresh)

  live_agrees : s.maximum ≤ max_number → is_live s ≡ true → LiveAgrees t n s
  unfolding head_agrees
  live_agrees narrow l =
      let named = and_both _ _ (when_live_lem l).0 in
      let attributed = and_both _ _ named.1 in
      let class = and_both _ _ attributed.1 in
      let apart = occurs_apart s.owner s.queue (λ k h. (entry l k h).apart) in
      record {
        named = named.0;
        attributed = attributed.0;
        waiting = all_of _ _ (λ k h. (entry l k h).waiter);
        at_zero = class.1;
        owned = λ b. owned_with (length t.tasks) (requeued s []) s.queue apart (class_owned (length t.tasks) s class.0 b);
        unowned = class_other (length t.tasks) s class.0;
        maximum = class_maximum_lem (length t.tasks) s class.0 narrow;
      }

  pub slot_agrees_lem : s.name ≤ max_number → s.count ≤ max_number → s.nest ≤ max_number → s.maximum ≤ max_number → SlotAgrees t n s
  unfolding slot_agrees
  slot_agrees_lem name count nest maximum =
      record {
        numbers = both_and (and_both _ _ e).0 (both_and (le-leb _ _ at_most_one) (both_and (le-leb _ _ name) (both_and (le-leb _ _ count) (le-leb _ _ nest))));
        when_live = live_agrees maximum;
        when_free = λ l. (and_both _ _ (when_free_lem l)).1;
      }

module _ (t : Tables) (fit : sizes_fit t ≡ true) (slots : slots_agree t ≡ true) (ready : sequence_passes t ≡ true) (tasks : tasks_agree t ≡ true) where
  slot_test : (j : ℕ) → j < length t.slots → slot_agrees t (seen_below t j) (suc j) (nth_slot t j) ≡ true
  unfolding slots_agree
  slot_test = all_at _ _ slots

  -- a mark of a slot is that of a task who waits, and stands once in the queue of the live semaphore that it waits on
  marked_once : (i : ℕ) → get_or (seen_queued t) i false ≡ true
      → (waits (nth_task t i) ≡ true) × (is_queued_once t (suc i) (nth_task t i).awaited ≡ true)
  marked_once i m =
      let s = below_from t (length t.slots) i m in
      let j : ℕ = s.slot in
      let k : ℕ = s.at.place in
      let q : ℕ = entry_of t j k in
      let place = entry t (sizes_within t fit) (seen_below t j) (length_below t j) (suc j) (nth_slot t j) (slot_test j s.below) s.live k s.at.within in
      let waiter = and_both _ _ place.waiter in
      let least : 1 ≤ q = leb-true _ _ (and_both _ _ waiter.0).0 in
      let number : q ≡ suc i = omega (arith, s.at.is) in
      let awaited : (task_of t q).awaited ≡ id_of (suc j) (nth_slot t j) = eqb-true _ _ (and_both _ _ waiter.1).1 in
      let is : (nth_task t i).awaited ≡ id_of (suc j) (nth_slot t j) = subst (λ (q : ℕ). (task_of t q).awaited ≡ id_of (suc j) (nth_slot t j)) number awaited in
      let named = names_of t fit (nth_task t i).awaited (record { place = j; live = s.live; is = is }) in
      let one = once t (sizes_within t fit) (seen_below t j) (length_below t j) (suc j) (nth_slot t j) (slot_test j s.below) s.live k s.at.within in
      let waits : waits (nth_task t i) ≡ true = subst (λ (p : ℕ). waits (nth_task t p) ≡ true) s.at.is (and_both _ _ waiter.1).0 in
      let queued = subst (λ (n : ℕ). occurs (suc i) (slot_of t n).queue ≡ 1) (sym named.1) (subst (λ (q : ℕ). occurs q (queue_of t j) ≡ 1) number one) in
      (waits, both_and named.0 (eq-eqb _ _ queued))

  place : (k : ℕ) → k < length t.ready → PlaceFits t (seen_queued t) k
  unfolding sequence_agrees
  place k h = place_fits t (seen_queued t) k (all_at _ _ ready k h)

  place_once : (k : ℕ) → k < length t.ready → occurs (get_or t.ready k 0) t.ready ≡ 1
  place_once =
      fresh_once (seen_queued t) t.ready
      (λ k h. has_mark t (sizes_within t fit) (seen_queued t) (length_below t _) (get_or t.ready k 0) (and_both _ _ (place k h).ready).0)
      (λ k h. (place k h).fresh)

  -- a mark of the sequence is that of a task who is ready, and stands once in it
  marked_ready : (i : ℕ) → Place t.ready (length t.ready) i → (waits (nth_task t i) ≡ false) × (occurs (suc i) t.ready ≡ 1)
  marked_ready i p =
      let is = and_both _ _ (place p.place p.within).ready in
      let least : 1 ≤ get_or t.ready p.place 0 = leb-true _ _ (and_both _ _ is.0).0 in
      let number : get_or t.ready p.place 0 ≡ suc i = omega (arith, p.is) in (
        subst (λ (p : ℕ). waits (nth_task t p) ≡ false) p.is (isnt_false _ is.1),
        subst (λ (q : ℕ). occurs q t.ready ≡ 1) number (place_once p.place p.within),
      )

  task_agrees_lem : Narrow t → (i : ℕ) → i < length t.tasks → TaskAgrees t (suc i) (nth_task t i)
  unfolding tasks_agree task_agrees
  task_agrees_lem narrow i h =
      let f = and_both _ _ (all_at _ _ tasks i h) in
      let g = and_both _ _ f.1 in
      let marked = seen_from (seen_queued t) t.ready (length t.ready) i g.0 in
      record {
        numbers = both_and f.0 (both_and (le-leb _ _ (narrow.awaited (suc i))) (le-leb _ _ (narrow.ticks (suc i))));
        answer =
            ⊎_elim (λ w. or_first _ _ w) (λ w. or_second _ _ (and_both _ _ (when_then _ _ g.1 (false_isnt _ w))).0)
            (tested (waits (nth_task t i)));
        waiter = λ w. ⊎_elim (λ m. (marked_once i m).1) (λ p. never w (marked_ready i p).0) marked;
        at_rest = λ w. (and_both _ _ (when_then _ _ g.1 (false_isnt _ w))).1;
        sequenced = λ w. ⊎_elim (λ m. never (marked_once i m).0 w) (λ p. eq-eqb _ _ (marked_ready i p).1) marked;
      }

  tests_items : Narrow t → ItemsAgree t
  tests_items narrow =
      record {
        sizes = fit;
        task = task_agrees_lem narrow;
        slot = λ j h.
            slot_agrees_lem t (sizes_within t fit) (seen_below t j) (length_below t j) (suc j) (nth_slot t j) (slot_test j h)
            (narrow.name (suc j)) (narrow.count (suc j)) (narrow.nest (suc j)) (narrow.maximum (suc j));
        place = λ k h. (place k h).ready;
      }

-- ---- and the clauses the tests

module _ (t : Tables) (a : Agrees t) where
  items : ItemsAgree t
  items = agrees_items t a

  facts : Facts t
  facts = agrees_facts t a

  sizes : Sizes t
  sizes = sizes_within t a.sizes

  -- a task at a place of a live slot's queue
  module _ (j : ℕ) (l : is_live (nth_slot t j) ≡ true) (k : ℕ) (b : k < length (queue_of t j)) where
    waiter : is_waiter t (id_of (suc j) (nth_slot t j)) (entry_of t j k) ≡ true
    waiter = all_at _ _ ((items.slot j (live_within t j l)).when_live l).waiting k b

    least : 1 ≤ entry_of t j k
    least = leb-true _ _ (and_both _ _ (and_both _ _ waiter).0).0

    awaited : (task_of t (entry_of t j k)).awaited ≡ id_of (suc j) (nth_slot t j)
    awaited = eqb-true _ _ (and_both _ _ (and_both _ _ waiter).1).1

    most_once : occurs (entry_of t j k) (queue_of t j) ≤ 1
    most_once =
        let i : ℕ = pred (entry_of t j k) in
        let number : suc i ≡ entry_of t j k = omega (arith, least) in
        subst (λ (q : ℕ). occurs q (queue_of t j) ≤ 1) number
        (omega (arith, facts.linked.counted i j l, bit_most (waits_on (nth_task t i) (id_of (suc j) (nth_slot t j)))))

    apart : entry_of t j k ≡ (nth_slot t j).owner → ⊥
    apart e =
        let fits = (facts.slots j).when_live l in
        ⊎_elim
        (λ (y : is_binary (nth_slot t j).attributes ≡ true).
        ⊎_elim (λ (u : Unheld (nth_slot t j)). omega (arith, least, u.owner))
        (λ (u : Held (length t.tasks) (nth_slot t j)).
        omega (arith, u.apart, subst (λ (q : ℕ). 1 ≤ occurs q (queue_of t j)) e (occurs_at (queue_of t j) k b)))
        (fits.owned y))
        (λ (y : is_binary (nth_slot t j).attributes ≡ false). omega (arith, least, (fits.unowned y).owner))
        (tested (is_binary (nth_slot t j).attributes))

  module _ (j : ℕ) (l : is_live (nth_slot t j) ≡ true) (k : ℕ) (b : k < length (queue_of t j)) where
    -- a task waits on one semaphore only
    elsewhere : (n : ℕ) (m : is_live (nth_slot t n) ≡ true) (i : ℕ) (c : i < length (queue_of t n)) → n < j → entry_of t n i ≡ entry_of t j k → ⊥
    elsewhere n m i c h e =
        let here : (task_of t (entry_of t j k)).awaited ≡ (nth_slot t j).generation * 65536 + suc j = awaited j l k b in
        let same : (task_of t (entry_of t n i)).awaited ≡ (task_of t (entry_of t j k)).awaited = ap (λ (q : ℕ). (task_of t q).awaited) e in
        let there : (task_of t (entry_of t j k)).awaited ≡ (nth_slot t n).generation * 65536 + suc n = sym same ∙ awaited n m i c in
        omega (arith, sizes.slots, live_within t j l)

    -- so nobody has marked it: no slot before this one, and no place before this one
    fresh : get_or (seen_at (seen_below t j) (queue_of t j) k) (pred (entry_of t j k)) false ≡ false
    fresh = once_fresh (seen_below t j) (queue_of t j) (least j l) k b (most_once j l k b) before
      where
        before : get_or (seen_below t j) (pred (entry_of t j k)) false ≡ true → ⊥
        before m =
            let s = below_from t j _ m in
            let there : 1 ≤ entry_of t s.slot s.at.place = least s.slot s.live s.at.place s.at.within in
            let number : entry_of t s.slot s.at.place ≡ entry_of t j k = omega (arith, s.at.is, least j l k b) in
            elsewhere s.slot s.live s.at.place s.at.within s.below number

    entry_agrees_lem : place_agrees t (seen_below t j) (nth_slot t j).owner (Some (id_of (suc j) (nth_slot t j))) (queue_of t j) k ≡ true
    entry_agrees_lem =
        fits_entry t (seen_below t j) _ (nth_slot t j) k
        (record { waiter = waiter j l k b; apart = apart j l k b; fresh = fresh })

  slot_tested : (j : ℕ) → j < length t.slots → slot_agrees t (seen_below t j) (suc j) (nth_slot t j) ≡ true
  unfolding slot_agrees head_agrees queue_agrees
  slot_tested j h =
      let numbers = and_both _ _ (items.slot j h).numbers in
      both_and numbers.0 (either _ _ _ live (free (and_both _ _ numbers.1).0))
    where
      live : is_live (nth_slot t j) ≡ true
          → (head_agrees (length t.tasks) (nth_slot t j) and queue_agrees t (seen_below t j) (id_of (suc j) (nth_slot t j)) (nth_slot t j)) ≡ true
      live l =
          let s = (items.slot j h).when_live l in
          let class =
          class_agrees_lem (length t.tasks) (nth_slot t j)
          (λ y. owned_with (length t.tasks) (nth_slot t j) [] (occurs_none _) (s.owned y)) s.unowned s.maximum
          in
          both_and (both_and s.named (both_and s.attributed (both_and class s.at_zero))) (all_of _ _ (entry_agrees_lem j l))

      free : leb (nth_slot t j).live 1 ≡ true → is_live (nth_slot t j) ≡ false → (eqb (nth_slot t j).live 0 and is_clear (nth_slot t j)) ≡ true
      free most l =
          let other : (nth_slot t j).live ≡ 1 → ⊥ = eqb-false _ _ l in
          let at_most : (nth_slot t j).live ≤ 1 = leb-true _ _ most in
          let none : (nth_slot t j).live ≡ 0 = omega arith in
          both_and (eq-eqb _ _ none) ((items.slot j h).when_free l)

  -- a task in the sequence is ready, so it is in no queue, and it stands there once
  place_tested : (k : ℕ) → k < length t.ready → place_agrees t (seen_queued t) 0 None t.ready k ≡ true
  place_tested k b =
      fits_place t (seen_queued t) k
      (record { ready = items.place k b; fresh = once_fresh (seen_queued t) t.ready first k b most queued })
    where
      first : (k : ℕ) → k < length t.ready → 1 ≤ get_or t.ready k 0
      first k b = leb-true _ _ (and_both _ _ (and_both _ _ (items.place k b)).0).0

      most : occurs (get_or t.ready k 0) t.ready ≤ 1
      most = omega (arith, facts.ready (get_or t.ready k 0), bit_most (is_ready_task t (get_or t.ready k 0)))

      queued : get_or (seen_queued t) (pred (get_or t.ready k 0)) false ≡ true → ⊥
      queued m =
          let s = below_from t (length t.slots) _ m in
          let waiting = (and_both _ _ (and_both _ _ (waiter s.slot s.live s.at.place s.at.within)).1).0 in
          never (subst (λ (p : ℕ). waits (nth_task t p) ≡ true) s.at.is waiting) (isnt_false _ (and_both _ _ (items.place k b)).1)

  task_tested : (i : ℕ) → i < length t.tasks → task_agrees (get_or (seen_all t) i false) (nth_task t i) ≡ true
  unfolding task_agrees
  task_tested i h =
      let v = items.task i h in
      both_and (and_both _ _ v.numbers).0
      (both_and (⊎_elim queued sequenced (tested (waits (nth_task t i))))
      (then_when _ _ (λ r. let w = isnt_false _ r in both_and (ready w v.answer) (v.at_rest w))))
    where
      ready : waits (nth_task t i) ≡ false → answer_fits (nth_task t i) ≡ true → is_ending (nth_task t i).answer ≡ true
      ready w e = sym (if_no _ _ w) ∙ e

      queued : waits (nth_task t i) ≡ true → get_or (seen_all t) i false ≡ true
      queued w =
          let n = facts.linked.named i w in
          let here : waits_on (nth_task t i) (id_of (suc n.place) (nth_slot t n.place)) ≡ true = both_and w (eq-eqb _ _ n.is) in
          let found = occurs_found (suc i) (queue_of t n.place) (omega (arith, facts.linked.counted i n.place n.live, bit_yes _ here)) in
          let number : pred (entry_of t n.place found.place) ≡ i = ap pred found.is in
          seen_kept (seen_queued t) t.ready (length t.ready) i
          (subst (λ (p : ℕ). get_or (seen_queued t) p false ≡ true) number
          (below_made t (length t.slots) n.place found.place (live_within t n.place n.live) n.live found.within
          (omega (arith, sizes.tasks))))

      sequenced : waits (nth_task t i) ≡ false → get_or (seen_all t) i false ≡ true
      sequenced w =
          let one : occurs (suc i) t.ready ≡ 1 = eqb-true _ _ ((items.task i h).sequenced w) in
          let found = occurs_found (suc i) t.ready (omega arith) in
          let number : pred (get_or t.ready found.place 0) ≡ i = ap pred found.is in
          subst (λ (p : ℕ). get_or (seen_all t) p false ≡ true) number
          (seen_made (seen_queued t) t.ready (length t.ready) found.place found.within
          (omega (arith, sizes.tasks, length_below t (length t.slots))))

-- ---- the whole

pub agrees_passes : (t : Tables) → Narrow t → (sizes_fit t and slots_agree t and sequence_passes t and tasks_agree t) ≡ agrees t
unfolding slots_agree sequence_agrees tasks_agree
agrees_passes t narrow = same_test _ _ there back
  where
    there : (sizes_fit t and slots_agree t and sequence_passes t and tasks_agree t) ≡ true → agrees t ≡ true
    there e =
        let f = and_both _ _ e in
        let g = and_both _ _ f.1 in
        let h = and_both _ _ g.1 in
        agrees_true t (items_agree t (tests_items t f.0 g.0 h.0 h.1 narrow))

    back : agrees t ≡ true → (sizes_fit t and slots_agree t and sequence_passes t and tasks_agree t) ≡ true
    back e =
        let a = true_agrees t e in
        both_and a.sizes (both_and (all_of _ _ (slot_tested t a)) (both_and (all_of _ _ (place_tested t a)) (all_of _ _ (task_tested t a))))
