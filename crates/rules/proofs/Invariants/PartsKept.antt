-- The facts are kept by what the calls are made of.
use mathlib.Core.Path.{◌≡◌, refl, sym, subst, ap, ap₂, ◌∙◌}
use mathlib.Core.Bool.{Bool, true, false}
use mathlib.Core.List.{List, [], ◌++◌}
use mathlib.Core.Logic.{◌≢◌, ⊎_elim}
use Prim.Native.Nat.{ℕ, zero, suc, ◌+◌, ◌≤◌, ◌<◌}
use native.Mathlib.Omega.{arith}
use lib.Dec.{leb, eqb}
use lib.ListN.{length, get_or, length-set}
use borrow.Author.Tests.{leb-true, leb-false, le-leb}
use Rattle.laws.specs.Choose.{choose, bit, ◌and◌, isnt}
use Rattle.laws.proofs.Choose.{tested, and_both, both_and, false_isnt, if_yes, if_no, if_eq, if_ne, choose_cases}
use Rattle.rules.specs.declared.Task.{Task}
use Rattle.rules.specs.Numbers.{within}
use Rattle.rules.specs.Machine.{Slot, Tables, no_task, free_slot, put_slot, put_task, waits, is_live, id_of}
use Rattle.rules.specs.Agreement.{is_ending, is_ready_task, occurs, sizes_fit}
use Rattle.rules.specs.Calls.{readied, wake_all, without, begin_wait}
use Rattle.rules.proofs.Invariants.Lists.{set_all, set_updated, Updated, updated_cases, bit_yes, bit_no, occurs_none, occurs_append}
use Rattle.rules.proofs.Invariants.Lists.{occurs_without}
use Rattle.rules.proofs.Invariants.Agreeing.{sizes_within}
use Rattle.rules.proofs.Invariants.Facts.{nth_task, nth_slot, waits_on, TaskFits, SlotFits, Linked, Facts, waits_within, live_within}
use Rattle.rules.proofs.Invariants.Links.{Shrunk, ended, joined, opened, elsewhere, once, waits_there}
use Rattle.rules.proofs.Invariants.Waking.{obtained_ends, ending_ready, readied_fits, wake_all_slots, wake_all_length, wake_all_ready}
use Rattle.rules.proofs.Invariants.Waking.{wake_all_task, woken_of}

-- tables of the same sizes and priorities
pub facts_step : (t t' : Tables) → Facts t → length t'.tasks ≡ length t.tasks → length t'.slots ≡ length t.slots
    → ((i : ℕ) → (nth_task t' i).priority ≡ (nth_task t i).priority)
    → ((i : ℕ) → TaskFits (nth_task t' i)) → ((j : ℕ) → SlotFits (length t.tasks) (nth_slot t' j)) → Linked (nth_task t') (nth_slot t')
    → ((q : ℕ) → occurs q t'.ready ≡ bit (is_ready_task t' q)) → Facts t'
unfolding sizes_fit
facts_step t t' f N S same tasks slots linked ready =
    record {
      sizes = rw (N, S) f.sizes;
      urgent = λ i h. rw (same i) (f.urgent i (rw N at h));
      tasks = tasks;
      slots = λ j. subst (λ (N : ℕ). SlotFits N (nth_slot t' j)) (sym N) (slots j);
      linked = linked;
      ready = ready;
    }

-- ---- who is ready

pub ready_none : (t : Tables) → is_ready_task t 0 ≡ false
ready_none t = if_no _ _ (if_no _ _ refl)

pub ready_yes : (t : Tables) (i : ℕ) → i < length t.tasks → waits (nth_task t i) ≡ false → is_ready_task t (suc i) ≡ true
ready_yes t i h w = both_and (both_and (le-leb 1 (suc i) (omega arith)) (le-leb (suc i) (length t.tasks) h)) (false_isnt _ w)

pub ready_no : (t : Tables) (i : ℕ) → waits (nth_task t i) ≡ true → is_ready_task t (suc i) ≡ false
ready_no t i w = if_yes _ _ (both_and (le-leb 1 (suc i) (omega arith)) (le-leb (suc i) (length t.tasks) (waits_within t i w))) ∙ if_yes _ _ w

pub ready_same : (t t' : Tables) (i : ℕ) → length t'.tasks ≡ length t.tasks → waits (nth_task t' i) ≡ waits (nth_task t i)
    → is_ready_task t' (suc i) ≡ is_ready_task t (suc i)
ready_same t t' i N w = ap₂ (λ (n : ℕ) (b : Bool). within 1 n (suc i) and isnt b) N w

module _ (t : Tables) (f : Facts t) where
  -- who waits does not stand in the sequence, and neither does 0
  pub waits_outside : (i : ℕ) → waits (nth_task t i) ≡ true → occurs (suc i) t.ready ≡ 0
  waits_outside i w = f.ready (suc i) ∙ bit_no _ (ready_no t i w)

  pub none_outside : occurs 0 t.ready ≡ 0
  none_outside = f.ready 0 ∙ bit_no _ (ready_none t)

  pub below : (j : ℕ) → is_live (nth_slot t j) ≡ true → j < 64
  below j l = omega (arith, live_within t j l, (sizes_within t f.sizes).slots)

  -- the tasks ws leave the queue of slot j and are woken; the slot becomes s
  module _ (j : ℕ) (s : Slot) (ws : List ℕ) (a : ℕ) (l : is_live (nth_slot t j) ≡ true) (ends : is_ending a ≡ true)
      (fits : SlotFits (length t.tasks) s)
      (generation : s.generation ≡ (nth_slot t j).generation) (parts : (q : ℕ) → occurs q (nth_slot t j).queue ≡ occurs q ws + occurs q s.queue)
      (stays : (i : ℕ) → 1 ≤ occurs (suc i) s.queue → is_live s ≡ true) where
    waiter : (i : ℕ) → 1 ≤ occurs (suc i) ws → waits_on (nth_task t i) (id_of (suc j) (nth_slot t j)) ≡ true
    waiter i h = waits_there (nth_task t) (nth_slot t) below f.linked i j l (omega (arith, parts (suc i)))

    task_after : (i : ℕ) → nth_task (wake_all (put_slot t (suc j) s) ws a) i ≡ woken_of ws a i (nth_task t i)
    task_after i =
        wake_all_task ws (put_slot t (suc j) s) a i (omega (arith, parts 0, ((f.slots j).when_live l).entries))
        (λ k h. waits_within t k (and_both _ _ (waiter k h)).0)

    task_woken : (i : ℕ) → leb 1 (occurs (suc i) ws) ≡ true → nth_task (wake_all (put_slot t (suc j) s) ws a) i ≡ readied (nth_task t i) a
    task_woken i e = task_after i ∙ if_yes _ _ e

    task_same : (i : ℕ) → leb 1 (occurs (suc i) ws) ≡ false → nth_task (wake_all (put_slot t (suc j) s) ws a) i ≡ nth_task t i
    task_same i e = task_after i ∙ if_no _ _ e

    -- the slots as the put leaves them
    put : Updated (nth_slot t) (nth_slot (put_slot t (suc j) s)) j s
    put = set_updated t.slots j s (free_slot 0) (live_within t j l)

    shrunk : (k : ℕ) → is_live (nth_slot (put_slot t (suc j) s) k) ≡ true → Shrunk (λ i. leb 1 (occurs (suc i) ws)) (nth_slot t k) (nth_slot (put_slot t (suc j) s) k)
    shrunk k =
        updated_cases (λ k z. is_live z ≡ true → Shrunk (λ i. leb 1 (occurs (suc i) ws)) (nth_slot t k) z) put k
        (λ m. record { live = l; generation = generation; queue = here })
        (λ n m. record { live = m; generation = refl; queue = there n m })
      where
        here : (i : ℕ) → occurs (suc i) s.queue ≡ choose (leb 1 (occurs (suc i) ws)) 0 (occurs (suc i) (nth_slot t j).queue)
        here i =
            choose_cases (λ (n : ℕ). occurs (suc i) s.queue ≡ n) (leb 1 (occurs (suc i) ws)) 0 (occurs (suc i) (nth_slot t j).queue)
            (λ e. omega (arith, leb-true 1 (occurs (suc i) ws) e, parts (suc i), once (nth_task t) (nth_slot t) below f.linked i j l))
            (λ e. omega (arith, leb-false 1 (occurs (suc i) ws) e, parts (suc i)))

        there : k ≢ j → is_live (nth_slot t k) ≡ true → (i : ℕ)
            → occurs (suc i) (nth_slot t k).queue ≡ choose (leb 1 (occurs (suc i) ws)) 0 (occurs (suc i) (nth_slot t k).queue)
        there n m i =
            choose_cases (λ (c : ℕ). occurs (suc i) (nth_slot t k).queue ≡ c) (leb 1 (occurs (suc i) ws)) 0 (occurs (suc i) (nth_slot t k).queue)
            (λ e. elsewhere (nth_task t) (nth_slot t) below f.linked i j k l m (λ z. n (sym z))
            (omega (arith, leb-true 1 (occurs (suc i) ws) e, parts (suc i))))
            (λ e. refl)

    remains : (i k : ℕ) → leb 1 (occurs (suc i) ws) ≡ false → is_live (nth_slot t k) ≡ true → 1 ≤ occurs (suc i) (nth_slot t k).queue
        → is_live (nth_slot (put_slot t (suc j) s) k) ≡ true
    remains i k e =
        updated_cases (λ k z. is_live (nth_slot t k) ≡ true → 1 ≤ occurs (suc i) (nth_slot t k).queue → is_live z ≡ true) put k
        (λ m h. stays i (omega (arith, leb-false 1 (occurs (suc i) ws) e, parts (suc i))))
        (λ n m h. m)

    linked_after : Linked (nth_task (wake_all (put_slot t (suc j) s) ws a)) (nth_slot (put_slot t (suc j) s))
    linked_after =
        ended (nth_task t) (nth_slot t) below f.linked (nth_task (wake_all (put_slot t (suc j) s) ws a)) (nth_slot (put_slot t (suc j) s))
        (λ i. leb 1 (occurs (suc i) ws))
        (λ i e. subst (λ (v : Task). waits v ≡ false) (sym (task_woken i e)) (ending_ready a ends))
        (λ i e. record { answer = ap (λ (v : Task). v.answer) (task_same i e); awaited = ap (λ (v : Task). v.awaited) (task_same i e) })
        shrunk remains

    -- those who are woken join the sequence
    ready_after : (q : ℕ) → occurs q (t.ready ++ ws) ≡ bit (is_ready_task (wake_all (put_slot t (suc j) s) ws a) q)
    ready_after zero =
        omega (
          arith,
          occurs_append 0 t.ready ws,
          none_outside,
          parts 0,
          ((f.slots j).when_live l).entries,
          bit_no _ (ready_none (wake_all (put_slot t (suc j) s) ws a)),
        )
    ready_after (suc i) = occurs_append (suc i) t.ready ws ∙ ⊎_elim joins rests (tested (leb 1 (occurs (suc i) ws)))
      where
        joins : leb 1 (occurs (suc i) ws) ≡ true
            → occurs (suc i) t.ready + occurs (suc i) ws ≡ bit (is_ready_task (wake_all (put_slot t (suc j) s) ws a) (suc i))
        joins e =
            let some = leb-true 1 (occurs (suc i) ws) e in
            let w = (and_both _ _ (waiter i some)).0 in
            let is = ready_yes (wake_all (put_slot t (suc j) s) ws a) i (rw (wake_all_length ws (put_slot t (suc j) s) a) (waits_within t i w))
            (subst (λ (v : Task). waits v ≡ false) (sym (task_woken i e)) (ending_ready a ends)) in
            omega (arith, some, waits_outside i w, parts (suc i), once (nth_task t) (nth_slot t) below f.linked i j l, bit_yes _ is)

        rests : leb 1 (occurs (suc i) ws) ≡ false
            → occurs (suc i) t.ready + occurs (suc i) ws ≡ bit (is_ready_task (wake_all (put_slot t (suc j) s) ws a) (suc i))
        rests e =
            let same = ready_same t (wake_all (put_slot t (suc j) s) ws a) i (wake_all_length ws (put_slot t (suc j) s) a)
            (ap (λ (v : Task). waits v) (task_same i e)) in
            omega (arith, leb-false 1 (occurs (suc i) ws) e, f.ready (suc i), ap (λ (b : Bool). bit b) same)

    pub roused : Facts (wake_all (put_slot t (suc j) s) ws a)
    roused =
        facts_step t (wake_all (put_slot t (suc j) s) ws a) f (wake_all_length ws (put_slot t (suc j) s) a)
        (ap length (wake_all_slots ws (put_slot t (suc j) s) a) ∙ length-set t.slots j s)
        (λ i. ap (λ (v : Task). v.priority) (task_after i) ∙ choose_cases (λ (v : Task). v.priority ≡ (nth_task t i).priority)
        (leb 1 (occurs (suc i) ws)) _ _ (λ e. refl) (λ e. refl))
        (λ i. subst TaskFits (sym (task_after i))
        (choose_cases TaskFits (leb 1 (occurs (suc i) ws)) _ _ (λ e. readied_fits (nth_task t i) a ends) (λ e. f.tasks i)))
        (λ k. subst (λ (ss : List Slot). SlotFits (length t.tasks) (get_or ss k (free_slot 0))) (sym (wake_all_slots ws (put_slot t (suc j) s) a))
        (set_all (SlotFits (length t.tasks)) t.slots j s (free_slot 0) f.slots fits k))
        (subst (λ (ss : List Slot). Linked (nth_task (wake_all (put_slot t (suc j) s) ws a)) (λ k. get_or ss k (free_slot 0)))
        (sym (wake_all_slots ws (put_slot t (suc j) s) a)) linked_after)
        (λ q. ap (occurs q) (wake_all_ready ws (put_slot t (suc j) s) a) ∙ ready_after q)

  -- slot j becomes s, with the queue as it was
  pub replaced : (j : ℕ) (s : Slot) → is_live (nth_slot t j) ≡ true → SlotFits (length t.tasks) s
      → s.generation ≡ (nth_slot t j).generation → s.queue ≡ (nth_slot t j).queue → is_live s ≡ true → Facts (put_slot t (suc j) s)
  unfolding wake_all
  replaced j s l fits generation queue l' =
      roused j s [] 0 l obtained_ends fits generation (λ q. omega (arith, occurs_none q, ap (occurs q) queue)) (λ i h. l')

  -- a free slot comes to life as s
  pub created : (j : ℕ) (s : Slot) → j < length t.slots → is_live (nth_slot t j) ≡ false → SlotFits (length t.tasks) s
      → length s.queue ≡ 0 → Facts (put_slot t (suc j) s)
  created j s h free fits empty =
      facts_step t (put_slot t (suc j) s) f refl (length-set t.slots j s) (λ i. refl) f.tasks
      (set_all (SlotFits (length t.tasks)) t.slots j s (free_slot 0) f.slots fits)
      (opened (nth_task t) (nth_slot t) below f.linked (nth_slot (put_slot t (suc j) s)) j s (set_updated t.slots j s (free_slot 0) h)
      (omega (arith, (sizes_within t f.sizes).slots)) free empty)
      f.ready

  -- task c, which did not wait, leaves the sequence and joins the queue of slot j, which becomes s
  pub waited : (c j : ℕ) (v : Task) (s : Slot) → c < length t.tasks → waits (nth_task t c) ≡ false → is_live (nth_slot t j) ≡ true
      → waits v ≡ true → v.awaited ≡ id_of (suc j) (nth_slot t j) → v.priority ≡ (nth_task t c).priority → TaskFits v
      → SlotFits (length t.tasks) s → is_live s ≡ true → s.generation ≡ (nth_slot t j).generation
      → ((i : ℕ) → occurs (suc i) s.queue ≡ bit (eqb (suc i) (suc c)) + occurs (suc i) (nth_slot t j).queue)
      → Facts (begin_wait (put_slot t (suc j) s) (suc c) v)
  waited c j v s h ready l w id p tfits fits l' g queue =
      facts_step t after f (length-set t.tasks c v) (length-set t.slots j s)
      (λ i. updated_cases (λ i z. z.priority ≡ (nth_task t i).priority) tasks i p (λ n. refl))
      (set_all TaskFits t.tasks c v no_task f.tasks tfits)
      (set_all (SlotFits (length t.tasks)) t.slots j s (free_slot 0) f.slots fits)
      (joined (nth_task t) (nth_slot t) below f.linked (nth_task (put_task t (suc c) v)) (nth_slot (put_slot t (suc j) s)) c j v s
      tasks (set_updated t.slots j s (free_slot 0) (live_within t j l)) ready l w id l' g queue)
      sequence
    where
      after : Tables
      after = begin_wait (put_slot t (suc j) s) (suc c) v

      tasks : Updated (nth_task t) (nth_task (put_task t (suc c) v)) c v
      tasks = set_updated t.tasks c v no_task h

      leaves : (within 1 (length after.tasks) (suc c) and isnt (waits v)) ≡ false
      leaves = subst (λ (z : Task). (within 1 (length after.tasks) (suc c) and isnt (waits z)) ≡ false) tasks.same
          (ready_no after c (subst (λ (z : Task). waits z ≡ true) (sym tasks.same) w))

      sequence : (q : ℕ) → occurs q (without (suc c) t.ready) ≡ bit (is_ready_task after q)
      sequence zero =
          occurs_without 0 (suc c) t.ready ∙ if_ne 0 (suc c) _ _ (λ (e : 0 ≡ suc c). omega arith) ∙ none_outside ∙ sym (bit_no _ (ready_none after))
      sequence (suc i) =
          occurs_without (suc i) (suc c) t.ready
          ∙ updated_cases
          (λ i z. choose (eqb (suc i) (suc c)) 0 (occurs (suc i) t.ready) ≡ bit (within 1 (length after.tasks) (suc i) and isnt (waits z))) tasks i
          (if_eq (suc c) (suc c) _ _ refl ∙ sym (bit_no _ leaves))
          (λ n. if_ne (suc i) (suc c) _ _ (λ (e : suc i ≡ suc c). n (omega arith)) ∙ f.ready (suc i)
          ∙ ap (λ (n : ℕ). bit (within 1 n (suc i) and isnt (waits (nth_task t i)))) (sym (length-set t.tasks c v)))
