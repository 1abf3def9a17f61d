-- A tick keeps the facts.
use mathlib.Core.Path.{◌≡◌, refl, sym, subst, subst₂, fun_ext, ap, ◌∙◌}
use mathlib.Core.Bool.{Bool, true, false}
use mathlib.Core.List.{List, [], ◌∷◌, ◌++◌, map}
use mathlib.Core.Logic.{inl, inr, ⊎_elim}
use Prim.Native.Nat.{ℕ, zero, suc, ◌+◌, ◌≤◌}
use native.Mathlib.Omega.{arith}
use lib.Dec.{leb, eqb}
use lib.ListN.{length, get_or, length-map}
use borrow.Author.Tests.{eqb-true, ne_eqb}
use Rattle.laws.specs.Choose.{choose, bit, ◌and◌}
use Rattle.laws.proofs.Choose.{tested, never, if_yes, if_no, and_both, both_and, choose_cases}
use Rattle.rules.specs.declared.Task.{Task}
use Rattle.rules.specs.Machine.{Slot, Tables, no_task, free_slot, task_of, waits, is_live}
use Rattle.rules.specs.Agreement.{is_ready_task, occurs}
use Rattle.rules.specs.Calls.{expires, ticked, still_waiting, ticked_slot, timed_out, ticked_tables, tick}
use Rattle.rules.proofs.Invariants.Lists.{bit_yes, bit_no, occurs_none, occurs_cons, occurs_append, get_d_map}
use Rattle.rules.proofs.Invariants.Lists.{timed_below, timed_at}
use Rattle.rules.proofs.Invariants.Facts.{nth_task, nth_slot, TaskFits, Unheld, Held, SlotFits, Linked, Facts, waits_within}
use Rattle.rules.proofs.Invariants.Links.{SameWait, ended}
use Rattle.rules.proofs.Invariants.Waking.{timed_out_ends, readied_fits}
use Rattle.rules.proofs.Invariants.PartsKept.{facts_step, below, ready_none, ready_yes, ready_same, waits_outside, none_outside}
use Rattle.rules.proofs.Invariants.Slots.{counted_fits}

-- ---- a task

pub ticked_fits : (v : Task) → TaskFits v → TaskFits (ticked v)
unfolding ticked
ticked_fits v f =
    choose_cases TaskFits (expires v) _ _ (λ e. readied_fits v 6 timed_out_ends)
    (λ e. choose_cases TaskFits (waits v and leb 2 v.ticks) _ _
    (λ w. record { answer = f.answer; awaited = f.awaited; ticks = omega (arith, f.ticks); at_rest = λ r. never (and_both _ _ w).0 r })
    (λ w. f))

pub ticked_priority : (v : Task) → (ticked v).priority ≡ v.priority
unfolding ticked
ticked_priority v =
    choose_cases (λ (z : Task). z.priority ≡ v.priority) (expires v) _ _ (λ e. refl)
    (λ e. choose_cases (λ (z : Task). z.priority ≡ v.priority) (waits v and leb 2 v.ticks) _ _ (λ w. refl) (λ w. refl))

pub ticked_woken : (v : Task) → expires v ≡ true → waits (ticked v) ≡ false
unfolding ticked
ticked_woken v e = ap (λ (z : Task). waits z) (if_yes _ _ e)

-- a tick ends the wait that had a single tick left, with 6
pub ticked_answer : (v : Task) → waits v ≡ true → (ticked v).answer ≡ choose (eqb v.ticks 1) 6 100
unfolding ticked
ticked_answer v w = ⊎_elim ended goes_on (tested (eqb v.ticks 1))
  where
    ended : eqb v.ticks 1 ≡ true → (ticked v).answer ≡ choose (eqb v.ticks 1) 6 100
    ended e = ap (λ (z : Task). z.answer) (if_yes _ _ (both_and w e)) ∙ sym (if_yes _ _ e)

    goes_on : eqb v.ticks 1 ≡ false → (ticked v).answer ≡ choose (eqb v.ticks 1) 6 100
    goes_on e =
        ap (λ (z : Task). z.answer) (if_no _ _ (if_yes _ _ w ∙ e))
        ∙ choose_cases (λ (z : Task). z.answer ≡ 100) _ _ _ (λ y. eqb-true _ 100 w) (λ y. eqb-true _ 100 w)
        ∙ sym (if_no _ _ e)

pub ticked_same : (v : Task) → expires v ≡ false → SameWait v (ticked v)
unfolding ticked
ticked_same v e =
    subst (SameWait v) (sym (if_no _ _ e))
    (choose_cases (SameWait v) (waits v and leb 2 v.ticks) _ _ (λ w. record { answer = refl; awaited = refl })
    (λ w. record { answer = refl; awaited = refl }))

pub ticked_none : ticked no_task ≡ no_task
unfolding ticked choose
ticked_none = refl

-- ---- a queue

module _ (t : Tables) where
  -- those whose wait ends are gone, the others stand as often as before
  pub still_occurs : (q : ℕ) (qs : List ℕ) → occurs q (still_waiting t qs) ≡ choose (expires (task_of t q)) 0 (occurs q qs)
  unfolding still_waiting
  still_occurs q [] = choose_cases (λ (n : ℕ). occurs q [] ≡ n) (expires (task_of t q)) 0 (occurs q []) (λ e. occurs_none q) (λ e. refl)
  still_occurs q (x ∷ xs) =
      choose_cases (λ (n : ℕ). occurs q (choose (expires (task_of t x)) (still_waiting t xs) (x ∷ still_waiting t xs)) ≡ n) (expires (task_of t q)) 0
      (occurs q (x ∷ xs))
      (λ e. gone (still_occurs q xs ∙ if_yes _ _ e) e) (λ e. stands (still_occurs q xs ∙ if_no _ _ e) e)
    where
      -- another than q
      other : {b : Bool} → expires (task_of t q) ≡ b → (expires (task_of t x) ≡ b → ⊥) → bit (eqb q x) ≡ 0
      other {b} e n = bit_no (eqb q x) (ne_eqb q x (λ (s : q ≡ x). n (subst (λ (k : ℕ). expires (task_of t k) ≡ b) s e)))

      gone : occurs q (still_waiting t xs) ≡ 0 → expires (task_of t q) ≡ true
          → occurs q (choose (expires (task_of t x)) (still_waiting t xs) (x ∷ still_waiting t xs)) ≡ 0
      gone h e =
          choose_cases (λ (l : List ℕ). occurs q l ≡ 0) (expires (task_of t x)) (still_waiting t xs) (x ∷ still_waiting t xs) (λ d. h)
          (λ d. omega (arith, occurs_cons q x (still_waiting t xs), other e (λ m. never m d)))

      stands : occurs q (still_waiting t xs) ≡ occurs q xs → expires (task_of t q) ≡ false
          → occurs q (choose (expires (task_of t x)) (still_waiting t xs) (x ∷ still_waiting t xs)) ≡ occurs q (x ∷ xs)
      stands h e =
          choose_cases (λ (l : List ℕ). occurs q l ≡ occurs q (x ∷ xs)) (expires (task_of t x)) (still_waiting t xs) (x ∷ still_waiting t xs)
          (λ d. omega (arith, occurs_cons q x xs, other e (λ m. never d m)))
          (λ d. omega (arith, occurs_cons q x xs, occurs_cons q x (still_waiting t xs)))

  pub still_none : (q : ℕ) (qs : List ℕ) → occurs q qs ≡ 0 → occurs q (still_waiting t qs) ≡ 0
  still_none q qs e = still_occurs q qs ∙ choose_cases (λ (n : ℕ). n ≡ 0) (expires (task_of t q)) 0 (occurs q qs) (λ d. refl) (λ d. e)

  pub still_length : (qs : List ℕ) → length (still_waiting t qs) ≤ length qs
  unfolding still_waiting
  still_length [] = omega arith
  still_length (x ∷ xs) =
      let h = still_length xs in
      choose_cases (λ (l : List ℕ). length l ≤ suc (length xs)) (expires (task_of t x)) _ _ (λ e. omega (arith, h)) (λ e. omega (arith, h))

  -- ---- a slot

  pub ticked_free : ticked_slot t (free_slot 0) ≡ free_slot 0
  unfolding ticked_slot still_waiting
  ticked_free = refl

  pub ticked_slot_fits : (N : ℕ) (s : Slot) → SlotFits N s → SlotFits N (ticked_slot t s)
  unfolding ticked_slot
  ticked_slot_fits N s f = ⊎_elim live free (tested (is_live s))
    where
      live : is_live s ≡ true → SlotFits N (ticked_slot t s)
      live l =
          let v = f.when_live l in
          counted_fits N s f l _ _ _ (still_waiting t s.queue) v.maximum.count f.nest (still_none 0 s.queue v.entries)
          (λ h. v.at_zero (omega (arith, still_length s.queue)))
          (λ b. ⊎_elim (λ (z : Unheld s). inl (record { count = z.count; owner = z.owner; nest = z.nest }))
          (λ (z : Held N s). inr
          (record { count = z.count; task = z.task; most = z.most; apart = still_none s.owner s.queue z.apart; nest = z.nest }))
          (v.owned b))
          (λ b. let z = v.unowned b in record { owner = z.owner; nest = z.nest; simple = z.simple })

      free : is_live s ≡ false → SlotFits N (ticked_slot t s)
      free l =
          let z = f.when_free l in
          record {
            generation = f.generation;
            live = f.live;
            name = f.name;
            count = f.count;
            nest = f.nest;
            when_live = λ m. never m l;
            when_free = λ m. record {
              name = z.name;
              attributes = z.attributes;
              count = z.count;
              owner = z.owner;
              nest = z.nest;
              maximum = z.maximum;
              queue = omega
                  (arith, z.queue, still_length s.queue);
            };
          }

-- ---- the call

pub tick_kept : (t : Tables) → Facts t → Facts (tick t).tables
unfolding tick ticked_slot
tick_kept t f =
    facts_step t _ f (length-map t.tasks ticked) (length-map t.slots (ticked_slot t))
    (λ i. ap (λ (v : Task). v.priority) (task_after i) ∙ ticked_priority (nth_task t i))
    (λ i. subst TaskFits (sym (task_after i)) (ticked_fits (nth_task t i) (f.tasks i)))
    (λ j. subst (SlotFits (length t.tasks)) (sym (slot_after j)) (ticked_slot_fits t (length t.tasks) (nth_slot t j) (f.slots j)))
    (subst₂ Linked (fun_ext (λ i. sym (task_after i))) (fun_ext (λ j. sym (slot_after j)))
    (ended (nth_task t) (nth_slot t) (below t f) f.linked (λ i. ticked (nth_task t i)) (λ j. ticked_slot t (nth_slot t j)) (λ i. expires (nth_task t i))
    (λ i e. ticked_woken (nth_task t i) e) (λ i e. ticked_same (nth_task t i) e)
    (λ j l. record { live = l; generation = refl; queue = λ i. still_occurs t (suc i) (nth_slot t j).queue })
    (λ i j e l h. l)))
    sequence
  where
    task_after : (i : ℕ) → get_or (map ticked t.tasks) i no_task ≡ ticked (nth_task t i)
    task_after i = get_d_map ticked t.tasks i no_task ticked_none

    slot_after : (j : ℕ) → get_or (map (ticked_slot t) t.slots) j (free_slot 0) ≡ ticked_slot t (nth_slot t j)
    slot_after j = get_d_map (ticked_slot t) t.slots j (free_slot 0) (ticked_free t)

    sequence : (q : ℕ) → occurs q (t.ready ++ timed_out t.tasks 1) ≡ bit (is_ready_task (ticked_tables t) q)
    sequence zero =
        omega (
          arith,
          occurs_append 0 t.ready (timed_out t.tasks 1),
          none_outside t f,
          timed_below t.tasks 1 0 (omega arith),
          bit_no _ (ready_none (ticked_tables t)),
        )
    sequence (suc i) = occurs_append (suc i) t.ready (timed_out t.tasks 1) ∙ ⊎_elim joins stays (tested (expires (nth_task t i)))
      where
        joins : expires (nth_task t i) ≡ true
            → occurs (suc i) t.ready + occurs (suc i) (timed_out t.tasks 1) ≡ bit (is_ready_task (ticked_tables t) (suc i))
        joins e =
            let w = (and_both _ _ e).0 in
            let is = ready_yes (ticked_tables t) i (rw length-map (waits_within t i w))
            (subst (λ (v : Task). waits v ≡ false) (sym (task_after i)) (ticked_woken (nth_task t i) e)) in
            omega (arith, waits_outside t f i w, timed_at t.tasks 1 i (suc i) (omega arith), bit_yes _ e, bit_yes _ is)

        stays : expires (nth_task t i) ≡ false
            → occurs (suc i) t.ready + occurs (suc i) (timed_out t.tasks 1) ≡ bit (is_ready_task (ticked_tables t) (suc i))
        stays e =
            let same = ready_same t (ticked_tables t) i (length-map t.tasks ticked)
            (ap (λ (v : Task). waits v) (task_after i) ∙ ap (λ (a : ℕ). eqb a 100) (ticked_same (nth_task t i) e).answer) in
            omega (arith, f.ready (suc i), timed_at t.tasks 1 i (suc i) (omega arith), bit_no _ e, ap (λ (b : Bool). bit b) same)
