-- start and create keep the facts.
use mathlib.Core.Path.{◌≡◌, refl, sym, subst, subst₂, fun_ext, ap, ◌∙◌}
use mathlib.Core.Bool.{Bool, true, false}
use mathlib.Core.List.{List, [], ◌∷◌}
use Prim.Native.Nat.{ℕ, suc, pred, ◌+◌, ◌≤◌, ◌<◌}
use native.Mathlib.Omega.{arith}
use lib.Dec.{leb, ltb, eqb}
use lib.ListN.{length, get_or, replicate, length-map, length-replicate, get_or-replicate, get_or-map}
use borrow.Author.Tests.{eqb-false, leb-true, ltb-true}
use Rattle.laws.specs.Choose.{choose, ◌and◌, isnt, bit}
use Rattle.laws.proofs.Choose.{never, and_both, both_and, or_second, isnt_false, false_isnt, same_test, choose_cases}
use Rattle.laws.specs.All.{all}
use Rattle.laws.proofs.All.{all_at}
use Rattle.rules.specs.Numbers.{max_tasks, max_slots, max_priority, max_generation, max_number, within, allowed, class_maximum, allowed_count}
use Rattle.rules.specs.Machine.{Slot, Tables, free_slot, slot_of, put_slot, is_live, waits}
use Rattle.rules.specs.Agreement.{sizes_fit, is_ready_task}
use Rattle.rules.specs.Calls.{new_task, start_refusal, started, start, first_free, open_slot, create_refusal, new_semaphore, create, answered}
use Rattle.rules.proofs.Invariants.Lists.{occurs_up_to}
use Rattle.rules.proofs.Invariants.Facts.{nth_task, nth_slot, TaskFits, Linked, Facts, free_fits, everywhere}
use Rattle.rules.proofs.Invariants.PartsKept.{created}
use Rattle.rules.proofs.Invariants.Slots.{new_fits}
use Rattle.rules.proofs.Invariants.Refusals.{must, mustnt, unless_kept, Caller, task_only_lem}

-- ---- start

new_task_fits : (p : ℕ) → TaskFits (new_task p)
unfolding choose
new_task_fits p = record { answer = refl; awaited = omega arith; ticks = omega arith; at_rest = λ e. (refl, refl) }

module _ (slots : ℕ) (priorities : List ℕ) where
  task_new : (i : ℕ) → nth_task (started slots priorities) i ≡ new_task (get_or priorities i 0)
  unfolding started
  task_new i = get_or-map new_task priorities i 0

  slot_new : (j : ℕ) → nth_slot (started slots priorities) j ≡ free_slot 0
  unfolding started
  slot_new =
      everywhere (λ (s : Slot). s ≡ free_slot 0) (replicate slots (free_slot 0)) (free_slot 0) refl
      (λ j h. get_or-replicate slots j (free_slot 0) (free_slot 0) (rw length-replicate at h))

  tasks_new : length (started slots priorities).tasks ≡ length priorities
  unfolding started
  tasks_new = length-map priorities new_task

  slots_new : length (started slots priorities).slots ≡ slots
  unfolding started
  slots_new = length-replicate slots (free_slot 0)

  ready_new : (q : ℕ) → within 1 (length priorities) q ≡ is_ready_task (started slots priorities) q
  ready_new q =
      rw (tasks_new, task_new (pred q))
      (same_test _ _ (λ e. both_and e (false_isnt (waits (new_task (get_or priorities (pred q) 0))) refl)) (λ e. (and_both _ _ e).0))

  pub started_facts : (within 1 max_tasks (length priorities) and within 1 max_slots slots) ≡ true
      → ((i : ℕ) → i < length priorities → within 1 max_priority (get_or priorities i 0) ≡ true) → Facts (started slots priorities)
  unfolding sizes_fit started
  started_facts sizes urgent =
      record {
        sizes = or_second _ _ (rw (tasks_new, slots_new) sizes);
        urgent = λ i h.
            let e = and_both _ _ (urgent i (rw tasks_new at h)) in
            rw (task_new i) (leb-true _ _ e.0, leb-true _ _ e.1);
        tasks = λ i. rw (task_new i) (new_task_fits (get_or priorities i 0));
        slots = λ j. rw (slot_new j) (free_fits _ 0 (omega arith));
        linked =
            subst₂ Linked (fun_ext (λ i. sym (task_new i))) (fun_ext (λ j. sym (slot_new j)))
            (record { counted = λ i j l. never l refl; named = λ i w. never w refl });
        ready = λ q. occurs_up_to (length priorities) q ∙ ap (λ (b : Bool). bit b) (ready_new q);
      }

pub start_kept : (t : Tables) (slots : ℕ) (priorities : List ℕ) → Facts t → Facts (start t slots priorities).tables
unfolding start start_refusal
start_kept t slots priorities f =
    unless_kept _ t (answered 0 0 (started slots priorities)) f
    (λ e.
    let fresh = mustnt (leb 1 (length t.tasks)) 14 _ (omega arith) e in
    let sizes = must (within 1 max_tasks (length priorities) and within 1 max_slots slots) _ 10 (omega arith) fresh.1 in
    let urgent = must (all (length priorities) (λ i. within 1 max_priority (get_or priorities i 0))) 0 19 (omega arith) sizes.1 in
    started_facts slots priorities sizes.0 (all_at _ _ urgent.0))

-- ---- create

-- n is the number of a free slot that can have one more generation, where m slots stand before these
pub record Open (ss : List Slot) (m n : ℕ) : Type 0 where
  pub place : ℕ
  pub within : place < length ss
  pub number : n ≡ suc (m + place)
  pub free : is_live (get_or ss place (free_slot 0)) ≡ false
  pub generation : (get_or ss place (free_slot 0)).generation < max_generation

pub first_free_lem : (ss : List Slot) (m : ℕ) → 1 ≤ first_free ss (suc m) → Open ss m (first_free ss (suc m))
unfolding first_free
first_free_lem [] m = λ h. absurd (omega arith)
first_free_lem (s ∷ ss) m =
    choose_cases (λ (n : ℕ). 1 ≤ n → Open (s ∷ ss) m n) (isnt (is_live s) and ltb s.generation max_generation) (suc m) (first_free ss (suc (suc m)))
    (λ e h. record {
      place = 0;
      within = omega arith;
      number = omega arith;
      free = isnt_false _ (and_both _ _ e).0;
      generation = ltb-true _ _
          (and_both _ _ e).1;
    })
    (λ e h. let o = first_free_lem ss (suc m) h in later o)
  where
    later : {n : ℕ} → Open ss (suc m) n → Open (s ∷ ss) m n
    later o =
        record { place = suc o.place; within = omega (arith, o.within); number = omega (arith, o.number); free = o.free; generation = o.generation }

new_queue : (g caller name count attributes maximum : ℕ) → length (new_semaphore g caller name count attributes maximum).queue ≡ 0
unfolding new_semaphore
new_queue g caller name count attributes maximum = refl

-- what a create that is not refused has checked
record Checked (t : Tables) (caller name count attributes maximum : ℕ) : Type 0 where
  who : Caller t caller
  named : 1 ≤ name
  right : allowed attributes ≡ true
  least : 1 ≤ maximum
  most : maximum ≤ class_maximum attributes
  below : count ≤ maximum
  room : Open t.slots 0 (open_slot t)

create_checked : (t : Tables) (caller name count attributes maximum : ℕ) → create_refusal t caller name count attributes maximum ≡ 0
    → Checked t caller name count attributes maximum
unfolding create_refusal
create_checked t caller name count attributes maximum e =
    let who = task_only_lem t caller _ e in
    let named = mustnt (eqb name 0) 3 _ (omega arith) who.1 in
    let right = must (allowed attributes) _ 11 (omega arith) named.1 in
    let numbers = must (allowed_count count attributes maximum) _ 10 (omega arith) right.1 in
    let room = mustnt (eqb (open_slot t) 0) 5 0 (omega arith) numbers.1 in
    let nameless : name ≡ 0 → ⊥ = eqb-false _ _ named.0 in
    let some : open_slot t ≡ 0 → ⊥ = eqb-false _ _ room.0 in
    let within = and_both _ _ (and_both _ _ numbers.0).0 in
    record {
      who = who.0;
      named = omega arith;
      right = right.0;
      least = leb-true _ _ within.0;
      most = leb-true _ _ within.1;
      below = leb-true _ _ (and_both _ _ numbers.0).1;
      room = first_free_lem t.slots 0 (omega arith);
    }

pub create_kept : (t : Tables) (caller name count attributes maximum : ℕ) → name ≤ max_number → Facts t
    → Facts (create t caller name count attributes maximum).tables
unfolding create
create_kept t caller name count attributes maximum name-fits f =
    unless_kept (create_refusal t caller name count attributes maximum) t (answered 0 _ (put_slot t (open_slot t) (made (open_slot t)))) f
    (λ e. at (open_slot t) (create_checked t caller name count attributes maximum e) (create_checked t caller name count attributes maximum e).room)
  where
    made : ℕ → Slot
    made n = new_semaphore (slot_of t n).generation caller name count attributes maximum

    at : (n : ℕ) → Checked t caller name count attributes maximum → Open t.slots 0 n → Facts (put_slot t n (made n))
    at n k o =
        let number : n ≡ suc o.place = omega (arith, o.number) in
        subst (λ (n : ℕ). Facts (put_slot t n (made n))) (sym number)
        (created t f o.place (made (suc o.place)) o.within o.free
        (new_fits _ _ caller name count attributes maximum o.generation k.who.first k.who.last k.named name-fits k.right k.least k.most
        k.below)
        (new_queue _ caller name count attributes maximum))
