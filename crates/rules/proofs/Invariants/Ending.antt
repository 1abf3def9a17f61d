-- delete and flush keep the facts.
use mathlib.Core.Path.{◌≡◌, refl, sym, subst, ap}
use mathlib.Core.Bool.{true}
use mathlib.Core.List.{[]}
use Prim.Native.Nat.{ℕ, suc}
use native.Mathlib.Omega.{arith}
use lib.ListN.{length}
use Rattle.rules.specs.Machine.{Slot, Tables, free_slot, slot_of, put_slot, is_live, urgency, names, slot_named}
use Rattle.rules.specs.Agreement.{is_ending, occurs}
use Rattle.rules.specs.Semaphore.{serving_order, flush_step}
use Rattle.rules.specs.Calls.{answered, wake_all, delete_refusal, delete, flush_refusal, flush}
use Rattle.rules.proofs.Invariants.Lists.{occurs_none}
use Rattle.rules.proofs.Serving.{serving_occurs}
use Rattle.rules.proofs.Invariants.Facts.{nth_slot, Facts, SlotFits, free_fits}
use Rattle.rules.proofs.Invariants.Waking.{deleted_ends, flushed_ends}
use Rattle.rules.proofs.Invariants.PartsKept.{roused}
use Rattle.rules.proofs.Invariants.Slots.{flush_fits}
use Rattle.rules.proofs.Invariants.Refusals.{must, unless_kept, task_only_lem, any_caller_lem, found}

-- everybody who waits on slot j is woken, and its queue is left empty
emptied : (t : Tables) (f : Facts t) (j : ℕ) (s : Slot) (a : ℕ) → is_live (nth_slot t j) ≡ true → is_ending a ≡ true → SlotFits (length t.tasks) s
    → s.generation ≡ (nth_slot t j).generation → s.queue ≡ [] → Facts (wake_all (put_slot t (suc j) s) (serving_order (urgency t) (nth_slot t j)) a)
emptied t f j s a l ends fits generation empty =
    roused t f j s (serving_order (urgency t) (nth_slot t j)) a l ends fits generation
    (λ q. omega (arith, occurs_none q, ap (occurs q) empty, serving_occurs (urgency t) (nth_slot t j) q))
    (λ i h. absurd (omega (arith, occurs_none (suc i), ap (occurs (suc i)) empty)))

pub delete_kept : (t : Tables) (caller id : ℕ) → Facts t → Facts (delete t caller id).tables
unfolding delete delete_refusal
delete_kept t caller id f =
    unless_kept (delete_refusal t caller id) t
    (answered 0 0 (wake_all (put_slot t (slot_named t id) (free_slot (slot_of t (slot_named t id)).generation)) (serving_order (urgency t) (slot_of t (slot_named t id))) 7)) f
    (λ e.
    let who = task_only_lem t caller _ e in
    let named = must (names t id) _ 4 (omega arith) who.1 in
    let s = found t f.sizes id named.0 in
    subst (λ (n : ℕ). Facts (wake_all (put_slot t n (free_slot (slot_of t n).generation)) (serving_order (urgency t) (slot_of t n)) 7)) (sym s.number)
    (emptied t f s.place (free_slot (nth_slot t s.place).generation) 7 s.live deleted_ends
    (free_fits _ _ (f.slots s.place).generation) refl refl))

pub flush_kept : (t : Tables) (caller id : ℕ) → Facts t → Facts (flush t caller id).tables
unfolding flush flush_refusal flush_step
flush_kept t caller id f =
    unless_kept (flush_refusal t caller id) t
    (answered 0 0 (wake_all (put_slot t (slot_named t id) (flush_step (slot_of t (slot_named t id)))) (serving_order (urgency t) (slot_of t (slot_named t id))) 13)) f
    (λ e.
    let named = must (names t id) 0 4 (omega arith) (any_caller_lem t caller _ e) in
    let s = found t f.sizes id named.0 in
    subst (λ (n : ℕ). Facts (wake_all (put_slot t n (flush_step (slot_of t n))) (serving_order (urgency t) (slot_of t n)) 13)) (sym s.number)
    (emptied t f s.place (flush_step (nth_slot t s.place)) 13 s.live flushed_ends
    (flush_fits _ (nth_slot t s.place) (f.slots s.place) s.live) refl refl))
