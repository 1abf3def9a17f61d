-- What waking the tasks of a list does to each task.
use mathlib.Core.Path.{◌≡◌, refl, sym, subst, ap, ◌∙◌}
use mathlib.Core.Bool.{true, false}
use mathlib.Core.List.{List, [], ◌∷◌, ◌++◌, append-nil, append_assoc}
use mathlib.Core.Logic.{⊎_elim, ◌≢◌}
use Prim.Native.Nat.{ℕ, zero, suc, pred, ◌≤◌, ◌<◌}
use native.Mathlib.Omega.{arith}
use lib.Dec.{leb, eqb}
use lib.ListN.{length, get_or, set, length-set}
use lib.Seq.{get_or-set_same, get_or-set_other}
use borrow.Author.Tests.{eqb-true, eqb-false, ne_eqb}
use Rattle.laws.specs.Choose.{choose}
use Rattle.laws.proofs.Choose.{tested, if_le, if_not_le, or_either, or_second, choose_cases}
use Rattle.laws.proofs.Fit.{set_cases}
use Rattle.rules.specs.declared.Task.{Task}
use Rattle.rules.specs.Machine.{Tables, no_task, task_of}
use Rattle.rules.specs.Agreement.{is_ending, occurs}
use Rattle.rules.specs.Calls.{readied, wake, wake_all}
use Rattle.rules.proofs.Invariants.Lists.{bit_yes, bit_no, bit_same, occurs_none, occurs_cons}
use Rattle.rules.proofs.Invariants.Facts.{nth_task, TaskFits}

-- the four endings of a wait
pub obtained_ends : is_ending 0 ≡ true
unfolding choose
obtained_ends = refl

pub timed_out_ends : is_ending 6 ≡ true
unfolding choose
timed_out_ends = refl

pub deleted_ends : is_ending 7 ≡ true
unfolding choose
deleted_ends = refl

pub flushed_ends : is_ending 13 ≡ true
unfolding choose
flushed_ends = refl

-- a task whose wait has ended does not wait
pub ending_ready : (a : ℕ) → is_ending a ≡ true → eqb a 100 ≡ false
ending_ready a e =
    ne_eqb a 100
    (λ (z : a ≡ 100).
    ⊎_elim (λ (h : eqb a 0 ≡ true). omega (arith, eqb-true a 0 h))
    (λ r.
    ⊎_elim (λ (h : eqb a 6 ≡ true). omega (arith, eqb-true a 6 h))
    (λ r. ⊎_elim (λ (h : eqb a 7 ≡ true). omega (arith, eqb-true a 7 h)) (λ (h : eqb a 13 ≡ true). omega (arith, eqb-true a 13 h)) (or_either _ _ r))
    (or_either _ _ r))
    (or_either _ _ e))

pub readied_fits : (v : Task) (a : ℕ) → is_ending a ≡ true → TaskFits (readied v a)
readied_fits v a e = record { answer = or_second _ _ e; awaited = omega arith; ticks = omega arith; at_rest = λ w. (refl, refl) }

pub wake_all_slots : (qs : List ℕ) (t : Tables) (a : ℕ) → (wake_all t qs a).slots ≡ t.slots
unfolding wake_all
wake_all_slots [] t a = refl
wake_all_slots (q ∷ qs) t a = wake_all_slots qs (wake t q a) a

pub wake_all_length : (qs : List ℕ) (t : Tables) (a : ℕ) → length (wake_all t qs a).tasks ≡ length t.tasks
unfolding wake_all
wake_all_length [] t a = refl
wake_all_length (q ∷ qs) t a = wake_all_length qs (wake t q a) a ∙ length-set t.tasks (pred q) (readied (task_of t q) a)

pub wake_all_ready : (qs : List ℕ) (t : Tables) (a : ℕ) → (wake_all t qs a).ready ≡ t.ready ++ qs
unfolding wake_all
wake_all_ready [] t a = sym (append-nil t.ready)
wake_all_ready (q ∷ qs) t a = wake_all_ready qs (wake t q a) a ∙ append_assoc t.ready (q ∷ []) qs

-- what holds of a task, and of all that are readied, holds of it afterwards
pub wake_keeps : (P : Task → Type 0) (i : ℕ) (t : Tables) (q a : ℕ) → P (readied (task_of t q) a) → P (nth_task t i) → P (nth_task (wake t q a) i)
wake_keeps P i t q a new old = set_cases P t.tasks (pred q) i (readied (task_of t q) a) no_task (λ e. new) old

pub wake_all_keeps : (P : Task → Type 0) (i : ℕ) (qs : List ℕ) (t : Tables) (a : ℕ) → ((v : Task) → P (readied v a)) → P (nth_task t i)
    → P (nth_task (wake_all t qs a) i)
unfolding wake_all
wake_all_keeps P i [] t a new old = old
wake_all_keeps P i (q ∷ qs) t a new old = wake_all_keeps P i qs (wake t q a) a new (wake_keeps P i t q a (new (task_of t q)) old)

-- the tasks of the list are readied, the others stay
abbrev pub woken_of : List ℕ → ℕ → ℕ → Task → Task
woken_of qs a i v = choose (leb 1 (occurs (suc i) qs)) (readied v a) v

pub wake_all_task : (qs : List ℕ) (t : Tables) (a i : ℕ) → occurs 0 qs ≡ 0 → ((k : ℕ) → 1 ≤ occurs (suc k) qs → k < length t.tasks)
    → nth_task (wake_all t qs a) i ≡ woken_of qs a i (nth_task t i)
unfolding wake_all
wake_all_task [] t a i z within = sym (if_not_le 1 (occurs (suc i) []) _ _ (omega (arith, occurs_none (suc i))))
wake_all_task (zero ∷ qs) t a i z within = absurd (omega (arith, occurs_cons 0 0 qs, bit_same 0))
wake_all_task (suc q ∷ qs) t a i z within =
    wake_all_task qs (wake t (suc q) a) a i (omega (arith, occurs_cons 0 (suc q) qs)) later
    ∙ ⊎_elim first other (tested (eqb (suc i) (suc q)))
  where
    later : (k : ℕ) → 1 ≤ occurs (suc k) qs → k < length (set t.tasks q (readied (nth_task t q) a))
    later k h = rw length-set (within k (omega (arith, occurs_cons (suc k) (suc q) qs)))

    -- woken here, and perhaps again
    first : eqb (suc i) (suc q) ≡ true → woken_of qs a i (nth_task (wake t (suc q) a) i) ≡ woken_of (suc q ∷ qs) a i (nth_task t i)
    first e =
        let same : i ≡ q = omega (arith, eqb-true (suc i) (suc q) e) in
        let there : 1 ≤ occurs (suc i) (suc q ∷ qs) = omega (arith, occurs_cons (suc i) (suc q) qs, bit_yes _ e) in
        let here : nth_task (wake t (suc q) a) i ≡ readied (nth_task t i) a =
        subst (λ (k : ℕ). get_or (set t.tasks q (readied (nth_task t q) a)) k no_task ≡ readied (nth_task t k) a) (sym same)
        (get_or-set_same t.tasks q (readied (nth_task t q) a) no_task (within q (subst (λ (k : ℕ). 1 ≤ occurs (suc k) (suc q ∷ qs)) same there))) in
        subst (λ (v : Task). woken_of qs a i v ≡ woken_of (suc q ∷ qs) a i (nth_task t i)) (sym here)
        (choose_cases (λ (v : Task). v ≡ woken_of (suc q ∷ qs) a i (nth_task t i)) (leb 1 (occurs (suc i) qs)) (readied (nth_task t i) a) (readied (nth_task t i) a)
        (λ w. sym (if_le 1 (occurs (suc i) (suc q ∷ qs)) _ _ there)) (λ w. sym (if_le 1 (occurs (suc i) (suc q ∷ qs)) _ _ there)))

    other : eqb (suc i) (suc q) ≡ false → woken_of qs a i (nth_task (wake t (suc q) a) i) ≡ woken_of (suc q ∷ qs) a i (nth_task t i)
    other e =
        let n : i ≢ q = λ (s : i ≡ q). eqb-false (suc i) (suc q) e (ap suc s) in
        let count : occurs (suc i) qs ≡ occurs (suc i) (suc q ∷ qs) = omega (arith, occurs_cons (suc i) (suc q) qs, bit_no _ e) in
        ap (woken_of qs a i) (get_or-set_other t.tasks q i (readied (nth_task t q) a) no_task n)
        ∙ ap (λ (k : ℕ). choose (leb 1 k) (readied (nth_task t i) a) (nth_task t i)) count
