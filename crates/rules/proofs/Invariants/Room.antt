-- A queue's entries are different tasks of the N: there is room in it for any task that does not wait. So are those of the sequence of ready tasks, where
-- there is room for those who wait.
use mathlib.Core.Path.{◌≡◌, refl, sym, subst, ap, ◌∙◌}
use mathlib.Core.Bool.{true, false}
use mathlib.Core.List.{List, [], ◌∷◌, ◌++◌}
use mathlib.Core.Logic.{⊎_elim}
use Prim.Native.Nat.{ℕ, zero, suc, ◌+◌, ◌≤◌, ◌<◌}
use native.Mathlib.Nat.{not-suc-le-zero}
use native.Mathlib.Omega.{arith}
use native.Mathlib.Decide.{ℕ_discrete}
use lib.Dec.{eqb}
use lib.ListN.{length, get_or}
use borrow.Author.Tests.{ne_eqb, leb-true}
use Rattle.laws.specs.Choose.{bit}
use Rattle.laws.proofs.Choose.{tested, and_both}
use Rattle.rules.specs.Machine.{Tables, waits, is_live}
use Rattle.rules.specs.Agreement.{is_ready_task, occurs}
use Rattle.rules.specs.Calls.{timed_out}
use Rattle.rules.proofs.Invariants.Lists.{bit_no, bit_true, bit_same, bit_most, bit_and, occurs_none, occurs_cons, occurs_at, occurs_append}
use Rattle.rules.proofs.Invariants.Lists.{timed_below, timed_at}
use Rattle.rules.proofs.Invariants.Facts.{nth_task, nth_slot, Facts, waits_within}
use Rattle.rules.proofs.Invariants.Links.{waits_there, once, nowhere}
use Rattle.rules.proofs.Invariants.PartsKept.{below, waits_outside}

-- how many entries are of 1..n
pub counts : ℕ → List ℕ → ℕ
counts zero xs = 0
counts (suc n) xs = counts n xs + occurs (suc n) xs

pub counts_none : (n : ℕ) → counts n [] ≡ 0
unfolding counts
counts_none zero = refl
counts_none (suc n) = omega (arith, counts_none n, occurs_none (suc n))

beyond : (n x : ℕ) (xs : List ℕ) → n < x → counts n (x ∷ xs) ≡ counts n xs
unfolding counts
beyond zero x xs h = refl
beyond (suc n) x xs h =
    omega (arith, beyond n x xs (omega arith), occurs_cons (suc n) x xs, bit_no (eqb (suc n) x) (ne_eqb (suc n) x (λ e. omega arith)))

inside : (n x : ℕ) (xs : List ℕ) → 1 ≤ x → x ≤ n → counts n (x ∷ xs) ≡ suc (counts n xs)
unfolding counts
inside zero x xs l h = absurd (not-suc-le-zero (subst (λ (m : ℕ). 1 ≤ m) (sym none) l))
  where
    none : 0 ≡ x
    none = omega arith
inside (suc n) x xs l h =
    elim (ℕ_discrete x (suc n)) [
      | yes e ↦ omega (arith, beyond n x xs (omega arith), occurs_cons (suc n) x xs, subst (λ (m : ℕ). bit (eqb (suc n) m) ≡ 1) (sym e) (bit_same (suc n)))
      | no d ↦ omega (arith, inside n x xs l (omega arith), occurs_cons (suc n) x xs, bit_no (eqb (suc n) x) (ne_eqb (suc n) x (λ e. d (sym e))))
    ]

-- every entry is of 1..n, so the counts are the length
pub counts_all : (n : ℕ) (xs : List ℕ) → ((k : ℕ) → k < length xs → (1 ≤ get_or xs k 0) × (get_or xs k 0 ≤ n)) → counts n xs ≡ length xs
counts_all n [] f = counts_none n
counts_all n (x ∷ xs) f =
    let h = f 0 (omega arith) in
    inside n x xs h.0 h.1 ∙ ap suc (counts_all n xs (λ k l. f (suc k) (omega arith)))

-- no entry twice, so at most n; one task missing, so fewer
pub counts_most : (n : ℕ) (xs : List ℕ) → ((q : ℕ) → occurs (suc q) xs ≤ 1) → counts n xs ≤ n
unfolding counts
counts_most zero xs f = omega arith
counts_most (suc n) xs f = omega (arith, counts_most n xs f, f n)

counts_fewer : (n i : ℕ) (xs : List ℕ) → ((q : ℕ) → occurs (suc q) xs ≤ 1) → i < n → occurs (suc i) xs ≡ 0 → counts n xs < n
unfolding counts
counts_fewer zero i xs f h e = absurd (not-suc-le-zero h)
counts_fewer (suc n) i xs f h e =
    elim (ℕ_discrete i n) [
      | yes s ↦ omega (arith, counts_most n xs f, subst (λ (m : ℕ). occurs (suc m) xs ≡ 0) s e)
      | no d ↦ omega (arith, counts_fewer n i xs f (omega arith) e, f n)
    ]

-- each task once, so n
pub counts_each : (n : ℕ) (xs : List ℕ) → ((q : ℕ) → q < n → occurs (suc q) xs ≡ 1) → counts n xs ≡ n
unfolding counts
counts_each zero xs f = refl
counts_each (suc n) xs f = omega (arith, counts_each n xs (λ q h. f q (omega arith)), f n (omega arith))

pub counts_append : (n : ℕ) (xs ys : List ℕ) → counts n (xs ++ ys) ≡ counts n xs + counts n ys
unfolding counts
counts_append zero xs ys = refl
counts_append (suc n) xs ys = omega (arith, counts_append n xs ys, occurs_append (suc n) xs ys)

-- ---- a queue

module _ (t : Tables) (f : Facts t) (j : ℕ) (l : is_live (nth_slot t j) ≡ true) where
  -- who stands in a queue is a task of the N
  pub waiter_within : (q : ℕ) → 1 ≤ occurs q (nth_slot t j).queue → (1 ≤ q) × (q ≤ length t.tasks)
  waiter_within zero o = absurd (omega (arith, ((f.slots j).when_live l).entries))
  waiter_within (suc i) o =
      (omega arith, waits_within t i (and_both _ _ (waits_there (nth_task t) (nth_slot t) (below t f) f.linked i j l o)).0)

  pub entry_within : (k : ℕ) → k < length (nth_slot t j).queue → (1 ≤ get_or (nth_slot t j).queue k 0) × (get_or (nth_slot t j).queue k 0 ≤ length t.tasks)
  entry_within k h = waiter_within (get_or (nth_slot t j).queue k 0) (occurs_at (nth_slot t j).queue k h)

  all_once : (q : ℕ) → occurs (suc q) (nth_slot t j).queue ≤ 1
  all_once q = once (nth_task t) (nth_slot t) (below t f) f.linked q j l

  pub queue_few : length (nth_slot t j).queue ≤ length t.tasks
  queue_few = omega (arith, counts_all (length t.tasks) (nth_slot t j).queue entry_within, counts_most (length t.tasks) (nth_slot t j).queue all_once)

  pub queue_room : (i : ℕ) → i < length t.tasks → waits (nth_task t i) ≡ false → length (nth_slot t j).queue < length t.tasks
  queue_room i h w =
      omega (
        arith,
        counts_all (length t.tasks) (nth_slot t j).queue entry_within,
        counts_fewer (length t.tasks) i (nth_slot t j).queue all_once h (nowhere (nth_task t) (nth_slot t) (below t f) f.linked i j w l),
      )

-- ---- the sequence of ready tasks

module _ (t : Tables) (f : Facts t) where
  -- its entries are tasks of the N
  pub ready_entry : (k : ℕ) → k < length t.ready → (1 ≤ get_or t.ready k 0) × (get_or t.ready k 0 ≤ length t.tasks)
  ready_entry k h =
      let e = bit_true _ (subst (λ (n : ℕ). 1 ≤ n) (f.ready (get_or t.ready k 0)) (occurs_at t.ready k h)) in
      let w = and_both _ _ (and_both _ _ e).0 in
      (leb-true _ _ w.0, leb-true _ _ w.1)

  -- there is room behind it for different tasks that wait
  pub ready_room : (xs : List ℕ) → occurs 0 xs ≡ 0 → ((i : ℕ) → occurs (suc i) xs ≤ bit (waits (nth_task t i)))
      → length t.ready + length xs ≤ length t.tasks
  ready_room xs none few =
      omega (
        arith,
        counts_all (length t.tasks) t.ready ready_entry,
        counts_all (length t.tasks) xs entry,
        counts_append (length t.tasks) t.ready xs,
        counts_most (length t.tasks) (t.ready ++ xs) single,
      )
    where
      waiter : (q : ℕ) → 1 ≤ occurs q xs → (1 ≤ q) × (q ≤ length t.tasks)
      waiter zero o = absurd (omega arith)
      waiter (suc i) o = (omega arith, waits_within t i (bit_true _ (omega (arith, few i))))

      entry : (k : ℕ) → k < length xs → (1 ≤ get_or xs k 0) × (get_or xs k 0 ≤ length t.tasks)
      entry k h = waiter (get_or xs k 0) (occurs_at xs k h)

      -- a task is ready or waits
      single : (q : ℕ) → occurs (suc q) (t.ready ++ xs) ≤ 1
      single q =
          ⊎_elim
          (λ (w : waits (nth_task t q) ≡ true).
          omega (arith, occurs_append (suc q) t.ready xs, few q, bit_most (waits (nth_task t q)), waits_outside t f q w))
          (λ (w : waits (nth_task t q) ≡ false).
          omega (arith, occurs_append (suc q) t.ready xs, few q, bit_no _ w, f.ready (suc q), bit_most (is_ready_task t (suc q))))
          (tested (waits (nth_task t q)))

  pub ready_few : length t.ready ≤ length t.tasks
  ready_few = omega (arith, ready_room [] (occurs_none 0) (λ i. omega (arith, occurs_none (suc i))))

  -- for the queue of a live slot
  pub queue_joins : (j : ℕ) → is_live (nth_slot t j) ≡ true → length t.ready + length (nth_slot t j).queue ≤ length t.tasks
  queue_joins j l =
      ready_room (nth_slot t j).queue ((f.slots j).when_live l).entries (λ i. rw (f.linked.counted i j l) (bit_and (waits (nth_task t i)) _))

  -- for those whose wait a tick ends
  pub timed_join : length t.ready + length (timed_out t.tasks 1) ≤ length t.tasks
  timed_join =
      ready_room (timed_out t.tasks 1) (timed_below t.tasks 1 0 (omega arith))
      (λ i. rw (timed_at t.tasks 1 i (suc i) (omega arith)) (bit_and (waits (nth_task t i)) _))
