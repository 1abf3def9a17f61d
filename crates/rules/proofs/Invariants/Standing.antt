-- Each task stands once, in a queue or in the sequence of ready tasks: so many are the N.
use mathlib.Core.Path.{◌≡◌, sym, ◌∙◌}
use mathlib.Core.Bool.{true, false}
use mathlib.Core.List.{List, [], ◌∷◌, ◌++◌, map}
use mathlib.Core.Logic.{⊎_elim, ◌≢◌}
use Prim.Native.Nat.{ℕ, zero, suc, ◌+◌, ◌<◌}
use native.Mathlib.Omega.{arith}
use lib.ListN.{length, get_or, length-append, get_or-map}
use borrow.Author.Tests.{eq-eqb}
use Rattle.laws.specs.Rows.{rows}
use Rattle.laws.proofs.Choose.{tested, both_and}
use Rattle.rules.specs.Machine.{Slot, Tables, free_slot, waits, is_live}
use Rattle.rules.specs.Agreement.{Agrees, occurs}
use Rattle.rules.proofs.Invariants.Lists.{bit_yes, occurs_none, occurs_append, occurs_empty}
use Rattle.rules.proofs.Invariants.Facts.{nth_task, nth_slot, Facts}
use Rattle.rules.proofs.Invariants.FromTests.{agrees_facts}
use Rattle.rules.proofs.Invariants.Links.{nowhere, elsewhere}
use Rattle.rules.proofs.Invariants.PartsKept.{below, waits_outside, ready_yes}
use Rattle.rules.proofs.Invariants.Room.{counts, counts_none, counts_all, counts_each, counts_append, entry_within, ready_entry}

-- ---- lists end to end

-- in none of them
occurs_no_row : (q : ℕ) (rs : List (List ℕ)) → ((j : ℕ) → occurs q (get_or rs j []) ≡ 0) → occurs q (rows rs) ≡ 0
unfolding rows
occurs_no_row q [] none = occurs_none q
occurs_no_row q (r ∷ rs) none = omega (arith, occurs_append q r (rows rs), none 0, occurs_no_row q rs (λ j. none (suc j)))

-- once in one of them, in no other
occurs_one_row : (q p : ℕ) (rs : List (List ℕ)) → occurs q (get_or rs p []) ≡ 1 → ((j : ℕ) → j ≢ p → occurs q (get_or rs j []) ≡ 0) → occurs q (rows rs) ≡ 1
unfolding rows
occurs_one_row q p [] one none = absurd (omega (arith, occurs_none q))
occurs_one_row q zero (r ∷ rs) one none =
    omega (arith, occurs_append q r (rows rs), occurs_no_row q rs (λ j. none (suc j) (λ e. omega arith)))
occurs_one_row q (suc p) (r ∷ rs) one none =
    omega (
      arith,
      occurs_append q r (rows rs),
      none 0 (λ e. omega arith),
      occurs_one_row q p rs one (λ j n. none (suc j) (λ e. n (omega arith))),
    )

-- all entries of each are of 1..n
counts_rows : (n : ℕ) (rs : List (List ℕ)) → ((j : ℕ) → counts n (get_or rs j []) ≡ length (get_or rs j [])) → counts n (rows rs) ≡ length (rows rs)
unfolding rows
counts_rows n [] each = counts_none n
counts_rows n (r ∷ rs) each =
    omega (arith, counts_append n r (rows rs), length-append r (rows rs), each 0, counts_rows n rs (λ j. each (suc j)))

-- ---- the queues and the sequence

abbrev queues_of : Tables → List (List ℕ)
queues_of t = map (λ s. s.queue) t.slots

module _ (t : Tables) (f : Facts t) where
  queue_at : (j : ℕ) → get_or (queues_of t) j [] ≡ (nth_slot t j).queue
  queue_at j = get_or-map (λ (s : Slot). s.queue) t.slots j (free_slot 0)

  -- a free slot has no queue
  free_empty : (j : ℕ) → is_live (nth_slot t j) ≡ false → length (nth_slot t j).queue ≡ 0
  free_empty j e = ((f.slots j).when_free e).queue

  queue_counts : (j : ℕ) → counts (length t.tasks) (nth_slot t j).queue ≡ length (nth_slot t j).queue
  queue_counts j =
      counts_all (length t.tasks) (nth_slot t j).queue
      (⊎_elim (λ (l : is_live (nth_slot t j) ≡ true). entry_within t f j l)
      (λ (e : is_live (nth_slot t j) ≡ false). λ k h. absurd (omega (arith, free_empty j e))) (tested (is_live (nth_slot t j))))

  module _ (i : ℕ) where
    -- in the queue of a free slot never
    queue_without : (j : ℕ) → (is_live (nth_slot t j) ≡ true → occurs (suc i) (nth_slot t j).queue ≡ 0) → occurs (suc i) (get_or (queues_of t) j []) ≡ 0
    queue_without j none =
        rw (queue_at j)
        (⊎_elim none (λ (e : is_live (nth_slot t j) ≡ false). occurs_empty (suc i) (nth_slot t j).queue (free_empty j e)) (tested (is_live (nth_slot t j))))

    queued_once : waits (nth_task t i) ≡ true → occurs (suc i) (rows (queues_of t)) ≡ 1
    queued_once w =
        let n = f.linked.named i w in
        let there : occurs (suc i) (nth_slot t n.place).queue ≡ 1 =
        f.linked.counted i n.place n.live ∙ bit_yes _ (both_and w (eq-eqb _ _ n.is)) in
        occurs_one_row (suc i) n.place (queues_of t) (rw (queue_at n.place) there)
        (λ j d.
        queue_without j
        (λ l. elsewhere (nth_task t) (nth_slot t) (below t f) f.linked i n.place j n.live l (λ e. d (sym e)) (omega arith)))

    queued_never : waits (nth_task t i) ≡ false → occurs (suc i) (rows (queues_of t)) ≡ 0
    queued_never w = occurs_no_row (suc i) (queues_of t) (λ j. queue_without j (nowhere (nth_task t) (nth_slot t) (below t f) f.linked i j w))

    stands_once : i < length t.tasks → occurs (suc i) (rows (queues_of t) ++ t.ready) ≡ 1
    stands_once h =
        ⊎_elim
        (λ (w : waits (nth_task t i) ≡ true). omega (arith, occurs_append (suc i) (rows (queues_of t)) t.ready, queued_once w, waits_outside t f i w))
        (λ (w : waits (nth_task t i) ≡ false).
        omega (
          arith,
          occurs_append (suc i) (rows (queues_of t)) t.ready,
          queued_never w,
          f.ready (suc i),
          bit_yes _ (ready_yes t i h w),
        ))
        (tested (waits (nth_task t i)))

  all_stand : length (rows (queues_of t)) + length t.ready ≡ length t.tasks
  all_stand =
      let N = length t.tasks in
      omega (
        arith,
        counts_rows N (queues_of t) (λ j. rw (queue_at j) (queue_counts j)),
        counts_all N t.ready (ready_entry t f),
        counts_append N (rows (queues_of t)) t.ready,
        counts_each N (rows (queues_of t) ++ t.ready) stands_once,
      )

pub standing : (t : Tables) → Agrees t → length (rows (map (λ s. s.queue) t.slots)) + length t.ready ≡ length t.tasks
standing t a = all_stand t (agrees_facts t a)
