-- Agreement as a record, as one test, and item by item: the clauses that speak of one task, of one slot, and of one place of the sequence.
use mathlib.Core.Path.{◌≡◌, refl}
use mathlib.Core.Bool.{Bool, true, false}
use mathlib.Core.Logic.{⊎_elim}
use Prim.Native.Nat.{ℕ, suc, ◌*◌, ◌≤◌, ◌<◌}
use native.Mathlib.Omega.{arith}
use native.Mathlib.Nat.{not-suc-le-zero}
use lib.Dec.{eqb}
use lib.ListN.{length, get_or}
use borrow.Author.Tests.{leb-true, eqb-true}
use Rattle.laws.specs.Choose.{choose, ◌and◌, when, isnt}
use Rattle.laws.proofs.Choose.{and_both, both_and, or_either, when_then, then_when, isnt_false, false_isnt}
use Rattle.laws.proofs.All.{all_at, all_of}
use Rattle.rules.specs.declared.Task.{Task}
use Rattle.rules.specs.Numbers.{max_tasks, max_slots, allowed, is_binary}
use Rattle.rules.specs.Machine.{Slot, Tables, unstarted, task_of, slot_of, waits, is_live, id_of}
use Rattle.rules.specs.Agreement.{Agrees, agrees, sizes_fit, numbers_fit, answers_fit, live_named, attributes_allowed, waiters_queued, queues_wait}
use Rattle.rules.specs.Agreement.{queued_at_zero, binaries_right, others_right, maxima_right, ready_at_rest, free_slots_clear, each_live, occurs}
use Rattle.rules.specs.Agreement.{ready_sequenced, sequence_ready, is_ready_task}
use Rattle.rules.specs.Agreement.{task_in_limits, answer_fits, is_queued_once, is_at_rest, slot_in_limits, is_named_right, all_wait_on}
use Rattle.rules.specs.Agreement.{is_zero_where_queued, is_binary_right, is_other_right, is_maximum_right, is_clear}

pub agrees_true : (t : Tables) → Agrees t → agrees t ≡ true
unfolding agrees
agrees_true t a =
    both_and a.sizes (both_and a.numbers (both_and a.answers (both_and a.named (both_and a.attributed
    (both_and a.waiters
    (both_and a.queues (both_and a.at_zero (both_and a.owned (both_and a.unowned (both_and a.maxima
    (both_and a.at_rest (both_and a.clear (both_and a.sequenced a.only_ready)))))))))))))

pub true_agrees : (t : Tables) → agrees t ≡ true → Agrees t
unfolding agrees
true_agrees t e₁ =
    let e₂ = and_both _ _ e₁ in
    let e₃ = and_both _ _ e₂.1 in
    let e₄ = and_both _ _ e₃.1 in
    let e₅ = and_both _ _ e₄.1 in
    let e₆ = and_both _ _ e₅.1 in
    let e₇ = and_both _ _ e₆.1 in
    let e₈ = and_both _ _ e₇.1 in
    let e₉ = and_both _ _ e₈.1 in
    let e₁₀ = and_both _ _ e₉.1 in
    let e₁₁ = and_both _ _ e₁₀.1 in
    let e₁₂ = and_both _ _ e₁₁.1 in
    let e₁₃ = and_both _ _ e₁₂.1 in
    let e₁₄ = and_both _ _ e₁₃.1 in
    let e₁₅ = and_both _ _ e₁₄.1 in
    record {
      sizes = e₂.0;
      numbers = e₃.0;
      answers = e₄.0;
      named = e₅.0;
      attributed = e₆.0;
      waiters = e₇.0;
      queues = e₈.0;
      at_zero = e₉.0;
      owned = e₁₀.0;
      unowned = e₁₁.0;
      maxima = e₁₂.0;
      at_rest = e₁₃.0;
      clear = e₁₄.0;
      sequenced = e₁₅.0;
      only_ready = e₁₅.1;
    }

-- ---- N and S

pub record Sizes (t : Tables) : Type 0 where
  pub tasks : length t.tasks ≤ max_tasks
  pub slots : length t.slots ≤ max_slots
  -- without tasks there are no slots
  pub none : length t.slots ≤ max_slots * length t.tasks

pub sizes_within : (t : Tables) → sizes_fit t ≡ true → Sizes t
unfolding sizes_fit
sizes_within t e =
    ⊎_elim
    (λ (z : (eqb (length t.tasks) 0 and eqb (length t.slots) 0) ≡ true).
    let p = and_both _ _ z in
    let N : length t.tasks ≡ 0 = eqb-true _ _ p.0 in
    let S : length t.slots ≡ 0 = eqb-true _ _ p.1 in
    record { tasks = omega arith; slots = omega arith; none = omega arith })
    (λ z.
    let p = and_both _ _ z in
    let N = and_both _ _ p.0 in
    let least : 1 ≤ length t.tasks = leb-true _ _ N.0 in
    let most : length t.slots ≤ max_slots = leb-true _ _ (and_both _ _ p.1).1 in
    record { tasks = leb-true _ _ N.1; slots = most; none = omega arith })
    (or_either _ _ e)

-- ---- item by item

-- task q, v in the tables
pub record TaskAgrees (t : Tables) (q : ℕ) (v : Task) : Type 0 where
  pub numbers : task_in_limits v ≡ true
  pub answer : answer_fits v ≡ true
  pub waiter : waits v ≡ true → is_queued_once t q v.awaited ≡ true
  pub at_rest : waits v ≡ false → is_at_rest v ≡ true
  pub sequenced : waits v ≡ false → eqb (occurs q t.ready) 1 ≡ true

-- slot n, s in the tables, if it is live
pub record LiveAgrees (t : Tables) (n : ℕ) (s : Slot) : Type 0 where
  pub named : is_named_right s ≡ true
  pub attributed : allowed s.attributes ≡ true
  pub waiting : all_wait_on t (id_of n s) s.queue ≡ true
  pub at_zero : is_zero_where_queued s ≡ true
  pub owned : is_binary s.attributes ≡ true → is_binary_right (length t.tasks) s ≡ true
  pub unowned : is_binary s.attributes ≡ false → is_other_right s ≡ true
  pub maximum : is_maximum_right s ≡ true

pub record SlotAgrees (t : Tables) (n : ℕ) (s : Slot) : Type 0 where
  pub numbers : slot_in_limits s ≡ true
  pub when_live : is_live s ≡ true → LiveAgrees t n s
  pub when_free : is_live s ≡ false → is_clear s ≡ true

pub record ItemsAgree (t : Tables) : Type 0 where
  pub sizes : sizes_fit t ≡ true
  pub task : (i : ℕ) → i < length t.tasks → TaskAgrees t (suc i) (task_of t (suc i))
  pub slot : (j : ℕ) → j < length t.slots → SlotAgrees t (suc j) (slot_of t (suc j))
  pub place : (k : ℕ) → k < length t.ready → is_ready_task t (get_or t.ready k 0) ≡ true

module _ (t : Tables) where
  live_at : (p : ℕ → Slot → Bool) → each_live t p ≡ true
      → (j : ℕ) → j < length t.slots → is_live (slot_of t (suc j)) ≡ true → p (suc j) (slot_of t (suc j)) ≡ true
  live_at p e j h = when_then _ _ (all_at _ _ e j h)

  pub agrees_items : Agrees t → ItemsAgree t
  unfolding numbers_fit answers_fit live_named attributes_allowed waiters_queued queues_wait queued_at_zero binaries_right others_right
      maxima_right ready_at_rest free_slots_clear ready_sequenced sequence_ready
  agrees_items a =
      let numbers = and_both _ _ a.numbers in
      record {
        sizes = a.sizes;
        task = λ i h. record {
          numbers = all_at _ _ numbers.0 i h;
          answer = all_at _ _ a.answers i h;
          waiter = when_then _ _ (all_at _ _ a.waiters i h);
          at_rest = λ w. when_then _ _ (all_at _ _ a.at_rest i h) (false_isnt _ w);
          sequenced = λ w. when_then _ _ (all_at _ _ a.sequenced i h) (false_isnt _ w);
        };
        slot = λ j h. record {
          numbers = all_at _ _ numbers.1 j h;
          when_live = λ l. record {
            named = live_at (λ n s. is_named_right s) a.named j h l;
            attributed = live_at (λ n s. allowed s.attributes) a.attributed j h l;
            waiting = live_at (λ n s. all_wait_on t (id_of n s) s.queue) a.queues j h l;
            at_zero = live_at (λ n s. is_zero_where_queued s) a.at_zero j h l;
            owned = when_then _ _ (live_at (λ n s. when (is_binary s.attributes) (is_binary_right (length t.tasks) s)) a.owned j h l);
            unowned = λ b. when_then _ _ (live_at (λ n s. when (isnt (is_binary s.attributes)) (is_other_right s)) a.unowned j h l) (false_isnt _ b);
            maximum = live_at (λ n s. is_maximum_right s) a.maxima j h l;
          };
          when_free = λ l. when_then _ _ (all_at _ _ a.clear j h) (false_isnt _ l);
        };
        place = all_at _ _ a.only_ready;
      }

  pub items_agree : ItemsAgree t → Agrees t
  unfolding numbers_fit answers_fit live_named attributes_allowed waiters_queued queues_wait queued_at_zero binaries_right others_right
      maxima_right ready_at_rest free_slots_clear ready_sequenced sequence_ready
  items_agree a =
      record {
        sizes = a.sizes;
        numbers = both_and (all_of _ _ (λ i h. (a.task i h).numbers)) (all_of _ _ (λ j h. (a.slot j h).numbers));
        answers = all_of _ _ (λ i h. (a.task i h).answer);
        named = each (λ n s. is_named_right s) (λ j h l. (live j h l).named);
        attributed = each (λ n s. allowed s.attributes) (λ j h l. (live j h l).attributed);
        waiters = all_of _ _ (λ i h. then_when _ _ (a.task i h).waiter);
        queues = each (λ n s. all_wait_on t (id_of n s) s.queue) (λ j h l. (live j h l).waiting);
        at_zero = each (λ n s. is_zero_where_queued s) (λ j h l. (live j h l).at_zero);
        owned = each (λ n s. when (is_binary s.attributes) (is_binary_right (length t.tasks) s)) (λ j h l. then_when _ _ (live j h l).owned);
        unowned = each (λ n s. when (isnt (is_binary s.attributes)) (is_other_right s)) (λ j h l. then_when _ _ (λ b. (live j h l).unowned (isnt_false _ b)));
        maxima = each (λ n s. is_maximum_right s) (λ j h l. (live j h l).maximum);
        at_rest = all_of _ _ (λ i h. then_when _ _ (λ w. (a.task i h).at_rest (isnt_false _ w)));
        clear = all_of _ _ (λ j h. then_when _ _ (λ l. (a.slot j h).when_free (isnt_false _ l)));
        sequenced = all_of _ _ (λ i h. then_when _ _ (λ w. (a.task i h).sequenced (isnt_false _ w)));
        only_ready = all_of _ _ a.place;
      }
    where
      live : (j : ℕ) → j < length t.slots → is_live (slot_of t (suc j)) ≡ true → LiveAgrees t (suc j) (slot_of t (suc j))
      live j h = (a.slot j h).when_live

      each : (p : ℕ → Slot → Bool) → ((j : ℕ) → j < length t.slots → is_live (slot_of t (suc j)) ≡ true → p (suc j) (slot_of t (suc j)) ≡ true)
          → each_live t p ≡ true
      each p f = all_of _ _ (λ j h. then_when _ _ (f j h))

pub unstarted_agrees : Agrees unstarted
unfolding choose sizes_fit
unstarted_agrees =
    items_agree unstarted
    (record {
      sizes = refl;
      task = λ i h. absurd (not-suc-le-zero h);
      slot = λ j h. absurd (not-suc-le-zero h);
      place = λ k h. absurd (not-suc-le-zero h);
    })
