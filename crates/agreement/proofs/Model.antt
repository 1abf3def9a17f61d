-- What the code reads of lent bytes is what their model has.
use mathlib.Core.Path.{◌≡◌, ap, sym, subst, ◌∙◌}
use mathlib.Core.Bool.{Bool}
use mathlib.Core.List.{List}
use Prim.Native.Nat.{ℕ, suc, pred, ◌-◌, ◌≤◌, ◌<◌}
use native.Mathlib.Omega.{arith}
use lib.ListN.{length, get_or, take}
use lib.Seq.{length-take-le, get_or-take}
use Rattle.words.specs.Words.{word_at}
use Rattle.rules.specs.declared.Task.{Task}
use Rattle.rules.specs.Machine.{Slot, task_of, slot_of}
use Rattle.tables.specs.declared.Head.{Head}
use Rattle.tables.specs.Layout.{task_at, head_of, slot_with, record_at, model_of}
use Rattle.tables.specs.Sizes.{Bounded}
use Rattle.tables.proofs.LayoutRead.{queue_places}
use Rattle.lookup.proofs.Model.{task_read, slot_read}
use Rattle.agreement.specs.Tests.{QueueTested, SlotTested}

-- the waiters of slot i, counted from 0
abbrev pub queue_in : List ℕ → ℕ → List ℕ
queue_in bs i = take (record_at bs i).waiters (record_at bs i).queue

module _ (bs : List ℕ) (b : Bounded bs) (i : ℕ) (h : i < word_at bs 1) where
  pub queue_length : length (queue_in bs i) ≡ (record_at bs i).waiters
  queue_length = length-take-le (record_at bs i).waiters (record_at bs i).queue (omega (arith, queue_places bs i, b.queues i h))

  pub slot_with_lem : (s : Head) → s ≡ head_of (record_at bs i) → slot_of (model_of bs) (suc i) ≡ slot_with s (queue_in bs i)
  slot_with_lem s e = slot_read bs i h ∙ ap (λ (s : Head). slot_with s (queue_in bs i)) (sym e)

  -- what a head says of its slot, and what stands at a place of its queue
  module _ (s : Head) (e : s ≡ head_of (record_at bs i)) where
    pub owner_read : s.owner ≡ (slot_of (model_of bs) (suc i)).owner
    owner_read = sym (ap (λ (z : Slot). z.owner) (slot_with_lem s e))

    pub head_length : length (queue_in bs i) ≡ s.waiters
    head_length = queue_length ∙ sym (ap (λ (s : Head). s.waiters) e)

    pub waiters_read : s.waiters ≡ length (slot_of (model_of bs) (suc i)).queue
    waiters_read = ap (λ (s : Head). s.waiters) e ∙ sym queue_length ∙ sym (ap (λ (z : Slot). length z.queue) (slot_with_lem s e))

    pub entry_read : {k q : ℕ} → k < s.waiters → q ≡ get_or (record_at bs i).queue k 0 → q ≡ get_or (slot_of (model_of bs) (suc i)).queue k 0
    entry_read {k} l r =
        let same : s.waiters ≡ (record_at bs i).waiters = ap (λ (s : Head). s.waiters) e in
        let within : k < (record_at bs i).waiters = omega arith in
        r ∙ sym (get_or-take (record_at bs i).waiters (record_at bs i).queue k 0 within)
        ∙ sym (ap (λ (z : Slot). get_or z.queue k 0) (slot_with_lem s e))

  -- what is told of the head and the waiters is told of the slot, and back
  module _ (s : Head) (e : s ≡ head_of (record_at bs i)) (first : List Bool) (r : Bool) (seen : List Bool) where
    pub queue_told : (id : ℕ) → QueueTested (model_of bs) first id (slot_with s (queue_in bs i)) r seen
        → QueueTested (model_of bs) first id (slot_of (model_of bs) (suc i)) r seen
    queue_told id = subst (λ (z : Slot). QueueTested (model_of bs) first id z r seen) (sym (slot_with_lem s e))

    pub told_queue : (id : ℕ) → QueueTested (model_of bs) first id (slot_of (model_of bs) (suc i)) r seen
        → QueueTested (model_of bs) first id (slot_with s (queue_in bs i)) r seen
    told_queue id = subst (λ (z : Slot). QueueTested (model_of bs) first id z r seen) (slot_with_lem s e)

    pub slot_told : SlotTested (model_of bs) first (suc i) (slot_with s (queue_in bs i)) r seen
        → SlotTested (model_of bs) first (suc i) (slot_of (model_of bs) (suc i)) r seen
    slot_told = subst (λ (z : Slot). SlotTested (model_of bs) first (suc i) z r seen) (sym (slot_with_lem s e))

pub task_of_lem : (bs : List ℕ) (q i : ℕ) (v : Task) → 1 ≤ q → q ≤ word_at bs 0 → i ≡ q - 1 → v ≡ task_at bs i → v ≡ task_of (model_of bs) q
task_of_lem bs q i v low high e r = let at : i ≡ pred q = omega arith in r ∙ ap (task_at bs) at ∙ sym (task_read bs (pred q) (omega arith))
