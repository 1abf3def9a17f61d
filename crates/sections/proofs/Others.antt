-- What a call does to a task that is not its caller: its wait goes on or ends, and it keeps and gains semaphores only by its wait.
use mathlib.Core.Path.{◌≡◌, refl, sym, subst, ap, ◌∙◌}
use mathlib.Core.Bool.{true, false}
use mathlib.Core.List.{List}
use mathlib.Core.Logic.{◌⊎◌, inl, inr, ◌≢◌}
use Prim.Native.Nat.{ℕ, suc, ◌≤◌, ◌<◌}
use lib.Dec.{leb, eqb}
use lib.ListN.{length, get_or, set}
use borrow.Author.Tests.{leb-true, eqb-true}
use Rattle.laws.proofs.Choose.{choose_cases, and_both}
use Rattle.rules.specs.declared.Call.{Call}
use Rattle.rules.specs.declared.Call.TheVariants.{Start, Create, Ident, Delete, Obtain, Release, Flush, Tick}
use Rattle.rules.specs.declared.Task.{Task}
use Rattle.rules.specs.Numbers.{is_binary}
use Rattle.rules.specs.Machine.{Slot, Tables, free_slot, slot_of, put_slot, waits, is_live, id_of, slot_named, urgency}
use Rattle.rules.specs.Agreement.{occurs}
use Rattle.rules.specs.Semaphore.{serving_order}
use Rattle.rules.specs.Calls.{Outcome, refused, unless, readied, wake_all, give_of}
use Rattle.rules.proofs.Invariants.Lists.{set_updated, updated_cases}
use Rattle.rules.proofs.Serving.{serving_occurs}
use Rattle.rules.proofs.Invariants.Facts.{nth_task, nth_slot, waits_on, Facts, waits_within, live_within}
use Rattle.rules.proofs.Invariants.Links.{SameWait, waits_there}
use Rattle.rules.proofs.Invariants.Waking.{woken_of, wake_all_task, wake_all_slots, wake_all_length}
use Rattle.rules.proofs.Invariants.PartsKept.{below}

-- q owns the second as it owned the first
pub record SameHold (q : ℕ) (s s' : Slot) : Type 0 where
  pub live : is_live s' ≡ true
  pub generation : s'.generation ≡ s.generation
  pub owner : s'.owner ≡ q
  pub nest : s'.nest ≡ s.nest

-- one slot before and after, as q sees it; H says that q has been handed its semaphore
pub record Watched (q : ℕ) (H : Type 0) (s s' : Slot) : Type 0 where
  pub attributes : is_live s ≡ true → is_live s' ≡ true → s'.generation ≡ s.generation → s'.attributes ≡ s.attributes
  pub keeps : is_live s ≡ true → is_binary s.attributes ≡ true → s.owner ≡ q → SameHold q s s'
  pub gains : is_live s ≡ true → is_binary s.attributes ≡ true → is_live s' ≡ true → s'.owner ≡ q → (s.owner ≡ q) ⊎ H

pub watched_same : {q : ℕ} {H : Type 0} (s s' : Slot) → s'.live ≡ s.live → s'.generation ≡ s.generation → s'.attributes ≡ s.attributes
    → s'.owner ≡ s.owner → s'.nest ≡ s.nest
    → Watched q H s s'
watched_same s s' l g a o n =
    record {
      attributes = λ e f h. a;
      keeps = λ e b h. record { live = subst (λ (x : ℕ). eqb x 1 ≡ true) (sym l) e; generation = g; owner = o ∙ h; nest = n };
      gains = λ e b f h. inl (sym o ∙ h);
    }

-- the task that a release hands its semaphore to, or 0
abbrev pub handed_to : Tables → Call → ℕ
handed_to t (Start slots) = 0
handed_to t (Create caller name count attributes maximum) = 0
handed_to t (Ident name) = 0
handed_to t (Delete caller id) = 0
handed_to t (Obtain caller id wait) = 0
handed_to t (Release caller id) = (give_of t (slot_of t (slot_named t id)) caller).woken
handed_to t (Flush caller id) = 0
handed_to t Tick = 0

-- the semaphore that the task waited on is its own
pub record Got (t t' : Tables) (i to : ℕ) : Type 0 where
  pub place : ℕ
  pub live : is_live (nth_slot t place) ≡ true
  pub is : (nth_task t i).awaited ≡ id_of (suc place) (nth_slot t place)
  pub live' : is_live (nth_slot t' place) ≡ true
  pub generation : (nth_slot t' place).generation ≡ (nth_slot t place).generation
  pub owned : is_binary (nth_slot t place).attributes ≡ true → ((nth_slot t' place).owner ≡ suc i) × ((nth_slot t' place).nest ≡ 1)
  pub only : to ≡ suc i

-- its wait has ended
pub record Woken (t t' : Tables) (i to : ℕ) : Type 0 where
  pub waited : waits (nth_task t i) ≡ true
  pub ready : waits (nth_task t' i) ≡ false
  pub got : (nth_task t' i).answer ≡ 0 → Got t t' i to

abbrev pub Handed : Tables → Tables → ℕ → ℕ → Type 0
Handed t t' i j = (waits_on (nth_task t i) (id_of (suc j) (nth_slot t j)) ≡ true) × ((nth_task t' i).answer ≡ 0)

-- task suc i, who did not make the call
pub record Observed (t t' : Tables) (i to : ℕ) : Type 0 where
  pub size : length t'.tasks ≡ length t.tasks
  pub task : SameWait (nth_task t i) (nth_task t' i) ⊎ Woken t t' i to
  pub slots : (j : ℕ) → Watched (suc i) (Handed t t' i j) (nth_slot t j) (nth_slot t' j)

pub same_wait : {v v' : Task} → v' ≡ v → SameWait v v'
same_wait e = record { answer = ap (λ (z : Task). z.answer) e; awaited = ap (λ (z : Task). z.awaited) e }

module _ (t : Tables) (i to : ℕ) where
  pub observed_same : Observed t t i to
  observed_same = record { size = refl; task = inl (same_wait refl); slots = λ j. watched_same _ _ refl refl refl refl refl }

  -- a refusal changes nothing
  pub observed_unless : (refusal : ℕ) (o : Outcome) → (refusal ≡ 0 → Observed t o.tables i to) → Observed t (unless refusal t o).tables i to
  observed_unless refusal o f =
      choose_cases (λ (z : Outcome). Observed t z.tables i to) (eqb refusal 0) o (refused t refusal)
      (λ e. f (eqb-true refusal 0 e)) (λ e. observed_same)

-- one slot is another, the rest as they were
pub put_watched : (t t' : Tables) (i j : ℕ) (s : Slot) → j < length t.slots → t'.slots ≡ set t.slots j s
    → Watched (suc i) (Handed t t' i j) (nth_slot t j) s
    → (k : ℕ) → Watched (suc i) (Handed t t' i k) (nth_slot t k) (nth_slot t' k)
put_watched t t' i j s h e w k =
    subst (λ (ss : List Slot). Watched (suc i) (Handed t t' i k) (nth_slot t k) (get_or ss k (free_slot 0))) (sym e)
    (updated_cases (λ k z. Watched (suc i) (Handed t t' i k) (nth_slot t k) z) (set_updated t.slots j s (free_slot 0) h) k w
    (λ n. watched_same _ _ refl refl refl refl refl))

-- everybody in a queue is woken with an answer other than 0
pub observed_emptied : (t : Tables) (f : Facts t) (j : ℕ) (s : Slot) (a i to : ℕ) → is_live (nth_slot t j) ≡ true → waits (readied (nth_task t i) a) ≡ false
    → a ≢ 0
    → ((H : Type 0) → Watched (suc i) H (nth_slot t j) s) → Observed t (wake_all (put_slot t (suc j) s) (serving_order (urgency t) (nth_slot t j)) a) i to
observed_emptied t f j s a i to l ready d w =
    record {
      size = wake_all_length queue (put_slot t (suc j) s) a;
      task = one after;
      slots = put_watched t t' i j s (live_within t j l) (wake_all_slots queue (put_slot t (suc j) s) a) (w _);
    }
  where
    queue : List ℕ
    queue = serving_order (urgency t) (nth_slot t j)

    -- the order in which they are woken holds the same tasks
    same : (q : ℕ) → occurs q queue ≡ occurs q (nth_slot t j).queue
    same = serving_occurs (urgency t) (nth_slot t j)

    t' : Tables
    t' = wake_all (put_slot t (suc j) s) queue a

    waiter : (k : ℕ) → 1 ≤ occurs (suc k) queue → waits_on (nth_task t k) (id_of (suc j) (nth_slot t j)) ≡ true
    waiter k h = waits_there (nth_task t) (nth_slot t) (below t f) f.linked k j l (subst (λ (n : ℕ). 1 ≤ n) (same (suc k)) h)

    after : nth_task t' i ≡ woken_of queue a i (nth_task t i)
    after = wake_all_task queue (put_slot t (suc j) s) a i (same 0 ∙ ((f.slots j).when_live l).entries) (λ k h. waits_within t k (and_both _ _ (waiter k h)).0)

    one : nth_task t' i ≡ woken_of queue a i (nth_task t i) → SameWait (nth_task t i) (nth_task t' i) ⊎ Woken t t' i to
    one =
        choose_cases (λ (v : Task). nth_task t' i ≡ v → SameWait (nth_task t i) (nth_task t' i) ⊎ Woken t t' i to) (leb 1 (occurs (suc i) queue)) _ _
        (λ e h. inr (record {
          waited = (and_both _ _ (waiter i (leb-true _ _ e))).0;
          ready = subst (λ (v : Task). waits v ≡ false) (sym h) ready;
          got = λ z. absurd (d (sym (ap (λ (v : Task). v.answer) h) ∙ z));
        }))
        (λ e h. inl (same_wait h))
