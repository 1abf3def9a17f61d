-- A tick through all slots, one after another, and the whole tick.
use mathlib.Core.Path.{◌≡◌, sym, ap, ap₂, ◌∙◌}
use mathlib.Core.Bool.{Bool, false}
use mathlib.Core.List.{List, [], ◌++◌, map}
use Prim.Native.Nat.{ℕ, suc, pred, ◌+◌, ◌≤◌, ◌<◌}
use native.Mathlib.Numerals.{add-one}
use native.Mathlib.Decide.{dec_lt}
use native.Mathlib.Omega.{arith}
use lib.ListN.{length, get_or, get_or-eq_default}
use Rattle.laws.specs.Choose.{choose}
use Rattle.laws.specs.Rows.{fit}
use Rattle.laws.proofs.Fit.{length_fit, get_d_fit}
use Rattle.words.specs.Words.{word_at}
use Rattle.words.proofs.WordsInBytes.{Bytes}
use Rattle.rules.specs.declared.Task.{Task}
use Rattle.rules.specs.Machine.{Slot, Tables, with_tasks, with_slots, with_ready, no_task, free_slot, task_of, slot_of, put_slot}
use Rattle.rules.specs.Semaphore.{requeued}
use Rattle.rules.specs.Calls.{expires, ticked, ticked_slot, timed_out, ticked_tables}
use Rattle.semaphore.specs.declared.Semaphore.{Semaphore}
use Rattle.semaphore.specs.Record.{record_of, Padded, TasksOnly, slot_keeping}
use Rattle.semaphore.proofs.Queue.{length_keep, keep_waiting}
use Rattle.tables.specs.Layout.{tables_length, laid, record_at}
use Rattle.tables.proofs.LayoutRead.{laid_words, limited_holds, record_padded, count_laid, record_laid, laid_slots, length_laid}
use Rattle.tables.specs.Sizes.{Limited}
use Rattle.changes.specs.Tick.{waiters_in, TaskQueues, expiring, flagged}
use Rattle.laws.proofs.Mapped.{mapped, length_mapped, mapped_at, mapped_next, mapped_all, mapped_keeps}
use Rattle.changes.proofs.Ticks.{flag_of, slot_ticked}
use Rattle.changes.proofs.Joining.{expiring_timed_out}

-- with the first i slots gone through
abbrev pub kept_up_to : List Bool → Tables → ℕ → Tables
kept_up_to expired t i = with_slots t (mapped (λ s. slot_keeping s expired) i t.slots)

abbrev pub KeptUpTo : List ℕ → List Bool → List ℕ → ℕ → Type 0
KeptUpTo m₀ expired m i = (t : Tables) → m₀ ≡ laid t → Limited t → m ≡ laid (kept_up_to expired t i)

module _ (expired : List Bool) where
  -- a queue gets no longer
  limited_kept : (t : Tables) (i : ℕ) → Limited t → Limited (kept_up_to expired t i)
  limited_kept t i h =
      let n : length (kept_up_to expired t i).slots ≡ length t.slots = length_mapped (λ s. slot_keeping s expired) i t.slots in
      record {
        tasks = h.tasks;
        slots = omega (arith, h.slots);
        ready = h.ready;
        queues =
            λ j l.
            mapped_keeps (λ s. slot_keeping s expired) (λ s. length s.queue ≤ 32) (λ s k. omega (arith, length_keep expired s.queue)) i t.slots j
            (free_slot 0)
            (h.queues j (omega arith));
      }

  module _ (m₀ : List ℕ) (b₀ : Bytes m₀) where
    slots_counted : (t : Tables) → m₀ ≡ laid t → Limited t → word_at m₀ 1 ≡ length t.slots
    slots_counted t e h = ap (λ (x : List ℕ). word_at x 1) e ∙ laid_slots t (limited_holds t h (rw e at b₀))

    pub kept_more : (m m' : List ℕ) (i : ℕ) → i < word_at m₀ 1 → KeptUpTo m₀ expired m i
        → ((t : Tables) → m ≡ laid t → Limited t → i < length t.slots → m' ≡ laid (slot_ticked t i expired))
        → KeptUpTo m₀ expired m' (i + 1)
    kept_more m m' i l s w t e h =
        let f : Slot → Slot = λ s. slot_keeping s expired in
        let n : i < length t.slots = omega (arith, slots_counted t e h) in
        w (kept_up_to expired t i) (s t e h) (limited_kept t i h) (omega (arith, length_mapped f i t.slots))
        ∙ ap (λ (x : Slot). laid (put_slot (kept_up_to expired t i) (suc i) (f x))) (mapped_at f i t.slots (free_slot 0))
        ∙ ap (λ (x : List Slot). laid (with_slots t x)) (mapped_next f i t.slots (free_slot 0) n)
        ∙ ap (λ (k : ℕ). laid (kept_up_to expired t k)) (sym (add-one i))

    pub kept_all : (m : List ℕ) (i : ℕ) → i ≡ word_at m₀ 1 → KeptUpTo m₀ expired m i
        → (t : Tables) → m₀ ≡ laid t → Limited t → m ≡ laid (with_slots t (map (λ s. slot_keeping s expired) t.slots))
    kept_all m i p s t e h =
        s t e h
        ∙ ap (λ (k : ℕ). laid (kept_up_to expired t k)) (p ∙ slots_counted t e h)
        ∙ ap (λ (x : List Slot). laid (with_slots t x)) (mapped_all (λ s. slot_keeping s expired) t.slots)

-- ---- what makes each turn safe

filled_tasks : (q : List ℕ) → length q ≤ 32 → TasksOnly (length q) q → TasksOnly (length q) (fit 32 0 q)
filled_tasks q h n =
    record {
      low = λ k l. rw (get_d_fit 32 0 q k (omega arith)) (n.low k l);
      high = λ k l. rw (get_d_fit 32 0 q k (omega arith)) (n.high k l);
    }

-- a record with task numbers for its waiters, and 0 behind them
abbrev pub Queues : Semaphore → Type 0
Queues s = Padded s × TasksOnly s.waiters s.queue

pub queues_same : {s s' : Semaphore} → s' ≡ s → Queues s → Queues s'
queues_same e q = rw e q

module _ (m₀ : List ℕ) (b₀ : Bytes m₀) (q : TaskQueues m₀) where
  pub sized : length m₀ ≡ tables_length
  sized = ap length q.same ∙ length_laid q.model

  pub few_slots : word_at m₀ 1 ≤ 64
  few_slots = omega (arith, slots_counted [] m₀ b₀ q.model q.same q.limited, q.limited.slots)

  pub record_queues : (expired : List Bool) (m : List ℕ) (i : ℕ) → Bytes m → i < word_at m₀ 1 → KeptUpTo m₀ expired m i → Queues (record_at m i)
  record_queues expired m i b l k =
      let t : Tables = q.model in
      let e : m ≡ laid (kept_up_to expired t i) = k t q.same q.limited in
      let n : i < length t.slots = omega (arith, slots_counted expired m₀ b₀ t q.same q.limited) in
      let few : length (waiters_in t i) ≤ 32 = q.limited.queues i n in
      let r : record_at m i ≡ record_of (slot_of t (suc i)) =
      ap (λ (x : List ℕ). record_at x i) e
      ∙ record_laid (kept_up_to expired t i) (laid_words (kept_up_to expired t i) (rw e at b)) i (omega (arith, q.limited.slots))
      ∙ ap {B = Semaphore} record_of (mapped_at (λ s. slot_keeping s expired) i t.slots (free_slot 0))
      in
      queues_same r (record_padded (slot_of t (suc i)) few, filled_tasks (waiters_in t i) few (q.numbers i n))

-- ---- the flags tell who still waits

module _ (t : Tables) (h : length t.tasks ≤ 32) where
  flag_told : (q : ℕ) → get_or (expiring t) (pred q) false ≡ expires (task_of t q)
  unfolding expiring choose
  flag_told q = elim (dec_lt (pred q) 32) [ yes l ↦ within l | no d ↦ past (omega arith) ]
    where
      flags : List Bool
      flags = map (λ v. expires v) t.tasks

      within : pred q < 32 → get_or (fit 32 false flags) (pred q) false ≡ expires (task_of t q)
      within l = get_d_fit 32 false flags (pred q) l ∙ flag_of t (pred q)

      past : 32 ≤ pred q → get_or (fit 32 false flags) (pred q) false ≡ expires (task_of t q)
      past l =
          get_or-eq_default (fit 32 false flags) false (omega (arith, length_fit 32 false flags))
          ∙ ap (λ (v : Task). expires v) (sym (get_or-eq_default t.tasks no_task (omega arith)))

  keeping_ticked : (s : Slot) → slot_keeping s (expiring t) ≡ ticked_slot t s
  unfolding ticked_slot
  keeping_ticked s = ap {B = Slot} (requeued s) (keep_waiting t (expiring t) s.queue (λ j l. flag_told (get_or s.queue j 0)))

  slots_ticked : map (λ s. slot_keeping s (expiring t)) t.slots ≡ map (ticked_slot t) t.slots
  slots_ticked = λ k. map (λ s. keeping_ticked s k) t.slots

-- ---- the whole tick

module _ (m₀ m₁ : List ℕ) (expired : List Bool) (flags : (t : Tables) → m₀ ≡ laid t → expired ≡ expiring t)
    (slots : (t : Tables) → m₀ ≡ laid t → Limited t → m₁ ≡ laid (with_slots t (map (λ s. slot_keeping s expired) t.slots))) where
  pub few_tasks : Bytes m₁ → TaskQueues m₀ → word_at m₁ 0 ≤ 32
  few_tasks b q =
      let t : Tables = q.model in
      let t' : Tables = with_slots t (map (λ s. slot_keeping s expired) t.slots) in
      let e : m₁ ≡ laid t' = slots t q.same q.limited in
      omega (arith, ap (λ (x : List ℕ). word_at x 0) e, count_laid t' (laid_words t' (rw e at b)), q.limited.tasks)

  pub all_ticked : (m₂ m₃ : List ℕ) → ((t : Tables) → m₁ ≡ laid t → m₂ ≡ laid (with_tasks t (map ticked t.tasks)))
      → ((t : Tables) → m₂ ≡ laid t → length t.ready + length (flagged expired 1) ≤ 32 → m₃ ≡ laid (with_ready t (t.ready ++ flagged expired 1)))
      → (t : Tables) → m₀ ≡ laid t → Limited t → length t.ready + length (timed_out t.tasks 1) ≤ 32 → m₃ ≡ laid (ticked_tables t)
  all_ticked m₂ m₃ tasks join t e h few =
      let ss : List Slot = map (λ s. slot_keeping s expired) t.slots in
      let later : List Task = map ticked t.tasks in
      let out : flagged expired 1 ≡ timed_out t.tasks 1 = ap (λ (f : List Bool). flagged f 1) (flags t e) ∙ expiring_timed_out t h.tasks in
      join (with_tasks (with_slots t ss) later) (tasks (with_slots t ss) (slots t e h)) (rw out few)
      ∙ ap₂ (λ (x : List Slot) (qs : List ℕ). laid (record { tasks = later; slots = x; ready = t.ready ++ qs }))
      (ap (λ (f : List Bool). map (λ s. slot_keeping s f) t.slots) (flags t e) ∙ slots_ticked t h.tasks) out
