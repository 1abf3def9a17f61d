-- What a tick's stores make of a layout: the flags, the slots without the tasks whose wait has ended, and then the tasks.
use mathlib.Core.Path.{◌≡◌, refl, sym, ap, ap₂, ◌∙◌}
use mathlib.Core.Bool.{Bool, false}
use mathlib.Core.List.{List, [], ◌∷◌, map}
use Prim.Native.Nat.{ℕ, suc, ◌+◌, ◌*◌, ◌<◌}
use native.Mathlib.Numerals.{add-one}
use native.Mathlib.Omega.{arith}
use lib.Dec.{leb}
use lib.ListN.{length, get_or, set, get_or-map}
use lib.Seq.{sets, set-get_or}
use Rattle.laws.specs.Choose.{choose, ◌and◌}
use Rattle.laws.proofs.Choose.{cases}
use Rattle.words.specs.Words.{bytes_of, word_at}
use Rattle.words.proofs.WordsInBytes.{Bytes}
use Rattle.rules.specs.declared.Task.{Task}
use Rattle.rules.specs.Machine.{Slot, Tables, with_tasks, with_slots, no_task, free_slot, slot_of, put_slot, waits}
use Rattle.rules.specs.Semaphore.{requeued}
use Rattle.rules.specs.Calls.{expires, ticked}
use Rattle.semaphore.specs.declared.Semaphore.{Semaphore}
use Rattle.semaphore.specs.Record.{slot_from, Stands, keep, slot_keeping}
use Rattle.tables.specs.Codec.{task_row, record_row}
use Rattle.tables.specs.Layout.{task_place, slot_place, laid, task_at, record_at}
use Rattle.tables.proofs.LayoutRead.{laid_words, limited_holds, count_laid, task_laid, record_laid, slot_at_laid}
use Rattle.tables.proofs.LayoutStore.{store_task_laid, store_slot_laid}
use Rattle.tables.specs.Sizes.{Limited}
use Rattle.changes.specs.Tick.{expiring}
use Rattle.laws.proofs.Mapped.{mapped, length_mapped, mapped_at, mapped_next, mapped_all, Filled}
use Rattle.laws.proofs.Fit.{fit_tabulate, tabulate_is}

-- what is in no timed wait stays
pub ticked_untimed : (v : Task) → (waits v and leb 1 v.ticks) ≡ false → ticked v ≡ v
unfolding ticked
ticked_untimed v e = grind (arith, cases)

-- ---- the flags

pub flag_of : (t : Tables) (j : ℕ) → get_or (map (λ v. expires v) t.tasks) j false ≡ expires (get_or t.tasks j no_task)
unfolding choose
flag_of t j = get_or-map (λ v. expires v) t.tasks j no_task

-- the flags of the first k tasks
abbrev pub FlaggedUpTo : List ℕ → List Bool → ℕ → Type 0
FlaggedUpTo m flags k = (t : Tables) → m ≡ laid t → Filled (λ j. get_or (map (λ v. expires v) t.tasks) j false) false flags k

pub flag_read : (m : List ℕ) (i : ℕ) (v : Task) (b : Bool) → Bytes m → i < 32 → v ≡ task_at m i → b ≡ expires v
    → (t : Tables) → m ≡ laid t → b ≡ get_or (map (λ v. expires v) t.tasks) i false
flag_read m i v b by l r f t e =
    f ∙ ap (λ (x : Task). expires x) (r ∙ ap (λ (x : List ℕ). task_at x i) e ∙ task_laid t (laid_words t (rw e at by)) i l) ∙ sym (flag_of t i)

pub flags_read : (m : List ℕ) (flags : List Bool) → length flags ≡ 32 → FlaggedUpTo m flags 32 → (t : Tables) → m ≡ laid t → flags ≡ expiring t
unfolding expiring
flags_read m flags h f t e =
    let bits : List Bool = map (λ v. expires v) t.tasks in
    tabulate_is 32 (λ j. get_or bits j false) flags false h (f t e) ∙ sym (fit_tabulate 32 false bits)

-- ---- the tasks

-- with the first i tasks ticked
abbrev pub ticked_up_to : Tables → ℕ → Tables
ticked_up_to t i = with_tasks t (mapped ticked i t.tasks)

abbrev pub TickedUpTo : List ℕ → List ℕ → ℕ → Type 0
TickedUpTo m₀ m i = (t : Tables) → m₀ ≡ laid t → m ≡ laid (ticked_up_to t i)

module _ (m₀ : List ℕ) (b₀ : Bytes m₀) where
  -- the task that is read at i is the one of the tables before the tick
  module _ (m : List ℕ) (i : ℕ) (v : Task) (b : Bytes m) (l : i < 32) (h : i < word_at m₀ 0) (u : v ≡ task_at m i) (s : TickedUpTo m₀ m i) where
    module _ (t : Tables) (e : m₀ ≡ laid t) where
      within : i < length t.tasks
      within = omega (arith, count_laid t (laid_words t (rw e at b₀)), ap (λ (x : List ℕ). word_at x 0) e)

      old : v ≡ get_or t.tasks i no_task
      old =
          u ∙ ap (λ (x : List ℕ). task_at x i) (s t e) ∙ task_laid (ticked_up_to t i) (laid_words (ticked_up_to t i) (rw (s t e) at b)) i l
          ∙ mapped_at ticked i t.tasks no_task

      ticked_next : laid (with_tasks t (set (mapped ticked i t.tasks) i (ticked (get_or t.tasks i no_task)))) ≡ laid (ticked_up_to t (i + 1))
      ticked_next =
          ap (λ (x : List Task). laid (with_tasks t x)) (mapped_next ticked i t.tasks no_task within)
          ∙ ap (λ (k : ℕ). laid (ticked_up_to t k)) (sym (add-one i))

    pub ticked_more : (m' : List ℕ) (r : Task) → r ≡ ticked v → m' ≡ sets m (4 * task_place i) (bytes_of (task_row r)) → TickedUpTo m₀ m' (i + 1)
    ticked_more m' r f w t e =
        let inside : i < length (ticked_up_to t i).tasks = omega (arith, within t e, length_mapped ticked i t.tasks) in
        w
        ∙ ap₂ (λ (x : List ℕ) (y : Task). sets x (4 * task_place i) (bytes_of (task_row y))) (s t e) (f ∙ ap ticked (old t e))
        ∙ store_task_laid (ticked_up_to t i) i (ticked (get_or t.tasks i no_task)) l inside
        ∙ ticked_next t e

    -- a task that is in no timed wait is left as it lies
    pub ticked_same : (waits v and leb 1 v.ticks) ≡ false → TickedUpTo m₀ m (i + 1)
    ticked_same untimed t e =
        let ts : List Task = mapped ticked i t.tasks in
        let stays : get_or ts i no_task ≡ ticked (get_or t.tasks i no_task) =
        mapped_at ticked i t.tasks no_task ∙ sym (old t e) ∙ sym (ticked_untimed v untimed) ∙ ap ticked (old t e)
        in
        s t e
        ∙ ap (λ (x : List Task). laid (with_tasks t x)) (sym (set-get_or ts i no_task) ∙ ap (set ts i) stays)
        ∙ ticked_next t e

  pub ticked_all : (m : List ℕ) (i : ℕ) → i ≡ word_at m₀ 0 → TickedUpTo m₀ m i
      → (t : Tables) → m₀ ≡ laid t → m ≡ laid (with_tasks t (map ticked t.tasks))
  ticked_all m i p s t e =
      let n : i ≡ length t.tasks = omega (arith, count_laid t (laid_words t (rw e at b₀)), ap (λ (x : List ℕ). word_at x 0) e) in
      s t e
      ∙ ap (λ (k : ℕ). laid (ticked_up_to t k)) n
      ∙ ap (λ (x : List Task). laid (with_tasks t x)) (mapped_all ticked t.tasks)

-- ---- one slot

-- the slot at i, its queue without the tasks whose wait has ended
abbrev pub slot_ticked : Tables → ℕ → List Bool → Tables
slot_ticked t i expired = put_slot t (suc i) (slot_keeping (slot_of t (suc i)) expired)

keep_nobody : (expired : List Bool) (qs : List ℕ) → length qs ≡ 0 → keep expired qs ≡ qs
unfolding keep
keep_nobody expired [] h = refl
keep_nobody expired (q ∷ qs) h = absurd (omega arith)

keeping_nobody : (expired : List Bool) (s : Slot) → length s.queue ≡ 0 → slot_keeping s expired ≡ s
keeping_nobody expired s h = ap {B = Slot} (requeued s) (keep_nobody expired s.queue h)

module _ (m : List ℕ) (i : ℕ) (expired : List Bool) (b : Bytes m) (l : i < 64) where
  -- nobody waits
  pub slot_quiet : (w : ℕ) → w ≡ (record_at m i).waiters → w ≡ 0
      → (t : Tables) → m ≡ laid t → Limited t → i < length t.slots → m ≡ laid (slot_ticked t i expired)
  slot_quiet w r z t e h n =
      let s : Slot = slot_of t (suc i) in
      let q = record_laid t (laid_words t (rw e at b)) i l in
      let none : length s.queue ≡ 0 = sym (r ∙ ap (λ (x : List ℕ). (record_at x i).waiters) e ∙ ap (λ (x : Semaphore). x.waiters) q) ∙ z in
      e
      ∙ ap (λ (x : List Slot). laid (with_slots t x)) (sym (set-get_or t.slots i (free_slot 0)))
      ∙ ap (λ (x : Slot). laid (put_slot t (suc i) x)) (sym (keeping_nobody expired s none))

  -- the shorter queue is stored
  pub slot_shortened : (m' : List ℕ) (s rest : Semaphore) → s ≡ record_at m i → Stands rest (slot_keeping (slot_from s) expired)
      → m' ≡ sets m (4 * slot_place i) (bytes_of (record_row rest))
      → (t : Tables) → m ≡ laid t → Limited t → i < length t.slots → m' ≡ laid (slot_ticked t i expired)
  slot_shortened m' s rest r k w t e h n =
      let old : slot_from s ≡ slot_of t (suc i) =
      ap {B = Slot} slot_from (r ∙ ap (λ (x : List ℕ). record_at x i) e) ∙ slot_at_laid t (limited_holds t h (rw e at b)) i l
      in
      w
      ∙ ap (λ (x : List ℕ). sets x (4 * slot_place i) (bytes_of (record_row rest))) e
      ∙ store_slot_laid t i rest l n k.padded
      ∙ ap (λ (x : Slot). laid (put_slot t (suc i) x)) (k.same ∙ ap (λ (x : Slot). slot_keeping x expired) old)
