-- What is read from a layout: the counts, each task, each slot, the sequence of ready tasks, and the whole model.
use mathlib.Core.Path.{◌≡◌, refl, sym, ap, ap₂, ◌∙◌}
use mathlib.Core.List.{List}
use Prim.Native.Nat.{ℕ, suc, pred, ◌+◌, ◌-◌, ◌*◌, ◌≤◌, ◌<◌}
use native.Mathlib.Numerals.{sub-one}
use native.Mathlib.Omega.{arith}
use native.Mathlib.Decide.{dec_lt}
use lib.ListN.{length, get_or, take, get_or-eq_default}
use lib.Seq.{length-take-le, get_or-take}
use Rattle.laws.specs.Rows.{fit, tabulate}
use Rattle.laws.proofs.Fit.{length_fit, get_d_fit, take_fit, length_tabulate, get_d_tabulate, tabulate_is, tabulate_same, tabulate_get_d}
use Rattle.words.specs.Words.{word_at}
use Rattle.words.proofs.WordsInBytes.{Bytes, Words, words_within, words_below, length_bytes_of, word_at_bytes_of, word_at_below, word_at_cut}
use Rattle.rules.specs.declared.Task.{Task}
use Rattle.rules.specs.Machine.{Slot, Tables, no_task, free_slot, task_of}
use Rattle.rules.specs.Semaphore.{requeued}
use Rattle.semaphore.specs.declared.Semaphore.{Semaphore}
use Rattle.semaphore.specs.Record.{slot_from, record_of, Padded}
use Rattle.tables.specs.Codec.{task_row, task_from, record_row, record_from, slot_row}
use Rattle.tables.specs.Layout.{row_at}
use Rattle.tables.specs.Layout.{tables_length, task_place, slot_place, ready_place, sequence_place, layout, laid, task_at, record_at, sequence_at}
use Rattle.tables.specs.Layout.{model_of}
use Rattle.tables.specs.Sizes.{Limited, Holds}
use Rattle.tables.proofs.LayoutWords.{length_slot_row, length_layout, task_word, slot_word, ready_word, sequence_word}

pub length_laid : (t : Tables) → length (laid t) ≡ tables_length
unfolding laid
length_laid t = length_bytes_of (layout t) ∙ ap (λ (n : ℕ). 4 * n) (length_layout t)

-- where the layout is in bytes, its words are below 2 ^ 32
pub laid_words : (t : Tables) → Bytes (laid t) → Words (layout t)
unfolding laid
laid_words t b = words_below (layout t) b

pub limited_holds : (t : Tables) → Limited t → Bytes (laid t) → Holds t
limited_holds t h b = record { limited = h; words = laid_words t b }

-- ---- rows that are read from any bytes

-- a row is that of the record that is read from it
task_row_lem : (bs : List ℕ) (i : ℕ) → task_row (task_at bs i) ≡ row_at bs (task_place i) 4
unfolding task_at tabulate
task_row_lem bs i = refl

slot_row_lem : (bs : List ℕ) (i : ℕ) → record_row (record_at bs i) ≡ row_at bs (slot_place i) 41
unfolding record_at tabulate
slot_row_lem bs i = refl

-- the queue stands behind the eight words of the head
pub queue_word : (s : Semaphore) (k : ℕ) → get_or (record_row s) (9 + k) 0 ≡ get_or s.queue k 0
queue_word s k =
    let e : 9 + k ≡ suc (suc (suc (suc (suc (suc (suc (suc (suc k)))))))) = omega arith in
    ap (λ (n : ℕ). get_or (record_row s) n 0) e

module _ (bs : List ℕ) (i : ℕ) where
  -- word k of a row stands k words behind its place
  pub task_word_at : (k : ℕ) → k < 4 → word_at bs (task_place i + k) ≡ get_or (task_row (task_at bs i)) k 0
  task_word_at k l = sym (ap (λ (r : List ℕ). get_or r k 0) (task_row_lem bs i) ∙ get_d_tabulate 4 (λ j. word_at bs (task_place i + j)) k 0 l)

  pub slot_word_at : (k : ℕ) → k < 41 → word_at bs (slot_place i + k) ≡ get_or (record_row (record_at bs i)) k 0
  slot_word_at k l = sym (ap (λ (r : List ℕ). get_or r k 0) (slot_row_lem bs i) ∙ get_d_tabulate 41 (λ j. word_at bs (slot_place i + j)) k 0 l)

  pub queue_word_at : (k : ℕ) → k < 32 → word_at bs (slot_place i + 9 + k) ≡ get_or (record_at bs i).queue k 0
  queue_word_at k l = ap (word_at bs) (omega arith) ∙ slot_word_at (9 + k) (omega arith) ∙ queue_word (record_at bs i) k

  pub queue_places : length (record_at bs i).queue ≡ 32
  queue_places = omega (arith, ap length (slot_row_lem bs i), length_tabulate 41 (λ j. word_at bs (slot_place i + j)))

-- a slot's record is the same in bytes that are cut behind its row
pub record_cut : (bs : List ℕ) (n i : ℕ) → 4 * slot_place (i + 1) ≤ n → record_at (take n bs) i ≡ record_at bs i
unfolding record_at
record_cut bs n i h =
    ap (λ (row : List ℕ). record_from row)
    (tabulate_same 41 (λ k. word_at (take n bs) (slot_place i + k)) (λ k. word_at bs (slot_place i + k)) (λ k l. word_at_cut bs n (slot_place i + k) (omega arith)))

-- the places of the sequence of ready tasks
module _ (bs : List ℕ) where
  pub sequence_word_at : (k : ℕ) → k < 32 → word_at bs (sequence_place k) ≡ get_or (sequence_at bs) k 0
  unfolding sequence_at
  sequence_word_at k l = sym (get_d_tabulate 32 (λ j. word_at bs (2755 + j)) k 0 l)

  pub sequence_places : length (sequence_at bs) ≡ 32
  unfolding sequence_at
  sequence_places = length_tabulate 32 (λ j. word_at bs (2755 + j))

  pub sequence_below : Bytes bs → Words (sequence_at bs)
  sequence_below b =
      words_within 32 (sequence_at bs) sequence_places (λ k l. rw (← sequence_word_at k l) (word_at_below bs b (sequence_place k)))

  -- and those that the model has of them
  pub model_ready : (model_of bs).ready ≡ take (word_at bs ready_place) (sequence_at bs)
  unfolding model_of
  model_ready = refl

  pub length_ready : word_at bs ready_place ≤ 32 → length (model_of bs).ready ≡ word_at bs ready_place
  length_ready h = ap length model_ready ∙ length-take-le (word_at bs ready_place) (sequence_at bs) (omega (arith, sequence_places))

  pub ready_read : (k : ℕ) → k < word_at bs ready_place → get_or (model_of bs).ready k 0 ≡ get_or (sequence_at bs) k 0
  ready_read k h = ap (λ (qs : List ℕ). get_or qs k 0) model_ready ∙ get_or-take (word_at bs ready_place) (sequence_at bs) k 0 h

-- `record_below bs b i 0` is that the generation of slot i is below 2 ^ 32, and so on in the order of the row
module _ (bs : List ℕ) (b : Bytes bs) (i : ℕ) where
  pub task_below : Words (task_row (task_at bs i))
  task_below = words_within 4 (task_row (task_at bs i)) refl (λ k l. rw (← task_word_at bs i k l) (word_at_below bs b (task_place i + k)))

  pub record_below : Words (record_row (record_at bs i))
  record_below =
      words_within 41 (record_row (record_at bs i)) (omega (arith, queue_places bs i))
      (λ k l. rw (← slot_word_at bs i k l) (word_at_below bs b (slot_place i + k)))

-- ---- a row reads back: a task's as `task_from (task_row v)` computes, a slot's with its queue within 32 places

module _ (s : Slot) (h : length s.queue ≤ 32) where
  pub slot_record : slot_from (record_from (slot_row s)) ≡ s
  slot_record = ap {B = Slot} (requeued s) (take_fit 32 0 s.queue h)

  pub record_padded : Padded (record_of s)
  record_padded = record { few = h; filled = ap (fit 32 0) (sym (take_fit 32 0 s.queue h)) }

-- ---- a layout whose words are of 32 bits

module _ (t : Tables) (w : Words (layout t)) where
  pub word_laid : (k : ℕ) → word_at (laid t) k ≡ get_or (layout t) k 0
  unfolding laid
  word_laid k = word_at_bytes_of (layout t) w k

  pub count_laid : word_at (laid t) 0 ≡ length t.tasks
  unfolding layout
  count_laid = word_laid 0

  row_laid : (at n : ℕ) (row : List ℕ) → length row ≡ n → ((j : ℕ) → j < n → get_or (layout t) (at + j) 0 ≡ get_or row j 0) → row_at (laid t) at n ≡ row
  row_laid at n row e h = sym (tabulate_is n (λ j. word_at (laid t) (at + j)) row 0 e (λ j l. sym (word_laid (at + j) ∙ h j l)))

  pub task_laid : (i : ℕ) → i < 32 → task_at (laid t) i ≡ get_or t.tasks i no_task
  unfolding task_at
  task_laid i l =
      ap {B = Task} task_from (row_laid (task_place i) 4 (task_row (get_or t.tasks i no_task)) refl (λ j b. task_word t i j l b))

  pub record_laid : (i : ℕ) → i < 64 → record_at (laid t) i ≡ record_of (get_or t.slots i (free_slot 0))
  unfolding record_at
  record_laid i l =
      let s : Slot = get_or t.slots i (free_slot 0) in
      ap {B = Semaphore} record_from (row_laid (slot_place i) 41 (slot_row s) (length_slot_row s) (λ j b. slot_word t i j l b))

  pub ready_laid : word_at (laid t) ready_place ≡ length t.ready
  ready_laid = word_laid ready_place ∙ ready_word t

  pub sequence_laid : sequence_at (laid t) ≡ fit 32 0 t.ready
  unfolding sequence_at
  sequence_laid =
      row_laid (sequence_place 0) 32 (fit 32 0 t.ready) (length_fit 32 0 t.ready)
      (λ k l. sequence_word t k l ∙ sym (get_d_fit 32 0 t.ready k l))

-- task q of the bytes is the one at q - 1
pub task_numbered : (m : List ℕ) (t : Tables) (q : ℕ) → Bytes m → m ≡ laid t → 1 ≤ q → q ≤ 32 → task_at m (q - 1) ≡ task_of t q
task_numbered m t q b e l h =
    let p : q - 1 ≡ pred q = sub-one q in
    rw (e, p) (task_laid t (laid_words t (rw e at b)) (pred q) (omega arith))

-- ---- tables that a layout holds

-- every queue has room, those past the last slot too
pub queue_few : (t : Tables) → Limited t → (i : ℕ) → length (get_or t.slots i (free_slot 0)).queue ≤ 32
queue_few t h i = elim (dec_lt i (length t.slots)) [ yes l ↦ h.queues i l | no d ↦ past (omega arith) ]
  where
    past : length t.slots ≤ i → length (get_or t.slots i (free_slot 0)).queue ≤ 32
    past l = rw (get_or-eq_default t.slots (free_slot 0) l) (omega arith)

module _ (t : Tables) (h : Holds t) where
  pub laid_tasks : word_at (laid t) 0 ≡ length t.tasks
  laid_tasks = count_laid t h.words

  pub laid_slots : word_at (laid t) 1 ≡ length t.slots
  unfolding layout
  laid_slots = word_laid t h.words 1

  pub laid_ready : word_at (laid t) ready_place ≡ length t.ready
  laid_ready = ready_laid t h.words

  module _ (i : ℕ) where
    pub slot_at_laid : i < 64 → slot_from (record_at (laid t) i) ≡ get_or t.slots i (free_slot 0)
    slot_at_laid l =
        ap {B = Slot} slot_from (record_laid t h.words i l) ∙ slot_record (get_or t.slots i (free_slot 0)) (queue_few t h.limited i)

    pub padded_laid : i < 64 → Padded (record_at (laid t) i)
    padded_laid l = rw (record_laid t h.words i l) (record_padded (get_or t.slots i (free_slot 0)) (queue_few t h.limited i))

  -- the model reads back
  pub model_of_laid : model_of (laid t) ≡ t
  unfolding model_of
  model_of_laid = λ k. record { tasks = tasks k; slots = slots k; ready = ready k }
    where
      tasks : tabulate (word_at (laid t) 0) (task_at (laid t)) ≡ t.tasks
      tasks =
          ap (λ (n : ℕ). tabulate n (task_at (laid t))) laid_tasks
          ∙ tabulate_same (length t.tasks) (task_at (laid t)) (λ i. get_or t.tasks i no_task)
          (λ i l. task_laid t h.words i (omega (arith, h.limited.tasks)))
          ∙ tabulate_get_d t.tasks no_task

      slots : tabulate (word_at (laid t) 1) (λ i. slot_from (record_at (laid t) i)) ≡ t.slots
      slots =
          ap (λ (n : ℕ). tabulate n (λ i. slot_from (record_at (laid t) i))) laid_slots
          ∙ tabulate_same (length t.slots) (λ i. slot_from (record_at (laid t) i)) (λ i. get_or t.slots i (free_slot 0))
          (λ i l. slot_at_laid i (omega (arith, h.limited.slots)))
          ∙ tabulate_get_d t.slots (free_slot 0)

      ready : take (word_at (laid t) ready_place) (sequence_at (laid t)) ≡ t.ready
      ready =
          ap₂ (λ (n : ℕ) (qs : List ℕ). take n qs) laid_ready (sequence_laid t h.words) ∙ take_fit 32 0 t.ready h.limited.ready
