-- What a layout holds: the tables read from a file whose shape is right; and the numbers of the file of tables that one holds are below 2 ^ 32.
use mathlib.Core.Path.{◌≡◌, refl, sym, subst, ap}
use mathlib.Core.Bool.{true}
use mathlib.Core.List.{List, [], ◌∷◌, ◌++◌, map}
use Prim.Native.Nat.{ℕ, zero, suc, ◌+◌, ◌*◌, ◌≤◌, ◌<◌}
use native.Mathlib.Omega.{arith}
use lib.Dec.{eqb}
use lib.ListN.{length, get_or, length-append, get_or-append}
use Rattle.laws.specs.Choose.{choose}
use Rattle.laws.proofs.Choose.{if_yes, if_no, choose_cases}
use Rattle.laws.specs.Rows.{fit, tabulate, rows}
use Rattle.laws.proofs.Fit.{length_tabulate, get_d_fit}
use Rattle.words.specs.Words.{word_at}
use Rattle.words.proofs.WordsInBytes.{Bytes, Words, words_within, word_at_below}
use Rattle.rules.specs.declared.Task.{Task}
use Rattle.rules.specs.Numbers.{class_maximum}
use Rattle.rules.specs.Machine.{Slot, Tables, no_task, free_slot}
use Rattle.rules.proofs.Invariants.Facts.{class_within}
use Rattle.semaphore.specs.Record.{record_of}
use Rattle.tables.specs.Codec.{task_row, task_from, slot_row}
use Rattle.tables.specs.Layout.{row_at}
use Rattle.tables.specs.Layout.{task_place, slot_place, sequence_place}
use Rattle.tables.specs.Sizes.{Holds}
use Rattle.tables.proofs.LayoutWords.{no_slot_word, task_word, slot_word, sequence_word}
use Rattle.tables.proofs.LayoutRead.{queue_word}
use Rattle.tables.proofs.LayoutHolds.{holds_rows, task_row_words, slot_row_words}
use Rattle.state.specs.declared.contents.Counts.{Counts}
use Rattle.state.specs.File.{first_edition, tasks_body, numbers_row, slots_body, queue_row, queues_body, state_numbers}
use Rattle.state.specs.Reading.{slot_numbers, counts_in, slots_start, queues_start, ready_start, tasks_from, first_maximum, slot_of_row, slots_from}
use Rattle.state.specs.Reading.{tables_in, edition_in}
use Rattle.state.specs.Shape.{most_queues, contents_for, is_headed, is_filled, counts_of}
use Rattle.state.proofs.Editions.{Told, numbers_few}
use Rattle.state.proofs.File.{from_queues, from_slots, four_bodies, file_numbers}
use Rattle.state.proofs.Shape.{headed_of, slots_each}

-- ---- how many are read

pub length_tasks_from : (bs : List ℕ) (n : ℕ) → length (tasks_from bs n) ≡ n
unfolding tasks_from
length_tasks_from bs n = length_tabulate n (λ i. task_from (row_at bs (14 + 4 * i) 4))

pub length_slots_from : (bs : List ℕ) (e n at queue : ℕ) → length (slots_from bs e n at queue) ≡ n
unfolding slots_from
length_slots_from bs e zero at queue = refl
length_slots_from bs e (suc n) at queue = ap suc (length_slots_from bs e n (at + slot_numbers e 1) (suc queue + word_at bs queue))

-- the edition tells the maximum of each slot read
slots_told : (bs : List ℕ) (e n at queue i : ℕ) → Told e (get_or (slots_from bs e n at queue) i (free_slot 0))
unfolding slots_from
slots_told bs e zero at queue i y = sym (if_no _ _ refl)
slots_told bs e (suc n) at queue zero y = if_yes _ _ y
slots_told bs e (suc n) at queue (suc i) y = slots_told bs e n (at + slot_numbers e 1) (suc queue + word_at bs queue) i y

module _ (bs : List ℕ) where
  abbrev c : Counts
  c = counts_in bs

  pub read_tasks : length (tables_in bs).tasks ≡ c.tasks
  unfolding tables_in
  read_tasks = length_tasks_from bs c.tasks

  pub read_slots : length (tables_in bs).slots ≡ c.slots
  unfolding tables_in
  read_slots = length_slots_from bs c.edition c.slots (slots_start c) (queues_start c)

  pub read_ready : length (tables_in bs).ready ≡ c.ready
  unfolding tables_in
  read_ready = length_tabulate c.ready (λ k. word_at bs (ready_start c + k))

  pub read_told : (i : ℕ) → Told (edition_in bs) (get_or (tables_in bs).slots i (free_slot 0))
  unfolding tables_in
  read_told i = slots_told bs (edition_in bs) c.slots (slots_start c) (queues_start c) i

-- ---- the tables read

tabulate_each : {A : Type 0} (P : A → Type 0) (n : ℕ) (f : ℕ → A) (d : A) → P d → ((i : ℕ) → P (f i)) → (i : ℕ) → P (get_or (tabulate n f) i d)
unfolding tabulate
tabulate_each P zero f d none one i = none
tabulate_each P (suc n) f d none one zero = one zero
tabulate_each P (suc n) f d none one (suc i) = tabulate_each P n (λ i. f (suc i)) d none (λ i. one (suc i)) i

no_task_words : Words (task_row no_task)
no_task_words = task_row_words no_task (omega arith) (omega arith) (omega arith) (omega arith)

-- all 41 numbers are 0
no_slot_words : Words (slot_row (free_slot 0))
no_slot_words j = omega (arith, no_slot_word j)

module _ (bs : List ℕ) (b : Bytes bs) where
  row_words : (at n : ℕ) → Words (row_at bs at n)
  row_words at n = tabulate_each (λ (w : ℕ). w < 4294967296) n (λ k. word_at bs (at + k)) 0 (omega arith) (λ k. word_at_below bs b (at + k))

  task_words : (at : ℕ) → Words (task_row (task_from (row_at bs at 4)))
  task_words at =
      let w = row_words at 4 in
      task_row_words (task_from (row_at bs at 4)) (w 0) (w 1) (w 2) (w 3)

  row_few : (at queue : ℕ) → word_at bs queue ≤ 32 → length (row_at bs (suc queue) (word_at bs queue)) ≤ 32
  row_few at queue few = omega (arith, length_tabulate (word_at bs queue) (λ k. word_at bs (suc queue + k)))

  maximum_word : (e live attributes given : ℕ) → given < 4294967296
      → choose (eqb e first_edition) (first_maximum live attributes) given < 4294967296
  maximum_word e live attributes given h =
      choose_cases (λ (m : ℕ). m < 4294967296) (eqb e first_edition) (first_maximum live attributes) given
      (λ y. choose_cases (λ (m : ℕ). m < 4294967296) (eqb live 1) (class_maximum attributes) 0 (λ l. omega (arith, class_within attributes)) (λ l. omega arith))
      (λ n. h)

  slot_words : (e at queue : ℕ) → word_at bs queue ≤ 32
      → Words (slot_row (slot_of_row e (row_at bs at (slot_numbers e 1)) (row_at bs (suc queue) (word_at bs queue))))
  slot_words e at queue few =
      let w = row_words at (slot_numbers e 1) in
      let ws : List ℕ = row_at bs at (slot_numbers e 1) in
      slot_row_words (slot_of_row e ws (row_at bs (suc queue) (word_at bs queue))) (w 0) (w 1) (w 2) (w 3) (w 4) (w 5) (w 6)
      (maximum_word e (get_or ws 1 0) (get_or ws 3 0) (get_or ws 7 0) (w 7)) (row_few at queue few) (row_words (suc queue) (word_at bs queue))

  module _ (e : is_headed bs ≡ true) (f : is_filled bs ≡ true) where
    read_each : (P : Slot → Type 0) → P (free_slot 0)
        → ((at queue : ℕ) → word_at bs queue ≤ 32
        → P (slot_of_row (edition_in bs) (row_at bs at (slot_numbers (edition_in bs) 1)) (row_at bs (suc queue) (word_at bs queue))))
        → (i : ℕ) → P (get_or (tables_in bs).slots i (free_slot 0))
    unfolding tables_in
    read_each P none one = slots_each bs (edition_in bs) P none one (c bs).slots (slots_start (c bs)) (queues_start (c bs)) (ready_start (c bs)) f

    pub held : Holds (tables_in bs)
    unfolding tables_in tasks_from
    held =
        let small = (headed_of bs e).small in
        holds_rows (tables_in bs)
        (omega (arith, small.tasks, read_tasks bs))
        (omega (arith, small.slots, read_slots bs))
        (omega (arith, small.ready, read_ready bs))
        (λ i l. read_each (λ (s : Slot). length s.queue ≤ 32) (omega arith) row_few i)
        (tabulate_each (λ (v : Task). Words (task_row v)) (c bs).tasks (λ i. task_from (row_at bs (14 + 4 * i) 4)) no_task no_task_words
        (λ i. task_words (14 + 4 * i)))
        (read_each (λ (s : Slot). Words (slot_row s)) no_slot_words (slot_words (edition_in bs)))
        (row_words (ready_start (c bs)) (c bs).ready)

-- ---- words, one behind another

words_cons : (w : ℕ) (ws : List ℕ) → w < 4294967296 → Words ws → Words (w ∷ ws)
words_cons w ws h g zero = h
words_cons w ws h g (suc k) = g k

words_append : (ws vs : List ℕ) → Words ws → Words vs → Words (ws ++ vs)
words_append [] vs h g = g
words_append (w ∷ ws) vs h g = words_cons w (ws ++ vs) (h 0) (words_append ws vs (λ k. h (suc k)) g)

words_rows : {A : Type 0} (f : A → List ℕ) (d : A) (xs : List A) → ((i : ℕ) → i < length xs → Words (f (get_or xs i d))) → Words (rows (map f xs))
unfolding rows
words_rows f d [] h = λ k. omega arith
words_rows f d (x ∷ xs) h = words_append (f x) (rows (map f xs)) (h 0 (omega arith)) (words_rows f d xs (λ i l. h (suc i) (omega arith)))

-- ---- the file of tables that a layout holds

length_queues : (ss : List Slot) → ((i : ℕ) → i < length ss → length (get_or ss i (free_slot 0)).queue ≤ 32) → length (rows (map queue_row ss)) ≤ 33 * length ss
unfolding rows
length_queues [] few = omega arith
length_queues (s ∷ ss) few =
    omega (
      arith,
      length-append s.queue (rows (map queue_row ss)),
      few 0 (omega arith),
      length_queues ss (λ i l. few (suc i) (omega arith)),
    )

-- no number of a list is above their sum
sum : List ℕ → ℕ
sum [] = 0
sum (w ∷ ws) = w + sum ws

sum_most : (ws : List ℕ) (k : ℕ) → get_or ws k 0 ≤ sum ws
unfolding sum
sum_most [] k = omega arith
sum_most (w ∷ ws) zero = omega arith
sum_most (w ∷ ws) (suc k) = omega (arith, sum_most ws k)

contents_words : (d : Counts) → d.edition ≤ 2 → d.tasks ≤ 32 → d.slots ≤ 64 → d.queues ≤ most_queues → d.ready ≤ 32 → Words (contents_for d)
unfolding sum
contents_words d e n m q r k = omega (arith, sum_most (contents_for d) k, numbers_few d.edition d.slots)

module _ (t : Tables) (h : Holds t) where
  abbrev slot_at : ℕ → Slot
  slot_at i = get_or t.slots i (free_slot 0)

  pub queues_few : length (queues_body t) ≤ most_queues
  queues_few = omega (arith, length_queues t.slots h.limited.queues, h.limited.slots)

  task_row_lem : (i : ℕ) → i < length t.tasks → Words (task_row (get_or t.tasks i no_task))
  task_row_lem i l =
      words_within 4 (task_row (get_or t.tasks i no_task)) refl
      (λ j b. rw (← task_word t i j (omega (arith, h.limited.tasks)) b) (h.words (task_place i + j)))

  slot_number : (i j : ℕ) → i < length t.slots → j < 41 → get_or (slot_row (slot_at i)) j 0 < 4294967296
  slot_number i j l b = rw (← slot_word t i j (omega (arith, h.limited.slots)) b) (h.words (slot_place i + j))

  numbers_row_lem : (e i : ℕ) → i < length t.slots → Words (numbers_row e (slot_at i))
  numbers_row_lem e i l =
      let s : Slot = slot_at i in
      let all : List ℕ = s.generation ∷ s.live ∷ s.name ∷ s.attributes ∷ s.count ∷ s.owner ∷ s.nest ∷ [] in
      let word : (j : ℕ) → j < 41 → get_or (slot_row s) j 0 < 4294967296 = λ j b. slot_number i j l b in
      words_append all (choose (eqb e first_edition) [] (s.maximum ∷ []))
      (words_within 7 all refl
      (λ j b. rw (get_or-append all (s.maximum ∷ length s.queue ∷ fit 32 0 s.queue) 0 j b) at (word j (omega arith))))
      (choose_cases Words (eqb e first_edition) [] (s.maximum ∷ []) (λ y k. omega arith)
      (λ y. words_cons s.maximum [] (word 7 (omega arith)) (λ k. omega arith)))

  queue_row_lem : (i : ℕ) → i < length t.slots → Words (queue_row (slot_at i))
  queue_row_lem i l =
      let q : List ℕ = (slot_at i).queue in
      let few : length q ≤ 32 = h.limited.queues i l in
      words_cons (length q) q (omega arith)
      (words_within (length q) q refl
      (λ k b. omega (arith, slot_number i (9 + k) l (omega arith), queue_word (record_of (slot_at i)) k, get_d_fit 32 0 q k (omega arith))))

  ready_row : Words t.ready
  ready_row =
      words_within (length t.ready) t.ready refl
      (λ k b. rw (← sequence_word t k (omega (arith, h.limited.ready))) (h.words (sequence_place k)))

  pub file_words : (e : ℕ) → e ≤ 2 → Words (state_numbers e t)
  file_words e f =
      subst Words (sym (file_numbers e t))
      (words_append (contents_for (counts_of e t)) (four_bodies e t)
      (contents_words (counts_of e t) f h.limited.tasks h.limited.slots queues_few h.limited.ready)
      (words_append (tasks_body t) (from_slots e t) (words_rows task_row no_task t.tasks task_row_lem)
      (words_append (slots_body e t) (from_queues t) (words_rows (numbers_row e) (free_slot 0) t.slots (numbers_row_lem e))
      (words_append (queues_body t) t.ready (words_rows queue_row (free_slot 0) t.slots queue_row_lem) ready_row))))
