-- The tables of a file are read back: where the numbers of tables stand in bytes, the counts, the tasks, the slots and the sequence read are theirs.
use mathlib.Core.Path.{◌≡◌, refl, sym, subst, ap, ap₂, ◌∙◌}
use mathlib.Core.List.{List, [], ◌∷◌, ◌++◌, map}
use Prim.Native.Nat.{ℕ, suc, ◌+◌, ◌*◌, ◌/◌, ◌<◌}
use native.Mathlib.Omega.{arith}
use lib.ListN.{length, get_or}
use Rattle.laws.specs.Rows.{tabulate, rows}
use Rattle.laws.proofs.Fit.{tabulate_same}
use Rattle.words.specs.Words.{word_at}
use Rattle.words.proofs.WordsInBytes.{Words}
use Rattle.rules.specs.declared.Task.{Task}
use Rattle.rules.specs.Machine.{Slot, Tables, free_slot}
use Rattle.tables.specs.Codec.{task_row, task_from}
use Rattle.tables.specs.Layout.{row_at}
use Rattle.state.specs.declared.contents.Counts.{Counts}
use Rattle.state.specs.File.{tasks_body, numbers_row, slots_body, queue_row, queues_body, state_numbers, edition_file}
use Rattle.state.specs.Reading.{slot_numbers, slots_in, counts_in, slots_start, queues_start, ready_start, tasks_from, slot_of_row, slots_from}
use Rattle.state.specs.Reading.{tables_in, edition_in}
use Rattle.state.specs.Shape.{contents_for, counts_of}
use Rattle.state.proofs.Editions.{Told, length_numbers_row, slot_back, slots_counted}
use Rattle.state.proofs.File.{from_queues, from_slots, four_bodies, file_numbers, length_tasks_body, length_slots_body}
use Rattle.state.proofs.Stands.{Stands, stands_row, stands_first, stands_front, stands_behind, stands_bytes}

-- ---- tasks and slots from any place

-- n tasks, from number `at` on
abbrev pub tasks_at : List ℕ → ℕ → ℕ → List Task
tasks_at bs at n = tabulate n (λ i. task_from (row_at bs (at + 4 * i) 4))

pub tasks_at_more : (bs : List ℕ) (at n : ℕ) → tasks_at bs at (suc n) ≡ task_from (row_at bs at 4) ∷ tasks_at bs (at + 4) n
unfolding tabulate
tasks_at_more bs at n =
    let task : ℕ → Task = λ i. task_from (row_at bs i 4) in
    ap₂ {C = List Task} (λ (v : Task) (vs : List Task). v ∷ vs) (ap task (omega arith))
    (tabulate_same n (λ i. task (at + 4 * suc i)) (λ i. task (at + 4 + 4 * i)) (λ i l. ap task (omega arith)))

module _ (bs : List ℕ) where
  tasks_back : (at : ℕ) (vs : List Task) → Stands bs at (rows (map task_row vs)) → tasks_at bs at (length vs) ≡ vs
  unfolding rows
  tasks_back at [] h = unfold tabulate in refl
  tasks_back at (v ∷ vs) h =
      let rest = rows (map task_row vs) in
      tasks_at_more bs at (length vs)
      ∙ ap₂ {C = List Task} (λ (r : List ℕ) (vs : List Task). task_from r ∷ vs)
      (stands_row bs at (task_row v) (stands_front bs at (task_row v) rest h))
      (tasks_back (at + 4) vs (stands_behind bs at (task_row v) rest (at + 4) refl h))

  slots_back : (e at queue : ℕ) (ss : List Slot) → ((i : ℕ) → i < length ss → Told e (get_or ss i (free_slot 0)))
      → Stands bs at (rows (map (numbers_row e) ss)) → Stands bs queue (rows (map queue_row ss)) → slots_from bs e (length ss) at queue ≡ ss
  unfolding rows slots_from
  slots_back e at queue [] told h g = refl
  slots_back e at queue (s ∷ ss) told h g =
      let numbers = rows (map (numbers_row e) ss) in
      let queues = rows (map queue_row ss) in
      let next : ℕ = at + slot_numbers e 1 in
      let count : word_at bs queue ≡ length s.queue = stands_first bs queue (length s.queue) (s.queue ++ queues) g in
      let behind : Stands bs (suc queue) (s.queue ++ queues) =
      stands_behind bs queue (length s.queue ∷ []) (s.queue ++ queues) (suc queue) (omega arith) g
      in
      let waiters : row_at bs (suc queue) (word_at bs queue) ≡ s.queue =
      ap (row_at bs (suc queue)) count ∙ stands_row bs (suc queue) s.queue (stands_front bs (suc queue) s.queue queues behind)
      in
      let rest : slots_from bs e (length ss) next (suc queue + word_at bs queue) ≡ ss =
      slots_back e next (suc queue + word_at bs queue) ss (λ i l. told (suc i) (omega arith))
      (stands_behind bs at (numbers_row e s) numbers next (ap (λ (n : ℕ). at + n) (sym (length_numbers_row e s))) h)
      (stands_behind bs (suc queue) s.queue queues (suc queue + word_at bs queue) (ap (λ (n : ℕ). suc queue + n) count) behind)
      in
      let row : row_at bs at (slot_numbers e 1) ≡ numbers_row e s =
      ap (row_at bs at) (sym (length_numbers_row e s)) ∙ stands_row bs at (numbers_row e s) (stands_front bs at (numbers_row e s) numbers h)
      in
      (λ k. slot_of_row e (row k) (waiters k) ∷ rest k) ∙ ap (λ (x : Slot). x ∷ ss) (slot_back e s (told 0 (omega arith)))

-- ---- bytes in which the numbers of tables stand

module _ (bs : List ℕ) (e : ℕ) (t : Tables) (h : Stands bs 0 (state_numbers e t)) where
  abbrev c : Counts
  c = counts_of e t

  all_stand : Stands bs 0 (contents_for c ++ four_bodies e t)
  all_stand = subst (Stands bs 0) (file_numbers e t) h

  pub contents_stand : Stands bs 0 (contents_for c)
  contents_stand = stands_front bs 0 (contents_for c) (four_bodies e t) all_stand

  bodies_stand : Stands bs 14 (four_bodies e t)
  bodies_stand = stands_behind bs 0 (contents_for c) (four_bodies e t) 14 refl all_stand

  pub tasks_stand : Stands bs 14 (tasks_body t)
  tasks_stand = stands_front bs 14 (tasks_body t) (from_slots e t) bodies_stand

  from_slots_lem : Stands bs (slots_start c) (from_slots e t)
  from_slots_lem = stands_behind bs 14 (tasks_body t) (from_slots e t) (slots_start c) (omega (arith, length_tasks_body t)) bodies_stand

  pub slots_stand : Stands bs (slots_start c) (slots_body e t)
  slots_stand = stands_front bs (slots_start c) (slots_body e t) (from_queues t) from_slots_lem

  from_queues_lem : Stands bs (queues_start c) (from_queues t)
  from_queues_lem = stands_behind bs (slots_start c) (slots_body e t) (from_queues t) (queues_start c) (omega (arith, length_slots_body e t)) from_slots_lem

  pub queues_stand : Stands bs (queues_start c) (queues_body t)
  queues_stand = stands_front bs (queues_start c) (queues_body t) t.ready from_queues_lem

  pub ready_stand : Stands bs (ready_start c) t.ready
  ready_stand = stands_behind bs (queues_start c) (queues_body t) t.ready (ready_start c) refl from_queues_lem

  pub counts_back : counts_in bs ≡ c
  counts_back =
      let f : word_at bs 0 ≡ e = contents_stand 0 (omega arith) in
      let n : word_at bs 4 / 16 ≡ length t.tasks = omega (arith, contents_stand 4 (omega arith)) in
      let m : slots_in (word_at bs 0) (word_at bs 7) ≡ length t.slots =
      ap₂ slots_in f (contents_stand 7 (omega arith)) ∙ slots_counted e (length t.slots)
      in
      let q : word_at bs 10 / 4 ≡ length (queues_body t) = omega (arith, contents_stand 10 (omega arith)) in
      let r : word_at bs 13 / 4 ≡ length t.ready = omega (arith, contents_stand 13 (omega arith)) in
      λ k. record { edition = f k; tasks = n k; slots = m k; queues = q k; ready = r k }

  pub tables_back : ((i : ℕ) → i < length t.slots → Told e (get_or t.slots i (free_slot 0))) → tables_in bs ≡ t
  unfolding tables_in tasks_from
  tables_back told =
      let vs : tasks_from bs (counts_in bs).tasks ≡ t.tasks =
      ap (λ (d : Counts). tasks_from bs d.tasks) counts_back ∙ tasks_back bs 14 t.tasks tasks_stand
      in
      let ss : slots_from bs (counts_in bs).edition (counts_in bs).slots (slots_start (counts_in bs)) (queues_start (counts_in bs)) ≡ t.slots =
      ap (λ (d : Counts). slots_from bs d.edition d.slots (slots_start d) (queues_start d)) counts_back
      ∙ slots_back bs e (slots_start c) (queues_start c) t.slots told slots_stand queues_stand
      in
      let qs : row_at bs (ready_start (counts_in bs)) (counts_in bs).ready ≡ t.ready =
      ap (λ (d : Counts). row_at bs (ready_start d) d.ready) counts_back ∙ stands_row bs (ready_start c) t.ready ready_stand
      in
      λ k. record { tasks = vs k; slots = ss k; ready = qs k }

-- ---- the file of tables

module _ (e : ℕ) (t : Tables) (w : Words (state_numbers e t)) where
  pub file_stands : Stands (edition_file e t) 0 (state_numbers e t)
  unfolding edition_file
  file_stands = stands_bytes (state_numbers e t) w

  pub edition_back : edition_in (edition_file e t) ≡ e
  edition_back = contents_stand (edition_file e t) e t file_stands 0 (omega arith)

  pub reads_back : ((i : ℕ) → i < length t.slots → Told e (get_or t.slots i (free_slot 0))) → tables_in (edition_file e t) ≡ t
  reads_back = tables_back (edition_file e t) e t file_stands
