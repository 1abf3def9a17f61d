-- Numbers written one behind another: two runs, the rows of a body, and the bodies of a file.
use mathlib.Core.Path.{◌≡◌, refl, sym, ap, ap₂, ◌∙◌}
use mathlib.Core.List.{List, [], ◌∷◌, ◌++◌, map}
use Prim.Native.Nat.{ℕ, ◌+◌, ◌*◌, ◌≤◌, ◌<◌}
use native.Mathlib.Numerals.{add-one}
use native.Mathlib.Omega.{arith}
use lib.ListN.{length, get_or, drop, length-append}
use lib.Seq.{sets, drop-cons, drop-length}
use Rattle.laws.specs.Choose.{choose}
use Rattle.laws.specs.Rows.{rows}
use Rattle.laws.proofs.Fit.{sets_join}
use Rattle.words.specs.Words.{bytes_of_word, bytes_of, word_at}
use Rattle.words.proofs.WordsInBytes.{length_bytes_of}
use Rattle.words.proofs.Stores.{Stored, stored_more}
use Rattle.rules.specs.Machine.{Slot, Tables, free_slot}
use Rattle.tables.specs.declared.Head.{Head}
use Rattle.tables.specs.Layout.{model_of, record_at, head_of, slot_with}
use Rattle.tables.specs.Sizes.{Bounded}
use Rattle.lookup.proofs.Model.{slot_read}
use Rattle.agreement.proofs.Model.{queue_in, queue_length}
use Rattle.state.specs.declared.contents.Counts.{Counts}
use Rattle.state.specs.File.{second_edition, tasks_body, numbers_row, slots_body, queue_row, queues_body, state_numbers, edition_file, state_file}
use Rattle.state.specs.Reading.{slot_numbers, slots_start, queues_start, ready_start, file_end}
use Rattle.state.specs.Shape.{contents_for, counts_of, Written}
use Rattle.state.proofs.File.{length_tasks_body, length_slots_body, from_queues, from_slots, four_bodies, file_numbers}

bytes_of_append : (xs ys : List ℕ) → bytes_of (xs ++ ys) ≡ bytes_of xs ++ bytes_of ys
unfolding bytes_of
bytes_of_append [] ys = refl
bytes_of_append (x ∷ xs) ys = ap (λ (r : List ℕ). bytes_of_word x ++ r) (bytes_of_append xs ys)

-- two runs, the second where the first ends
pub written_behind : (file : List ℕ) (at : ℕ) (xs : List ℕ) (end : ℕ) (ys file' file'' : List ℕ) → end ≡ at + length xs
    → Written at xs file file' → Written end ys file' file'' → Written at (xs ++ ys) file file''
written_behind file at xs end ys file' file'' e first second =
    let place : 4 * end ≡ 4 * at + length (bytes_of xs) = omega (arith, length_bytes_of xs) in
    second
    ∙ ap₂ (λ (l : List ℕ) (k : ℕ). sets l k (bytes_of ys)) first place
    ∙ sets_join file (4 * at) (bytes_of xs) (bytes_of ys)
    ∙ ap (sets file (4 * at)) (sym (bytes_of_append xs ys))

-- one number more of a row
pub number_more : (file₀ : List ℕ) (at : ℕ) (row file : List ℕ) (k w : ℕ) (file' : List ℕ) → k < length row → Stored file₀ at row file k
    → w ≡ get_or row k 0 → file' ≡ sets file (4 * (at + k)) (bytes_of_word w) → Stored file₀ at row file' (k + 1)
number_more file₀ at row file k w file' h s e p =
    stored_more file₀ at row file k file' h s (p ∙ ap (λ (w : ℕ). sets file (4 * (at + k)) (bytes_of_word w)) e)

-- ---- rows

-- with i rows written, up to `end`, those that are left lead to all
pub record RowsWritten {A : Type 0} (f : A → List ℕ) (xs : List A) (at : ℕ) (file₀ file : List ℕ) (i end : ℕ) : Type 0 where
  pub rest : sets file (4 * end) (bytes_of (rows (map f (drop i xs)))) ≡ sets file₀ (4 * at) (bytes_of (rows (map f xs)))
  pub ends : end + length (rows (map f (drop i xs))) ≡ at + length (rows (map f xs))

module _ {A : Type 0} (f : A → List ℕ) (xs : List A) (d : A) where
  next_row : (i : ℕ) → i < length xs → rows (map f (drop i xs)) ≡ f (get_or xs i d) ++ rows (map f (drop (i + 1) xs))
  unfolding rows
  next_row i h = rw (add-one i, drop-cons xs i d h)

  module _ (at : ℕ) (file₀ : List ℕ) where
    pub rows_none : (end : ℕ) → end ≡ at → RowsWritten f xs at file₀ file₀ 0 end
    rows_none end e = record { rest = ap (λ (k : ℕ). sets file₀ (4 * k) (bytes_of (rows (map f xs)))) e; ends = omega arith }

    module _ (file : List ℕ) (i end : ℕ) (h : i < length xs) (w : RowsWritten f xs at file₀ file i end) where
      -- there is room for the next row
      pub row_within : end + length (f (get_or xs i d)) ≤ at + length (rows (map f xs))
      row_within = omega (arith, w.ends, ap length (next_row i h), length-append (f (get_or xs i d)) (rows (map f (drop (i + 1) xs))))

      pub rows_more : (row file' : List ℕ) (end' : ℕ) → row ≡ f (get_or xs i d) → end' ≡ end + length row → Written end row file file'
          → RowsWritten f xs at file₀ file' (i + 1) end'
      rows_more row file' end' e p s =
          let more : List ℕ = rows (map f (drop (i + 1) xs)) in
          let left : rows (map f (drop i xs)) ≡ row ++ more = next_row i h ∙ ap (λ (r : List ℕ). r ++ more) (sym e) in
          record {
            rest =
                written_behind file end row end' more file' (sets file' (4 * end') (bytes_of more)) p s refl
                ∙ ap (λ (r : List ℕ). sets file (4 * end) (bytes_of r)) (sym left)
                ∙ w.rest;
            ends = omega (arith, w.ends, ap length left, length-append row more);
          }

    pub rows_all : (file : List ℕ) (i end : ℕ) → i ≡ length xs → RowsWritten f xs at file₀ file i end → Written at (rows (map f xs)) file₀ file
    unfolding rows bytes_of
    rows_all file i end e w = rw (e, drop-length xs) at w.rest

-- ---- the rows of the tables

-- edition 2 writes a slot's maximum behind its other numbers
pub row_written : (s : Slot)
    → numbers_row second_edition s ≡ s.generation ∷ s.live ∷ s.name ∷ s.attributes ∷ s.count ∷ s.owner ∷ s.nest ∷ s.maximum ∷ []
unfolding choose
row_written s = refl

-- the numbers of a slot are those of its head
pub numbers_read_lem : (bs : List ℕ) (i : ℕ) (s : Head) → i < word_at bs 1 → s ≡ head_of (record_at bs i)
    → s.generation ∷ s.live ∷ s.name ∷ s.attributes ∷ s.count ∷ s.owner ∷ s.nest ∷ s.maximum ∷ []
    ≡ numbers_row second_edition (get_or (model_of bs).slots i (free_slot 0))
numbers_read_lem bs i s h e =
    sym (row_written (slot_with s []))
    ∙ ap (λ (s : Head). numbers_row second_edition (slot_with s [])) e
    ∙ sym (ap {A = Slot} (numbers_row second_edition) (slot_read bs i h))

-- a queue is written behind its length
module _ (bs : List ℕ) (b : Bounded bs) (i : ℕ) (h : i < word_at bs 1) where
  queue_read : queue_row (get_or (model_of bs).slots i (free_slot 0)) ≡ (record_at bs i).waiters ∷ queue_in bs i
  queue_read = ap {A = Slot} queue_row (slot_read bs i h) ∙ ap (λ (n : ℕ). n ∷ queue_in bs i) (queue_length bs b i h)

  pub length_queue_row : length (queue_row (get_or (model_of bs).slots i (free_slot 0))) ≡ 1 + (record_at bs i).waiters
  length_queue_row = omega (arith, ap length queue_read, queue_length bs b i h)

  pub queue_written : (at w : ℕ) (file file' file'' : List ℕ) → w ≡ (record_at bs i).waiters → file' ≡ sets file (4 * at) (bytes_of_word w)
      → Written (at + 1) (queue_in bs i) file' file'' → Written at (queue_row (get_or (model_of bs).slots i (free_slot 0))) file file''
  unfolding bytes_of
  queue_written at w file file' file'' e first second =
      written_behind file at (w ∷ []) (at + 1) (queue_in bs i) file' file'' (omega arith) first second
      ∙ ap (λ (ws : List ℕ). sets file (4 * at) (bytes_of ws)) (ap (λ (n : ℕ). n ∷ queue_in bs i) e ∙ sym queue_read)

-- ---- the file

module _ (t : Tables) (c : Counts) (e : c ≡ counts_of second_edition t) where
  -- each body ends where the next begins
  pub tasks_end : slots_start c ≡ 14 + length (tasks_body t)
  tasks_end = omega (arith, ap (λ (c : Counts). c.tasks) e, length_tasks_body t)

  pub slots_end : queues_start c ≡ slots_start c + length (slots_body second_edition t)
  slots_end = omega (arith, ap (λ (c : Counts). slot_numbers c.edition c.slots) e, length_slots_body second_edition t)

  pub queues_end : ready_start c ≡ queues_start c + length (queues_body t)
  queues_end = omega (arith, ap (λ (c : Counts). c.queues) e)

  pub ready_end : file_end c ≡ ready_start c + length t.ready
  ready_end = omega (arith, ap (λ (c : Counts). c.ready) e)

  pub file_written : (slotsAt queuesAt readyAt : ℕ) → slotsAt ≡ slots_start c → queuesAt ≡ queues_start c → readyAt ≡ ready_start c
      → (file₀ file₁ file₂ file₃ file₄ file₅ : List ℕ) → Written 0 (contents_for c) file₀ file₁ → Written 14 (tasks_body t) file₁ file₂
      → Written slotsAt (slots_body second_edition t) file₂ file₃ → Written queuesAt (queues_body t) file₃ file₄ → Written readyAt t.ready file₄ file₅
      → file₅ ≡ sets file₀ 0 (state_file t)
  unfolding edition_file
  file_written slotsAt queuesAt readyAt s q r file₀ file₁ file₂ file₃ file₄ file₅ contents tasks slots queues ready =
      let third = written_behind file₃ queuesAt (queues_body t) readyAt t.ready file₄ file₅ (omega (arith, queues_end)) queues ready in
      let second = written_behind file₂ slotsAt (slots_body second_edition t) queuesAt (from_queues t) file₃ file₅ (omega (arith, slots_end)) slots third in
      let first = written_behind file₁ 14 (tasks_body t) slotsAt (from_slots second_edition t) file₂ file₅ (omega (arith, tasks_end)) tasks second in
      let bodies : List ℕ = four_bodies second_edition t in
      let numbers : contents_for c ++ bodies ≡ state_numbers second_edition t =
      ap (λ (c : Counts). contents_for c ++ bodies) e ∙ sym (file_numbers second_edition t)
      in
      written_behind file₀ 0 (contents_for c) 14 bodies file₁ file₅ refl contents first
      ∙ ap (λ (ws : List ℕ). sets file₀ 0 (bytes_of ws)) numbers
