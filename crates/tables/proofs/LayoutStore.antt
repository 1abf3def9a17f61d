-- What a store makes of a layout: the layout of the tables with one task, one slot or the sequence replaced, and the tables as they start.
use mathlib.Core.Path.{◌≡◌, refl, sym, ap, ap₂, ◌∙◌}
use mathlib.Core.List.{List, [], ◌∷◌, ◌++◌}
use Prim.Native.Nat.{ℕ, suc, pred, ◌+◌, ◌-◌, ◌*◌, ◌≤◌, ◌<◌}
use native.Mathlib.Omega.{arith}
use lib.ListN.{length, get_or, set, take, drop, replicate, length-set, length-append, length-replicate}
use lib.Seq.{sets, length-sets, sets-eq, set-get_or, ext_get_or, length-take-le, take-length}
use Rattle.laws.specs.Rows.{fit, tabulate}
use Rattle.laws.proofs.Fit.{length_fit, fit_none, fit_all, get_d_same, set_fit, fit_replicate, set_fit_next, set_fit_end, set_fit_last}
use Rattle.laws.proofs.Fit.{sets_left, sets_right}
use Rattle.words.specs.Words.{bytes_of_word, bytes_of, word_at}
use Rattle.words.proofs.WordsInBytes.{Bytes, length_bytes_of, sets_bytes_of, bytes_of_zeros}
use Rattle.rules.specs.declared.Task.{Task}
use Rattle.rules.specs.Machine.{Slot, Tables, unstarted, with_tasks, with_slots, with_ready, no_task, free_slot}
use Rattle.rules.specs.Semaphore.{requeued}
use Rattle.rules.specs.Calls.{up_to}
use Rattle.semaphore.specs.declared.Semaphore.{Semaphore}
use Rattle.semaphore.specs.Record.{slot_from, Padded}
use Rattle.tables.specs.declared.Head.{Head}
use Rattle.tables.specs.Codec.{task_row, head_row, slot_row, record_row}
use Rattle.tables.specs.Layout.{tables_length, task_place, slot_place, ready_place, sequence_place, layout, laid, record_at, slot_with, queue_of}
use Rattle.tables.proofs.LayoutWords.{words, task_places, slot_places, sequence_row, tasks_long, slots_long, length_words, set_task, set_slot, set_row}
use Rattle.tables.proofs.LayoutWords.{no_slot_word, length_layout, length_slot_row, task_word, slot_word, ready_word, sequence_word}
use Rattle.tables.proofs.LayoutWords.{by_place}
use Rattle.tables.proofs.LayoutRead.{length_laid, laid_words, record_laid, ready_laid}

-- a row stored in the bytes is stored in the words
store_words : (t : Tables) (k : ℕ) (r : List ℕ) → k + length r ≤ 2787 → sets (laid t) (4 * k) (bytes_of r) ≡ bytes_of (sets (layout t) k r)
unfolding laid
store_words t k r h = sets_bytes_of (layout t) k r (omega (arith, length_layout t))

pub store_task_laid : (t : Tables) (i : ℕ) (v : Task) → i < 32 → i < length t.tasks
    → sets (laid t) (4 * task_place i) (bytes_of (task_row v)) ≡ laid (with_tasks t (set t.tasks i v))
unfolding laid layout
store_task_laid t i v l h =
    store_words t (task_place i) (task_row v) (omega arith)
    ∙ ap bytes_of
    (set_task (task_places t) (slot_places t) (tasks_long t) (slots_long t) (length t.tasks) (length t.slots) (sequence_row t.ready) i v l
    ∙ ap₂ (λ (n : ℕ) (ts : List Task). words n (length t.slots) ts (slot_places t) (sequence_row t.ready)) (sym (length-set t.tasks i v))
    (set_fit 32 no_task t.tasks i v h))

store_slot_row : (t : Tables) (i : ℕ) (s : Slot) → i < 64 → i < length t.slots
    → sets (laid t) (4 * slot_place i) (bytes_of (slot_row s)) ≡ laid (with_slots t (set t.slots i s))
unfolding laid layout
store_slot_row t i s l h =
    store_words t (slot_place i) (slot_row s) (omega (arith, length_slot_row s))
    ∙ ap bytes_of
    (set_slot (task_places t) (slot_places t) (tasks_long t) (slots_long t) (length t.tasks) (length t.slots) (sequence_row t.ready) i s l
    ∙ ap₂ (λ (m : ℕ) (ss : List Slot). words (length t.tasks) m (task_places t) ss (sequence_row t.ready)) (sym (length-set t.slots i s))
    (set_fit 64 (free_slot 0) t.slots i s h))

-- a padded record has the words of the slot that it stands for
pub record_row_lem : (s : Semaphore) → Padded s → record_row s ≡ slot_row (slot_from s)
record_row_lem s p =
    let n : length s.queue ≡ 32 = ap length p.filled ∙ length_fit 32 0 (take s.waiters s.queue) in
    let w : s.waiters ≡ length (take s.waiters s.queue) = sym (length-take-le s.waiters s.queue (omega (arith, p.few))) in
    λ k. s.generation ∷ s.live ∷ s.name ∷ s.attributes ∷ s.count ∷ s.owner ∷ s.nest ∷ s.maximum ∷ w k ∷ p.filled k

pub store_slot_laid : (t : Tables) (i : ℕ) (s : Semaphore) → i < 64 → i < length t.slots → Padded s
    → sets (laid t) (4 * slot_place i) (bytes_of (record_row s)) ≡ laid (with_slots t (set t.slots i (slot_from s)))
store_slot_laid t i s l h p =
    ap (λ (r : List ℕ). sets (laid t) (4 * slot_place i) (bytes_of r)) (record_row_lem s p) ∙ store_slot_row t i (slot_from s) l h

-- ---- a part of a slot's row: the words before its queue, and one waiter more

-- a run of stores over a part of another
sets_over : (xs : List ℕ) (i : ℕ) (us : List ℕ) (k : ℕ) (vs : List ℕ) → i + length us ≤ length xs → k + length vs ≤ length us
    → sets (sets xs i us) (i + k) vs ≡ sets xs i (sets us k vs)
sets_over xs i us k vs h b =
    let front : length (take i xs) ≡ i = length-take-le i xs (omega arith) in
    let same : length (sets us k vs) ≡ length us = length-sets us k vs in
    ap₂ (λ (x : List ℕ) (j : ℕ). sets x (j + k) vs) (sets-eq us xs i h) (sym front)
    ∙ sets_left (take i xs ++ us) (drop (i + length us) xs) (length (take i xs) + k) vs (omega (arith, length-append (take i xs) us))
    ∙ ap₂ (λ (x : List ℕ) (n : ℕ). x ++ drop (i + n) xs) (sets_right (take i xs) us k vs) (sym same)
    ∙ sym (sets-eq (sets us k vs) xs i (omega arith))

module _ (t : Tables) (i : ℕ) (l : i < 64) (h : i < length t.slots) where
  abbrev slot : Slot
  slot = get_or t.slots i (free_slot 0)

  abbrev stored : List ℕ → List ℕ
  stored row = sets (laid t) (4 * slot_place i) (bytes_of row)

  -- its own row changes nothing
  own_stored : laid t ≡ stored (slot_row slot)
  own_stored = sym (store_slot_row t i slot l h ∙ ap (λ (ss : List Slot). laid (with_slots t ss)) (set-get_or t.slots i (free_slot 0)))

  part_stored : (p k : ℕ) (row vs : List ℕ) → p ≡ slot_place i + k → length row ≡ 41 → k + length vs ≤ 41
      → sets (stored row) (4 * p) (bytes_of vs) ≡ stored (sets row k vs)
  part_stored p k row vs e n b =
      let place : 4 * p ≡ 4 * slot_place i + 4 * k = omega (arith, e) in
      ap (λ (j : ℕ). sets (stored row) j (bytes_of vs)) place
      ∙ sets_over (laid t) (4 * slot_place i) (bytes_of row) (4 * k) (bytes_of vs) (omega (arith, length_laid t, length_bytes_of row))
      (omega (arith, length_bytes_of row, length_bytes_of vs))
      ∙ ap (λ (x : List ℕ). sets (laid t) (4 * slot_place i) x) (sets_bytes_of row k vs (omega arith))

  head_row_lem : (s : Head) → s.waiters ≡ length slot.queue → sets (slot_row slot) 0 (head_row s) ≡ slot_row (slot_with s slot.queue)
  head_row_lem s w =
      ap (λ (n : ℕ). s.generation ∷ s.live ∷ s.name ∷ s.attributes ∷ s.count ∷ s.owner ∷ s.nest ∷ s.maximum ∷ n ∷ fit 32 0 slot.queue) w

  head_laid : (s : Head) → s.waiters ≡ length slot.queue
      → sets (laid t) (4 * slot_place i) (bytes_of (head_row s)) ≡ laid (with_slots t (set t.slots i (slot_with s slot.queue)))
  head_laid s w =
      ap (λ (x : List ℕ). sets x (4 * slot_place i) (bytes_of (head_row s))) own_stored
      ∙ part_stored (slot_place i) 0 (slot_row slot) (head_row s) (omega arith) (length_slot_row slot) (omega arith)
      ∙ ap stored (head_row_lem s w)
      ∙ store_slot_row t i (slot_with s slot.queue) l h

  -- a number behind the last of the queue, and then the length
  waiter_row : (q : ℕ) → length slot.queue < 32
      → sets (sets (slot_row slot) (9 + length slot.queue) (q ∷ [])) 8 ((length slot.queue + 1) ∷ []) ≡ slot_row (requeued slot (slot.queue ++ q ∷ []))
  waiter_row q few =
      let place : 9 + length slot.queue ≡ suc (suc (suc (suc (suc (suc (suc (suc (suc (length slot.queue))))))))) = omega arith in
      let count : length slot.queue + 1 ≡ length (slot.queue ++ q ∷ []) = sym (length-append slot.queue (q ∷ [])) in
      ap (λ (k : ℕ). sets (sets (slot_row slot) k (q ∷ [])) 8 ((length slot.queue + 1) ∷ [])) place
      ∙ ap₂
      (λ (n : ℕ) (x : List ℕ). slot.generation ∷ slot.live ∷ slot.name ∷ slot.attributes ∷ slot.count ∷ slot.owner ∷ slot.nest ∷ slot.maximum ∷ n ∷ x)
      count
      (set_fit_end 32 0 slot.queue q few)

  waiter_laid : (p r n q : ℕ) → length slot.queue < 32 → n ≡ length slot.queue → p ≡ slot_place i + (9 + n) → r ≡ slot_place i + 8
      → sets (sets (laid t) (4 * p) (bytes_of_word q)) (4 * r) (bytes_of_word (n + 1))
      ≡ laid (with_slots t (set t.slots i (requeued slot (slot.queue ++ q ∷ []))))
  unfolding bytes_of
  waiter_laid p r n q few c ep er =
      let row : List ℕ = sets (slot_row slot) (9 + n) (q ∷ []) in
      ap (λ (x : List ℕ). sets (sets x (4 * p) (bytes_of_word q)) (4 * r) (bytes_of_word (n + 1))) own_stored
      ∙ ap (λ (x : List ℕ). sets x (4 * r) (bytes_of_word (n + 1))) (part_stored p (9 + n) (slot_row slot) (q ∷ []) ep (length_slot_row slot) (omega arith))
      ∙ part_stored r 8 row ((n + 1) ∷ []) er (length-sets (slot_row slot) (9 + n) (q ∷ []) ∙ length_slot_row slot) (omega arith)
      ∙ ap (λ (j : ℕ). stored (sets (sets (slot_row slot) (9 + j) (q ∷ [])) 8 ((j + 1) ∷ []))) c
      ∙ ap stored (waiter_row q few)
      ∙ store_slot_row t i (requeued slot (slot.queue ++ q ∷ [])) l h

-- what the stores make of bytes that are laid
pub head_stored : (m m₁ : List ℕ) (i : ℕ) (s : Head) → i < 64 → m₁ ≡ sets m (4 * slot_place i) (bytes_of (head_row s))
    → (t : Tables) → m ≡ laid t → i < length t.slots → s.waiters ≡ length (queue_of t i)
    → m₁ ≡ laid (with_slots t (set t.slots i (slot_with s (queue_of t i))))
head_stored m m₁ i s l w t e h n = w ∙ ap (λ (x : List ℕ). sets x (4 * slot_place i) (bytes_of (head_row s))) e ∙ head_laid t i l h s n

-- by the number of waiters that is read from them
module _ (m : List ℕ) (i q waiters : ℕ) (l : i < 64) (b : Bytes m) (c : waiters ≡ (record_at m i).waiters) (t : Tables) (e : m ≡ laid t)
    (h : i < length t.slots) (few : length (queue_of t i) < 32) where
  waiting : waiters ≡ length (queue_of t i)
  waiting = c ∙ ap (λ (x : List ℕ). (record_at x i).waiters) e ∙ ap (λ (s : Semaphore). s.waiters) (record_laid t (laid_words t (rw e at b)) i l)

  pub queue_full : 32 ≤ waiters → m ≡ laid (with_slots t (set t.slots i (requeued (get_or t.slots i (free_slot 0)) (queue_of t i ++ q ∷ []))))
  queue_full o = absurd (omega (arith, waiting))

  pub waiter_added : (m₁ m₂ : List ℕ) → m₁ ≡ sets m (4 * (slot_place i + 9 + waiters)) (bytes_of_word q)
      → m₂ ≡ sets m₁ (4 * (slot_place i + 8)) (bytes_of_word (waiters + 1))
      → m₂ ≡ laid (with_slots t (set t.slots i (requeued (get_or t.slots i (free_slot 0)) (queue_of t i ++ q ∷ []))))
  waiter_added m₁ m₂ w₁ w₂ =
      w₂
      ∙ ap (λ (x : List ℕ). sets x (4 * (slot_place i + 8)) (bytes_of_word (waiters + 1)))
      (w₁ ∙ ap (λ (x : List ℕ). sets x (4 * (slot_place i + 9 + waiters)) (bytes_of_word q)) e)
      ∙ waiter_laid t i l h (slot_place i + 9 + waiters) (slot_place i + 8) waiters q few waiting (omega arith) refl

-- ---- the sequence of ready tasks

module _ (t : Tables) where
  abbrev row : List ℕ → List ℕ
  row = words (length t.tasks) (length t.slots) (task_places t) (slot_places t)

  set_at : (r : List ℕ) (k v : ℕ) → sets (row r) (ready_place + k) (v ∷ []) ≡ row (sets r k (v ∷ []))
  set_at r k v = set_row (task_places t) (slot_places t) (tasks_long t) (slots_long t) (length t.tasks) (length t.slots) r k (v ∷ [])

  -- one number in its places
  set_place : (k v : ℕ) → sets (layout t) (sequence_place k) (v ∷ []) ≡ row (length t.ready ∷ set (fit 32 0 t.ready) k v)
  unfolding layout
  set_place k v =
      let place : sequence_place k ≡ ready_place + suc k = omega arith in
      ap (λ (j : ℕ). sets (layout t) j (v ∷ [])) place ∙ set_at (sequence_row t.ready) (suc k) v

  set_ready_laid : (k q : ℕ) → k < 32 → k < length t.ready
      → sets (laid t) (4 * sequence_place k) (bytes_of_word q) ≡ laid (with_ready t (set t.ready k q))
  unfolding laid layout bytes_of
  set_ready_laid k q l h =
      store_words t (sequence_place k) (q ∷ []) (omega arith)
      ∙ ap bytes_of (set_place k q ∙ ap₂ (λ (n : ℕ) (x : List ℕ). row (n ∷ x)) (sym (length-set t.ready k q)) (set_fit 32 0 t.ready k q h))

  -- one number in its places, and then another length
  resize_laid : (k v n : ℕ) (qs : List ℕ) → k < 32 → set (fit 32 0 t.ready) k v ≡ fit 32 0 qs → n ≡ length qs
      → sets (sets (laid t) (4 * sequence_place k) (bytes_of_word v)) (4 * ready_place) (bytes_of_word n) ≡ laid (with_ready t qs)
  unfolding laid layout bytes_of
  resize_laid k v n qs l e c =
      let first : sets (layout t) (sequence_place k) (v ∷ []) ≡ row (length t.ready ∷ fit 32 0 qs) =
      set_place k v ∙ ap (λ (x : List ℕ). row (length t.ready ∷ x)) e
      in
      let long : length (row (length t.ready ∷ fit 32 0 qs)) ≡ 2787 =
      length_words (task_places t) (slot_places t) (tasks_long t) (slots_long t) (length t.tasks) (length t.slots) (length t.ready ∷ fit 32 0 qs)
      (omega (arith, length_fit 32 0 qs))
      in
      ap (λ (x : List ℕ). sets x (4 * ready_place) (bytes_of_word n)) (store_words t (sequence_place k) (v ∷ []) (omega arith) ∙ ap bytes_of first)
      ∙ sets_bytes_of (row (length t.ready ∷ fit 32 0 qs)) ready_place (n ∷ []) (omega arith)
      ∙ ap bytes_of (set_at (length t.ready ∷ fit 32 0 qs) 0 n ∙ ap (λ (j : ℕ). row (j ∷ fit 32 0 qs)) c)

-- what the stores make of bytes that are laid
pub ready_set : (m m₁ : List ℕ) (k q : ℕ) → k < 32 → m₁ ≡ sets m (4 * sequence_place k) (bytes_of_word q)
    → (t : Tables) → m ≡ laid t → k < length t.ready → m₁ ≡ laid (with_ready t (set t.ready k q))
ready_set m m₁ k q l w t e h = w ∙ ap (λ (x : List ℕ). sets x (4 * sequence_place k) (bytes_of_word q)) e ∙ set_ready_laid t k q l h

-- by the count that is read from them
module _ (m : List ℕ) (count : ℕ) (b : Bytes m) (c : count ≡ word_at m ready_place) (t : Tables) (e : m ≡ laid t) where
  counted : count ≡ length t.ready
  counted = c ∙ ap (λ (x : List ℕ). word_at x ready_place) e ∙ ready_laid t (laid_words t (rw e at b))

  resized : (k v n : ℕ) (qs : List ℕ) → k < 32 → set (fit 32 0 t.ready) k v ≡ fit 32 0 qs → n ≡ length qs → (m₁ m₂ : List ℕ)
      → m₁ ≡ sets m (4 * sequence_place k) (bytes_of_word v) → m₂ ≡ sets m₁ (4 * ready_place) (bytes_of_word n) → m₂ ≡ laid (with_ready t qs)
  resized k v n qs l s len m₁ m₂ w₁ w₂ =
      w₂
      ∙ ap (λ (x : List ℕ). sets x (4 * ready_place) (bytes_of_word n)) (w₁ ∙ ap (λ (x : List ℕ). sets x (4 * sequence_place k) (bytes_of_word v)) e)
      ∙ resize_laid t k v n qs l s len

  module _ (q : ℕ) (few : length t.ready < 32) where
    pub ready_full : 32 ≤ count → m ≡ laid (with_ready t (t.ready ++ q ∷ []))
    ready_full h = absurd (omega (arith, counted))

    pub ready_added : (m₁ m₂ : List ℕ) → m₁ ≡ sets m (4 * sequence_place count) (bytes_of_word q) → m₂ ≡ sets m₁ (4 * ready_place) (bytes_of_word (count + 1))
        → m₂ ≡ laid (with_ready t (t.ready ++ q ∷ []))
    ready_added =
        resized count q (count + 1) (t.ready ++ q ∷ []) (omega (arith, counted))
        (ap (λ (k : ℕ). set (fit 32 0 t.ready) k q) counted ∙ set_fit_end 32 0 t.ready q few)
        (simp length-append (omega (arith, counted)))

  module _ (some : 1 ≤ length t.ready) (few : length t.ready ≤ 32) where
    pub ready_empty : count ≡ 0 → m ≡ laid (with_ready t (take (pred (length t.ready)) t.ready))
    ready_empty z = absurd (omega (arith, counted))

    pub ready_over : 32 < count → m ≡ laid (with_ready t (take (pred (length t.ready)) t.ready))
    ready_over h = absurd (omega (arith, counted))

    pub ready_dropped : (m₁ m₂ : List ℕ) → m₁ ≡ sets m (4 * sequence_place (count - 1)) (bytes_of_word 0)
        → m₂ ≡ sets m₁ (4 * ready_place) (bytes_of_word (count - 1)) → m₂ ≡ laid (with_ready t (take (pred (length t.ready)) t.ready))
    ready_dropped =
        let last : count - 1 ≡ pred (length t.ready) = omega (arith, counted) in
        resized (count - 1) 0 (count - 1) (take (pred (length t.ready)) t.ready) (omega (arith, counted))
        (ap (λ (k : ℕ). set (fit 32 0 t.ready) k 0) last ∙ set_fit_last 32 0 t.ready some)
        (last ∙ sym (length-take-le (pred (length t.ready)) t.ready (omega arith)))

-- ---- start: the counts first, then task by task, each with its number at the end of the sequence

-- before the start every byte is 0
pub laid_unstarted : laid unstarted ≡ replicate tables_length 0
unfolding laid
laid_unstarted = ap bytes_of zeros ∙ bytes_of_zeros 2787
  where
    zero_word : (k : ℕ) → k < 2787 → get_or (layout unstarted) k 0 ≡ 0
    zero_word =
        by_place (λ k. get_or (layout unstarted) k 0 ≡ 0) (unfold layout in refl) (unfold layout in refl)
        (λ i j l b. task_word unstarted i j l b ∙ get_d_same 4 0 j)
        (λ i j l b. slot_word unstarted i j l b ∙ no_slot_word j)
        (ready_word unstarted)
        (λ k b. sequence_word unstarted k b)

    zeros : layout unstarted ≡ replicate 2787 0
    zeros =
        ext_get_or 0 (layout unstarted) (replicate 2787 0) (length_layout unstarted ∙ sym (length-replicate {A = ℕ} 2787 0))
        (λ k l. zero_word k (omega (arith, length_layout unstarted)) ∙ sym (get_d_same 2787 0 k))

pub zeros_laid : (m : List ℕ) → length m ≡ tables_length → ((k : ℕ) → k < tables_length → get_or m k 0 ≡ 0) → m ≡ laid unstarted
zeros_laid m e h =
    ext_get_or 0 m (replicate tables_length 0) (e ∙ sym (length-replicate {A = ℕ} tables_length 0)) (λ k l. h k (omega arith) ∙ sym (get_d_same tables_length 0 k))
    ∙ sym laid_unstarted

-- tables with m slots, all free
abbrev pub all_free : ℕ → List Task → List ℕ → Tables
all_free m ts qs = record { tasks = ts; slots = replicate m (free_slot 0); ready = qs }

-- and the first k of their tasks stored, the others still 0, and the numbers of the first j in the sequence
abbrev pub starting : ℕ → List Task → ℕ → ℕ → Tables
starting m ts k j = all_free m (fit (length ts) no_task (take k ts)) (up_to j)

-- with the counts stored over the tables before the start
pub start_counts : (m : ℕ) (ts : List Task) → sets (laid unstarted) 0 (bytes_of (length ts ∷ m ∷ [])) ≡ laid (starting m ts 0 0)
unfolding laid layout tabulate
start_counts m ts =
    store_words unstarted 0 (length ts ∷ m ∷ []) (omega arith)
    ∙ ap bytes_of same
  where
    tasks : fit 32 no_task (fit (length ts) no_task []) ≡ fit 32 no_task []
    tasks = rw (fit_none (length ts) no_task) (fit_replicate 32 (length ts) no_task)

    same : words (length ts) m (fit 32 no_task []) (fit 64 (free_slot 0) []) (sequence_row []) ≡ layout (starting m ts 0 0)
    same =
        sym λ k.
        words (length_fit (length ts) no_task [] k) (length-replicate m (free_slot 0) k) (tasks k) (fit_replicate 64 m (free_slot 0) k) (sequence_row [])

-- one task more
pub start_task : (m : ℕ) (ts : List Task) (k j : ℕ) → k < 32 → k < length ts
    → sets (laid (starting m ts k j)) (4 * task_place k) (bytes_of (task_row (get_or ts k no_task))) ≡ laid (starting m ts (suc k) j)
start_task m ts k j l h =
    store_task_laid (starting m ts k j) k (get_or ts k no_task) l (rw length_fit h)
    ∙ ap (λ (x : List Task). laid (all_free m x (up_to j))) (set_fit_next (length ts) no_task ts k h)

-- all of them
pub start_all : (m : ℕ) (ts : List Task) → starting m ts (length ts) (length ts) ≡ all_free m ts (up_to (length ts))
start_all m ts = rw (take-length ts) (ap (λ (x : List Task). all_free m x (up_to (length ts))) (fit_all (length ts) no_task ts refl))
