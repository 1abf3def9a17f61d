-- The test tells layouts from all other bytes.
use mathlib.Core.Path.{◌≡◌, refl, sym, ap, subst, ◌∙◌}
use mathlib.Core.Bool.{true}
use mathlib.Core.Logic.{◌↔◌}
use mathlib.Core.List.{List}
use Prim.Native.Nat.{ℕ, ◌+◌, ◌-◌, ◌≤◌, ◌<◌}
use native.Mathlib.Omega.{arith}
use native.Mathlib.Decide.{dec_lt}
use lib.ListN.{length, get_or, replicate, length-take, length-replicate, get_or-eq_default}
use borrow.Author.Tests.{eq-eqb, eqb-true, le-leb, leb-true}
use Rattle.laws.proofs.Choose.{and_both, both_and}
use Rattle.laws.proofs.All.{all_at, all_of}
use Rattle.laws.specs.Rows.{fit, tabulate}
use Rattle.laws.proofs.Fit.{length_tabulate, get_d_tabulate, get_d_tabulate_else, tabulate_is, get_d_same, get_d_fit, fit_take}
use Rattle.words.specs.Words.{bytes_of, word_at, blank}
use Rattle.words.proofs.WordsInBytes.{Bytes, bytes_words, blank_at, blank_of}
use Rattle.rules.specs.declared.Task.{Task}
use Rattle.rules.specs.Machine.{Slot, Tables, no_task, free_slot}
use Rattle.semaphore.specs.declared.Semaphore.{Semaphore}
use Rattle.semaphore.specs.Record.{slot_from, Padded}
use Rattle.tables.specs.Codec.{task_row, task_from, record_from, slot_row}
use Rattle.tables.specs.Layout.{row_at}
use Rattle.tables.specs.Layout.{tables_length, task_place, slot_place, ready_place, sequence_place, layout, laid, task_at, record_at}
use Rattle.tables.specs.Layout.{model_of, is_queue_laid, is_sequence_laid, is_laid}
use Rattle.tables.specs.Sizes.{Bounded, Limited, Holds, IsLayout}
use Rattle.tables.proofs.LayoutWords.{no_slot_word, length_layout, task_word, slot_word, ready_word, sequence_word, by_place}
use Rattle.tables.proofs.LayoutRead.{length_laid, limited_holds, task_word_at, slot_word_at, queue_word_at}
use Rattle.tables.proofs.LayoutRead.{queue_places, queue_few, word_laid, record_laid, laid_tasks, laid_slots, laid_ready}
use Rattle.tables.proofs.LayoutRead.{sequence_word_at, length_ready, ready_read}
use Rattle.tables.proofs.LayoutStore.{record_row_lem}

-- ---- a layout passes the test

module _ (t : Tables) (h : Holds t) where
  tasks_blank : blank (laid t) (task_place (word_at (laid t) 0)) 130 ≡ true
  tasks_blank =
      let n : word_at (laid t) 0 ≡ length t.tasks = laid_tasks t h in
      blank_of (laid t) (task_place (word_at (laid t) 0)) 130 λ k l b.
      word_laid t h.words k
      ∙ by_place (λ k. task_place (length t.tasks) ≤ k → k < 130 → get_or (layout t) k 0 ≡ 0)
      (λ l b. absurd (omega arith))
      (λ l b. absurd (omega arith))
      (λ i j u v l b. task_word t i j u v ∙ ap (λ (v : Task). get_or (task_row v) j 0) (get_or-eq_default t.tasks no_task (omega arith)) ∙ get_d_same 4 0 j)
      (λ i j u v l b. absurd (omega arith))
      (λ l b. absurd (omega arith))
      (λ j u l b. absurd (omega arith))
      k (omega arith) (omega arith) b

  slots_blank : blank (laid t) (slot_place (word_at (laid t) 1)) ready_place ≡ true
  slots_blank =
      let n : word_at (laid t) 1 ≡ length t.slots = laid_slots t h in
      blank_of (laid t) (slot_place (word_at (laid t) 1)) ready_place λ k l b.
      word_laid t h.words k
      ∙ by_place (λ k. slot_place (length t.slots) ≤ k → k < ready_place → get_or (layout t) k 0 ≡ 0)
      (λ l b. absurd (omega arith))
      (λ l b. absurd (omega arith))
      (λ i j u v l b. absurd (omega arith))
      (λ i j u v l b. slot_word t i j u v ∙ ap (λ (s : Slot). get_or (slot_row s) j 0) (get_or-eq_default t.slots (free_slot 0) (omega arith))
      ∙ no_slot_word j)
      (λ l b. absurd (omega arith))
      (λ j u l b. absurd (omega arith))
      k (omega arith) (omega arith) b

  sequence_laid : is_sequence_laid (laid t) ≡ true
  unfolding is_sequence_laid
  sequence_laid =
      let n : word_at (laid t) ready_place ≡ length t.ready = laid_ready t h in
      let few = h.limited.ready in
      both_and (le-leb (word_at (laid t) ready_place) 32 (omega arith))
      (blank_of (laid t) (sequence_place (word_at (laid t) ready_place)) 2787 λ k l b.
      let j : ℕ = k - sequence_place 0 in
      ap (word_at (laid t)) (omega arith)
      ∙ word_laid t h.words (sequence_place j)
      ∙ sequence_word t j (omega arith)
      ∙ get_or-eq_default t.ready 0 (omega arith))

  queue_laid : (i : ℕ) → i < 64 → is_queue_laid (laid t) i ≡ true
  unfolding is_queue_laid
  queue_laid i l =
      let q : List ℕ = (get_or t.slots i (free_slot 0)).queue in
      let few : length q ≤ 32 = queue_few t h.limited i in
      let r = record_laid t h.words i l in
      let w : (record_at (laid t) i).waiters ≡ length q = ap (λ (s : Semaphore). s.waiters) r in
      both_and (le-leb (record_at (laid t) i).waiters 32 (omega arith))
      (blank_of (laid t) (slot_place i + 9 + (record_at (laid t) i).waiters) (slot_place i + 41) λ k a b.
      let j : ℕ = k - (slot_place i + 9) in
      ap (word_at (laid t)) (omega arith)
      ∙ queue_word_at (laid t) i j (omega arith)
      ∙ ap (λ (s : Semaphore). get_or s.queue j 0) r
      ∙ get_d_fit 32 0 q j (omega arith)
      ∙ get_or-eq_default q 0 (omega arith))

  pub is_laid_laid : is_laid (laid t) ≡ true
  unfolding is_laid
  is_laid_laid =
      let n : word_at (laid t) 0 ≡ length t.tasks = laid_tasks t h in
      let m : word_at (laid t) 1 ≡ length t.slots = laid_slots t h in
      let limits = h.limited in
      both_and (eq-eqb (length (laid t)) tables_length (length_laid t))
      (both_and (le-leb (word_at (laid t) 0) 32 (omega arith))
      (both_and (le-leb (word_at (laid t) 1) 64 (omega arith))
      (both_and tasks_blank
      (both_and (all_of (word_at (laid t) 1) (is_queue_laid (laid t)) (λ i l. queue_laid i (omega arith))) (both_and slots_blank sequence_laid)))))

-- ---- bytes that pass the test are a layout

-- what the test says
record Passed (bs : List ℕ) : Type 0 where
  size : length bs ≡ tables_length
  few_tasks : word_at bs 0 ≤ 32
  few_slots : word_at bs 1 ≤ 64
  past_tasks : (k : ℕ) → task_place (word_at bs 0) ≤ k → k < 130 → word_at bs k ≡ 0
  queues : (i : ℕ) → i < word_at bs 1 → is_queue_laid bs i ≡ true
  past_slots : (k : ℕ) → slot_place (word_at bs 1) ≤ k → k < ready_place → word_at bs k ≡ 0
  few_ready : word_at bs ready_place ≤ 32
  past_ready : (k : ℕ) → sequence_place (word_at bs ready_place) ≤ k → k < 2787 → word_at bs k ≡ 0

passed : (bs : List ℕ) → is_laid bs ≡ true → Passed bs
unfolding is_laid is_sequence_laid
passed bs e =
    let a = and_both _ _ e in
    let b = and_both _ _ a.1 in
    let c = and_both _ _ b.1 in
    let d = and_both _ _ c.1 in
    let f = and_both _ _ d.1 in
    let g = and_both _ _ f.1 in
    let h = and_both _ _ g.1 in
    record {
      size = eqb-true (length bs) tables_length a.0;
      few_tasks = leb-true (word_at bs 0) 32 b.0;
      few_slots = leb-true (word_at bs 1) 64 c.0;
      past_tasks = blank_at bs (task_place (word_at bs 0)) 130 d.0;
      queues = all_at (word_at bs 1) (is_queue_laid bs) f.0;
      past_slots = blank_at bs (slot_place (word_at bs 1)) ready_place g.0;
      few_ready = leb-true (word_at bs ready_place) 32 h.0;
      past_ready = blank_at bs (sequence_place (word_at bs ready_place)) 2787 h.1;
    }

-- so the bytes can be read
pub laid_bounded : (bs : List ℕ) → is_laid bs ≡ true → Bounded bs
unfolding is_queue_laid
laid_bounded bs e =
    let p = passed bs e in
    record {
      sized = record { long = p.size; tasks = p.few_tasks; slots = p.few_slots; ready = p.few_ready };
      queues = λ i h. leb-true (record_at bs i).waiters 32 (and_both _ _ (p.queues i h)).0;
    }

-- a row of zeros
row_zero : (bs : List ℕ) (at n : ℕ) → ((j : ℕ) → j < n → word_at bs (at + j) ≡ 0) → row_at bs at n ≡ replicate n 0
row_zero bs at n z =
    sym (tabulate_is n (λ j. word_at bs (at + j)) (replicate n 0) 0 (length-replicate n 0) (λ j l. get_d_same n 0 j ∙ sym (z j l)))

module _ (bs : List ℕ) (p : Passed bs) where
  -- the task of the model at any place
  task_there : (i : ℕ) → i < 32 → get_or (model_of bs).tasks i no_task ≡ task_at bs i
  unfolding model_of task_at
  task_there i l =
      get_d_tabulate_else (word_at bs 0) (task_at bs) i no_task
      (λ h. ap {B = Task} task_from (row_zero bs (task_place i) 4 (λ j b. p.past_tasks (task_place i + j) (omega arith) (omega arith))))

  module _ (i : ℕ) (l : i < 64) where
    past_slot : word_at bs 1 ≤ i → record_at bs i ≡ record_from (replicate 41 0)
    unfolding record_at
    past_slot h =
        ap {B = Semaphore} record_from (row_zero bs (slot_place i) 41 (λ j b. p.past_slots (slot_place i + j) (omega arith) (omega arith)))

    -- the slot of the model at any place
    slot_there : get_or (model_of bs).slots i (free_slot 0) ≡ slot_from (record_at bs i)
    unfolding model_of
    slot_there = get_d_tabulate_else (word_at bs 1) (λ i. slot_from (record_at bs i)) i (free_slot 0) (λ h. ap {B = Slot} slot_from (past_slot h))

    padded : Padded (record_at bs i)
    unfolding is_queue_laid fit
    padded = elim (dec_lt i (word_at bs 1)) [ yes h ↦ within (p.queues i h) | no d ↦ rw (past_slot (omega arith)) (record { few = omega arith; filled = refl }) ]
      where
        within : is_queue_laid bs i ≡ true → Padded (record_at bs i)
        within e =
            let a = and_both _ _ e in
            let w : ℕ = (record_at bs i).waiters in
            let behind : (k : ℕ) → w ≤ k → k < 32 → get_or (record_at bs i).queue k 0 ≡ 0 =
            λ k a b.
            sym (queue_word_at bs i k b)
            ∙ blank_at bs (slot_place i + 9 + w) (slot_place i + 41) (and_both _ _ e).1 (slot_place i + 9 + k) (omega arith) (omega arith)
            in
            record { few = leb-true w 32 a.0; filled = fit_take 32 0 w (record_at bs i).queue (queue_places bs i) behind }

  -- the number of the model at any place of the sequence
  ready_there : (k : ℕ) → k < 32 → get_or (model_of bs).ready k 0 ≡ word_at bs (sequence_place k)
  ready_there k l =
      elim (dec_lt k (word_at bs ready_place)) [
        | yes h ↦ ready_read bs k h ∙ sym (sequence_word_at bs k l)
        | no d ↦ past (omega arith)
      ]
    where
      past : word_at bs ready_place ≤ k → get_or (model_of bs).ready k 0 ≡ word_at bs (sequence_place k)
      past h =
          let n : length (model_of bs).ready ≡ word_at bs ready_place = length_ready bs p.few_ready in
          get_or-eq_default (model_of bs).ready 0 (omega arith) ∙ sym (p.past_ready (sequence_place k) (omega arith) (omega arith))

  -- each word is that of the layout
  words_read : (k : ℕ) → k < 2787 → get_or (layout (model_of bs)) k 0 ≡ word_at bs k
  words_read =
      by_place (λ k. get_or (layout (model_of bs)) k 0 ≡ word_at bs k)
      (unfold layout model_of in length_tabulate (word_at bs 0) (task_at bs))
      (unfold layout model_of in length_tabulate (word_at bs 1) (λ i. slot_from (record_at bs i)))
      (λ i j l b.
      task_word (model_of bs) i j l b
      ∙ ap (λ (v : Task). get_or (task_row v) j 0) (task_there i l)
      ∙ sym (task_word_at bs i j b))
      (λ i j l b.
      slot_word (model_of bs) i j l b
      ∙ ap (λ (r : List ℕ). get_or r j 0) (ap {B = List ℕ} slot_row (slot_there i l) ∙ sym (record_row_lem (record_at bs i) (padded i l)))
      ∙ sym (slot_word_at bs i j b))
      (ready_word (model_of bs) ∙ length_ready bs p.few_ready)
      (λ k b. sequence_word (model_of bs) k b ∙ ready_there k b)

  model_limited : Limited (model_of bs)
  unfolding model_of
  model_limited =
      let n : length (tabulate (word_at bs 0) (task_at bs)) ≡ word_at bs 0 = length_tabulate (word_at bs 0) (task_at bs) in
      let m : length (tabulate (word_at bs 1) (λ i. slot_from (record_at bs i))) ≡ word_at bs 1 = length_tabulate (word_at bs 1) (λ i. slot_from (record_at bs i)) in
      record {
        tasks = omega arith;
        slots = omega arith;
        ready = omega (arith, length_ready bs p.few_ready, p.few_ready);
        queues =
            λ i h.
            rw (get_d_tabulate (word_at bs 1) (λ i. slot_from (record_at bs i)) i (free_slot 0) (omega arith))
            (omega (arith, length-take (record_at bs i).waiters (record_at bs i).queue, (padded i (omega arith)).few));
      }

-- ---- both ways

module _ (bs : List ℕ) (b : Bytes bs) where
  -- bytes that pass the test are the layout of the model that is read from them
  pub laid_model_of : is_laid bs ≡ true → bs ≡ laid (model_of bs)
  unfolding laid
  laid_model_of e =
      bytes_words 2787 bs b (passed bs e).size
      ∙ ap bytes_of (sym (tabulate_is 2787 (word_at bs) (layout (model_of bs)) 0 (length_layout (model_of bs)) (words_read bs (passed bs e))))

  pub holds_model_of : is_laid bs ≡ true → Holds (model_of bs)
  holds_model_of e = limited_holds (model_of bs) (model_limited bs (passed bs e)) (subst Bytes (laid_model_of e) b)

  -- the test tells layouts from all other bytes, of any length
  pub layout_told : (is_laid bs ≡ true) ↔ IsLayout bs
  layout_told = (λ e. record { model = model_of bs; holds = holds_model_of e; same = laid_model_of e }, λ y. rw y.same (is_laid_laid y.model y.holds))
