-- The words of a layout: how many, which stands where, and one task's, one slot's or the sequence's words replaced.
use mathlib.Core.Path.{◌≡◌, refl, sym, ap, subst, ◌∙◌}
use mathlib.Core.List.{List, [], ◌∷◌, ◌++◌, map, append_assoc}
use Prim.Native.Nat.{ℕ, zero, suc, ◌+◌, ◌-◌, ◌/◌, ◌%◌, ◌≤◌, ◌<◌}
use native.Mathlib.Decide.{dec_lt}
use native.Mathlib.Omega.{arith}
use lib.ListN.{length, get_or, set, length-append, length-map}
use lib.Seq.{sets, get_or-append-add}
use Rattle.laws.specs.Rows.{fit, rows}
use Rattle.laws.proofs.Fit.{length_fit, get_d_fit, fit_none, get_d_same, map_set, get_d_map, sets_right}
use Rattle.laws.proofs.Rows.{AllWide, wide_map, length_rows, get_d_between, sets_between}
use Rattle.rules.specs.declared.Task.{Task}
use Rattle.rules.specs.Machine.{Slot, Tables, no_task, free_slot}
use Rattle.tables.specs.Codec.{task_row, slot_row}
use Rattle.tables.specs.Layout.{task_place, slot_place, ready_place, sequence_place, layout}

-- ---- rows

pub length_slot_row : (s : Slot) → length (slot_row s) ≡ 41
length_slot_row s = omega (arith, length_fit 32 0 s.queue)

-- what stands past the last slot is 0
pub no_slot_word : (j : ℕ) → get_or (slot_row (free_slot 0)) j 0 ≡ 0
no_slot_word j =
    ap (λ (q : List ℕ). get_or (0 ∷ 0 ∷ 0 ∷ 0 ∷ 0 ∷ 0 ∷ 0 ∷ 0 ∷ 0 ∷ q) j 0) (fit_none {A = ℕ} 32 0) ∙ get_d_same 41 0 j

-- the length of the sequence of ready tasks, and its 32 places
abbrev pub sequence_row : List ℕ → List ℕ
sequence_row qs = length qs ∷ fit 32 0 qs

pub length_sequence_row : (qs : List ℕ) → length (sequence_row qs) ≡ 33
length_sequence_row qs = omega (arith, length_fit 32 0 qs)

-- ---- two counts, then the rows of 32 tasks and of 64 slots, then that of the sequence

abbrev pub words : ℕ → ℕ → List Task → List Slot → List ℕ → List ℕ
words n m ts ss row = n ∷ m ∷ rows (map task_row ts) ++ rows (map slot_row ss) ++ row

module _ (ts : List Task) (ss : List Slot) (e : length ts ≡ 32) (f : length ss ≡ 64) (n m : ℕ) (row : List ℕ) where
  wide_tasks : AllWide 4 (map task_row ts)
  wide_tasks = wide_map 4 task_row (λ v. refl) ts

  wide_slots : AllWide 41 (map slot_row ss)
  wide_slots = wide_map 41 slot_row length_slot_row ss

  length_tasks : length (rows (map task_row ts)) ≡ 128
  length_tasks = omega (arith, length_rows (map task_row ts) wide_tasks, length-map ts task_row)

  length_slots : length (rows (map slot_row ss)) ≡ 2624
  length_slots = omega (arith, length_rows (map slot_row ss) wide_slots, length-map ss slot_row)

  -- what stands before the slots, and before the sequence
  before : List ℕ
  before = n ∷ m ∷ rows (map task_row ts)

  ahead : List ℕ
  ahead = n ∷ m ∷ rows (map task_row ts) ++ rows (map slot_row ss)

  length_ahead : length ahead ≡ ready_place
  unfolding ahead
  length_ahead = omega (arith, length-append (rows (map task_row ts)) (rows (map slot_row ss)), length_tasks, length_slots)

  pub length_words : length row ≡ 33 → length (words n m ts ss row) ≡ 2787
  unfolding ahead
  length_words h = omega (arith, length-append ahead row, length_ahead)

  get_d_row : (k : ℕ) → get_or (words n m ts ss row) (ready_place + k) 0 ≡ get_or row k 0
  unfolding ahead
  get_d_row k = ap (λ (i : ℕ). get_or (ahead ++ row) (i + k) 0) (sym length_ahead) ∙ get_or-append-add ahead row k 0

  pub set_row : (k : ℕ) (vs : List ℕ) → sets (words n m ts ss row) (ready_place + k) vs ≡ words n m ts ss (sets row k vs)
  unfolding ahead
  set_row k vs = ap (λ (i : ℕ). sets (ahead ++ row) (i + k) vs) (sym length_ahead) ∙ sets_right ahead row k vs

  -- the rows of the tasks, and those of the slots, between what stands before and behind them
  nested : (us vs : List (List ℕ)) → (n ∷ m ∷ rows us) ++ rows vs ++ row ≡ (n ∷ m ∷ []) ++ (rows us ++ (rows vs ++ row))
  nested us vs = append_assoc (n ∷ m ∷ rows us) (rows vs) row

  module _ (i : ℕ) where
    get_d_task : (j : ℕ) → i < 32 → j < 4 → get_or (words n m ts ss row) (task_place i + j) 0 ≡ get_or (task_row (get_or ts i no_task)) j 0
    get_d_task j h l =
        ap (λ (x : List ℕ). get_or x (task_place i + j) 0) (nested (map task_row ts) (map slot_row ss))
        ∙ get_d_between (n ∷ m ∷ []) (map task_row ts) (rows (map slot_row ss) ++ row) wide_tasks i (omega (arith, length-map ts task_row)) (task_place i + j) j 0
        (omega arith) l
        ∙ ap (λ (r : List ℕ). get_or r j 0) (get_d_map task_row ts i no_task [] (omega arith))

    get_d_slot : (j : ℕ) → i < 64 → j < 41 → get_or (words n m ts ss row) (slot_place i + j) 0 ≡ get_or (slot_row (get_or ss i (free_slot 0))) j 0
    unfolding before
    get_d_slot j h l =
        ap (λ (x : List ℕ). get_or x (slot_place i + j) 0) (nested (map task_row ts) (map slot_row ss))
        ∙ get_d_between before (map slot_row ss) row wide_slots i (omega (arith, length-map ss slot_row)) (slot_place i + j) j 0 (omega (arith, length_tasks)) l
        ∙ ap (λ (r : List ℕ). get_or r j 0) (get_d_map slot_row ss i (free_slot 0) [] (omega arith))

    pub set_task : (v : Task) → i < 32 → sets (words n m ts ss row) (task_place i) (task_row v) ≡ words n m (set ts i v) ss row
    set_task v h =
        ap (λ (x : List ℕ). sets x (task_place i) (task_row v)) (nested (map task_row ts) (map slot_row ss))
        ∙ sets_between (n ∷ m ∷ []) (map task_row ts) (rows (map slot_row ss) ++ row) wide_tasks i (omega (arith, length-map ts task_row)) (task_place i)
        (task_row v)
        (omega arith) refl
        ∙ sym (nested (set (map task_row ts) i (task_row v)) (map slot_row ss))
        ∙ ap (λ (x : List (List ℕ)). n ∷ m ∷ rows x ++ rows (map slot_row ss) ++ row) (sym (map_set task_row ts i v))

    pub set_slot : (s : Slot) → i < 64 → sets (words n m ts ss row) (slot_place i) (slot_row s) ≡ words n m ts (set ss i s) row
    unfolding before
    set_slot s h =
        ap (λ (x : List ℕ). sets x (slot_place i) (slot_row s)) (nested (map task_row ts) (map slot_row ss))
        ∙ sets_between before (map slot_row ss) row wide_slots i (omega (arith, length-map ss slot_row)) (slot_place i) (slot_row s)
        (omega (arith, length_tasks)) (length_slot_row s)
        ∙ sym (nested (map task_row ts) (set (map slot_row ss) i (slot_row s)))
        ∙ ap (λ (x : List (List ℕ)). before ++ rows x ++ row) (sym (map_set slot_row ss i s))

-- ---- of tables

abbrev pub task_places : Tables → List Task
task_places t = fit 32 no_task t.tasks

abbrev pub slot_places : Tables → List Slot
slot_places t = fit 64 (free_slot 0) t.slots

module _ (t : Tables) where
  pub tasks_long : length (task_places t) ≡ 32
  tasks_long = length_fit 32 no_task t.tasks

  pub slots_long : length (slot_places t) ≡ 64
  slots_long = length_fit 64 (free_slot 0) t.slots

  pub length_layout : length (layout t) ≡ 2787
  unfolding layout
  length_layout =
      length_words (task_places t) (slot_places t) tasks_long slots_long (length t.tasks) (length t.slots) (sequence_row t.ready)
      (length_sequence_row t.ready)

  row_word : (k : ℕ) → get_or (layout t) (ready_place + k) 0 ≡ get_or (sequence_row t.ready) k 0
  unfolding layout
  row_word =
      get_d_row (task_places t) (slot_places t) tasks_long slots_long (length t.tasks) (length t.slots) (sequence_row t.ready)

  pub ready_word : get_or (layout t) ready_place 0 ≡ length t.ready
  ready_word = row_word 0

  -- place k of the sequence
  pub sequence_word : (k : ℕ) → k < 32 → get_or (layout t) (sequence_place k) 0 ≡ get_or t.ready k 0
  sequence_word k h =
      let e : sequence_place k ≡ ready_place + suc k = omega arith in
      ap (λ (i : ℕ). get_or (layout t) i 0) e ∙ row_word (suc k) ∙ get_d_fit 32 0 t.ready k h

  module _ (i j : ℕ) where
    -- word j of task i
    pub task_word : i < 32 → j < 4 → get_or (layout t) (task_place i + j) 0 ≡ get_or (task_row (get_or t.tasks i no_task)) j 0
    unfolding layout
    task_word l b =
        get_d_task (task_places t) (slot_places t) tasks_long slots_long (length t.tasks) (length t.slots) (sequence_row t.ready) i j l b
        ∙ ap (λ (v : Task). get_or (task_row v) j 0) (get_d_fit 32 no_task t.tasks i l)

    -- word j of slot i
    pub slot_word : i < 64 → j < 41 → get_or (layout t) (slot_place i + j) 0 ≡ get_or (slot_row (get_or t.slots i (free_slot 0))) j 0
    unfolding layout
    slot_word l b =
        get_d_slot (task_places t) (slot_places t) tasks_long slots_long (length t.tasks) (length t.slots) (sequence_row t.ready) i j l b
        ∙ ap (λ (s : Slot). get_or (slot_row s) j 0) (get_d_fit 64 (free_slot 0) t.slots i l)

-- each word is a count, or one of a task, or one of a slot, or one of the sequence
pub by_place : (P : ℕ → Type 0) → P 0 → P 1
    → ((i j : ℕ) → i < 32 → j < 4 → P (task_place i + j)) → ((i j : ℕ) → i < 64 → j < 41 → P (slot_place i + j))
    → P ready_place → ((k : ℕ) → k < 32 → P (sequence_place k)) → (k : ℕ) → k < 2787 → P k
by_place P n m task slot ready sequence zero h = n
by_place P n m task slot ready sequence (suc zero) h = m
by_place P n m task slot ready sequence (suc (suc k)) h =
    elim (dec_lt k 128) [
      | yes l ↦ in_tasks l
      | no d ↦ elim (dec_lt k 2752) [
        | yes l ↦ in_slots (omega arith) l
        | no o ↦ elim (dec_lt k 2753) [ yes l ↦ at_ready (omega arith) | no u ↦ in_sequence (omega arith) ]
      ]
    ]
  where
    in_tasks : k < 128 → P (suc (suc k))
    in_tasks l = let e : task_place (k / 4) + k % 4 ≡ suc (suc k) = omega arith in rw e at (task (k / 4) (k % 4) (omega arith) (omega arith))

    in_slots : 128 ≤ k → k < 2752 → P (suc (suc k))
    in_slots l b =
        let i : ℕ = (k - 128) / 41 in
        let j : ℕ = (k - 128) % 41 in
        let e : slot_place i + j ≡ suc (suc k) = omega arith in rw e at (slot i j (omega arith) (omega arith))

    at_ready : k ≡ 2752 → P (suc (suc k))
    at_ready l = let e : ready_place ≡ suc (suc k) = omega arith in subst P e ready

    in_sequence : 2753 ≤ k → P (suc (suc k))
    in_sequence l = let e : sequence_place (k - 2753) ≡ suc (suc k) = omega arith in rw e at (sequence (k - 2753) (omega arith))
