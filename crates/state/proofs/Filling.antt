-- What the stores of a read make of a layout: tasks and slots from the front on, and rows that grow by one number at their end.
use mathlib.Core.Path.{◌≡◌, refl, sym, ap, ap₂, ◌∙◌}
use mathlib.Core.Bool.{Bool, true, false}
use mathlib.Core.List.{List, [], ◌∷◌, ◌++◌}
use Prim.Native.Nat.{ℕ, suc, ◌+◌, ◌-◌, ◌*◌, ◌≤◌, ◌<◌}
use native.Mathlib.Nat.{add-zero}
use native.Mathlib.Numerals.{add-one}
use native.Mathlib.Omega.{arith}
use lib.Dec.{leb, eqb}
use lib.ListN.{length, get_or, set, take, drop, replicate, length-set, length-replicate}
use lib.Seq.{sets, length-sets, take-suc, take-length, length-take-le, get_or-set_same, get_or-set_other, set-get_or, set-set, get_or-drop, drop-drop}
use borrow.Author.Tests.{eq-eqb, ne_eqb}
use Rattle.laws.specs.Choose.{◌and◌}
use Rattle.laws.proofs.Choose.{if_yes, if_no, cases}
use Rattle.laws.specs.Rows.{tabulate}
use Rattle.laws.proofs.Fit.{length_tabulate, get_d_tabulate, tabulate_last, length_fit, get_d_same, sets_join, sets_whole}
use Rattle.words.specs.Words.{bytes_of, word_at}
use Rattle.rules.specs.declared.Task.{Task}
use Rattle.rules.specs.Machine.{Slot, Tables, unstarted, no_task, free_slot, with_tasks, with_slots, with_ready}
use Rattle.rules.specs.Semaphore.{requeued}
use Rattle.tables.specs.declared.Head.{Head}
use Rattle.tables.specs.Codec.{task_row, task_from}
use Rattle.tables.specs.Layout.{row_at}
use Rattle.tables.specs.Layout.{task_place, laid, queue_of, slot_with}
use Rattle.tables.proofs.LayoutStore.{store_task_laid, starting, start_counts}
use Rattle.state.specs.declared.contents.Counts.{Counts}
use Rattle.state.specs.File.{first_edition}
use Rattle.state.specs.Reading.{slot_numbers, first_maximum, counts_in, slots_start, queues_start, ready_start, tasks_from, slot_of_row, slots_from, tables_in}
use Rattle.state.specs.Shape.{queues_fit, is_filled, head_of_row}
use Rattle.state.proofs.Editions.{eight, numbers_none, numbers_more, numbers_least}
use Rattle.state.proofs.Held.{length_tasks_from, length_slots_from}

-- ---- rows of numbers

-- the numbers of a slot, in either edition
abbrev numbers_at : List ℕ → ℕ → ℕ → List ℕ
numbers_at bs edition at = row_at bs at (slot_numbers edition 1)

-- and the slot read, with a queue of n tasks
abbrev slot_read : List ℕ → ℕ → ℕ → ℕ → ℕ → Slot
slot_read bs edition at queue n = slot_of_row edition (numbers_at bs edition at) (row_at bs queue n)

module _ (bs : List ℕ) (edition at : ℕ) where
  number_at : (k : ℕ) → k < slot_numbers edition 1 → word_at bs (at + k) ≡ get_or (numbers_at bs edition at) k 0
  number_at k h = sym (get_d_tabulate (slot_numbers edition 1) (λ j. word_at bs (at + j)) k 0 h)

  -- both editions have the first seven
  number_first : (k : ℕ) → k < 7 → word_at bs (at + k) ≡ get_or (numbers_at bs edition at) k 0
  number_first k h = number_at k (omega (arith, numbers_least edition))

  pub head_read : (a b c d e f g m : ℕ) → a ≡ word_at bs at → b ≡ word_at bs (at + 1) → c ≡ word_at bs (at + 2) → d ≡ word_at bs (at + 3)
      → e ≡ word_at bs (at + 4) → f ≡ word_at bs (at + 5) → g ≡ word_at bs (at + 6) → m ≡ (head_of_row edition (numbers_at bs edition at)).maximum
      → ◌≡◌ {A = Head} (record { generation = a; live = b; name = c; attributes = d; count = e; owner = f; nest = g; maximum = m; waiters = 0 })
      (head_of_row edition (numbers_at bs edition at))
  head_read a b c d e f g m ea eb ec ed ee ef eg em =
      let la = ea ∙ ap (word_at bs) (sym (add-zero at)) ∙ number_first 0 (omega arith) in
      let lb = eb ∙ number_first 1 (omega arith) in
      let lc = ec ∙ number_first 2 (omega arith) in
      let ld = ed ∙ number_first 3 (omega arith) in
      let le = ee ∙ number_first 4 (omega arith) in
      let lf = ef ∙ number_first 5 (omega arith) in
      let lg = eg ∙ number_first 6 (omega arith) in
      λ k. record { generation = la k; live = lb k; name = lc k; attributes = ld k; count = le k; owner = lf k; nest = lg k; maximum = em k; waiters = 0 }

  pub maximum_read : (m : ℕ) → (edition ≡ first_edition → ⊥) → m ≡ word_at bs (at + 7) → m ≡ (head_of_row edition (numbers_at bs edition at)).maximum
  maximum_read m other e =
      let second : eqb edition first_edition ≡ false = ne_eqb edition first_edition other in
      e ∙ number_at 7 (omega (arith, eight edition 1 second)) ∙ sym (if_no _ _ second)

  -- edition 1 tells it by these two
  pub maximum_told : (m live attributes : ℕ) → edition ≡ first_edition → live ≡ word_at bs (at + 1) → attributes ≡ word_at bs (at + 3)
      → m ≡ first_maximum live attributes → m ≡ (head_of_row edition (numbers_at bs edition at)).maximum
  maximum_told m live attributes first el ea e =
      e ∙ ap₂ (λ (l a : ℕ). first_maximum l a) (el ∙ number_first 1 (omega arith)) (ea ∙ number_first 3 (omega arith))
      ∙ sym (if_yes _ _ (eq-eqb edition first_edition first))

-- one number more at the end
row_more : (bs : List ℕ) (at k q : ℕ) → q ≡ word_at bs (at + k) → row_at bs at k ++ q ∷ [] ≡ row_at bs at (k + 1)
row_more bs at k q e =
    ap (λ (w : ℕ). row_at bs at k ++ w ∷ []) e ∙ tabulate_last k (λ j. word_at bs (at + j)) ∙ ap (λ (n : ℕ). row_at bs at n) (sym (add-one k))

-- ---- the sequence of ready tasks, where there was none

abbrev pub ReadyUpTo : List ℕ → List ℕ → ℕ → List ℕ → ℕ → Type 0
ReadyUpTo m₀ bs at m k = (t : Tables) → m₀ ≡ laid t → t.ready ≡ [] → m ≡ laid (with_ready t (row_at bs at k))

module _ (m₀ bs : List ℕ) (at : ℕ) where
  pub ready_none : ReadyUpTo m₀ bs at m₀ 0
  unfolding tabulate
  ready_none t e n = e ∙ ap (λ (r : List ℕ). laid (with_ready t r)) n

  pub ready_more : (m m' : List ℕ) (k q : ℕ) → k < 32 → q ≡ word_at bs (at + k) → ReadyUpTo m₀ bs at m k
      → ((t : Tables) → m ≡ laid t → length t.ready < 32 → m' ≡ laid (with_ready t (t.ready ++ q ∷ []))) → ReadyUpTo m₀ bs at m' (k + 1)
  ready_more m m' k q h w u s t e n =
      let few : length (row_at bs at k) < 32 = omega (arith, length_tabulate k (λ j. word_at bs (at + j))) in
      s (with_ready t (row_at bs at k)) (u t e n) few ∙ ap (λ (r : List ℕ). laid (with_ready t r)) (row_more bs at k q w)

-- ---- a slot's queue, where it was empty

abbrev pub QueueUpTo : List ℕ → ℕ → List ℕ → ℕ → List ℕ → ℕ → Type 0
QueueUpTo m₀ i bs at m k =
    (t : Tables) → m₀ ≡ laid t → i < length t.slots → queue_of t i ≡ []
    → m ≡ laid (with_slots t (set t.slots i (requeued (get_or t.slots i (free_slot 0)) (row_at bs at k))))

-- what is made of a slot that was stored before
again : (slots : List Slot) (i : ℕ) (s : Slot) (f : Slot → Slot) → i < length slots
    → set (set slots i s) i (f (get_or (set slots i s) i (free_slot 0))) ≡ set slots i (f s)
again slots i s f h =
    ap (λ (x : Slot). set (set slots i s) i (f x)) (get_or-set_same slots i s (free_slot 0) h) ∙ set-set slots i s (f s)

module _ (m₀ : List ℕ) (i : ℕ) (bs : List ℕ) (at : ℕ) where
  pub queue_none : QueueUpTo m₀ i bs at m₀ 0
  unfolding tabulate
  queue_none t e h n =
      let slot : Slot = get_or t.slots i (free_slot 0) in
      e ∙ ap (λ (ss : List Slot). laid (with_slots t ss)) (sym (set-get_or t.slots i (free_slot 0)) ∙ ap (λ (q : List ℕ). set t.slots i (requeued slot q)) n)

  pub queue_more : (m m' : List ℕ) (k q : ℕ) → k < 32 → q ≡ word_at bs (at + k) → QueueUpTo m₀ i bs at m k
      → ((t : Tables) → m ≡ laid t → i < length t.slots → length (queue_of t i) < 32
      → m' ≡ laid (with_slots t (set t.slots i (requeued (get_or t.slots i (free_slot 0)) (queue_of t i ++ q ∷ [])))))
      → QueueUpTo m₀ i bs at m' (k + 1)
  queue_more m m' k q l w u s t e h n =
      let slot : Slot = get_or t.slots i (free_slot 0) in
      let row : List ℕ = row_at bs at k in
      let slots : List Slot = set t.slots i (requeued slot row) in
      let same : queue_of (with_slots t slots) i ≡ row =
      ap (λ (x : Slot). x.queue) (get_or-set_same t.slots i (requeued slot row) (free_slot 0) h)
      in
      let few : length (queue_of (with_slots t slots) i) < 32 = omega (arith, ap length same, length_tabulate k (λ j. word_at bs (at + j))) in
      s (with_slots t slots) (u t e h n) (rw length-set h) few
      ∙ ap (λ (ss : List Slot). laid (with_slots t ss))
      (again t.slots i (requeued slot row) (λ x. requeued x (x.queue ++ q ∷ [])) h
      ∙ ap (λ (r : List ℕ). set t.slots i (requeued slot r)) (row_more bs at k q w))

-- ---- a slot: its numbers, and then its queue

pub slot_filled : (m m₁ m₂ : List ℕ) (i : ℕ) (bs : List ℕ) (edition at queue n : ℕ) (s : Head)
    → s ≡ head_of_row edition (numbers_at bs edition at)
    → ((t : Tables) → m ≡ laid t → i < length t.slots → s.waiters ≡ length (queue_of t i)
    → m₁ ≡ laid (with_slots t (set t.slots i (slot_with s (queue_of t i)))))
    → QueueUpTo m₁ i bs queue m₂ n
    → (t : Tables) → m ≡ laid t → i < length t.slots → queue_of t i ≡ []
    → m₂ ≡ laid (with_slots t (set t.slots i (slot_read bs edition at queue n)))
slot_filled m m₁ m₂ i bs edition at queue n s e w u t l h none =
    let slot : Slot = slot_with s (queue_of t i) in
    let slots : List Slot = set t.slots i slot in
    let empty : s.waiters ≡ length (queue_of t i) = ap (λ (x : Head). x.waiters) e ∙ sym (ap length none) in
    let still : queue_of (with_slots t slots) i ≡ [] = ap (λ (x : Slot). x.queue) (get_or-set_same t.slots i slot (free_slot 0) h) ∙ none in
    u (with_slots t slots) (w t l h empty) (rw length-set h) still
    ∙ ap (λ (ss : List Slot). laid (with_slots t ss)) (again t.slots i slot (λ x. requeued x (row_at bs queue n)) h)
    ∙ ap (λ (x : Head). laid (with_slots t (set t.slots i (slot_with x (row_at bs queue n))))) e

-- ---- a list stored from the front on

module _ {A : Type 0} where
  front_more : (xs whole : List A) (i : ℕ) (v d : A) → i < length whole → v ≡ get_or whole i d
      → set (sets xs 0 (take i whole)) i v ≡ sets xs 0 (take (i + 1) whole)
  front_more xs whole i v d h e =
      let place : i ≡ 0 + length (take i whole) = omega (arith, length-take-le i whole (omega arith)) in
      ap₂ (λ (k : ℕ) (x : A). sets (sets xs 0 (take i whole)) k (x ∷ [])) place e
      ∙ sets_join xs 0 (take i whole) (get_or whole i d ∷ [])
      ∙ ap (λ (r : List A). sets xs 0 r) (sym (take-suc whole i d h))
      ∙ ap (λ (n : ℕ). sets xs 0 (take n whole)) (sym (add-one i))

  front_all : (xs whole : List A) (i : ℕ) → i ≡ length whole → length xs ≡ length whole → sets xs 0 (take i whole) ≡ whole
  front_all xs whole i e l =
      ap (λ (n : ℕ). sets xs 0 (take n whole)) e ∙ ap (λ (r : List A). sets xs 0 r) (take-length whole) ∙ sets_whole xs whole l

  -- behind what is stored everything stays
  get_d_behind : (xs : List A) (i : ℕ) (vs : List A) (k : ℕ) (d : A) → i + length vs ≤ k → get_or (sets xs i vs) k d ≡ get_or xs k d
  get_d_behind xs i [] k d h = refl
  get_d_behind xs i (v ∷ vs) k d h =
      get_d_behind (set xs i v) (suc i) vs k d (omega arith) ∙ get_or-set_other xs i k v d (λ e. omega arith)

-- ---- the tasks

abbrev pub TasksUpTo : List ℕ → List ℕ → ℕ → List ℕ → ℕ → Type 0
TasksUpTo m₀ bs n m i = (t : Tables) → m₀ ≡ laid t → length t.tasks ≡ n → m ≡ laid (with_tasks t (sets t.tasks 0 (take i (tasks_from bs n))))

task_at_lem : (bs : List ℕ) (n i : ℕ) → i < n → task_from (row_at bs (14 + 4 * i) 4) ≡ get_or (tasks_from bs n) i no_task
unfolding tasks_from
task_at_lem bs n i h = sym (get_d_tabulate n (λ i. task_from (row_at bs (14 + 4 * i) 4)) i no_task h)

module _ (m₀ bs : List ℕ) (n : ℕ) where
  pub tasks_none : TasksUpTo m₀ bs n m₀ 0
  tasks_none t e l = e

  pub tasks_more : (m m' : List ℕ) (i : ℕ) (v : Task) → i < 32 → i < n → v ≡ task_from (row_at bs (14 + 4 * i) 4)
      → m' ≡ sets m (4 * task_place i) (bytes_of (task_row v)) → TasksUpTo m₀ bs n m i → TasksUpTo m₀ bs n m' (i + 1)
  tasks_more m m' i v b h e w u t l long =
      let whole : List Task = tasks_from bs n in
      let tasks : List Task = sets t.tasks 0 (take i whole) in
      w
      ∙ ap (λ (x : List ℕ). sets x (4 * task_place i) (bytes_of (task_row v))) (u t l long)
      ∙ store_task_laid (with_tasks t tasks) i v b (omega (arith, length-sets t.tasks 0 (take i whole)))
      ∙ ap (λ (ts : List Task). laid (with_tasks t ts)) (front_more t.tasks whole i v no_task (omega (arith, length_tasks_from bs n)) (e ∙ task_at_lem bs n i h))

  pub tasks_all : (m : List ℕ) (i : ℕ) → i ≡ n → TasksUpTo m₀ bs n m i
      → (t : Tables) → m₀ ≡ laid t → length t.tasks ≡ n → m ≡ laid (with_tasks t (tasks_from bs n))
  tasks_all m i e u t l long =
      let whole : n ≡ length (tasks_from bs n) = sym (length_tasks_from bs n) in
      u t l long ∙ ap (λ (ts : List Task). laid (with_tasks t ts)) (front_all t.tasks (tasks_from bs n) i (e ∙ whole) (long ∙ whole))

-- ---- the slots

-- the next slot, and those behind it, by its queue's length n
pub slots_next : (bs : List ℕ) (edition left at queue n : ℕ) → n ≡ word_at bs queue
    → slots_from bs edition (suc left) at queue ≡ slot_read bs edition at (queue + 1) n ∷ slots_from bs edition left (at + slot_numbers edition 1) (queue + 1 + n)
unfolding slots_from
slots_next bs edition left at queue n e =
    sym (ap₂ (λ (q w : ℕ). slot_read bs edition at q w ∷ slots_from bs edition left (at + slot_numbers edition 1) (q + w)) (add-one queue) e)

pub queues_next : (bs : List ℕ) (left queue end n : ℕ) → n ≡ word_at bs queue
    → queues_fit bs (suc left) queue end ≡ (leb (queue + 1) end and leb n 32 and leb (queue + 1 + n) end and queues_fit bs left (queue + 1 + n) end)
unfolding queues_fit
queues_next bs left queue end n e =
    sym (ap₂ (λ (q w : ℕ). leb q end and leb w 32 and leb (q + w) end and queues_fit bs left (q + w) end) (add-one queue) e)

-- with i slots passed, the rest of the work
pub record Rest (bs : List ℕ) (edition slots at queues end i queue : ℕ) : Type 0 where
  pub behind : drop i (slots_from bs edition slots at queues) ≡ slots_from bs edition (slots - i) (at + slot_numbers edition i) queue
  pub fits : queues_fit bs slots queues end ≡ queues_fit bs (slots - i) queue end

module _ (bs : List ℕ) (edition slots at queues end : ℕ) where
  pub rest_none : Rest bs edition slots at queues end 0 queues
  rest_none =
      let all : slots ≡ slots - 0 = omega arith in
      let same : at ≡ at + slot_numbers edition 0 = omega (arith, numbers_none edition) in
      record {
        behind = ap₂ (λ (n k : ℕ). slots_from bs edition n k queues) all same;
        fits = ap (λ (n : ℕ). queues_fit bs n queues end) all;
      }

  -- one slot more, whose queue has the length n
  module _ (i queue n : ℕ) (rest : Rest bs edition slots at queues end i queue) (more : i < slots) (e : n ≡ word_at bs queue) where
    left : slots - i ≡ suc (slots - (i + 1))
    left = omega arith

    tested : queues_fit bs slots queues end
        ≡ (leb (queue + 1) end and leb n 32 and leb (queue + 1 + n) end and queues_fit bs (slots - (i + 1)) (queue + 1 + n) end)
    tested = rest.fits ∙ ap (λ (k : ℕ). queues_fit bs k queue end) left ∙ queues_next bs (slots - (i + 1)) queue end n e

    split : drop i (slots_from bs edition slots at queues)
        ≡ slot_read bs edition (at + slot_numbers edition i) (queue + 1) n
        ∷ slots_from bs edition (slots - (i + 1)) (at + slot_numbers edition i + slot_numbers edition 1) (queue + 1 + n)
    split =
        rest.behind
        ∙ ap (λ (k : ℕ). slots_from bs edition k (at + slot_numbers edition i) queue) left
        ∙ slots_next bs edition (slots - (i + 1)) (at + slot_numbers edition i) queue n e

    pub too_long : queue + 1 ≤ end → 32 < n → false ≡ queues_fit bs slots queues end
    too_long h l = sym (tested ∙ search cases)

    pub beyond : queue + 1 ≤ end → n ≤ 32 → end < queue + 1 + n → false ≡ queues_fit bs slots queues end
    beyond h l b = sym (tested ∙ search cases)

    pub rest_more : queue + 1 ≤ end → n ≤ 32 → queue + 1 + n ≤ end → Rest bs edition slots at queues end (i + 1) (queue + 1 + n)
    rest_more h l b =
        let next : at + slot_numbers edition i + slot_numbers edition 1 ≡ at + slot_numbers edition (i + 1) = omega (arith, numbers_more edition i) in
        record {
          behind =
              sym (drop-drop 1 i (slots_from bs edition slots at queues)) ∙ ap (λ (r : List Slot). drop 1 r) split
              ∙ ap (λ (k : ℕ). slots_from bs edition (slots - (i + 1)) k (queue + 1 + n)) next;
          fits = tested ∙ search cases;
        }

    slot_at : slot_read bs edition (at + slot_numbers edition i) (queue + 1) n ≡ get_or (slots_from bs edition slots at queues) i (free_slot 0)
    slot_at =
        sym (ap (λ (r : List Slot). get_or r 0 (free_slot 0)) split)
        ∙ get_or-drop i (slots_from bs edition slots at queues) 0 (free_slot 0)
        ∙ ap (λ (k : ℕ). get_or (slots_from bs edition slots at queues) k (free_slot 0)) (omega arith)

  -- there is no place for the next length
  pub no_length : (i queue : ℕ) → Rest bs edition slots at queues end i queue → i < slots → end ≤ queue → false ≡ queues_fit bs slots queues end
  no_length i queue rest more h =
      let b : end < queue + 1 = omega arith in
      sym (tested i queue (word_at bs queue) rest more refl ∙ search cases)

-- with the first i slots stored over free ones
abbrev pub SlotsUpTo : List ℕ → List ℕ → ℕ → ℕ → ℕ → ℕ → List ℕ → ℕ → Type 0
SlotsUpTo m₀ bs edition slots at queues m i =
    (t : Tables) → m₀ ≡ laid t → t.slots ≡ replicate slots (free_slot 0)
    → m ≡ laid (with_slots t (sets t.slots 0 (take i (slots_from bs edition slots at queues))))

-- what a read of the slots answers, and what it leaves where the queues fit
abbrev pub SlotsFilled : List ℕ → List ℕ → ℕ → ℕ → ℕ → ℕ → ℕ → List ℕ → Bool → Type 0
SlotsFilled m₀ bs edition slots at queues end m r =
    (r ≡ queues_fit bs slots queues end)
    × ((t : Tables) → m₀ ≡ laid t → t.slots ≡ replicate slots (free_slot 0) → r ≡ true → m ≡ laid (with_slots t (slots_from bs edition slots at queues)))

module _ (m₀ bs : List ℕ) (edition slots at queues end : ℕ) where
  pub slots_none : SlotsUpTo m₀ bs edition slots at queues m₀ 0
  slots_none t e free = e

  pub slots_more : (m m' : List ℕ) (i queue n place : ℕ) → Rest bs edition slots at queues end i queue → i < slots → n ≡ word_at bs queue
      → place ≡ at + slot_numbers edition i → SlotsUpTo m₀ bs edition slots at queues m i
      → ((t : Tables) → m ≡ laid t → i < length t.slots → queue_of t i ≡ []
      → m' ≡ laid (with_slots t (set t.slots i (slot_read bs edition place (queue + 1) n))))
      → SlotsUpTo m₀ bs edition slots at queues m' (i + 1)
  slots_more m m' i queue n place rest more e p u s t l free =
      let whole : List Slot = slots_from bs edition slots at queues in
      let stored : List Slot = sets t.slots 0 (take i whole) in
      let long : length whole ≡ slots = length_slots_from bs edition slots at queues in
      let front : length (take i whole) ≡ i = length-take-le i whole (omega arith) in
      let inside : i < length stored = omega (arith, length-sets t.slots 0 (take i whole), ap length free, length-replicate slots (free_slot 0)) in
      let empty : queue_of (with_slots t stored) i ≡ [] =
      ap (λ (x : Slot). x.queue)
      (get_d_behind t.slots 0 (take i whole) i (free_slot 0) (omega arith)
      ∙ ap (λ (ss : List Slot). get_or ss i (free_slot 0)) free
      ∙ get_d_same slots (free_slot 0) i)
      in
      s (with_slots t stored) (u t l free) inside empty
      ∙ ap (λ (ss : List Slot). laid (with_slots t ss))
      (front_more t.slots whole i _ (free_slot 0) (omega arith)
      (ap (λ (a : ℕ). slot_read bs edition a (queue + 1) n) p ∙ slot_at bs edition slots at queues end i queue n rest more e))

  pub slots_all : (m : List ℕ) (i queue : ℕ) → i ≡ slots → Rest bs edition slots at queues end i queue → SlotsUpTo m₀ bs edition slots at queues m i
      → SlotsFilled m₀ bs edition slots at queues end m (eqb queue end)
  unfolding queues_fit
  slots_all m i queue e rest u =
      let none : slots - i ≡ 0 = omega arith in
      let long : length (slots_from bs edition slots at queues) ≡ slots = length_slots_from bs edition slots at queues in (
        sym (rest.fits ∙ ap (λ (k : ℕ). queues_fit bs k queue end) none),
        λ t l free f.
            u t l free
            ∙ ap (λ (ss : List Slot). laid (with_slots t ss))
            (front_all t.slots (slots_from bs edition slots at queues) i (e ∙ sym long) (ap length free ∙ length-replicate slots (free_slot 0) ∙ sym long)),
      )

-- ---- all of it: the counts, the tasks, the slots, the sequence

module _ (bs : List ℕ) (c : Counts) (queues ready : ℕ) (e : c ≡ counts_in bs) (eq : queues ≡ queues_start c) (er : ready ≡ ready_start c) where
  pub queues_tested : queues_fit bs c.slots queues ready ≡ is_filled bs
  queues_tested =
      ap₂ (λ (q r : ℕ). queues_fit bs c.slots q r) eq er ∙ ap (λ (c : Counts). queues_fit bs c.slots (queues_start c) (ready_start c)) e

  pub tables_filled : (m₀ m₁ m₂ m₃ m₄ : List ℕ) (at : ℕ) → at ≡ slots_start c
      → m₁ ≡ sets m₀ 0 (bytes_of (c.tasks ∷ c.slots ∷ []))
      → ((t : Tables) → m₁ ≡ laid t → length t.tasks ≡ c.tasks → m₂ ≡ laid (with_tasks t (tasks_from bs c.tasks)))
      → ((t : Tables) → m₂ ≡ laid t → t.slots ≡ replicate c.slots (free_slot 0) → m₃ ≡ laid (with_slots t (slots_from bs c.edition c.slots at queues)))
      → ((t : Tables) → m₃ ≡ laid t → t.ready ≡ [] → m₄ ≡ laid (with_ready t (row_at bs ready c.ready)))
      → m₀ ≡ laid unstarted → m₄ ≡ laid (tables_in bs)
  unfolding tables_in tabulate
  tables_filled m₀ m₁ m₂ m₃ m₄ at ea counts tasks slots sequence before =
      let ts : List Task = tasks_from bs c.tasks in
      let n : length ts ≡ c.tasks = length_tasks_from bs c.tasks in
      let t₁ : Tables = starting c.slots ts 0 0 in
      let t₂ : Tables = with_tasks t₁ ts in
      let t₃ : Tables = with_slots t₂ (slots_from bs c.edition c.slots at queues) in
      let counted : m₁ ≡ laid t₁ =
      counts ∙ ap₂ (λ (x : List ℕ) (k : ℕ). sets x 0 (bytes_of (k ∷ c.slots ∷ []))) before (sym n) ∙ start_counts c.slots ts
      in
      let long : length t₁.tasks ≡ c.tasks = length_fit (length ts) no_task [] ∙ n in
      sequence t₃ (slots t₂ (tasks t₁ counted long) refl) refl
      ∙ ap (λ (a : ℕ). laid (record { tasks = ts; slots = slots_from bs c.edition c.slots a queues; ready = row_at bs ready c.ready })) ea
      ∙ ap₂
      (λ (q r : ℕ). laid (record { tasks = ts; slots = slots_from bs c.edition c.slots (slots_start c) q; ready = row_at bs r c.ready })) eq er
      ∙ ap
      (λ (c : Counts).
      laid
      (record {
        tasks = tasks_from bs c.tasks;
        slots = slots_from bs c.edition c.slots (slots_start c) (queues_start c);
        ready = row_at bs (ready_start c) c.ready;
      }))
      e
