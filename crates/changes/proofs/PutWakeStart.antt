-- What each step's stores make of a layout. No bound on words is assumed: where the layout is in bytes, they are below 2 ^ 32.
use mathlib.Core.Path.{◌≡◌, refl, sym, ap, ap₂, ◌∙◌}
use mathlib.Core.List.{List, [], ◌∷◌, ◌++◌, map}
use Prim.Native.Nat.{ℕ, suc, pred, ◌+◌, ◌-◌, ◌*◌, ◌≤◌, ◌<◌}
use native.Mathlib.Numerals.{add-one, sub-one}
use native.Mathlib.Omega.{arith}
use lib.ListN.{length, get_or, take, length-map, length-append}
use lib.Seq.{sets, take-suc, length-take-le}
use Rattle.laws.proofs.Fit.{get_d_map, length_tabulate, tabulate_last}
use Rattle.words.specs.Words.{bytes_of}
use Rattle.words.proofs.WordsInBytes.{Bytes}
use Rattle.rules.specs.declared.Task.{Task}
use Rattle.rules.specs.Machine.{Slot, Tables, unstarted, with_ready, no_task, put_task, put_slot}
use Rattle.rules.specs.Calls.{readied, wake, wake_all, new_task, up_to, started}
use Rattle.rules.proofs.Invariants.Waking.{wake_all_length, wake_all_ready}
use Rattle.semaphore.specs.declared.Semaphore.{Semaphore}
use Rattle.semaphore.specs.Record.{Stands}
use Rattle.tables.specs.Codec.{task_row, record_row}
use Rattle.tables.specs.Layout.{task_place, slot_place, laid, task_at}
use Rattle.tables.proofs.LayoutRead.{task_numbered}
use Rattle.tables.proofs.LayoutStore.{store_task_laid, store_slot_laid, all_free, starting, start_counts, start_task, start_all}

-- ---- a task or a slot that is stored

pub task_put : (m m' : List ℕ) (q : ℕ) (v : Task) → 1 ≤ q → q ≤ 32 → m' ≡ sets m (4 * task_place (q - 1)) (bytes_of (task_row v))
    → (t : Tables) → m ≡ laid t → q ≤ length t.tasks → m' ≡ laid (put_task t q v)
task_put m m' q v l h w t e n =
    w
    ∙ ap₂ (λ (x : List ℕ) (i : ℕ). sets x (4 * task_place i) (bytes_of (task_row v))) e (sub-one q)
    ∙ store_task_laid t (pred q) v (omega arith) (omega arith)

pub slot_put : (m m' : List ℕ) (n : ℕ) (s : Semaphore) → 1 ≤ n → n ≤ 64 → m' ≡ sets m (4 * slot_place (n - 1)) (bytes_of (record_row s))
    → (t : Tables) (slot : Slot) → m ≡ laid t → Stands s slot → n ≤ length t.slots → m' ≡ laid (put_slot t n slot)
slot_put m m' n s l h w t slot e r k =
    w
    ∙ ap₂ (λ (x : List ℕ) (i : ℕ). sets x (4 * slot_place i) (bytes_of (record_row s))) e (sub-one n)
    ∙ store_slot_laid t (pred n) s (omega arith) (omega arith) r.padded
    ∙ ap (λ (x : Slot). laid (put_slot t n x)) r.same

-- what a task that joins the sequence makes of a layout
abbrev pub Joins : List ℕ → List ℕ → ℕ → Type 0
Joins m m' q = (t : Tables) → m ≡ laid t → length t.ready < 32 → m' ≡ laid (with_ready t (t.ready ++ q ∷ []))

-- a task that is read, readied and put, and joins the sequence
pub task_woken : (m m' m'' : List ℕ) (q answer : ℕ) (v ready : Task) → Bytes m → 1 ≤ q → q ≤ 32 → v ≡ task_at m (q - 1) → ready ≡ readied v answer
    → ((t : Tables) → m ≡ laid t → q ≤ length t.tasks → m' ≡ laid (put_task t q ready)) → Joins m' m'' q
    → (t : Tables) → m ≡ laid t → q ≤ length t.tasks → length t.ready < 32 → m'' ≡ laid (wake t q answer)
task_woken m m' m'' q answer v ready b l h u r s j t e n few =
    j (put_task t q ready) (s t e n) few
    ∙ ap (λ (x : Task). laid (with_ready (put_task t q x) (t.ready ++ q ∷ [])))
    (r ∙ ap (λ (x : Task). readied x answer) (u ∙ task_numbered m t q b e l h))

-- ---- the waiters of a queue are woken

wake_all_last : (t : Tables) (qs : List ℕ) (q answer : ℕ) → wake_all t (qs ++ q ∷ []) answer ≡ wake (wake_all t qs answer) q answer
unfolding wake_all
wake_all_last t [] q answer = refl
wake_all_last t (p ∷ qs) q answer = wake_all_last (wake t p answer) qs q answer

-- one more of a queue
pub wake_next : (t : Tables) (queue : List ℕ) (k answer : ℕ) → k < length queue
    → wake (wake_all t (take k queue) answer) (get_or queue k 0) answer ≡ wake_all t (take (k + 1) queue) answer
wake_next t queue k answer h =
    sym (wake_all_last t (take k queue) (get_or queue k 0) answer)
    ∙ ap (λ (qs : List ℕ). wake_all t qs answer) (rw (add-one, take-suc queue k 0) refl)

-- with the first k of the waiters woken
abbrev pub Woken : List ℕ → List ℕ → ℕ → ℕ → List ℕ → ℕ → Type 0
Woken m₀ queue waiters answer m k =
    (t : Tables) → m₀ ≡ laid t → ((j : ℕ) → j < waiters → get_or queue j 0 ≤ length t.tasks) → length t.ready + waiters ≤ 32
    → m ≡ laid (wake_all t (take k queue) answer)

module _ (m₀ queue : List ℕ) (waiters answer : ℕ) where
  pub woken_none : Woken m₀ queue waiters answer m₀ 0
  unfolding wake_all
  woken_none t e h few = e

  pub woken_more : (m m' : List ℕ) (k : ℕ) → k < waiters → waiters ≤ length queue → Woken m₀ queue waiters answer m k
      → ((t : Tables) → m ≡ laid t → get_or queue k 0 ≤ length t.tasks → length t.ready < 32 → m' ≡ laid (wake t (get_or queue k 0) answer))
      → Woken m₀ queue waiters answer m' (k + 1)
  woken_more m m' k l h w s t e n few =
      s (wake_all t (take k queue) answer) (w t e n few) (rw wake_all_length (n k l)) room
      ∙ ap laid (wake_next t queue k answer (omega arith))
    where
      room : length (wake_all t (take k queue) answer).ready < 32
      room = rw (wake_all_ready (take k queue) t answer, length-append) (omega (arith, length-take-le k queue (omega arith)))

-- ---- start

-- with the first i tasks stored behind the counts, and in the sequence
abbrev pub StartedUpTo : List ℕ → ℕ → List ℕ → List ℕ → ℕ → Type 0
StartedUpTo m₀ slots priorities m i =
    m₀ ≡ laid (starting slots (map new_task priorities) 0 0) → m ≡ laid (starting slots (map new_task priorities) i i)

module _ (m₀ : List ℕ) (slots : ℕ) (priorities : List ℕ) where
  pub started_more : (m m' m'' : List ℕ) (i : ℕ) (v : Task) → i < 32 → i < length priorities → v ≡ new_task (get_or priorities i 0)
      → m' ≡ sets m (4 * task_place i) (bytes_of (task_row v)) → Joins m' m'' (i + 1)
      → StartedUpTo m₀ slots priorities m i → StartedUpTo m₀ slots priorities m'' (i + 1)
  started_more m m' m'' i v l h n w j s e =
      let ts : List Task = map new_task priorities in
      let u : v ≡ get_or ts i no_task = n ∙ sym (get_d_map new_task priorities i 0 no_task h) in
      let k : i < length ts = omega (arith, length-map priorities new_task) in
      let stored : m' ≡ laid (starting slots ts (suc i) i) =
      w
      ∙ ap (λ (x : List ℕ). sets x (4 * task_place i) (bytes_of (task_row v))) (s e)
      ∙ ap (λ (x : Task). sets (laid (starting slots ts i i)) (4 * task_place i) (bytes_of (task_row x))) u
      ∙ start_task slots ts i i l k
      in
      j (starting slots ts (suc i) i) stored (omega (arith, length_tabulate i suc))
      ∙ ap (λ (q : ℕ). laid (with_ready (starting slots ts (suc i) i) (up_to i ++ q ∷ []))) (add-one i)
      ∙ ap (λ (qs : List ℕ). laid (with_ready (starting slots ts (suc i) i) qs)) (tabulate_last i suc)
      ∙ ap (λ (j : ℕ). laid (starting slots ts j j)) (sym (add-one i))

  pub started_all : (m : List ℕ) (i : ℕ) → i ≡ length priorities → StartedUpTo m₀ slots priorities m i
      → (before : List ℕ) → m₀ ≡ sets before 0 (bytes_of (length priorities ∷ slots ∷ [])) → before ≡ laid unstarted → m ≡ laid (started slots priorities)
  unfolding started
  started_all m i p s before w e =
      let ts : List Task = map new_task priorities in
      let n : length priorities ≡ length ts = sym (length-map priorities new_task) in
      let c : m₀ ≡ laid (starting slots ts 0 0) = w ∙ ap₂ (λ (x : List ℕ) (k : ℕ). sets x 0 (bytes_of (k ∷ slots ∷ []))) e n ∙ start_counts slots ts in
      s c ∙ ap (λ (j : ℕ). laid (starting slots ts j j)) (p ∙ n) ∙ ap laid (start_all slots ts)
      ∙ ap (λ (j : ℕ). laid (all_free slots ts (up_to j))) (sym n)
