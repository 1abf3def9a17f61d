-- Agreement as plain facts of every place of the tables; a look outside finds a task and a slot of which they hold too.
use mathlib.Core.Path.{◌≡◌, refl}
use mathlib.Core.Bool.{Bool, true, false}
use mathlib.Core.List.{List}
use mathlib.Core.Logic.{◌⊎◌, ⊎_elim}
use Prim.Native.Nat.{ℕ, suc, ◌≤◌, ◌<◌}
use native.Mathlib.Omega.{arith}
use native.Mathlib.Decide.{dec_lt}
use lib.Dec.{eqb}
use lib.ListN.{length, get_or, get_or-eq_default}
use Rattle.laws.specs.Choose.{choose, ◌and◌, ◌or◌, bit}
use Rattle.laws.proofs.Choose.{tested, never, choose_cases}
use Rattle.rules.specs.declared.Task.{Task}
use Rattle.rules.specs.Numbers.{max_priority, max_generation, max_number, allowed, is_binary, is_simple, class_maximum}
use Rattle.rules.specs.Machine.{Slot, Tables, no_task, free_slot, waits, is_live, id_of}
use Rattle.rules.specs.Agreement.{occurs, is_ready_task, answer_fits, sizes_fit}

-- counted from 0
abbrev pub nth_task : Tables → ℕ → Task
nth_task t i = get_or t.tasks i no_task

abbrev pub nth_slot : Tables → ℕ → Slot
nth_slot t j = get_or t.slots j (free_slot 0)

abbrev pub waits_on : Task → ℕ → Bool
waits_on v id = waits v and eqb v.awaited id

-- what is true of each task
pub record TaskFits (v : Task) : Type 0 where
  pub answer : answer_fits v ≡ true
  pub awaited : v.awaited ≤ max_number
  pub ticks : v.ticks ≤ max_number
  pub at_rest : waits v ≡ false → (v.ticks ≡ 0) × (v.awaited ≡ 0)

-- a binary semaphore that nobody holds
pub record Unheld (s : Slot) : Type 0 where
  pub count : s.count ≡ 1
  pub owner : s.owner ≡ 0
  pub nest : s.nest ≡ 0

-- one that a task of the N holds, who is not in its queue
pub record Held (N : ℕ) (s : Slot) : Type 0 where
  pub count : s.count ≡ 0
  pub task : 1 ≤ s.owner
  pub most : s.owner ≤ N
  pub apart : occurs s.owner s.queue ≡ 0
  pub nest : 1 ≤ s.nest

-- a semaphore of another class
pub record Unowned (s : Slot) : Type 0 where
  pub owner : s.owner ≡ 0
  pub nest : s.nest ≡ 0
  pub simple : is_simple s.attributes ≡ true → s.count ≤ 1

-- its maximum is one that create allows, and the count at most that
pub record MaximumFits (s : Slot) : Type 0 where
  pub least : 1 ≤ s.maximum
  pub most : s.maximum ≤ class_maximum s.attributes
  pub count : s.count ≤ s.maximum

-- what is true of a live slot, with N tasks
pub record LiveFits (N : ℕ) (s : Slot) : Type 0 where
  pub generation : 1 ≤ s.generation
  pub named : 1 ≤ s.name
  pub attributed : allowed s.attributes ≡ true
  pub entries : occurs 0 s.queue ≡ 0
  pub at_zero : 1 ≤ length s.queue → s.count ≡ 0
  pub owned : is_binary s.attributes ≡ true → Unheld s ⊎ Held N s
  pub unowned : is_binary s.attributes ≡ false → Unowned s
  pub maximum : MaximumFits s

-- of a free slot
pub record FreeFits (s : Slot) : Type 0 where
  pub name : s.name ≡ 0
  pub attributes : s.attributes ≡ 0
  pub count : s.count ≡ 0
  pub owner : s.owner ≡ 0
  pub nest : s.nest ≡ 0
  pub maximum : s.maximum ≡ 0
  pub queue : length s.queue ≡ 0

-- of each slot
pub record SlotFits (N : ℕ) (s : Slot) : Type 0 where
  pub generation : s.generation ≤ max_generation
  pub live : s.live ≤ 1
  pub name : s.name ≤ max_number
  pub count : s.count ≤ max_number
  pub nest : s.nest ≤ max_number
  pub when_live : is_live s ≡ true → LiveFits N s
  pub when_free : is_live s ≡ false → FreeFits s

-- an identifier is that of a live slot
pub record Names (slot : ℕ → Slot) (id : ℕ) : Type 0 where
  pub place : ℕ
  pub live : is_live (slot place) ≡ true
  pub is : id ≡ id_of (suc place) (slot place)

-- a task stands in a live slot's queue once if it waits on its identifier, else not at all
abbrev pub Counted : ℕ → Task → ℕ → Slot → Type 0
Counted i v j s = is_live s ≡ true → occurs (suc i) s.queue ≡ bit (waits_on v (id_of (suc j) s))

-- tasks and queues
pub record Linked (task : ℕ → Task) (slot : ℕ → Slot) : Type 0 where
  pub counted : (i j : ℕ) → Counted i (task i) j (slot j)
  pub named : (i : ℕ) → waits (task i) ≡ true → Names slot (task i).awaited

pub record Facts (t : Tables) : Type 0 where
  pub sizes : sizes_fit t ≡ true
  pub urgent : (i : ℕ) → i < length t.tasks → (1 ≤ (nth_task t i).priority) × ((nth_task t i).priority ≤ max_priority)
  pub tasks : (i : ℕ) → TaskFits (nth_task t i)
  pub slots : (j : ℕ) → SlotFits (length t.tasks) (nth_slot t j)
  pub linked : Linked (nth_task t) (nth_slot t)
  -- a task stands in the sequence once if it is ready, else not at all
  pub ready : (q : ℕ) → occurs q t.ready ≡ bit (is_ready_task t q)

-- ---- outside

pub none_fits : TaskFits no_task
unfolding choose
none_fits = record { answer = refl; awaited = omega arith; ticks = omega arith; at_rest = λ e. (refl, refl) }

pub free_fits : (N : ℕ) (g : ℕ) → g ≤ max_generation → SlotFits N (free_slot g)
free_fits N g h =
    record {
      generation = h;
      live = omega arith;
      name = omega arith;
      count = omega arith;
      nest = omega arith;
      when_live = λ e. never e refl;
      when_free = λ e. record { name = refl; attributes = refl; count = refl; owner = refl; nest = refl; maximum = refl; queue = refl };
    }

-- no class has a greater maximum than 4294967295
pub class_within : (a : ℕ) → class_maximum a ≤ max_number
class_within a = choose_cases (λ (n : ℕ). n ≤ max_number) (is_binary a or is_simple a) 1 max_number (λ e. omega arith) (λ e. omega arith)

pub maximum_within : (N : ℕ) (s : Slot) → SlotFits N s → s.maximum ≤ max_number
maximum_within N s f =
    ⊎_elim (λ (l : is_live s ≡ true). omega (arith, (f.when_live l).maximum.most, class_within s.attributes))
    (λ (l : is_live s ≡ false). omega (arith, (f.when_free l).maximum)) (tested (is_live s))

-- what is so outside and at every place within is so everywhere
pub everywhere : {A : Type 0} (P : A → Type 0) (xs : List A) (d : A) → P d → ((i : ℕ) → i < length xs → P (get_or xs i d)) → (i : ℕ) → P (get_or xs i d)
everywhere P xs d out within i =
    elim (dec_lt i (length xs)) [
      | yes h ↦ within i h
      | no n ↦ let h : length xs ≤ i = omega arith in rw (get_or-eq_default xs d h) out
    ]

-- a task that waits is one of the N, a live slot one of the S
pub waits_within : (t : Tables) (i : ℕ) → waits (nth_task t i) ≡ true → i < length t.tasks
waits_within t i =
    elim (dec_lt i (length t.tasks)) [
      | yes h ↦ (λ e. h)
      | no n ↦ (λ e. let h : length t.tasks ≤ i = omega arith in never (rw (get_or-eq_default t.tasks no_task h) at e) refl)
    ]

pub live_within : (t : Tables) (j : ℕ) → is_live (nth_slot t j) ≡ true → j < length t.slots
live_within t j =
    elim (dec_lt j (length t.slots)) [
      | yes h ↦ (λ e. h)
      | no n ↦ (λ e. let h : length t.slots ≤ j = omega arith in never (rw (get_or-eq_default t.slots (free_slot 0) h) at e) refl)
    ]
