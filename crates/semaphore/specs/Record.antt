-- A semaphore's record in code, and the slot of the rules that it stands for.
use Rattle.std.specs.Prelude.{◌≡◌, Result, Ok, Err, Option, None, IfSome, if◌then◌else◌, Bool, false, List, [], ◌∷◌, ℕ, pred, ◌≤◌, ◌<◌, length, get_or, take}
use Rattle.std.specs.Option.{unwrap_or}
use Rattle.laws.specs.Choose.{choose}
use Rattle.laws.specs.Rows.{fit}
use Rattle.rules.specs.Machine.{Slot}
use Rattle.rules.specs.Numbers.{successful, waiting}
use Rattle.rules.specs.declared.refusal.Refusal.{Refusal}
use Rattle.rules.specs.Status.{status_of, status}
use Rattle.rules.specs.Semaphore as rules
use Rattle.semaphore.specs.declared.Semaphore.{Semaphore}
use Rattle.semaphore.specs.declared.Kept.{Kept}
use Rattle.semaphore.specs.declared.Taken.{Taken}
use Rattle.semaphore.specs.declared.Given.{Given}

abbrev pub slot_from : Semaphore → Slot
slot_from s =
    record {
      generation = s.generation;
      live = s.live;
      name = s.name;
      attributes = s.attributes;
      count = s.count;
      owner = s.owner;
      nest = s.nest;
      maximum = s.maximum;
      queue = take s.waiters s.queue;
    }

-- the record that stands for a slot, its queue filled up with 0
abbrev pub record_of : Slot → Semaphore
record_of s =
    record {
      generation = s.generation;
      live = s.live;
      name = s.name;
      attributes = s.attributes;
      count = s.count;
      owner = s.owner;
      nest = s.nest;
      maximum = s.maximum;
      waiters = length s.queue;
      queue = fit 32 0 s.queue;
    }

-- the queue has at most 32 waiters, and 0 behind them
pub record Padded (s : Semaphore) : Type 0 where
  pub few : s.waiters ≤ 32
  pub filled : s.queue ≡ fit 32 0 (take s.waiters s.queue)

-- the record stands for a slot of the rules
pub record Stands (s : Semaphore) (slot : Slot) : Type 0 where
  pub same : slot_from s ≡ slot
  pub padded : Padded s

-- ---- what a take and a give answer

-- the status number of a take: 0, or 100 where the caller waits, or the refusal's
abbrev pub take_status : Result Taken Refusal → ℕ
take_status (Ok taken) = if taken.waits then waiting else successful
take_status (Err e) = status_of e

-- the record after a take and after a give: a refusal leaves it as it was
abbrev pub after_take : Semaphore → Result Taken Refusal → Semaphore
after_take s (Ok taken) = taken.semaphore
after_take s (Err e) = s

abbrev pub after_give : Semaphore → Result Given Refusal → Semaphore
after_give s (Ok given) = given.semaphore
after_give s (Err e) = s

-- the task that a give wakes
abbrev pub woken_by : Result Given Refusal → Option ℕ
woken_by (Ok given) = given.woken
woken_by (Err e) = None

-- a task that waits in a queue
pub record Waits (queue : List ℕ) (q : ℕ) : Type 0 where
  pub place : ℕ
  pub within : place < length queue
  pub is : q ≡ get_or queue place 0

-- a take and a give of the record s answer as the rules' steps do
pub record TakenIs (s : Semaphore) (r : Result Taken Refusal) (rule : rules.Taken) : Type 0 where
  pub status : take_status r ≡ rule.status
  pub semaphore : Stands (after_take s r) rule.slot

pub record GivenIs (s : Semaphore) (r : Result Given Refusal) (rule : rules.Given) : Type 0 where
  pub status : status r ≡ rule.status
  pub woken : unwrap_or (woken_by r) 0 ≡ rule.woken
  pub waiter : IfSome (woken_by r) (Waits (take s.waiters s.queue))
  pub semaphore : Stands (after_give s r) rule.slot

-- ---- a queue without the tasks whose wait has ended

-- the waiters are numbers of tasks
pub record TasksOnly (waiters : ℕ) (queue : List ℕ) : Type 0 where
  pub low : (k : ℕ) → k < waiters → 1 ≤ get_or queue k 0
  pub high : (k : ℕ) → k < waiters → get_or queue k 0 ≤ 32

-- the tasks q of a queue but those with `expired` at q - 1
unfoldable pub keep : List Bool → List ℕ → List ℕ
keep expired [] = []
keep expired (q ∷ qs) = let rest = keep expired qs in choose (get_or expired (pred q) false) rest (q ∷ rest)

abbrev pub slot_keeping : Slot → List Bool → Slot
slot_keeping s expired = rules.requeued s (keep expired s.queue)

-- the queue in code has these waiters, and 0 behind them
pub record KeptIs (r : Kept) (qs : List ℕ) : Type 0 where
  pub few : length qs ≤ 32
  pub waiters : r.waiters ≡ length qs
  pub tasks : r.tasks ≡ fit 32 0 qs
