-- Document 01: a task, a slot, the tables, the identifier; request 1: the sequence of ready tasks; request 8: the working priority, the next task.
-- Tasks and slots are counted from 1; 0 is none. `task_of t 0` and `slot_of t 0` are the first record, and nothing of that reaches an answer or the tables.
use Rattle.std.specs.Prelude.{Bool, List, [], ◌∷◌, ℕ, zero, suc, pred, ◌+◌, ◌*◌, ◌/◌, ◌%◌, leb, ltb, eqb, length, get_or, set}
use Rattle.laws.specs.Choose.{choose, ◌and◌}
use Rattle.rules.specs.declared.Task.{Task}
use Rattle.rules.specs.Numbers.{max_priority, within, inherits, waiting}

pub record Slot : Type 0 where
  -- goes up by one with each create in the slot, so that no identifier comes twice
  pub generation : ℕ
  -- 1 live, 0 free
  pub live : ℕ
  pub name : ℕ
  pub attributes : ℕ
  pub count : ℕ
  -- the task that owns a binary semaphore, or 0
  pub owner : ℕ
  -- how often the owner has obtained it and not released it
  pub nest : ℕ
  -- request 4: the greatest count, 0 while free
  pub maximum : ℕ
  -- the tasks that wait, in the order of their arrival
  pub queue : List ℕ

-- N is the number of tasks, S the number of slots
pub record Tables : Type 0 where
  pub tasks : List Task
  pub slots : List Slot
  -- the numbers of the ready tasks, the longest ready first
  pub ready : List ℕ

abbrev pub unstarted : Tables
unstarted = record { tasks = []; slots = []; ready = [] }

-- the same tables with other tasks, with other slots, and with another sequence
abbrev pub with_tasks : Tables → List Task → Tables
with_tasks t tasks = record { tasks = tasks; slots = t.slots; ready = t.ready }

abbrev pub with_slots : Tables → List Slot → Tables
with_slots t slots = record { tasks = t.tasks; slots = slots; ready = t.ready }

abbrev pub with_ready : Tables → List ℕ → Tables
with_ready t ready = record { tasks = t.tasks; slots = t.slots; ready = ready }

-- what a look beyond N or S finds
abbrev pub no_task : Task
no_task = record { priority = 0; answer = 0; awaited = 0; ticks = 0 }

abbrev pub free_slot : ℕ → Slot
free_slot g = record { generation = g; live = 0; name = 0; attributes = 0; count = 0; owner = 0; nest = 0; maximum = 0; queue = [] }

abbrev pub task_of : Tables → ℕ → Task
task_of t q = get_or t.tasks (pred q) no_task

abbrev pub slot_of : Tables → ℕ → Slot
slot_of t n = get_or t.slots (pred n) (free_slot 0)

abbrev pub put_task : Tables → ℕ → Task → Tables
put_task t q v = with_tasks t (set t.tasks (pred q) v)

abbrev pub put_slot : Tables → ℕ → Slot → Tables
put_slot t n s = with_slots t (set t.slots (pred n) s)

-- q is the number of one of the N tasks
abbrev pub is_task : Tables → ℕ → Bool
is_task t q = within 1 (length t.tasks) q

-- a task waits exactly while its answer is 100
abbrev pub waits : Task → Bool
waits v = eqb v.answer waiting

abbrev pub is_live : Slot → Bool
is_live s = eqb s.live 1

-- the identifier of the semaphore in slot n (H, in place of the RTEMS layout)
abbrev pub id_of : ℕ → Slot → ℕ
id_of n s = s.generation * 65536 + n

-- an identifier names a live semaphore: its slot is one of the S, live, and of its generation
abbrev pub names : Tables → ℕ → Bool
names t id =
    leb 1 (id % 65536) and leb (id % 65536) (length t.slots) and is_live (slot_of t (id % 65536))
    and eqb (slot_of t (id % 65536)).generation (id / 65536)

-- the slot that an identifier names, or 0
abbrev pub slot_named : Tables → ℕ → ℕ
slot_named t id = choose (names t id) (id % 65536) 0

-- ---- the working priority

-- the owner of the inheritance semaphore that task q waits on, or 0 where it waits on none
unfoldable pub lends_to : Tables → ℕ → ℕ
lends_to t q =
    let id = (task_of t q).awaited in
    let s = slot_of t (slot_named t id) in
    choose (is_task t q and waits (task_of t q) and names t id and inherits s.attributes) s.owner 0

-- r waits on an inheritance semaphore that q owns; 0 owns nothing
abbrev pub lends : Tables → ℕ → ℕ → Bool
lends t q r = leb 1 q and eqb (lends_to t r) q

-- the least of p and, of those of the tasks 1 to n that pass a test, of their numbers u
unfoldable pub least_of : (ℕ → Bool) → (ℕ → ℕ) → ℕ → ℕ → ℕ
least_of test u p zero = p
least_of test u p (suc n) = let least = least_of test u p n in choose (test (suc n) and ltb (u (suc n)) least) (u (suc n)) least

-- with so many links left: the least of its own number and, of those that wait on inheritance semaphores it owns, of their working priorities with one
-- link less. A task lends to one task only, so that it stands at most once at each depth: with N links the numbers of at most N * N tasks are asked for, in a
-- deadlock too (each by a look at all N tasks).
unfoldable pub working_with : Tables → ℕ → ℕ → ℕ
working_with t zero q = (task_of t q).priority
working_with t (suc links) q = least_of (lends t q) (working_with t links) (task_of t q).priority (length t.tasks)

-- the working priority, with at most N links: the number that queues with PRIORITY and the next task go by. The least is the most urgent.
unfoldable pub urgency : Tables → ℕ → ℕ
urgency t q = working_with t (length t.tasks) q

-- ---- the next task

-- from there on in a sequence of tasks, by their numbers u: `best` is the first of the least number before, which is p; 0 and 256 where there is none yet
unfoldable pub most_urgent : Tables → (ℕ → ℕ) → List ℕ → ℕ → ℕ → ℕ
most_urgent t u [] best p = best
most_urgent t u (q ∷ qs) best p =
    let better = is_task t q and ltb (u q) p in
    most_urgent t u qs (choose better q best) (choose better (u q) p)

-- of the tasks in the sequence of ready tasks the first of the least working priority, or 0 if there is none
unfoldable pub next : Tables → ℕ
next t = most_urgent t (urgency t) t.ready 0 (suc max_priority)
