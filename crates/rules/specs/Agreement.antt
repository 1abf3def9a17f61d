-- Document 01, with the sequence of ready tasks of request 1 and the maxima of request 4: when tables agree, a test for each clause. The clause on the order
-- of queues was dropped by request 8.
-- That the lent memory has its layout's length, and that everything beyond N, S, a queue's length and the sequence's is 0, is said of the bytes:
-- `is_laid` of crates/tables/specs/Layout.antt.
use Rattle.std.specs.Prelude.{◌≡◌, Bool, true, List, [], ◌∷◌, ℕ, suc, ◌+◌, ◌%◌, leb, eqb, length, get_or}
use Rattle.laws.specs.Choose.{◌and◌, ◌or◌, isnt, when, bit}
use Rattle.laws.specs.All.{all}
use Rattle.rules.specs.declared.Task.{Task}
use Rattle.rules.specs.Numbers.{max_tasks, max_slots, max_priority, max_generation, max_number, within, allowed, is_binary, is_simple, allowed_count}
use Rattle.rules.specs.Machine.{Slot, Tables, task_of, slot_of, is_task, waits, is_live, id_of, names}

-- a test of each task and its number, of each slot and its number, of each live slot and its number
abbrev pub each_task : Tables → (ℕ → Task → Bool) → Bool
each_task t p = all (length t.tasks) (λ i. p (suc i) (task_of t (suc i)))

abbrev pub each_slot : Tables → (ℕ → Slot → Bool) → Bool
each_slot t p = all (length t.slots) (λ i. p (suc i) (slot_of t (suc i)))

abbrev pub each_live : Tables → (ℕ → Slot → Bool) → Bool
each_live t p = each_slot t (λ n s. when (is_live s) (p n s))

-- how often a task stands in a queue, or in the sequence of ready tasks
unfoldable pub occurs : ℕ → List ℕ → ℕ
occurs q [] = 0
occurs q (x ∷ xs) = bit (eqb q x) + occurs q xs

-- q is a task that waits on the identifier
abbrev pub is_waiter : Tables → ℕ → ℕ → Bool
is_waiter t id q = is_task t q and waits (task_of t q) and eqb (task_of t q).awaited id

-- q is a task that is ready
abbrev pub is_ready_task : Tables → ℕ → Bool
is_ready_task t q = is_task t q and isnt (waits (task_of t q))

-- N and S: both 0 before start
abbrev pub counts_fit : ℕ → ℕ → Bool
counts_fit N S = (eqb N 0 and eqb S 0) or (within 1 max_tasks N and within 1 max_slots S)

-- ---- what is asked of one task q, v in the tables, and of one slot

-- its numbers are within their limits
abbrev pub task_in_limits : Task → Bool
task_in_limits v = within 1 max_priority v.priority and leb v.awaited max_number and leb v.ticks max_number

-- the endings of a wait, and the answer at start
abbrev pub is_ending : ℕ → Bool
is_ending a = eqb a 0 or eqb a 6 or eqb a 7 or eqb a 13

-- a waiting task's answer is 100 (that is what waiting is), a ready task's 0, 6, 7 or 13
abbrev pub answer_fits : Task → Bool
answer_fits v = waits v or is_ending v.answer

-- it stands once in the queue of the live semaphore it waits on
abbrev pub is_queued_once : Tables → ℕ → ℕ → Bool
is_queued_once t q id = names t id and eqb (occurs q (slot_of t (id % 65536)).queue) 1

-- 0 ticks left, and 0 as the identifier waited on
abbrev pub is_at_rest : Task → Bool
is_at_rest v = eqb v.ticks 0 and eqb v.awaited 0

abbrev pub slot_in_limits : Slot → Bool
slot_in_limits s =
    leb s.generation max_generation and leb s.live 1 and leb s.name max_number and leb s.count max_number
    and leb s.nest max_number

-- a generation of at least 1 and a name other than 0
abbrev pub is_named_right : Slot → Bool
is_named_right s = leb 1 s.generation and isnt (eqb s.name 0)

-- all of a queue are tasks that wait on the identifier
abbrev pub all_wait_on : Tables → ℕ → List ℕ → Bool
all_wait_on t id queue = all (length queue) (λ k. is_waiter t id (get_or queue k 0))

abbrev pub is_zero_where_queued : Slot → Bool
is_zero_where_queued s = when (leb 1 (length s.queue)) (eqb s.count 0)

-- count 1, owner 0, nest 0, or count 0, an owner in 1..N who is not in its queue, nest at least 1
abbrev pub is_binary_right : ℕ → Slot → Bool
is_binary_right N s =
    (eqb s.count 1 and eqb s.owner 0 and eqb s.nest 0)
    or (eqb s.count 0 and within 1 N s.owner and eqb (occurs s.owner s.queue) 0 and leb 1 s.nest)

-- owner 0 and nest 0, simple binary a count of at most 1
abbrev pub is_other_right : Slot → Bool
is_other_right s = eqb s.owner 0 and eqb s.nest 0 and when (is_simple s.attributes) (leb s.count 1)

-- the maximum is one create allows, and the count at most that
abbrev pub is_maximum_right : Slot → Bool
is_maximum_right s = allowed_count s.count s.attributes s.maximum

-- 0 but for the generation
abbrev pub is_clear : Slot → Bool
is_clear s =
    eqb s.name 0 and eqb s.attributes 0 and eqb s.count 0 and eqb s.owner 0 and eqb s.nest 0
    and eqb s.maximum 0 and eqb (length s.queue) 0

-- ---- the clauses

unfoldable pub sizes_fit : Tables → Bool
sizes_fit t = counts_fit (length t.tasks) (length t.slots)

-- every other number is within its limits; those of answers, attributes, owners, maxima, queues and the sequence follow from the clauses below
unfoldable pub numbers_fit : Tables → Bool
numbers_fit t = each_task t (λ q v. task_in_limits v) and each_slot t (λ n s. slot_in_limits s)

unfoldable pub answers_fit : Tables → Bool
answers_fit t = each_task t (λ q v. answer_fits v)

unfoldable pub live_named : Tables → Bool
live_named t = each_live t (λ n s. is_named_right s)

-- a live slot's attributes are ones create allows
unfoldable pub attributes_allowed : Tables → Bool
attributes_allowed t = each_live t (λ n s. allowed s.attributes)

-- each waiting task stands once, in the queue of the live semaphore it waits on
unfoldable pub waiters_queued : Tables → Bool
waiters_queued t = each_task t (λ q v. when (waits v) (is_queued_once t q v.awaited))

-- queues hold nothing else
unfoldable pub queues_wait : Tables → Bool
queues_wait t = each_live t (λ n s. all_wait_on t (id_of n s) s.queue)

-- a non-empty queue means count 0
unfoldable pub queued_at_zero : Tables → Bool
queued_at_zero t = each_live t (λ n s. is_zero_where_queued s)

unfoldable pub binaries_right : Tables → Bool
binaries_right t = each_live t (λ n s. when (is_binary s.attributes) (is_binary_right (length t.tasks) s))

unfoldable pub others_right : Tables → Bool
others_right t = each_live t (λ n s. when (isnt (is_binary s.attributes)) (is_other_right s))

unfoldable pub maxima_right : Tables → Bool
maxima_right t = each_live t (λ n s. is_maximum_right s)

unfoldable pub ready_at_rest : Tables → Bool
ready_at_rest t = each_task t (λ q v. when (isnt (waits v)) (is_at_rest v))

unfoldable pub free_slots_clear : Tables → Bool
free_slots_clear t = each_slot t (λ n s. when (isnt (is_live s)) (is_clear s))

-- each ready task stands once in the sequence
unfoldable pub ready_sequenced : Tables → Bool
ready_sequenced t = each_task t (λ q v. when (isnt (waits v)) (eqb (occurs q t.ready) 1))

-- the sequence holds nothing else
unfoldable pub sequence_ready : Tables → Bool
sequence_ready t = all (length t.ready) (λ k. is_ready_task t (get_or t.ready k 0))

-- the tables agree: every clause holds but the two of the bytes, which `agrees_bytes` of crates/agreement adds
pub record Agrees (t : Tables) : Type 0 where
  pub sizes : sizes_fit t ≡ true
  pub numbers : numbers_fit t ≡ true
  pub answers : answers_fit t ≡ true
  pub named : live_named t ≡ true
  pub attributed : attributes_allowed t ≡ true
  pub waiters : waiters_queued t ≡ true
  pub queues : queues_wait t ≡ true
  pub at_zero : queued_at_zero t ≡ true
  pub owned : binaries_right t ≡ true
  pub unowned : others_right t ≡ true
  pub maxima : maxima_right t ≡ true
  pub at_rest : ready_at_rest t ≡ true
  pub clear : free_slots_clear t ≡ true
  pub sequenced : ready_sequenced t ≡ true
  pub only_ready : sequence_ready t ≡ true

-- the same as one test
unfoldable pub agrees : Tables → Bool
agrees t =
    sizes_fit t and numbers_fit t and answers_fit t and live_named t and attributes_allowed t and waiters_queued t and queues_wait t
    and queued_at_zero t and binaries_right t and others_right t and maxima_right t and ready_at_rest t
    and free_slots_clear t and ready_sequenced t and sequence_ready t
