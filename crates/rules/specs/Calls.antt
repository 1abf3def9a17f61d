-- Document 01, with the sequence of ready tasks of request 1, the maxima of request 4 and the working priorities of request 8: the eight calls, step by
-- step, and the whole step with the test for 25.
-- Checks give a status, or 0 for no refusal.
-- The numbers of a call are those of 32 bits, which `call_fits` of Fits.antt says; the definitions do not depend on it, that agreement is kept does.
use Rattle.std.specs.Prelude.{Bool, List, [], ◌∷◌, ◌++◌, map, ℕ, suc, ◌+◌, ◌-◌, leb, ltb, eqb, length, get_or, replicate}
use Rattle.laws.specs.Choose.{choose, ◌and◌, ◌or◌, isnt}
use Rattle.laws.specs.All.{all}
use Rattle.laws.specs.Rows.{tabulate}
use Rattle.rules.specs.declared.Task.{Task}
use Rattle.rules.specs.declared.Wait.{Wait}
use Rattle.rules.specs.declared.Call.{Call}
use Rattle.rules.specs.declared.Call.TheVariants.{Start, Create, Ident, Delete, Obtain, Release, Flush, Tick}
use Rattle.rules.specs.declared.Answer.{Answer}
use Rattle.rules.specs.Numbers.{max_tasks, max_slots, max_priority, max_generation, within, allowed, is_binary, allowed_count, successful}
use Rattle.rules.specs.Numbers.{invalid_name, invalid_id, too_many, timeout, object_was_deleted, invalid_number, not_defined, resource_in_use}
use Rattle.rules.specs.Numbers.{unsatisfied, incorrect_state, called_from_isr, invalid_priority, internal_error, waiting}
use Rattle.rules.specs.Machine.{Slot, Tables, free_slot, with_ready, task_of, slot_of, put_task, put_slot, waits, is_live}
use Rattle.rules.specs.Machine.{urgency, id_of, names, slot_named, next}
use Rattle.rules.specs.Agreement.{agrees}
use Rattle.rules.specs.Semaphore.{ticks_of, served_place, serving_order, requeued, take_step, Given, give_step, flush_step}

pub record Outcome : Type 0 where
  pub answer : Answer
  pub tables : Tables

abbrev pub answered : ℕ → ℕ → Tables → Outcome
answered status value t = record { answer = record { status = status; value = value; next = next t }; tables = t }

-- a refusal changes nothing; its value is 0 and the next task is as it is
abbrev pub refused : Tables → ℕ → Outcome
refused t status = answered status 0 t

-- done, unless the checks before gave a refusal
abbrev pub unless : ℕ → Tables → Outcome → Outcome
unless refusal t done = choose (eqb refusal 0) done (refused t refusal)

-- of a caller that is no interrupt: above N, then waiting
abbrev pub caller_refusal : Tables → ℕ → ℕ
caller_refusal t caller = choose (ltb (length t.tasks) caller) invalid_id (choose (waits (task_of t caller)) incorrect_state 0)

-- the checks of the caller, and then `rest`: create, delete and obtain refuse caller 0, an interrupt; release and flush do not
abbrev pub task_only : Tables → ℕ → ℕ → ℕ
task_only t caller rest = choose (eqb caller 0) called_from_isr (choose (eqb (caller_refusal t caller) 0) rest (caller_refusal t caller))

abbrev pub any_caller : Tables → ℕ → ℕ → ℕ
any_caller t caller rest = choose (isnt (eqb caller 0) and isnt (eqb (caller_refusal t caller) 0)) (caller_refusal t caller) rest

-- a task whose wait ends: it is ready, with the wait's answer
abbrev pub readied : Task → ℕ → Task
readied v answer = record { priority = v.priority; answer = answer; awaited = 0; ticks = 0 }

-- a wait ends: the task joins the end of the sequence
abbrev pub wake : Tables → ℕ → ℕ → Tables
wake t q answer = with_ready (put_task t q (readied (task_of t q) answer)) (t.ready ++ q ∷ [])

-- the waiters of a list are woken in its order
unfoldable pub wake_all : Tables → List ℕ → ℕ → Tables
wake_all t [] answer = t
wake_all t (q ∷ qs) answer = wake_all (wake t q answer) qs answer

-- ---- start: 14, 10, 19

unfoldable pub start_refusal : Tables → ℕ → List ℕ → ℕ
start_refusal t slots priorities =
    choose (leb 1 (length t.tasks)) incorrect_state
    (choose (within 1 max_tasks (length priorities) and within 1 max_slots slots)
    (choose (all (length priorities) (λ i. within 1 max_priority (get_or priorities i 0))) 0 invalid_priority)
    invalid_number)

abbrev pub new_task : ℕ → Task
new_task p = record { priority = p; answer = 0; awaited = 0; ticks = 0 }

-- 1 to n
abbrev pub up_to : ℕ → List ℕ
up_to n = tabulate n suc

-- N is the number of priorities, and the sequence is 1 to N
unfoldable pub started : ℕ → List ℕ → Tables
started slots priorities =
    record { tasks = map new_task priorities; slots = replicate slots (free_slot 0); ready = up_to (length priorities) }

unfoldable pub start : Tables → ℕ → List ℕ → Outcome
start t slots priorities =
    unless (start_refusal t slots priorities) t (answered successful 0 (started slots priorities))

-- ---- create: 18, 4, 14, then 3, 11, 10, 5

-- from slot n on, the lowest free slot with a generation below 65535, or 0
unfoldable pub first_free : List Slot → ℕ → ℕ
first_free [] n = 0
first_free (s ∷ ss) n = let later = first_free ss (suc n) in choose (isnt (is_live s) and ltb s.generation max_generation) n later

abbrev pub open_slot : Tables → ℕ
open_slot t = first_free t.slots 1

-- 10 is for a maximum not allowed and for a count above the maximum; that of both binary classes is 1, so it is for their counts above 1
unfoldable pub create_refusal : Tables → ℕ → ℕ → ℕ → ℕ → ℕ → ℕ
create_refusal t caller name count attributes maximum =
    task_only t caller
    (choose (eqb name 0) invalid_name
    (choose (allowed attributes)
    (choose (allowed_count count attributes maximum) (choose (eqb (open_slot t) 0) too_many 0) invalid_number) not_defined))

-- binary with count 0 is owned by the caller with nest 1
unfoldable pub new_semaphore : ℕ → ℕ → ℕ → ℕ → ℕ → ℕ → Slot
new_semaphore generation caller name count attributes maximum =
    let owned = is_binary attributes and eqb count 0 in
    record {
      generation = generation + 1;
      live = 1;
      name = name;
      attributes = attributes;
      count = count;
      owner = choose owned caller 0;
      nest = choose owned 1 0;
      maximum = maximum;
      queue = [];
    }

unfoldable pub create : Tables → ℕ → ℕ → ℕ → ℕ → ℕ → Outcome
create t caller name count attributes maximum =
    let n = open_slot t in
    let s = new_semaphore (slot_of t n).generation caller name count attributes maximum in
    unless (create_refusal t caller name count attributes maximum) t (answered successful (id_of n s) (put_slot t n s))

-- ---- ident: 3

-- from slot n on, the lowest live slot of that name, or 0
unfoldable pub first_named : ℕ → List Slot → ℕ → ℕ
first_named name [] n = 0
first_named name (s ∷ ss) n = let later = first_named name ss (suc n) in choose (is_live s and eqb s.name name) n later

unfoldable pub ident : Tables → ℕ → Outcome
ident t name =
    let n = first_named name t.slots 1 in
    unless (choose (eqb name 0 or eqb n 0) invalid_name 0) t (answered successful (id_of n (slot_of t n)) t)

-- the slots that its search for a name other than 0 looks at, from slot n on: each in turn, and none after the match
unfoldable pub searched_slots : ℕ → List Slot → ℕ → List ℕ
searched_slots name [] n = []
searched_slots name (s ∷ ss) n = let later = searched_slots name ss (suc n) in n ∷ choose (is_live s and eqb s.name name) [] later

-- how many it looks at: the match's slot number, or S if none matches; with name 0 it does not search
unfoldable pub looked : Tables → ℕ → ℕ
looked t name =
    let n = first_named name t.slots 1 in
    choose (eqb name 0) 0 (choose (eqb n 0) (length t.slots) n)

-- ---- delete: 18, 4, 14, then 4, 12; the working priorities are those before the call

unfoldable pub delete_refusal : Tables → ℕ → ℕ → ℕ
delete_refusal t caller id =
    task_only t caller
    (choose (names t id)
    (choose (is_binary (slot_of t (slot_named t id)).attributes and isnt (eqb (slot_of t (slot_named t id)).owner 0)) resource_in_use 0)
    invalid_id)

unfoldable pub delete : Tables → ℕ → ℕ → Outcome
delete t caller id =
    let n = slot_named t id in
    let s = slot_of t n in
    unless (delete_refusal t caller id) t
    (answered successful 0 (wake_all (put_slot t n (free_slot s.generation)) (serving_order (urgency t) s) object_was_deleted))

-- ---- obtain: 18, 4, 14, then 4, 13

-- a sequence without task q
unfoldable pub without : ℕ → List ℕ → List ℕ
without q [] = []
without q (x ∷ xs) = let rest = without q xs in choose (eqb q x) rest (x ∷ rest)

-- a wait begins: the task leaves the sequence
abbrev pub begin_wait : Tables → ℕ → Task → Tables
begin_wait t q v = with_ready (put_task t q v) (without q t.ready)

-- the caller waits on the identifier
abbrev pub blocked : Task → ℕ → Wait → Task
blocked v id wait = record { priority = v.priority; answer = waiting; awaited = id; ticks = ticks_of wait }

unfoldable pub obtain_refusal : Tables → ℕ → ℕ → Wait → ℕ
obtain_refusal t caller id wait =
    let s = slot_of t (slot_named t id) in
    task_only t caller
    (choose (names t id)
    (choose (eqb (take_step s caller wait).status unsatisfied) unsatisfied 0)
    invalid_id)

unfoldable pub obtain : Tables → ℕ → ℕ → Wait → Outcome
obtain t caller id wait =
    let n = slot_named t id in
    let s = slot_of t n in
    let taken = take_step s caller wait in
    let held = put_slot t n taken.slot in
    unless (obtain_refusal t caller id wait) t
    (choose (eqb taken.status waiting)
    (answered waiting 0 (begin_wait held caller (blocked (task_of t caller) id wait)))
    (answered successful 0 held))

-- ---- release: 4, 14, then 4, 23, 13

-- with PRIORITY the working priorities before the call say who is served
abbrev pub give_of : Tables → Slot → ℕ → Given
give_of t s caller = give_step s caller (served_place (urgency t) s)

unfoldable pub release_refusal : Tables → ℕ → ℕ → ℕ
release_refusal t caller id =
    any_caller t caller
    (choose (names t id) (give_of t (slot_of t (slot_named t id)) caller).status invalid_id)

unfoldable pub release : Tables → ℕ → ℕ → Outcome
release t caller id =
    let n = slot_named t id in
    let given = give_of t (slot_of t n) caller in
    let held = put_slot t n given.slot in
    unless (release_refusal t caller id) t
    (answered successful 0 (choose (eqb given.woken 0) held (wake held given.woken successful)))

-- ---- flush: 4, 14, then 4; the working priorities are those before the call

unfoldable pub flush_refusal : Tables → ℕ → ℕ → ℕ
flush_refusal t caller id = any_caller t caller (choose (names t id) 0 invalid_id)

unfoldable pub flush : Tables → ℕ → ℕ → Outcome
flush t caller id =
    let n = slot_named t id in
    let s = slot_of t n in
    unless (flush_refusal t caller id) t
    (answered successful 0 (wake_all (put_slot t n (flush_step s)) (serving_order (urgency t) s) unsatisfied))

-- ---- tick

-- a timed wait that this tick ends
abbrev pub expires : Task → Bool
expires v = waits v and eqb v.ticks 1

-- each timed wait loses one; a wait at 1 ends with answer 6
unfoldable pub ticked : Task → Task
ticked v =
    choose (expires v) (readied v timeout)
    (choose (waits v and leb 2 v.ticks) (record { priority = v.priority; answer = v.answer; awaited = v.awaited; ticks = v.ticks - 1 }) v)

-- a queue without the tasks whose wait has ended
unfoldable pub still_waiting : Tables → List ℕ → List ℕ
still_waiting t [] = []
still_waiting t (q ∷ qs) = let rest = still_waiting t qs in choose (expires (task_of t q)) rest (q ∷ rest)

unfoldable pub ticked_slot : Tables → Slot → Slot
ticked_slot t s = requeued s (still_waiting t s.queue)

-- from task q on, the tasks whose wait this tick ends, in task number order
unfoldable pub timed_out : List Task → ℕ → List ℕ
timed_out [] q = []
timed_out (v ∷ vs) q = let rest = timed_out vs (suc q) in choose (expires v) (q ∷ rest) rest

-- queues lose the tasks whose wait ends, each task is a tick later, and those whose wait ends join the end of the sequence
abbrev pub ticked_tables : Tables → Tables
ticked_tables t =
    record { tasks = map ticked t.tasks; slots = map (ticked_slot t) t.slots; ready = t.ready ++ timed_out t.tasks 1 }

unfoldable pub tick : Tables → Outcome
tick t = answered successful 0 (ticked_tables t)

-- ---- the whole step

unfoldable pub perform : Tables → Call → List ℕ → Outcome
perform t (Start slots) priorities = start t slots priorities
perform t (Create caller name count attributes maximum) priorities = create t caller name count attributes maximum
perform t (Ident name) priorities = ident t name
perform t (Delete caller id) priorities = delete t caller id
perform t (Obtain caller id wait) priorities = obtain t caller id wait
perform t (Release caller id) priorities = release t caller id
perform t (Flush caller id) priorities = flush t caller id
perform t Tick priorities = tick t

-- tables that do not agree get 25, with no next task
unfoldable pub step : Tables → Call → List ℕ → Outcome
step t call priorities =
    choose (agrees t) (perform t call priorities)
    (record { answer = record { status = internal_error; value = 0; next = 0 }; tables = t })
