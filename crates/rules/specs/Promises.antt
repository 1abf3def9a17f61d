-- Document 01: what holds of every call's answer; request 1: the next task, and the sequence after every call; request 6: how long a wait goes on; request 8:
-- whom a task lends to by a chain, and who is served.
use Rattle.std.specs.Prelude.{◌≡◌, Bool, true, false, List, [], ◌∷◌, ◌++◌, ℕ, zero, suc, ◌+◌, ◌≤◌, ◌<◌, eqb, length, get_or}
use Rattle.laws.specs.Choose.{choose, bit, ◌and◌, ◌or◌, isnt}
use Rattle.laws.specs.All.{those}
use Rattle.rules.specs.declared.Call.{Call}
use Rattle.rules.specs.declared.Answer.{Answer}
use Rattle.rules.specs.declared.Call.TheVariants.{Start, Create, Ident, Delete, Obtain, Release, Flush, Tick}
use Rattle.rules.specs.Numbers.{max_generation, successful, invalid_name, invalid_id, too_many, invalid_number, not_defined}
use Rattle.rules.specs.Numbers.{resource_in_use, unsatisfied, incorrect_state, called_from_isr, invalid_priority, not_owner_of_resource, internal_error}
use Rattle.rules.specs.Numbers.{waiting}
use Rattle.rules.specs.Machine.{Tables, task_of, slot_of, waits, is_live, slot_named, lends_to, urgency, next}
use Rattle.rules.specs.Agreement.{is_ready_task}
use Rattle.rules.specs.Semaphore.{served_place, serving_order}
use Rattle.rules.specs.Calls.{Outcome, up_to}
use Rattle.rules.specs.Runs.{Request, step_of}

-- a refusal changes nothing, its value is 0, and the next task is as it is, with 25 none
pub record Refusal (t : Tables) (o : Outcome) : Type 0 where
  pub kept : o.tables ≡ t
  pub value : o.answer.value ≡ 0
  pub next_task : o.answer.next ≡ choose (eqb o.answer.status internal_error) 0 (next t)

-- all numbers but 0 and 100 are refusals
pub record IsRefusal (status : ℕ) : Type 0 where
  pub not_done : status ≡ successful → ⊥
  pub not_begun : status ≡ waiting → ⊥

-- the calls whose success has a value
unfoldable pub valued : Call → Bool
valued (Start slots) = false
valued (Create caller name count attributes maximum) = true
valued (Ident name) = true
valued (Delete caller id) = false
valued (Obtain caller id wait) = false
valued (Release caller id) = false
valued (Flush caller id) = false
valued Tick = false

-- what a call may answer on tables that agree
unfoldable pub given : Call → List ℕ
given (Start slots) = successful ∷ invalid_number ∷ incorrect_state ∷ invalid_priority ∷ []
given (Create caller name count attributes maximum) =
    successful ∷ invalid_name ∷ invalid_id ∷ too_many ∷ invalid_number ∷ not_defined ∷ incorrect_state ∷ called_from_isr ∷ []
given (Ident name) = successful ∷ invalid_name ∷ []
given (Delete caller id) = successful ∷ invalid_id ∷ resource_in_use ∷ incorrect_state ∷ called_from_isr ∷ []
given (Obtain caller id wait) = successful ∷ invalid_id ∷ unsatisfied ∷ incorrect_state ∷ called_from_isr ∷ waiting ∷ []
given (Release caller id) = successful ∷ invalid_id ∷ unsatisfied ∷ incorrect_state ∷ not_owner_of_resource ∷ []
given (Flush caller id) = successful ∷ invalid_id ∷ incorrect_state ∷ []
given Tick = successful ∷ []

-- and on any tables
unfoldable pub listed : Call → List ℕ
listed call = internal_error ∷ given call

unfoldable pub is_in : ℕ → List ℕ → Bool
is_in n [] = false
is_in n (x ∷ xs) = eqb n x or is_in n xs

-- the kinds of calls
unfoldable pub kind_of : Call → ℕ
kind_of (Start slots) = 1
kind_of (Create caller name count attributes maximum) = 2
kind_of (Ident name) = 3
kind_of (Delete caller id) = 4
kind_of (Obtain caller id wait) = 5
kind_of (Release caller id) = 6
kind_of (Flush caller id) = 7
kind_of Tick = 8

-- some call of the same kind gives that status on some tables
pub record SomeGives (call : Call) (status : ℕ) : Type 0 where
  pub tables : Tables
  pub request : Request
  pub same_kind : kind_of request.call ≡ kind_of call
  pub gives : (step_of tables request).answer.status ≡ status

-- ---- the next task, and the sequence of ready tasks

-- q is a ready task of the least working priority, and of these the first in the sequence
pub record MostUrgent (t : Tables) (q : ℕ) : Type 0 where
  pub ready : is_ready_task t q ≡ true
  pub least : (r : ℕ) → is_ready_task t r ≡ true → urgency t q ≤ urgency t r
  pub place : ℕ
  pub inside : place < length t.ready
  pub here : get_or t.ready place 0 ≡ q
  pub first : (k : ℕ) → k < place → urgency t q < urgency t (get_or t.ready k 0)

-- the next task, or 0 where every task waits
pub data NextIs (t : Tables) (q : ℕ) : Type 0 where
  nobody : q ≡ 0 → ((r : ℕ) → is_ready_task t r ≡ false) → NextIs t q
  somebody : MostUrgent t q → NextIs t q

-- who may join the sequence at a call, in which order, from tables t to u: at a delete and a flush the semaphore's queue in the order of serving, at a
-- release the waiter served, at a start and a tick all tasks by their numbers, at the other calls nobody
unfoldable pub joining : Tables → Call → Tables → List ℕ
joining t (Start slots) u = up_to (length u.tasks)
joining t (Create caller name count attributes maximum) u = []
joining t (Ident name) u = []
joining t (Delete caller id) u = serving_order (urgency t) (slot_of t (slot_named t id))
joining t (Obtain caller id wait) u = []
joining t (Release caller id) u = get_or (slot_of t (slot_named t id)).queue (served_place (urgency t) (slot_of t (slot_named t id))) 0 ∷ []
joining t (Flush caller id) u = serving_order (urgency t) (slot_of t (slot_named t id))
joining t Tick u = up_to (length u.tasks)

-- q was not a ready task, and is one now
abbrev pub becomes_ready : Tables → Tables → ℕ → Bool
becomes_ready t u q = is_ready_task u q and isnt (is_ready_task t q)

-- the sequence that a call leaves: those that were ready before and still are, in their old order, and then those that it made ready
unfoldable pub sequence_after : Tables → Call → Tables → List ℕ
sequence_after t call u = those (is_ready_task u) t.ready ++ those (becomes_ready t u) (joining t call u)

-- ---- working priorities

-- r stands behind this task: the owner that so many links lead to from r, each an inheritance semaphore that the one before waits on; 0 where the chain ends
unfoldable pub behind : Tables → ℕ → ℕ → ℕ
behind t r zero = r
behind t r (suc links) = lends_to t (behind t r links)

-- p is the least number among q's own and those of all tasks behind it, by a chain of any length
pub record LeastBehind (t : Tables) (q p : ℕ) : Type 0 where
  pub least : (r links : ℕ) → behind t r links ≡ q → p ≤ (task_of t r).priority
  -- a task that has it, q itself where there are no links
  pub task : ℕ
  pub links : ℕ
  pub chain : behind t task links ≡ q
  pub has : (task_of t task).priority ≡ p

-- the place in a queue of the first of the least number
pub record FirstOfLeast (u : ℕ → ℕ) (queue : List ℕ) (place : ℕ) : Type 0 where
  pub inside : place < length queue
  pub least : (k : ℕ) → k < length queue → u (get_or queue place 0) ≤ u (get_or queue k 0)
  pub first : (k : ℕ) → k < place → u (get_or queue place 0) < u (get_or queue k 0)

-- ---- how long a wait goes on

-- how many calls of a run are ticks
unfoldable pub ticks_among : List Request → ℕ
ticks_among [] = 0
ticks_among (r ∷ rs) = bit (eqb (kind_of r.call) (kind_of Tick)) + ticks_among rs

-- task q waits before a run and after each of its calls
unfoldable pub waits_through : Tables → ℕ → List Request → Bool
waits_through t q [] = waits (task_of t q)
waits_through t q (r ∷ rs) = waits (task_of t q) and waits_through (step_of t r).tables q rs

-- ---- identifiers and slots that do not come back

-- a call takes that identifier
unfoldable pub takes : Call → ℕ → Bool
takes (Start slots) n = false
takes (Create caller name count attributes maximum) n = false
takes (Ident name) n = false
takes (Delete caller id) n = eqb id n
takes (Obtain caller id wait) n = eqb id n
takes (Release caller id) n = eqb id n
takes (Flush caller id) n = eqb id n
takes Tick n = false

-- of the answers to calls, each with any priorities beside it: no create and no ident gives the identifier, and a call that takes it is refused
pub record NeverAgain (answer : Call → List ℕ → Answer) (id : ℕ) : Type 0 where
  pub not_created : (caller name count attributes maximum : ℕ) (priorities : List ℕ) → let a =
      answer (Create caller name count attributes maximum) priorities in a.status ≡ successful → a.value ≡ id → ⊥
  pub not_found : (name : ℕ) (priorities : List ℕ) → let a = answer (Ident name) priorities in a.status ≡ successful → a.value ≡ id → ⊥
  pub refused : (call : Call) (priorities : List ℕ) → takes call id ≡ true → IsRefusal (answer call priorities).status

-- a slot that was freed at the last generation
pub record Retired (t : Tables) (n : ℕ) : Type 0 where
  pub low : 1 ≤ n
  pub high : n ≤ length t.slots
  pub free : is_live (slot_of t n) ≡ false
  pub spent : (slot_of t n).generation ≡ max_generation
