-- What is promised, in the order of the three demands: what a reviewer reads after the definitions. Each statement is proved elsewhere, by the
-- theorem that stands behind its `=`. `Bytes bs` says that every number of the lent memory is a byte; `call_fits` and `calls_fit` that the numbers
-- of calls are those of 32 bits; `reply_to` is what an entry point answers and leaves on any bytes, and what each C
-- function of the eight calls promises. Beside this file: StateFile.antt, Search.antt, Timeouts.antt, Itron.antt and Accounts.antt.
use mathlib.Core.Path.{◌≡◌}
use mathlib.Core.Bool.{true, false}
use mathlib.Core.List.{List, [], ◌∷◌, ◌++◌, map}
use mathlib.Core.Logic.{◌↔◌, ◌⊎◌, ◌≢◌}
use Prim.Native.Nat.{ℕ, suc, ◌%◌, ◌/◌, ◌≤◌, ◌<◌}
use lib.Dec.{eqb}
use lib.ListN.{length, get_or, take, replicate}
use Rattle.laws.specs.Choose.{choose}
use Rattle.words.proofs.WordsInBytes.{Bytes, Words}
use Rattle.rules.specs.declared.Call.{Call}
use Rattle.rules.specs.declared.Call.TheVariants.{Create, Delete, Obtain, Release}
use Rattle.rules.specs.declared.Wait.{Wait}
use Rattle.rules.specs.Numbers.{max_priority, max_generation, by_priority, is_binary, inherits}
use Rattle.rules.specs.Machine.{Slot, Tables, unstarted, task_of, slot_of, is_task, is_live, names, urgency, most_urgent, next}
use Rattle.rules.specs.Agreement.{Agrees, is_ready_task}
use Rattle.rules.specs.Semaphore.{served_place, ahead, insert_at, serving_order, requeued, remove_at}
use Rattle.rules.specs.Calls.{any_caller, still_waiting, ticked_slot, step}
use Rattle.rules.specs.Runs.{Request, after}
use Rattle.rules.specs.Promises.{Refusal, IsRefusal, listed, is_in, SomeGives, NextIs, sequence_after, LeastBehind, FirstOfLeast, behind, NeverAgain}
use Rattle.rules.specs.Fits.{call_fits, calls_fit}
use Rattle.rules.proofs.Refusals.{refusal_keeps}
use Rattle.rules.proofs.Statuses.{listed_given}
use Rattle.rules.proofs.Next.{next_is, answered_next}
use Rattle.rules.proofs.Sequence.{ready_order}
use Rattle.rules.proofs.Chains as chains
use Rattle.rules.proofs.Serving as serving
use Rattle.rules.proofs.Ticking.{order_ticked}
use Rattle.rules.proofs.Inheritance as inheritance
use Rattle.rules.proofs.Invariants.Agreeing.{unstarted_agrees}
use Rattle.rules.proofs.Invariants.Kept.{kept}
use Rattle.rules.proofs.History.Identifiers.{created_once}
use Rattle.rules.proofs.History.Maximum as maxima
use Rattle.rules.proofs.Asking.{ask, says, requests, expected, answers_of, tables_of, last_of}
use Rattle.rules.proofs.Vectors as vectors
use Rattle.tables.specs.Layout.{tables_length, laid, model_of}
use Rattle.tables.specs.Sizes.{Holds}
use Rattle.tables.proofs.LayoutRead as layouts
use Rattle.tables.proofs.LayoutStore.{laid_unstarted}
use Rattle.records.specs.Beside.{goes_by, next_of}
use Rattle.records.proofs.Core.{as_the_core}
use Rattle.agreement.specs.Bytes.{agrees_bytes}
use Rattle.calls.specs.Agreeing.{Agreeing}
use Rattle.manager.specs.Entry.{reply, no_next, reply_to}
use Rattle.manager.specs.Runs.{replies}
use Rattle.manager.proofs.Runs as entries
use Rattle.accounts.specs.History.{history_of}
use Rattle.accounts.specs.Accounts.{waiters_found, none_found, releases_in, Balances}
use Rattle.accounts.specs.Turns.{goes_on, ServedInTurn}
use Rattle.accounts.proofs.Accounting as accounts
use Rattle.accounts.proofs.InTurn as turns
use Rattle.accounts.proofs.Worked as cases
use Rattle.state.specs.Reading.{tables_in}
use Rattle.state.specs.Reply.{load_reply}
use Rattle.state.proofs.Loading as writes
use Rattle.session.specs.Session.{session}
use Rattle.session.specs.Kept.{Kept, at_end}
use Rattle.session.specs.Feeding.{Writes}
use Rattle.session.proofs.Replay.{Feeds, code_session}
use Rattle.session.proofs.Worked as worked
use Rattle.sections.specs.Scripts.{Script, Grant, script_at, section_at, plain}
use Rattle.sections.specs.Run.{Event, at, State, place_at, event_of, run_from, open_of}
use Rattle.sections.specs.Refusals.{Input, refusal, at_first, run, input_fits}
use Rattle.sections.specs.History.{answers_in, history, grants_shown}
use Rattle.sections.proofs.Demand3 as sections
use Rattle.encoding.specs.Rows.{scripts_of}
use Rattle.encoding.specs.Laid.{memory, laid_places, laid_grants}
use Rattle.refusals.specs.Defined.{input_of}
use Rattle.runner.specs.Reply.{refusal_of, ran, run_reply}
use Rattle.runner.proofs.Demands.{ending, ending_held, lent_serial, refused_lent}

-- ---- demand 1: every call is defined; a refusal changes nothing; tables that contradict themselves get 25 and no next task

-- (that every call ends and is safe, whatever it is handed, is what the check of the code says: no entry point has a `requires`)

-- 25 says exactly that the bytes do not agree
pub twenty_five_exactly : (bs : List ℕ) (call : Call) (priorities : List ℕ)
    → ((reply_to bs call priorities).answer.status ≡ 25) ↔ (agrees_bytes bs ≡ false)
twenty_five_exactly = entries.internal_error_bytes

-- such bytes get 25, value 0 and next task 0, whatever is called, and stay for good
pub contradicting_bytes_stay : (bs : List ℕ) → agrees_bytes bs ≡ false → (requests : List Request) → (replies bs requests).bytes ≡ bs
contradicting_bytes_stay = entries.disagreeing_stay

pub contradicting_bytes_refused : (bs : List ℕ) → agrees_bytes bs ≡ false → (requests : List Request)
    → (replies bs requests).answers ≡ map (λ r. no_next) requests
contradicting_bytes_refused = entries.disagreeing_refused

-- a refusal leaves every byte
pub refusal_leaves_every_byte : (bs : List ℕ) (call : Call) (priorities : List ℕ) → Bytes bs
    → IsRefusal (reply_to bs call priorities).answer.status → (reply_to bs call priorities).bytes ≡ bs
refusal_leaves_every_byte = entries.refusal_leaves

-- its value is 0, and its next task that of the tables, with 25 none
pub refusal_answers : (t : Tables) (call : Call) (priorities : List ℕ)
    → ((step t call priorities).answer.status ≡ 0 → ⊥) → ((step t call priorities).answer.status ≡ 100 → ⊥) → Refusal t (step t call priorities)
refusal_answers = refusal_keeps

-- a call answers no status but those of its list, and each of these on some tables
pub statuses_listed : (bs : List ℕ) (call : Call) (priorities : List ℕ) → is_in (reply_to bs call priorities).answer.status (listed call) ≡ true
statuses_listed = entries.status_listed_bytes

pub statuses_given : (call : Call) (status : ℕ) → is_in status (listed call) ≡ true → SomeGives call status
statuses_given = listed_given

-- ---- demand 2: status, tables and next task are those of the rules; a deleted identifier never comes back

-- bytes pass the test exactly where they are the layout of tables that agree, and are then answered as their tables are
pub agreeing_bytes_are_tables : (bs : List ℕ) → Bytes bs → (agrees_bytes bs ≡ true) ↔ Agreeing bs
agreeing_bytes_are_tables = entries.agreeing_tested

pub agreeing_bytes_answer_by_the_rules : (bs : List ℕ) (call : Call) (priorities : List ℕ) → agrees_bytes bs ≡ true
    → reply_to bs call priorities ≡ reply (step (model_of bs) call priorities)
agreeing_bytes_answer_by_the_rules = entries.reply_is

-- a machine not yet started is all zeros, and agrees
pub unstarted_is_zeros : (laid unstarted ≡ replicate tables_length 0) × Agrees unstarted
unstarted_is_zeros = (laid_unstarted, unstarted_agrees)

-- a layout reads back as its tables
pub layout_reads_back : (t : Tables) → Holds t → model_of (laid t) ≡ t
layout_reads_back = layouts.model_of_laid

-- the next task: of the ready tasks those of the least working priority, of these the first in the sequence; 0 if none is ready
pub next_task_lem : (t : Tables) → Agrees t → NextIs t (next t)
next_task_lem = next_is

-- so of every answer, whatever its status, on the tables that the call leaves, and over the bytes of the entry points
pub next_task_answered : (t : Tables) (call : Call) (priorities : List ℕ) → call_fits call ≡ true → Agrees t
    → let o = step t call priorities in NextIs o.tables o.answer.next
next_task_answered = answered_next

pub next_task_in_the_bytes : (bs : List ℕ) (call : Call) (priorities : List ℕ) → Bytes bs → agrees_bytes bs ≡ true → call_fits call ≡ true
    → let r = reply_to bs call priorities in NextIs (model_of r.bytes) r.answer.next
next_task_in_the_bytes = entries.next_after_bytes

-- callers with records of their own get the same, given the working priorities beside the records
pub next_task_of_records : (t : Tables) (working : List ℕ) → ((q : ℕ) → is_task t q ≡ true → goes_by t.tasks working q ≡ urgency t q)
    → next_of t.tasks t.ready working ≡ next t
next_task_of_records = as_the_core

-- the order itself, for every call: the sequence after it is those that were ready before and still are, in their old order, followed by those that it
-- made ready: the waiter that a release serves, a delete's and a flush's in the order of serving, a tick's and a start's in task number order; no other call makes any ready
pub sequence_after_every_call : (t : Tables) (call : Call) (priorities : List ℕ) → Agrees t
    → let u = (step t call priorities).tables in u.ready ≡ sequence_after t call u
sequence_after_every_call = ready_order

-- and so over the bytes of the entry points
pub sequence_in_the_bytes : (bs : List ℕ) (call : Call) (priorities : List ℕ) → Bytes bs → agrees_bytes bs ≡ true → call_fits call ≡ true
    → let u = model_of (reply_to bs call priorities).bytes in u.ready ≡ sequence_after (model_of bs) call u
sequence_in_the_bytes = entries.sequence_after_bytes

-- P1 to P15 as calls, the tables that P15 leaves, and all as a session's text
pub cases_as_calls : answers_of (requests vectors.worked)
    ++ last_of (vectors.one 4294967295 0 4294967295) (ask (Release 1 65537))
    ∷ last_of (vectors.one 1 32 1) (ask (Release 0 65537))
    ∷ last_of (vectors.one 1 16 1) (ask (Release 0 65537))
    ∷ answers_of (requests vectors.equals)
    ≡ expected vectors.worked ++ says 13 0 1 ∷ says 13 0 1 ∷ says 23 0 1 ∷ expected vectors.equals
cases_as_calls = vectors.P1_P15

pub cases_as_text : session worked.input ≡ worked.output
cases_as_text = worked.P1_P11_as_text

pub others_as_text : (session worked.P12_input ≡ worked.P12_output) × (session worked.P13_input ≡ worked.P13_output)
    × (session worked.P14_input ≡ worked.P14_output) × (session worked.P15_input ≡ worked.P15_output)
others_as_text = worked.P12_P15_as_text

pub equals_leave : tables_of (requests vectors.equals) ≡ record {
  tasks = record { priority = 10; answer = 0; awaited = 0; ticks = 0 } ∷ record { priority = 10; answer = 0; awaited = 0; ticks = 0 } ∷ [];
  slots = record { generation = 1; live = 1; name = 77; attributes = 0; count = 0; owner = 0; nest = 0; maximum = 4294967295; queue = [] } ∷ [];
  ready = 2 ∷ 1 ∷ [];
}
equals_leave = vectors.P15_leaves

-- request 4: over any run of calls, while its identifier names it, a semaphore keeps its maximum, which is the one that create was given, and its count is at
-- most that; on agreeing tables a release is 13 exactly for a counting or simple binary semaphore at its maximum, by whoever may call
pub maximum_stays : (t : Tables) (id : ℕ) (requests : List Request) → names t id ≡ true
    → let u = after t requests in names u id ≡ true → (slot_of u (id % 65536)).maximum ≡ (slot_of t (id % 65536)).maximum
maximum_stays = maxima.maximum_stays

pub maximum_as_created : (t : Tables) (caller name count attributes maximum : ℕ) (priorities : List ℕ) (requests : List Request)
    → let o = step t (Create caller name count attributes maximum) priorities in o.answer.status ≡ 0
    → let u = after o.tables requests in names u o.answer.value ≡ true → (slot_of u (o.answer.value % 65536)).maximum ≡ maximum
maximum_as_created = maxima.created_maximum

pub count_within_maximum : (t : Tables) → Agrees t → (requests : List Request) → calls_fit requests ≡ true → (id : ℕ)
    → let u = after t requests in names u id ≡ true → (slot_of u (id % 65536)).count ≤ (slot_of u (id % 65536)).maximum
count_within_maximum = maxima.count_stays

pub unsatisfied_release_exactly : (t : Tables) → Agrees t → (caller id : ℕ) (priorities : List ℕ) → let s = slot_of t (id % 65536) in
    ((step t (Release caller id) priorities).answer.status ≡ 13)
    ↔ ((any_caller t caller 0 ≡ 0) × (names t id ≡ true) × (is_binary s.attributes ≡ false) × (s.count ≡ s.maximum))
unsatisfied_release_exactly = maxima.release_at_maximum

-- request 8: the working priority, by which the next task and PRIORITY queues go, is the least number among a task's own and those of all tasks that stand
-- behind it by a chain of inheritance semaphores of any length: N links cut nothing off
pub working_priority_is_the_least : (t : Tables) (q : ℕ) → is_task t q ≡ true → LeastBehind t q (urgency t q)
working_priority_is_the_least = chains.working_is_least

-- an owner is at least as urgent as each waiter of its inheritance semaphores
pub owner_at_least_as_urgent : (t : Tables) → Agrees t → (n : ℕ) → let s = slot_of t n in is_live s ≡ true → inherits s.attributes ≡ true
    → (k : ℕ) → k < length s.queue → urgency t s.owner ≤ urgency t (get_or s.queue k 0)
owner_at_least_as_urgent = chains.owner_urgent

-- no inversion: while a task waits on an inheritance semaphore and the owner at the end of its chain is ready, the next task is at least as urgent as the
-- waiter (of a task that does not wait, by 0 links, too); so of every answer
pub no_inversion : (t : Tables) → Agrees t → (r links : ℕ) → is_ready_task t (behind t r links) ≡ true
    → (is_ready_task t (next t) ≡ true) × (urgency t (next t) ≤ urgency t r)
no_inversion t a = chains.no_inversion t (next t) (next_is t a)

pub no_inversion_in_the_bytes : (bs : List ℕ) (call : Call) (priorities : List ℕ) → Bytes bs → agrees_bytes bs ≡ true → call_fits call ≡ true
    → let reply = reply_to bs call priorities in let u = model_of reply.bytes in
    (r links : ℕ) → is_ready_task u (behind u r links) ≡ true → (is_ready_task u reply.answer.next ≡ true) × (urgency u reply.answer.next ≤ urgency u r)
no_inversion_in_the_bytes bs call priorities b a f = chains.no_inversion _ _ (entries.next_after_bytes bs call priorities b a f)

-- by the numbers u, the working priorities before the call: in a PRIORITY queue the waiter served is the first of the least number; a delete and a flush wake in
-- the order in which releases would serve by these same numbers
pub served_first_of_the_least : (u : ℕ → ℕ) (s : Slot) → by_priority s.attributes ≡ true → 1 ≤ length s.queue → FirstOfLeast u s.queue (served_place u s)
served_first_of_the_least = serving.served_least

pub woken_as_served : (u : ℕ → ℕ) (s : Slot) → 1 ≤ length s.queue → let place = served_place u s in
    serving_order u s ≡ get_or s.queue place 0 ∷ serving_order u (requeued s (remove_at place s.queue))
woken_as_served = serving.order_served

-- without such semaphores every task goes by its own number, the next task as before; and the order of serving is the order in which PRIORITY queues stood
-- before: who joins goes behind all of equal or more urgent number, the first of it is served, and a tick takes out those whose wait it ends
pub without_inheritance : (t : Tables) → ((n : ℕ) → inherits (slot_of t n).attributes ≡ false) → urgency t ≡ (λ q. (task_of t q).priority)
without_inheritance = chains.own_priorities

pub next_without_inheritance : (t : Tables) → ((n : ℕ) → inherits (slot_of t n).attributes ≡ false)
    → next t ≡ most_urgent t (λ q. (task_of t q).priority) t.ready 0 (suc max_priority)
next_without_inheritance = chains.next_by_own

pub joins_behind_equals : (u : ℕ → ℕ) (s : Slot) (q : ℕ) → by_priority s.attributes ≡ true → let order = serving_order u s in
    serving_order u (requeued s (s.queue ++ q ∷ [])) ≡ insert_at (ahead u (u q) order) q order
joins_behind_equals = serving.order_joined

pub ticked_out_of_the_order : (u : ℕ → ℕ) (t : Tables) (s : Slot) → serving_order u (ticked_slot t s) ≡ still_waiting t (serving_order u s)
ticked_out_of_the_order = order_ticked

-- computed: the radio waits for the bus that the display holds. With attributes 84 the display is next, with 20 the logger
pub radio_and_display : (answers_of (requests (inheritance.bus 84 3)) ≡ expected (inheritance.bus 84 3))
    × (answers_of (requests (inheritance.bus 20 2)) ≡ expected (inheritance.bus 20 2))
radio_and_display = inheritance.radio_and_display

-- request 7: a run's history is a list of events, each with its call, its answer and the waits that it ended (Accounts.antt says what is in it, and has the
-- same over the bytes of the entry points and from a load on). The count accounts for every grant: of a live counting or simple binary semaphore, from its
-- create on and as long as it lives, the count plus the grants (obtains on it that answered 0, waits on it that ended with 0) are the initial count plus the
-- successful releases. An identifier never comes back, so a semaphore that it names after the run has lived through it
pub count_since_create : (t : Tables) (caller name count attributes maximum : ℕ) (priorities : List ℕ)
    → call_fits (Create caller name count attributes maximum) ≡ true → is_binary attributes ≡ false
    → let o = step t (Create caller name count attributes maximum) priorities in o.answer.status ≡ 0 → (requests : List Request) → calls_fit requests ≡ true
    → let u = after o.tables requests in names u o.answer.value ≡ true
    → Balances o.answer.value count none_found (history_of o.tables requests) u
count_since_create t caller name count attributes maximum priorities fits notBinary done =
    accounts.since_create t caller name count attributes maximum priorities done fits notBinary

-- from any agreeing tables the history begins with the count and the waiters found
pub count_as_found : (t : Tables) → Agrees t → (id : ℕ) → let s = slot_of t (id % 65536) in names t id ≡ true → is_binary s.attributes ≡ false
    → (requests : List Request) → calls_fit requests ≡ true
    → let u = after t requests in names u id ≡ true → Balances id s.count (waiters_found t) (history_of t requests) u
count_as_found t a id = accounts.accounting id t a

-- served in turn: in a FIFO queue of such a semaphore a waiter with k tasks ahead is granted at the latest by the (k + 1)th successful release, unless a tick, a
-- flush or a delete ended its wait first. `ServedInTurn`: with k + 1 successful releases in the history the wait has ended, at an event before which fewer than
-- k + 1 were successful: a release, with 0, or one of the others, with its answer. Whoever stands in a queue has its place there as k
pub served_in_turn : (t : Tables) → Agrees t → (id : ℕ) → let s = slot_of t (id % 65536) in names t id ≡ true → is_binary s.attributes ≡ false
    → by_priority s.attributes ≡ false → (k : ℕ) → k < length s.queue → (requests : List Request) → calls_fit requests ≡ true
    → ServedInTurn id (get_or s.queue k 0) k (history_of t requests)
served_in_turn t a id named notBinary fifo = turns.served t a id (record { named = named; unowned = notBinary; fifo = fifo })

-- all who waited before are ahead of a task that joins
pub served_since_it_joined : (t : Tables) (q id : ℕ) (wait : Wait) (priorities : List ℕ) → call_fits (Obtain q id wait) ≡ true
    → let s = slot_of t (id % 65536) in let o = step t (Obtain q id wait) priorities in o.answer.status ≡ 100
    → is_binary s.attributes ≡ false → by_priority s.attributes ≡ false → (requests : List Request) → calls_fit requests ≡ true
    → ServedInTurn id q (length s.queue) (history_of o.tables requests)
served_since_it_joined t q id wait priorities fits began notBinary fifo = turns.joined t q id wait priorities notBinary fifo fits began

-- computed: tasks 3, 2 and 1 wait. Task 1 has k = 2 ahead: after k releases its wait goes on, and the third grants it
pub k_releases_are_not_enough : ((slot_of (tables_of (cases.made ++ cases.waiters)) 1).queue ≡ 3 ∷ 2 ∷ 1 ∷ [])
    × (releases_in 65537 (cases.since (replicate 2 cases.gives)) ≡ 2) × (goes_on 1 (cases.since (replicate 2 cases.gives)) ≡ true)
    × (cases.endings_along (cases.since (replicate 3 cases.gives)) ≡ (cases.ended 3 0 ∷ []) ∷ (cases.ended 2 0 ∷ []) ∷ (cases.ended 1 0 ∷ []) ∷ [])
k_releases_are_not_enough = cases.two_not_enough

-- agreement is kept by every call and tick, and by every run of entry points over the bytes
pub agreement_kept : (t : Tables) (call : Call) (priorities : List ℕ) → call_fits call ≡ true → Agrees t → Agrees (step t call priorities).tables
agreement_kept = kept

pub agreement_stays : (bs : List ℕ) → Bytes bs → agrees_bytes bs ≡ true → (requests : List Request) → calls_fit requests ≡ true
    → agrees_bytes (replies bs requests).bytes ≡ true
agreement_stays = entries.agreement_stays

-- after a delete that was done, over any calls: no create or ident gives the identifier, and no call that takes it is served
pub deleted_identifier_never_again : (bs : List ℕ) → Bytes bs → (caller id : ℕ) (priorities : List ℕ) → call_fits (Delete caller id) ≡ true
    → (reply_to bs (Delete caller id) priorities).answer.status ≡ 0 → (requests : List Request) → calls_fit requests ≡ true
    → NeverAgain (λ call others. (reply_to (replies (reply_to bs (Delete caller id) priorities).bytes requests).bytes call others).answer) id
deleted_identifier_never_again = entries.deleted_never_again_bytes

-- a slot freed at generation 65535 is never used again: so of every identifier of that slot
pub last_generation_never_again : (bs : List ℕ) → Bytes bs → (caller id : ℕ) (priorities : List ℕ) → call_fits (Delete caller id) ≡ true
    → (reply_to bs (Delete caller id) priorities).answer.status ≡ 0 → (requests : List Request) → calls_fit requests ≡ true
    → id / 65536 ≡ max_generation → (other : ℕ) → other % 65536 ≡ id % 65536
    → NeverAgain (λ call others. (reply_to (replies (reply_to bs (Delete caller id) priorities).bytes requests).bytes call others).answer) other
last_generation_never_again = entries.retired_never_again_bytes

-- no two creates of a run give the same identifier
pub created_once_only : (t : Tables) (caller name count attributes maximum : ℕ) (priorities : List ℕ) (requests : List Request)
    (caller' name' count' attributes' maximum' : ℕ) (priorities' : List ℕ)
    → let o = step t (Create caller name count attributes maximum) priorities in o.answer.status ≡ 0
    → let a = (step (after o.tables requests) (Create caller' name' count' attributes' maximum') priorities').answer in
    a.status ≡ 0 → a.value ≡ o.answer.value → ⊥
created_once_only = created_once

-- what the session's code writes, feed after feed from a machine that is not started, is the session of what it took, however the input is cut
pub session_as_fed : {k : Kept} {text written : List ℕ} → Feeds k text written
    → (r : ℕ) (bs before out : List ℕ) → Writes (at_end k) 0 r bs before out → written ++ take r out ≡ session text
session_as_fed = code_session

-- ---- demand 3: guarded sections

-- with no section open after the list of events, every cell and local handed back equals the plain run's
pub sections_are_serial : (t : Tables) (w : Input) (events : List Event) → input_fits w events ≡ true
    → open_of w.scripts (run t w events).state ≡ []
    → (run t w events).state.memory ≡ plain w.scripts (run t w events).state.grants w.memory
sections_are_serial = sections.demand_3

-- the grants reported are exactly those that the calls' answers make, in order, sections open or not; one event grants at most one
pub grants_are_those_shown : (t : Tables) (w : Input) (events : List Event) → input_fits w events ≡ true → refusal t w events ≡ 0
    → (run t w events).state.grants ≡ grants_shown w.scripts (λ q. 0) (answers_in t) (history w.scripts (at_first t w) events)
grants_are_those_shown = sections.grants_shown_lem

pub one_grant_an_event : (t : Tables) (w : Input) (a : List Event) (e : Event) (b : List Event) → input_fits w (a ++ e ∷ b) ≡ true
    → refusal t w (a ++ e ∷ b) ≡ 0
    → let before = run_from w.scripts (at_first t w) a in
    let later = event_of w.scripts before e in
    (later.grants ≡ before.grants) ⊎ ((g : Grant) × (later.grants ≡ before.grants ++ g ∷ []))
one_grant_an_event = sections.one_grant

-- at every point of a run: at most one section is open for an identifier, and its task owns the semaphore with nest 1
pub open_section_owns : (t : Tables) (w : Input) (a b : List Event) → input_fits w (a ++ b) ≡ true → refusal t w (a ++ b) ≡ 0
    → let s = run_from w.scripts (at_first t w) a in (i : ℕ) → i < length w.scripts → 1 ≤ (place_at s i).position
    → let id = (section_at (script_at w.scripts i) (place_at s i).section).id in
    (names s.tables id ≡ true) × ((slot_of s.tables (id % 65536)).owner ≡ (script_at w.scripts i).task)
    × ((slot_of s.tables (id % 65536)).nest ≡ 1)
open_section_owns = sections.open_owned

pub open_sections_apart : (t : Tables) (w : Input) (a b : List Event) → input_fits w (a ++ b) ≡ true → refusal t w (a ++ b) ≡ 0
    → let s = run_from w.scripts (at_first t w) a in (i j : ℕ) → i < length w.scripts → j < length w.scripts
    → 1 ≤ (place_at s i).position → 1 ≤ (place_at s j).position
    → (section_at (script_at w.scripts i) (place_at s i).section).id ≡ (section_at (script_at w.scripts j) (place_at s j).section).id → i ≡ j
open_sections_apart = sections.open_alone

-- a refused run changes nothing, and a run of events in two halves is the run of the whole
pub refused_run_keeps : (t : Tables) (w : Input) (events : List Event) → refusal t w events ≢ 0 → (run t w events).state ≡ at_first t w
refused_run_keeps = sections.refused_keeps

pub run_in_halves : (scripts : List Script) (s : State) (a b : List Event) → run_from scripts s (a ++ b) ≡ run_from scripts (run_from scripts s a) b
run_in_halves = sections.run_halves

-- the same over all that `mast_run` is lent, of any lengths and any numbers of 32 bits: `run_reply` is what it promises, `ending` the state that cells, locals,
-- places and grants then hold
pub lent_sections_are_serial : (bs scripts events ids cells locals places grants : List ℕ) → Words scripts → Words events
    → let reply = run_reply bs scripts events ids cells locals places grants in
    let s = ending bs scripts events ids cells locals places grants in
    open_of (scripts_of scripts) s ≡ [] → memory reply.cells reply.locals ≡ plain (scripts_of scripts) s.grants (memory cells locals)
lent_sections_are_serial = lent_serial

pub lent_run_ends_in : (bs scripts events ids cells locals places grants : List ℕ)
    → let reply = run_reply bs scripts events ids cells locals places grants in
    let s = ending bs scripts events ids cells locals places grants in
    (reply.cells ≡ s.memory.cells) × (reply.locals ≡ s.memory.locals) × (reply.places ≡ laid_places places s.places)
    × (reply.grants ≡ laid_grants grants s.grants)
lent_run_ends_in = ending_held

-- so from the load of a state file on, which leaves the tables of the file
pub demand_3_from_the_load : (bs file scripts events ids cells locals places grants : List ℕ) → Bytes bs → (load_reply bs file).answer.status ≡ 0
    → Words scripts → Words events
    → let m = (load_reply bs file).bytes in
    let reply = run_reply m scripts events ids cells locals places grants in
    let s = ending m scripts events ids cells locals places grants in
    (m ≡ laid (tables_in file))
    × (open_of (scripts_of scripts) s ≡ [] → memory reply.cells reply.locals ≡ plain (scripts_of scripts) s.grants (memory cells locals))
demand_3_from_the_load bs file scripts events ids cells locals places grants b done w e = (
  writes.load_leaves bs file b done,
  lent_serial (load_reply bs file).bytes scripts events ids cells locals places grants w e,
)

-- refused, no byte, cell or local changes, places are at the start and no grant is reported
pub refused_lent_run_keeps : (bs scripts events ids cells locals places grants : List ℕ)
    → let r = refusal_of bs (input_of scripts ids cells locals) scripts events places in r ≢ 0
    → run_reply bs scripts events ids cells locals places grants
    ≡ ran (record { status = r; value = 0; next = choose (eqb r 25) 0 (next (model_of bs)) }) bs cells locals
    (laid_places places (replicate (length (scripts_of scripts)) (at 0 0))) (laid_grants grants [])
refused_lent_run_keeps = refused_lent
