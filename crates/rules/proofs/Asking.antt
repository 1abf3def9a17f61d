-- Runs of calls as a session gives them, each line beside its answer, and the one place that opens every rule to compute them.
use mathlib.Core.List.{List, [], map}
use Prim.Native.Nat.{ℕ}
use Rattle.laws.specs.Choose.{choose}
use Rattle.laws.specs.All.{all, those}
use Rattle.laws.specs.Rows.{tabulate, rows}
use Rattle.rules.specs.declared.Call.{Call}
use Rattle.rules.specs.declared.Call.TheVariants.{Start, Obtain}
use Rattle.rules.specs.declared.Answer.{Answer}
use Rattle.rules.specs.Machine.{Tables, unstarted, lends_to, least_of, working_with, urgency, next, most_urgent}
use Rattle.rules.specs.Agreement.{occurs, sizes_fit, numbers_fit, answers_fit, live_named, attributes_allowed, waiters_queued, queues_wait}
use Rattle.rules.specs.Agreement.{queued_at_zero, binaries_right, others_right, maxima_right, ready_at_rest, free_slots_clear}
use Rattle.rules.specs.Agreement.{ready_sequenced, sequence_ready, agrees}
use Rattle.rules.specs.Semaphore.{wait_of, least_place, served_place, ahead, arranged, serving_order, take_step, give_step, pass_step, flush_step}
use Rattle.rules.specs.Calls.{wake_all, start_refusal, started, start, first_free, create_refusal, new_semaphore, create, first_named, ident}
use Rattle.rules.specs.Calls.{delete_refusal, delete, without, obtain_refusal, obtain, release_refusal, release, flush_refusal, flush}
use Rattle.rules.specs.Calls.{ticked, still_waiting, ticked_slot, timed_out, tick, perform, step}
use Rattle.rules.specs.Runs.{Request, step_of, after, answers}

infixr 20 ◌gives◌
-- a line of a session, and its answer
pub record Line : Type 0 where
  pub request : Request
  pub answer : Answer

abbrev pub ◌gives◌ : Request → Answer → Line
r gives a = record { request = r; answer = a }

abbrev pub ask : Call → Request
ask c = record { call = c; priorities = [] }

abbrev pub start_with : ℕ → List ℕ → Request
start_with slots priorities = record { call = Start slots; priorities = priorities }

-- an obtain as a session or a C caller gives it
abbrev pub obtains : ℕ → ℕ → ℕ → ℕ → Request
obtains caller id options timeout = ask (Obtain caller id (wait_of options timeout))

abbrev pub says : ℕ → ℕ → ℕ → Answer
says status value next = record { status = status; value = value; next = next }

abbrev pub requests : List Line → List Request
requests = map (λ l. l.request)

abbrev pub expected : List Line → List Answer
expected = map (λ l. l.answer)

-- the answers, the last answer and the last tables of a run from the machine not yet started; to unfold one is to unfold all rules
unfoldable pub answers_of : List Request → List Answer
unfolding choose all those tabulate rows lends_to least_of working_with urgency next most_urgent occurs sizes_fit numbers_fit answers_fit live_named attributes_allowed waiters_queued queues_wait
    queued_at_zero binaries_right others_right maxima_right ready_at_rest free_slots_clear ready_sequenced sequence_ready agrees
    wait_of least_place served_place ahead arranged serving_order take_step give_step pass_step
    flush_step wake_all start_refusal started start first_free create_refusal new_semaphore create first_named ident delete_refusal delete without obtain_refusal obtain
    release_refusal release flush_refusal flush ticked still_waiting ticked_slot timed_out tick perform step after answers
answers_of rs = answers unstarted rs

abbrev pub tables_of : List Request → Tables
tables_of rs = after unstarted rs

abbrev pub last_of : List Request → Request → Answer
last_of rs r = (step_of (tables_of rs) r).answer
