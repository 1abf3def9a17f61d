-- What is promised of timeouts (request 6), as Theorems.antt has it for the calls.
use mathlib.Core.Path.{◌≡◌}
use mathlib.Core.Bool.{true}
use mathlib.Core.List.{List, [], ◌∷◌, ◌++◌, map}
use mathlib.Core.Logic.{◌≢◌}
use Prim.Native.Nat.{ℕ, suc, ◌%◌, ◌<◌}
use lib.Dec.{eqb}
use lib.ListN.{replicate}
use Rattle.laws.specs.Choose.{choose}
use Rattle.words.proofs.WordsInBytes.{Bytes}
use Rattle.rules.specs.declared.Call.TheVariants.{Obtain, Tick}
use Rattle.rules.specs.declared.Wait.TheVariants.{Poll, Forever, Ticks}
use Rattle.rules.specs.Machine.{task_of}
use Rattle.rules.specs.Semaphore.{wait_of}
use Rattle.rules.specs.Runs.{Request}
use Rattle.rules.specs.Promises.{ticks_among, waits_through}
use Rattle.rules.specs.Fits.{call_fits, calls_fit}
use Rattle.rules.proofs.Asking.{ask, tables_of}
use Rattle.tables.specs.Layout.{model_of}
use Rattle.agreement.specs.Bytes.{agrees_bytes}
use Rattle.manager.specs.Entry.{reply_to}
use Rattle.manager.specs.Runs.{replies}
use Rattle.manager.proofs.Runs as entries
use Rattle.theorems.proofs.Waits as waits
use Rattle.theorems.proofs.WaitsInBytes as lasting

-- how options and timeout give a wait. Odd options are NO_WAIT, whatever the timeout; otherwise 0 is the standard limit, 500 ticks, 4294967295 is
-- for ever, and any other timeout is that many ticks
pub no_wait_ignores_timeouts : (options : ℕ) → options % 2 ≡ 1 → (timeout : ℕ) → wait_of options timeout ≡ Poll
no_wait_ignores_timeouts = lasting.no_wait

pub timeouts_told_apart : (options : ℕ) → options % 2 ≡ 0
    → (wait_of options 0 ≡ Ticks 500) × (wait_of options 4294967295 ≡ Forever)
    × ((timeout : ℕ) → timeout ≢ 0 → timeout ≢ 4294967295 → wait_of options timeout ≡ Ticks timeout)
timeouts_told_apart options even = (lasting.standard_wait options even, lasting.endless_wait options even, lasting.timed_wait options even)

-- an obtain that is answered 100 had no NO_WAIT; it leaves bytes that agree, and in them its caller waits with so many ticks left, 0 for ever
pub wait_begins : (bs : List ℕ) → Bytes bs → (caller id options timeout : ℕ) (priorities : List ℕ) → call_fits (Obtain caller id (wait_of options timeout)) ≡ true
    → let r = reply_to bs (Obtain caller id (wait_of options timeout)) priorities in r.answer.status ≡ 100
    → let v = task_of (model_of r.bytes) caller in
    (options % 2 ≡ 0) × (agrees_bytes r.bytes ≡ true) × (v.answer ≡ 100)
    × (v.ticks ≡ choose (eqb timeout 0) 500 (choose (eqb timeout 4294967295) 0 timeout))
wait_begins = lasting.wait_begun

-- while a task's wait goes on, through any of the eight calls, the next tick ends it, with answer 6, exactly if that is the last of the ticks it had left; 0
-- left is for ever. This holds of every wait in agreeing bytes, also of one from before the request or from a state file
pub tick_ends_a_wait : (bs : List ℕ) → Bytes bs → agrees_bytes bs ≡ true → (q : ℕ) (requests : List Request) → calls_fit requests ≡ true
    → waits_through (model_of bs) q requests ≡ true → (priorities : List ℕ)
    → (task_of (model_of (reply_to (replies bs requests).bytes Tick priorities).bytes) q).answer
    ≡ choose (eqb (suc (ticks_among requests)) (task_of (model_of bs) q).ticks) 6 100
tick_ends_a_wait bs b a = lasting.tick_ends ((entries.agreeing_tested bs b).0 a)

-- so nobody waits for ever by accident: with any timeout but 4294967295 a wait that goes on has seen fewer ticks than it was given, with 0 fewer than 500
pub no_wait_for_ever_by_accident : (bs : List ℕ) → Bytes bs → (caller id options timeout : ℕ) (priorities : List ℕ)
    → call_fits (Obtain caller id (wait_of options timeout)) ≡ true
    → let r = reply_to bs (Obtain caller id (wait_of options timeout)) priorities in r.answer.status ≡ 100 → timeout ≢ 4294967295
    → (requests : List Request) → calls_fit requests ≡ true → waits_through (model_of r.bytes) caller requests ≡ true
    → ticks_among requests < choose (eqb timeout 0) 500 timeout
no_wait_for_ever_by_accident = lasting.bounded

-- computed: two tasks wait with timeout 0 and with 4294967295; the ticks kept, and the tasks' answers before 600 ticks and after each. Both still wait after
-- 499, the 500th ends the first with 6, and none ends the second
pub standard_limit_case : (map (λ v. v.ticks) (tables_of waits.waiters).tasks ≡ 500 ∷ 0 ∷ [])
    × (waits.answers_along (tables_of waits.waiters) (replicate 600 (ask Tick)) ≡ replicate 500 (100 ∷ 100 ∷ []) ++ replicate 101 (6 ∷ 100 ∷ []))
standard_limit_case = (waits.waiters_kept, waits.standard_limit_lem)
