-- What is promised of histories (request 7), beside the theorems on tables in Theorems.antt: what is in a history, the account and the turns over the bytes of
-- the entry points, and from the load of a state file on. `history_over` is of the entry points' answers and of what `mast_task` tells.
use mathlib.Core.Path.{◌≡◌, refl}
use mathlib.Core.Bool.{true, false}
use mathlib.Core.List.{List, ◌++◌, map}
use Prim.Native.Nat.{ℕ, ◌%◌, ◌≤◌, ◌<◌}
use lib.Dec.{eqb}
use lib.ListN.{length, get_or}
use Rattle.laws.specs.Choose.{choose}
use Rattle.words.proofs.WordsInBytes.{Bytes}
use Rattle.rules.specs.declared.Call.TheVariants.{Create, Obtain}
use Rattle.rules.specs.declared.Wait.{Wait}
use Rattle.rules.specs.Numbers.{max_tasks, by_priority, is_binary}
use Rattle.rules.specs.Machine.{Tables, slot_of, names}
use Rattle.rules.specs.Runs.{Request, answers}
use Rattle.rules.specs.Fits.{call_fits, calls_fit}
use Rattle.rules.proofs.Asking.{tables_of}
use Rattle.tables.specs.Layout.{model_of}
use Rattle.agreement.specs.Bytes.{agrees_bytes}
use Rattle.manager.specs.Entry.{reply_to}
use Rattle.manager.specs.Runs.{replies}
use Rattle.manager.proofs.Runs as entries
use Rattle.accounts.specs.History.{endings, history_of, history_over}
use Rattle.accounts.specs.Accounts.{waiters_found, none_found, grants_in, releases_in, Balances}
use Rattle.accounts.specs.Turns.{ending_of, ServedInTurn}
use Rattle.accounts.proofs.InBytes as accounted
use Rattle.accounts.proofs.Worked as cases
use Rattle.state.specs.Reading.{tables_in}
use Rattle.state.specs.Reply.{load_reply}
use Rattle.state.proofs.Loading as loads

-- ---- what is in a history

-- each call with its answer, and no others
pub history_has_the_calls : (t : Tables) (requests : List Request) → let h = history_of t requests in
    (map (λ e. e.request) h ≡ requests) × (map (λ e. e.answer) h ≡ answers t requests)
history_has_the_calls = accounted.calls_seen

pub history_has_the_entry_points : (bs : List ℕ) (requests : List Request) → let h = history_over bs requests in
    (map (λ e. e.request) h ≡ requests) × (map (λ e. e.answer) h ≡ (replies bs requests).answers)
history_has_the_entry_points = accounted.entries_seen

-- of each task whose answer was 100 its answer after the event, of another no ending
pub history_has_the_endings : (before after : ℕ → ℕ) (q : ℕ) → 1 ≤ q → q ≤ max_tasks
    → ending_of q (endings before after) ≡ choose (eqb (before q) 100) (after q) 100
history_has_the_endings = accounted.endings_seen

-- over bytes that agree it is that of their tables
pub history_of_the_bytes : (bs : List ℕ) → Bytes bs → agrees_bytes bs ≡ true → (requests : List Request) → calls_fit requests ≡ true
    → history_over bs requests ≡ history_of (model_of bs) requests
history_of_the_bytes bs b a = accounted.history_is ((entries.agreeing_tested bs b).0 a)

-- ---- the count accounts for every grant

pub count_since_create_over_bytes : (bs : List ℕ) → Bytes bs → (caller name count attributes maximum : ℕ) (priorities : List ℕ)
    → call_fits (Create caller name count attributes maximum) ≡ true → is_binary attributes ≡ false
    → let r = reply_to bs (Create caller name count attributes maximum) priorities in r.answer.status ≡ 0
    → (requests : List Request) → calls_fit requests ≡ true → let u = model_of (replies r.bytes requests).bytes in names u r.answer.value ≡ true
    → Balances r.answer.value count none_found (history_over r.bytes requests) u
count_since_create_over_bytes bs b caller name count attributes maximum priorities fits notBinary done =
    accounted.since_create_bytes bs b priorities caller name count attributes maximum fits done notBinary

pub count_over_bytes : (bs : List ℕ) → Bytes bs → agrees_bytes bs ≡ true → (id : ℕ) → let s = slot_of (model_of bs) (id % 65536) in
    names (model_of bs) id ≡ true → is_binary s.attributes ≡ false → (requests : List Request) → calls_fit requests ≡ true
    → let u = model_of (replies bs requests).bytes in names u id ≡ true → Balances id s.count (waiters_found (model_of bs)) (history_over bs requests) u
count_over_bytes bs b a id named notBinary requests fit =
    accounted.accounting_bytes ((entries.agreeing_tested bs b).0 a) refl id requests fit named notBinary

-- after a load the history begins with the count and the waiters of the file
pub count_from_the_load : (bs file : List ℕ) → Bytes bs → (load_reply bs file).answer.status ≡ 0
    → (id : ℕ) → let s = slot_of (tables_in file) (id % 65536) in names (tables_in file) id ≡ true → is_binary s.attributes ≡ false
    → (requests : List Request) → calls_fit requests ≡ true → let m = (load_reply bs file).bytes in let u = model_of (replies m requests).bytes in names u id ≡ true
    → Balances id s.count (waiters_found (tables_in file)) (history_over m requests) u
count_from_the_load bs file b done id named notBinary requests fit =
    let g = loads.load_agrees bs file b done in accounted.accounting_bytes g.0 g.1 id requests fit named notBinary

-- ---- waiters are served in turn

pub served_in_turn_over_bytes : (bs : List ℕ) → Bytes bs → agrees_bytes bs ≡ true → (id : ℕ) → let s = slot_of (model_of bs) (id % 65536) in
    names (model_of bs) id ≡ true → is_binary s.attributes ≡ false → by_priority s.attributes ≡ false → (k : ℕ) → k < length s.queue
    → (requests : List Request) → calls_fit requests ≡ true → ServedInTurn id (get_or s.queue k 0) k (history_over bs requests)
served_in_turn_over_bytes bs b a id named notBinary fifo k inside requests fit =
    accounted.served_bytes ((entries.agreeing_tested bs b).0 a) refl id requests fit named notBinary fifo k inside

pub served_since_it_joined_over_bytes : (bs : List ℕ) → Bytes bs → (q id : ℕ) (wait : Wait) (priorities : List ℕ) → call_fits (Obtain q id wait) ≡ true
    → let s = slot_of (model_of bs) (id % 65536) in let r = reply_to bs (Obtain q id wait) priorities in r.answer.status ≡ 100
    → is_binary s.attributes ≡ false → by_priority s.attributes ≡ false → (requests : List Request) → calls_fit requests ≡ true
    → ServedInTurn id q (length s.queue) (history_over r.bytes requests)
served_since_it_joined_over_bytes bs b q id wait priorities fits = accounted.joined_bytes bs b priorities q id wait fits

-- after a load a waiter of the file has its place in the queue as k
pub served_in_turn_from_the_load : (bs file : List ℕ) → Bytes bs → (load_reply bs file).answer.status ≡ 0
    → (id : ℕ) → let s = slot_of (tables_in file) (id % 65536) in names (tables_in file) id ≡ true → is_binary s.attributes ≡ false
    → by_priority s.attributes ≡ false → (k : ℕ) → k < length s.queue → (requests : List Request) → calls_fit requests ≡ true
    → ServedInTurn id (get_or s.queue k 0) k (history_over (load_reply bs file).bytes requests)
served_in_turn_from_the_load bs file b done id named notBinary fifo k inside requests fit =
    let g = loads.load_agrees bs file b done in accounted.served_bytes g.0 g.1 id requests fit named notBinary fifo k inside

-- ---- computed

-- from the create on: an obtain and two waits are granted, one wait times out, and of four releases two raise the count: 2 + 3 = 1 + 4
pub account_case : ((slot_of (tables_of (cases.made ++ cases.calls)) 1).count ≡ 2)
    × (grants_in 65537 none_found (history_of (tables_of cases.made) cases.calls) ≡ 3) × (releases_in 65537 (history_of (tables_of cases.made) cases.calls) ≡ 4)
account_case = cases.accounted
