-- Request 7: the grants and the successful releases on an identifier, read off a history.
use Rattle.std.specs.Prelude.{◌≡◌, Bool, false, List, [], ◌∷◌, ℕ, ◌+◌, ◌%◌, eqb}
use Rattle.laws.specs.Choose.{choose, bit, ◌and◌}
use Rattle.rules.specs.declared.Call.{Call}
use Rattle.rules.specs.declared.Call.TheVariants.{Start, Create, Ident, Delete, Obtain, Release, Flush, Tick}
use Rattle.rules.specs.Numbers.{successful, waiting}
use Rattle.rules.specs.Machine.{Tables, task_of, slot_of}
use Rattle.accounts.specs.History.{Ending, Event}

-- a call is an obtain on the identifier, a release on it
unfoldable pub obtains : Call → ℕ → Bool
obtains (Start slots) id = false
obtains (Create caller name count attributes maximum) id = false
obtains (Ident name) id = false
obtains (Delete caller n) id = false
obtains (Obtain caller n wait) id = eqb n id
obtains (Release caller n) id = false
obtains (Flush caller n) id = false
obtains Tick id = false

unfoldable pub releases : Call → ℕ → Bool
releases (Start slots) id = false
releases (Create caller name count attributes maximum) id = false
releases (Ident name) id = false
releases (Delete caller n) id = false
releases (Obtain caller n wait) id = false
releases (Release caller n) id = eqb n id
releases (Flush caller n) id = false
releases Tick id = false

-- ---- which identifier each task's wait is on

-- as the history finds it at its beginning: in the record of the task that waits
abbrev pub waiters_found : Tables → ℕ → ℕ
waiters_found t q = (task_of t q).awaited

-- on a semaphore that is new nobody waits; 0 is no identifier
abbrev pub none_found : ℕ → ℕ
none_found q = 0

-- after a call that began a wait: its caller's is on the identifier that it obtains, the others' as `awaited` has them before
unfoldable pub begun : (ℕ → ℕ) → Call → ℕ → ℕ
begun awaited (Start slots) q = awaited q
begun awaited (Create caller name count attributes maximum) q = awaited q
begun awaited (Ident name) q = awaited q
begun awaited (Delete caller id) q = awaited q
begun awaited (Obtain caller id wait) q = choose (eqb q caller) id (awaited q)
begun awaited (Release caller id) q = awaited q
begun awaited (Flush caller id) q = awaited q
begun awaited Tick q = awaited q

-- after an event: a wait has begun exactly where the answer is 100
unfoldable pub waits_after : (ℕ → ℕ) → Event → ℕ → ℕ
waits_after awaited e = choose (eqb e.answer.status waiting) (begun awaited e.request.call) awaited

-- ---- grants and releases

-- of waits that ended, those on the identifier that ended with 0
unfoldable pub granted : ℕ → (ℕ → ℕ) → List Ending → ℕ
granted id awaited [] = 0
granted id awaited (w ∷ ws) = bit (eqb (awaited w.task) id and eqb w.answer successful) + granted id awaited ws

-- the grants of an event: an obtain on the identifier that answered 0, and waits on it that ended with 0
abbrev pub grants_at : ℕ → (ℕ → ℕ) → Event → ℕ
grants_at id awaited e = bit (obtains e.request.call id and eqb e.answer.status successful) + granted id awaited e.endings

-- of a history, where `awaited` is as it begins
unfoldable pub grants_in : ℕ → (ℕ → ℕ) → List Event → ℕ
grants_in id awaited [] = 0
grants_in id awaited (e ∷ es) = grants_at id awaited e + grants_in id (waits_after awaited e) es

-- the successful releases
abbrev pub released_at : ℕ → Event → ℕ
released_at id e = bit (releases e.request.call id and eqb e.answer.status successful)

unfoldable pub releases_in : ℕ → List Event → ℕ
releases_in id [] = 0
releases_in id (e ∷ es) = released_at id e + releases_in id es

-- count + grants = count at the beginning + successful releases, where the history has led to tables u
abbrev pub Balances : ℕ → ℕ → (ℕ → ℕ) → List Event → Tables → Type 0
Balances id count awaited history u = (slot_of u (id % 65536)).count + grants_in id awaited history ≡ count + releases_in id history
