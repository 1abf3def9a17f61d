-- Runs that are computed: whose waits their events ended, what was granted and released, and that k releases are not enough for a waiter with k tasks ahead.
use mathlib.Core.Path.{◌≡◌, refl}
use mathlib.Core.Bool.{true}
use mathlib.Core.List.{List, [], ◌∷◌, ◌++◌, map}
use Prim.Native.Nat.{ℕ}
use lib.ListN.{replicate}
use Rattle.rules.specs.declared.Answer.{Answer}
use Rattle.rules.specs.declared.Call.TheVariants.{Create, Delete, Release, Flush, Tick}
use Rattle.rules.specs.Machine.{slot_of}
use Rattle.rules.specs.Runs.{Request, answers}
use Rattle.rules.proofs.Asking.{ask, start_with, obtains, answers_of, tables_of}
use Rattle.accounts.specs.History.{Ending, Event, endings_from, history_of}
use Rattle.accounts.specs.Accounts as accounts
use Rattle.accounts.specs.Accounts.{waiters_found, none_found, begun, waits_after, granted, grants_in, releases_in}
use Rattle.accounts.specs.Turns.{ending_of, goes_on}

-- four tasks and a counting semaphore with one unit, first come, first served: 65537
abbrev pub made : List Request
made = start_with 1 (10 ∷ 20 ∷ 30 ∷ 40 ∷ []) ∷ ask (Create 4 77 1 0 4294967295) ∷ []

-- task 4 has the unit; 3, 2 and 1 wait, 2 for two ticks
abbrev pub waiters : List Request
waiters = obtains 4 65537 0 4294967295 ∷ obtains 3 65537 0 4294967295 ∷ obtains 2 65537 0 2 ∷ obtains 1 65537 0 4294967295 ∷ []

abbrev pub gives : Request
gives = ask (Release 4 65537)

abbrev pub ended : ℕ → ℕ → Ending
ended task answer = record { task = task; answer = answer }

-- whose waits each event of a history ended, with which answers
abbrev pub endings_along : List Event → List (List Ending)
endings_along = map (λ e. e.endings)

-- the history of a run that begins with the three waiters
abbrev pub since : List Request → List Event
since = history_of (tables_of (made ++ waiters))

-- they are served in turn, each by a release: after two releases the wait of task 1, which has two tasks ahead, goes on, and the third grants it
pub two_not_enough : ((slot_of (tables_of (made ++ waiters)) 1).queue ≡ 3 ∷ 2 ∷ 1 ∷ []) × (releases_in 65537 (since (replicate 2 gives)) ≡ 2)
    × (goes_on 1 (since (replicate 2 gives)) ≡ true)
    × (endings_along (since (replicate 3 gives)) ≡ (ended 3 0 ∷ []) ∷ (ended 2 0 ∷ []) ∷ (ended 1 0 ∷ []) ∷ [])
unfolding answers_of history_of endings_from accounts.releases releases_in ending_of goes_on
two_not_enough = (refl, refl, refl, refl)

-- two ticks end the wait of task 2 with 6, so task 1 is granted by the second release; a flush ends all waits with 13, a delete with 7
pub ended_otherwise : (endings_along (since (ask Tick ∷ ask Tick ∷ gives ∷ gives ∷ [])) ≡ [] ∷ (ended 2 6 ∷ []) ∷ (ended 3 0 ∷ []) ∷ (ended 1 0 ∷ []) ∷ [])
    × (endings_along (since (gives ∷ ask (Flush 0 65537) ∷ [])) ≡ (ended 3 0 ∷ []) ∷ (ended 1 13 ∷ ended 2 13 ∷ []) ∷ [])
    × (endings_along (since (ask (Delete 4 65537) ∷ [])) ≡ (ended 1 7 ∷ ended 2 7 ∷ ended 3 7 ∷ []) ∷ [])
unfolding answers_of history_of endings_from
ended_otherwise = (refl, refl, refl)

-- the calls from the create on: one obtain and two waits are granted, task 2's wait is not, and the last two releases find nobody
abbrev pub calls : List Request
calls = waiters ++ ask Tick ∷ ask Tick ∷ replicate 4 gives

-- count 2 and three grants, the initial 1 and four releases
pub accounted : ((slot_of (tables_of (made ++ calls)) 1).count ≡ 2) × (grants_in 65537 none_found (history_of (tables_of made) calls) ≡ 3)
    × (releases_in 65537 (history_of (tables_of made) calls) ≡ 4)
unfolding answers_of history_of endings_from accounts.obtains accounts.releases begun waits_after granted grants_in releases_in
accounted = (refl, refl, refl)

abbrev pub later : List Request
later = ask Tick ∷ ask Tick ∷ replicate 4 gives

-- from the tables with the three waiters: the count found 0 and four releases, count 2 and two grants; without the waiters found the grants would be missed
pub accounted_as_found : ((slot_of (tables_of (made ++ waiters)) 1).count ≡ 0) × ((slot_of (tables_of (made ++ waiters ++ later)) 1).count ≡ 2)
    × (grants_in 65537 (waiters_found (tables_of (made ++ waiters))) (since later) ≡ 2) × (releases_in 65537 (since later) ≡ 4)
    × (grants_in 65537 none_found (since later) ≡ 0)
unfolding answers_of history_of endings_from accounts.obtains accounts.releases begun waits_after granted grants_in releases_in
accounted_as_found = (refl, refl, refl, refl, refl)

-- two semaphores: 65537 counts to 2, PRIORITY, and 65538 is simple binary, both with nothing in them
abbrev pub two : List Request
two = start_with 2 (10 ∷ 20 ∷ []) ∷ ask (Create 1 77 0 4 2) ∷ ask (Create 1 78 0 32 1) ∷ []

-- task 1 waits on the first and then on the second, task 2 on the second and then on the first, and each is granted both; a release at the
-- maximum and a poll get 13 and count for nothing; caller 0 releases, and takes nothing; the first is deleted and its slot is used again, as 131073
abbrev pub both : List Request
both =
    obtains 1 65537 0 4294967295 ∷ obtains 2 65538 0 4294967295 ∷ ask (Release 0 65537) ∷ ask (Release 0 65538) ∷ obtains 1 65538 0 0 ∷ obtains 2 65537 0 0
    ∷ ask (Release 0 65537) ∷ ask (Release 0 65538) ∷ ask (Release 2 65538) ∷ ask (Release 2 65538) ∷ obtains 2 65537 1 0 ∷ ask (Release 2 65537)
    ∷ ask (Delete 2 65537) ∷ ask (Create 2 79 1 0 9) ∷ obtains 1 131073 1 0 ∷ []

pub statuses_of_both : map (λ (a : Answer). a.status) (answers (tables_of two) both)
    ≡ 100 ∷ 100 ∷ 0 ∷ 0 ∷ 100 ∷ 100 ∷ 0 ∷ 0 ∷ 0 ∷ 13 ∷ 13 ∷ 0 ∷ 0 ∷ 0 ∷ 0 ∷ []
unfolding answers_of
statuses_of_both = refl

abbrev pub grants_of_both : ℕ → ℕ
grants_of_both id = grants_in id none_found (history_of (tables_of two) both)

abbrev pub releases_of_both : ℕ → ℕ
releases_of_both id = releases_in id (history_of (tables_of two) both)

-- grants, releases and the count at the end: of the first 2 and 3, until it is deleted with count 1; of the second 2, 3 and 1; of the new one 1 and 0, from 1
pub accounted_apart : (grants_of_both 65537 ≡ 2) × (releases_of_both 65537 ≡ 3) × (grants_of_both 65538 ≡ 2) × (releases_of_both 65538 ≡ 3)
    × ((slot_of (tables_of (two ++ both)) 2).count ≡ 1) × (grants_of_both 131073 ≡ 1) × (releases_of_both 131073 ≡ 0)
    × ((slot_of (tables_of (two ++ both)) 1).count ≡ 0)
unfolding answers_of history_of endings_from accounts.obtains accounts.releases begun waits_after granted grants_in releases_in
accounted_apart = (refl, refl, refl, refl, refl, refl, refl, refl)
