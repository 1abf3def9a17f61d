-- Events as numbers laid end to end: a kind, then its numbers as in a session's line. 1 turn TASK, 2 start SLOTS COUNT PRIORITY ..,
-- 3 create CALLER NAME COUNT ATTRIBUTES MAXIMUM, 4 ident NAME, 5 delete CALLER ID, 6 obtain CALLER ID OPTIONS TIMEOUT, 7 release CALLER ID,
-- 8 flush CALLER ID, 9 tick.
use Rattle.std.specs.Prelude.{ℕ, zero, suc, pred, ◌+◌, List, [], ◌∷◌, length, take, drop, ◌==◌, nat_le, slice_index}
use Rattle.laws.specs.Choose.{choose}
use Rattle.rules.specs.declared.Call.{Call}
use Rattle.rules.specs.declared.Call.TheVariants.{Start, Create, Ident, Delete, Obtain, Release, Flush, Tick}
use Rattle.rules.specs.Semaphore.{wait_of}
use Rattle.sections.specs.Run.{Event}
use Rattle.sections.specs.Run.Event.{Turn, Other, NoEvent}

-- how many numbers an event of that kind is; a start has as many priorities as it says; 0 where there is no such kind
unfoldable pub size_of : ℕ → ℕ → ℕ
size_of kind count =
    choose (kind == 1) 2
    (choose (kind == 2) (3 + count)
    (choose (kind == 3) 6
    (choose (kind == 4) 2
    (choose (kind == 5) 3
    (choose (kind == 6) 5
    (choose (kind == 7) 3
    (choose (kind == 8) 3
    (choose (kind == 9) 1 0))))))))

unfoldable pub call_of : ℕ → ℕ → ℕ → ℕ → ℕ → ℕ → Call
call_of kind a b c d e =
    choose (kind == 2) (Start a)
    (choose (kind == 3) (Create a b c d e)
    (choose (kind == 4) (Ident a)
    (choose (kind == 5) (Delete a b)
    (choose (kind == 6) (Obtain a b (wait_of c d))
    (choose (kind == 7) (Release a b)
    (choose (kind == 8) (Flush a b) Tick))))))

-- the size of the event that numbers begin with, or 0: it has a kind and is not cut short
unfoldable pub event_size : List ℕ → ℕ
event_size ns = let size = size_of (slice_index ns 0) (slice_index ns 2) in choose (nat_le size (length ns)) size 0

unfoldable pub priorities_of : List ℕ → List ℕ
priorities_of ns = choose (slice_index ns 0 == 2) (take (slice_index ns 2) (drop 3 ns)) []

unfoldable pub event_at : List ℕ → Event
event_at ns =
    choose (event_size ns == 0) NoEvent
    (choose (slice_index ns 0 == 1) (Turn (slice_index ns 1))
    (Other (record { call = call_of (slice_index ns 0) (slice_index ns 1) (slice_index ns 2) (slice_index ns 3) (slice_index ns 4) (slice_index ns 5); priorities = priorities_of ns })))

-- the events behind `skip` numbers; with what is no event the reading ends
unfoldable pub events_from : ℕ → List ℕ → List Event
events_from skip [] = []
events_from zero (n ∷ ns) =
    let size = event_size (n ∷ ns) in
    event_at (n ∷ ns) ∷ events_from (choose (size == 0) (length ns) (pred size)) ns
events_from (suc skip) (n ∷ ns) = events_from skip ns

abbrev pub events_of : List ℕ → List Event
events_of ns = events_from 0 ns
