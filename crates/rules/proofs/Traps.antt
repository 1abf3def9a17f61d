-- Document 01's cases "Run by a program" and "Ways to get it nearly right", the sequence of request 1, the maxima of request 4 and the timeouts of request 6,
-- computed on the rules.
use mathlib.Core.Path.{◌≡◌, refl}
use mathlib.Core.List.{List, [], ◌∷◌, map}
use Prim.Native.Nat.{ℕ}
use lib.ListN.{replicate}
use Rattle.rules.specs.declared.Task.{Task}
use Rattle.rules.specs.declared.Call.TheVariants.{Create, Ident, Delete, Release, Flush, Tick}
use Rattle.rules.specs.Numbers.{class_maximum}
use Rattle.rules.specs.Machine.{Slot, free_slot}
use Rattle.rules.specs.Runs.{answers}
use Rattle.rules.proofs.Asking.{Line, ◌gives◌, ask, start_with, obtains, says, requests, expected, answers_of, tables_of}

-- three tasks and two slots; the identifiers of slot 1 in its first and second generation, and of slot 2
abbrev three : ℕ → ℕ → ℕ → Line
three p q r = start_with 2 (p ∷ q ∷ r ∷ []) gives says 0 0 1

abbrev first : ℕ
first = 65537

abbrev again : ℕ
again = 131073

abbrev second : ℕ
second = 65538

-- nothing but a start before the start; 10 before 19; N and S at their limits; a second start is 14 before all else
abbrev starts : List Line
starts =
    (ask Tick gives says 0 0 0)
    ∷ (ask (Create 1 7 1 0 4294967295) gives says 4 0 0)
    ∷ (start_with 0 (0 ∷ []) gives says 10 0 0)
    ∷ (start_with 65 (1 ∷ []) gives says 10 0 0)
    ∷ (start_with 1 [] gives says 10 0 0)
    ∷ (start_with 1 (replicate 33 1) gives says 10 0 0)
    ∷ (start_with 1 (1 ∷ 0 ∷ []) gives says 19 0 0)
    ∷ (start_with 1 (256 ∷ []) gives says 19 0 0)
    ∷ (start_with 64 (replicate 32 255) gives says 0 0 1)
    ∷ (start_with 0 (0 ∷ []) gives says 14 0 1)
    ∷ []

-- name 0 with attributes 48 is 3; attributes 48 with a name are 11; binary count 2 is 10, count 1 fine
abbrev creates : List Line
creates =
    three 1 2 3
    ∷ (ask (Create 1 0 1 48 1) gives says 3 0 1)
    ∷ (ask (Create 1 7 1 48 1) gives says 11 0 1)
    ∷ (ask (Create 1 7 2 16 1) gives says 10 0 1)
    ∷ (ask (Create 1 7 2 36 1) gives says 10 0 1)
    ∷ (ask (Create 1 7 1 16 1) gives says 0 first 1)
    ∷ (ask (Create 1 7 1 36 1) gives says 0 second 1)
    ∷ (ask (Create 1 7 1 36 1) gives says 5 0 1)
    ∷ (ask (Create 1 7 2 36 1) gives says 10 0 1)
    ∷ (ask (Create 1 7 2 48 1) gives says 11 0 1)
    ∷ (ask (Ident 7) gives says 0 first 1)
    ∷ (ask (Ident 0) gives says 3 0 1)
    ∷ []

-- a caller above N is 4 and a waiting caller 14, also with an identifier that names nothing; caller 0 is 18 or an interrupt
abbrev callers : List Line
callers =
    three 1 2 3
    ∷ (ask (Create 1 7 0 0 4294967295) gives says 0 first 1)
    ∷ (obtains 2 first 0 0 gives says 100 0 1)
    ∷ (obtains 4 first 0 0 gives says 4 0 1)
    ∷ (ask (Release 4 9) gives says 4 0 1)
    ∷ (ask (Release 2 9) gives says 14 0 1)
    ∷ (obtains 2 9 0 0 gives says 14 0 1)
    ∷ (obtains 1 9 0 0 gives says 4 0 1)
    ∷ (obtains 0 9 0 0 gives says 18 0 1)
    ∷ (ask (Delete 0 9) gives says 18 0 1)
    ∷ (ask (Create 0 0 1 48 1) gives says 18 0 1)
    ∷ (ask (Flush 0 9) gives says 4 0 1)
    ∷ (ask (Release 0 first) gives says 0 0 1)
    ∷ (start_with 0 [] gives says 14 0 1)
    ∷ []

-- owner 0 and caller 0 are no match
abbrev interrupts : List Line
interrupts =
    three 1 2 3
    ∷ (ask (Create 1 7 1 16 1) gives says 0 first 1)
    ∷ (ask (Release 0 first) gives says 23 0 1)
    ∷ (obtains 1 first 0 0 gives says 0 0 1)
    ∷ (ask (Release 0 first) gives says 23 0 1)
    ∷ (ask (Release 2 first) gives says 23 0 1)
    ∷ []

-- timeout 1 ends at the next tick; the timed-out task is in no queue, so the release after it raises the count
abbrev timeouts : List Line
timeouts =
    three 1 2 3
    ∷ (ask (Create 3 7 0 0 4294967295) gives says 0 first 1)
    ∷ (obtains 1 first 0 1 gives says 100 0 2)
    ∷ (obtains 2 first 0 2 gives says 100 0 3)
    ∷ (ask Tick gives says 0 0 1)
    ∷ (ask Tick gives says 0 0 1)
    ∷ (ask (Release 3 first) gives says 0 0 1)
    ∷ (obtains 2 first 1 0 gives says 0 0 1)
    ∷ (obtains 2 first 1 0 gives says 13 0 1)
    ∷ []

-- option bits other than 0 have no effect, and NO_WAIT hears no timeout
abbrev options : List Line
options =
    three 1 2 3
    ∷ (ask (Create 3 7 0 0 4294967295) gives says 0 first 1)
    ∷ (obtains 1 first 2 4294967295 gives says 100 0 2)
    ∷ (ask Tick gives says 0 0 2)
    ∷ (obtains 2 first 3 5 gives says 13 0 2)
    ∷ (obtains 2 first 1 0 gives says 13 0 2)
    ∷ (obtains 2 first 1 4294967295 gives says 13 0 2)
    ∷ (ask Tick gives says 0 0 2)
    ∷ (ask (Delete 3 first) gives says 0 0 1)
    ∷ []

-- equal priorities are served by arrival, and of equal tasks the one that has been ready longest is next
abbrev arrivals : List Line
arrivals =
    three 5 5 9
    ∷ (ask (Create 3 7 0 4 4294967295) gives says 0 first 1)
    ∷ (obtains 2 first 0 0 gives says 100 0 1)
    ∷ (obtains 1 first 0 0 gives says 100 0 3)
    ∷ (ask (Release 3 first) gives says 0 0 2)
    ∷ (ask (Release 3 first) gives says 0 0 2)
    ∷ []

-- PRIORITY serves the least priority number first; the answers tell by the next task
abbrev urgent : List Line
urgent =
    (start_with 1 (5 ∷ 4 ∷ 9 ∷ []) gives says 0 0 2)
    ∷ (ask (Create 3 7 0 4 4294967295) gives says 0 first 2)
    ∷ (obtains 1 first 0 0 gives says 100 0 2)
    ∷ (obtains 2 first 0 0 gives says 100 0 3)
    ∷ (ask (Release 3 first) gives says 0 0 2)
    ∷ []

-- a FIFO queue ignores priority; a release with a waiter leaves the count
abbrev in_turn : List Line
in_turn =
    (start_with 1 (5 ∷ 4 ∷ 9 ∷ []) gives says 0 0 2)
    ∷ (ask (Create 3 7 0 0 4294967295) gives says 0 first 2)
    ∷ (obtains 1 first 0 4294967295 gives says 100 0 2)
    ∷ (obtains 2 first 0 4294967295 gives says 100 0 3)
    ∷ (ask (Release 3 first) gives says 0 0 1)
    ∷ (obtains 3 first 1 0 gives says 13 0 1)
    ∷ []

-- a binary semaphore nests; a flush keeps count, owner and nest, and a release by the owner is one of the nest
abbrev nests : List Line
nests =
    three 1 2 3
    ∷ (ask (Create 1 7 0 20 1) gives says 0 first 1)
    ∷ (obtains 1 first 0 0 gives says 0 0 1)
    ∷ (obtains 2 first 0 0 gives says 100 0 1)
    ∷ (ask (Flush 3 first) gives says 0 0 1)
    ∷ (ask (Release 1 first) gives says 0 0 1)
    ∷ (ask (Delete 1 first) gives says 12 0 1)
    ∷ []

-- a simple binary semaphore makes even its holder wait; a flush does not give it back
abbrev simples : List Line
simples =
    three 1 2 3
    ∷ (ask (Create 1 7 1 32 1) gives says 0 first 1)
    ∷ (obtains 1 first 0 0 gives says 0 0 1)
    ∷ (obtains 1 first 0 0 gives says 100 0 2)
    ∷ (ask (Flush 0 first) gives says 0 0 1)
    ∷ (obtains 1 first 1 0 gives says 13 0 1)
    ∷ []

-- a flush leaves the count
abbrev flushes : List Line
flushes =
    three 1 2 3
    ∷ (ask (Create 1 7 2 0 4294967295) gives says 0 first 1)
    ∷ (ask (Flush 1 first) gives says 0 0 1)
    ∷ (obtains 1 first 1 0 gives says 0 0 1)
    ∷ (obtains 1 first 1 0 gives says 0 0 1)
    ∷ (obtains 1 first 1 0 gives says 13 0 1)
    ∷ []

-- an identifier of a slot that was freed and used again is 4
abbrev reused : List Line
reused =
    three 1 2 3
    ∷ (ask (Create 1 7 0 0 4294967295) gives says 0 first 1)
    ∷ (obtains 1 first 0 0 gives says 100 0 2)
    ∷ (ask (Delete 2 first) gives says 0 0 1)
    ∷ (ask (Release 1 first) gives says 4 0 1)
    ∷ (ask (Create 1 8 1 0 4294967295) gives says 0 again 1)
    ∷ (obtains 1 first 0 0 gives says 4 0 1)
    ∷ (obtains 1 again 0 0 gives says 0 0 1)
    ∷ []

-- a flush and a delete wake in queue order, here 3 and then 1, of equal priority
abbrev in_queue_order : List Line
in_queue_order =
    (start_with 1 (5 ∷ 9 ∷ 5 ∷ []) gives says 0 0 1)
    ∷ (ask (Create 2 7 0 4 4294967295) gives says 0 first 1)
    ∷ (obtains 3 first 0 0 gives says 100 0 1)
    ∷ (obtains 1 first 0 0 gives says 100 0 2)
    ∷ (ask (Flush 2 first) gives says 0 0 3)
    ∷ (obtains 3 first 0 0 gives says 100 0 1)
    ∷ (obtains 1 first 0 0 gives says 100 0 2)
    ∷ (ask (Delete 2 first) gives says 0 0 3)
    ∷ []

-- a tick wakes in task number order, although the queue has 3 before 1
abbrev in_task_order : List Line
in_task_order =
    (start_with 1 (5 ∷ 9 ∷ 5 ∷ []) gives says 0 0 1)
    ∷ (ask (Create 2 7 0 4 4294967295) gives says 0 first 1)
    ∷ (obtains 3 first 0 1 gives says 100 0 1)
    ∷ (obtains 1 first 0 1 gives says 100 0 2)
    ∷ (ask Tick gives says 0 0 1)
    ∷ []

-- the last of equals is not taken, and a call that begins and ends no wait moves nobody: an obtain that is done, or polls and is 13
abbrev unmoved : List Line
unmoved =
    three 5 5 5
    ∷ (ask (Create 1 7 1 0 4294967295) gives says 0 first 1)
    ∷ (obtains 1 first 0 0 gives says 0 0 1)
    ∷ (obtains 1 first 1 0 gives says 13 0 1)
    ∷ (ask (Release 1 first) gives says 0 0 1)
    ∷ (ask Tick gives says 0 0 1)
    ∷ []

-- a release goes to the semaphore's own maximum; 10 is for a count above it and for a maximum that is not allowed, after 11 and before 5
abbrev maxima : List Line
maxima =
    (start_with 2 (1 ∷ []) gives says 0 0 1)
    ∷ (ask (Create 1 7 13 0 12) gives says 10 0 1)
    ∷ (ask (Create 1 7 0 0 0) gives says 10 0 1)
    ∷ (ask (Create 1 7 1 16 2) gives says 10 0 1)
    ∷ (ask (Create 1 7 1 36 2) gives says 10 0 1)
    ∷ (ask (Create 1 7 0 16 0) gives says 10 0 1)
    ∷ (ask (Create 1 7 13 48 12) gives says 11 0 1)
    ∷ (ask (Create 1 7 11 0 12) gives says 0 first 1)
    ∷ (ask (Release 0 first) gives says 0 0 1)
    ∷ (ask (Release 0 first) gives says 13 0 1)
    ∷ (obtains 1 first 0 0 gives says 0 0 1)
    ∷ (ask (Release 1 first) gives says 0 0 1)
    ∷ (ask (Release 1 first) gives says 13 0 1)
    ∷ (ask (Create 1 8 1 4 1) gives says 0 second 1)
    ∷ (ask (Create 1 9 2 0 1) gives says 10 0 1)
    ∷ (ask (Create 1 9 1 0 1) gives says 5 0 1)
    ∷ (ask (Release 1 second) gives says 13 0 1)
    ∷ (ask (Delete 1 first) gives says 0 0 1)
    ∷ []

abbrev runs : List (List Line)
runs =
    starts ∷ creates ∷ callers ∷ interrupts ∷ timeouts ∷ options ∷ arrivals ∷ urgent ∷ in_turn ∷ nests ∷ simples ∷ flushes ∷ reused
    ∷ in_queue_order ∷ in_task_order ∷ unmoved ∷ maxima ∷ []

-- what the calls answer in each run
Traps : map (λ run. answers_of (requests run)) runs ≡ map expected runs
unfolding answers_of
Traps = refl

abbrev ready : ℕ → ℕ → Task
ready priority answer = record { priority = priority; answer = answer; awaited = 0; ticks = 0 }

abbrev live : ℕ → ℕ → ℕ → ℕ → ℕ → List ℕ → Slot
live generation name attributes owner nest queue =
    record {
      generation = generation;
      live = 1;
      name = name;
      attributes = attributes;
      count = 0;
      owner = owner;
      nest = nest;
      maximum = class_maximum attributes;
      queue = queue;
    }

-- every number of the tables that six of the runs leave
Leftovers : map (λ run. tables_of (requests run)) (timeouts ∷ in_turn ∷ nests ∷ simples ∷ reused ∷ maxima ∷ [])
    ≡ record { tasks = ready 1 6 ∷ ready 2 6 ∷ ready 3 0 ∷ []; slots = live 1 7 0 0 0 [] ∷ free_slot 0 ∷ []; ready = 3 ∷ 1 ∷ 2 ∷ [] }
    ∷ record {
      tasks = ready 5 0 ∷ record { priority = 4; answer = 100; awaited = first; ticks = 0 } ∷ ready 9 0 ∷ [];
      slots = live 1 7 0 0 0 (2 ∷ []) ∷ [];
      ready = 3 ∷ 1 ∷ [];
    }
    ∷ record { tasks = ready 1 0 ∷ ready 2 13 ∷ ready 3 0 ∷ []; slots = live 1 7 20 1 1 [] ∷ free_slot 0 ∷ []; ready = 1 ∷ 3 ∷ 2 ∷ [] }
    ∷ record { tasks = ready 1 13 ∷ ready 2 0 ∷ ready 3 0 ∷ []; slots = live 1 7 32 0 0 [] ∷ free_slot 0 ∷ []; ready = 2 ∷ 3 ∷ 1 ∷ [] }
    ∷ record { tasks = ready 1 7 ∷ ready 2 0 ∷ ready 3 0 ∷ []; slots = live 2 8 0 0 0 [] ∷ free_slot 0 ∷ []; ready = 2 ∷ 3 ∷ 1 ∷ [] }
    ∷ record {
      tasks = ready 1 0 ∷ [];
      slots = free_slot 1
          ∷ record { generation = 1; live = 1; name = 8; attributes = 4; count = 1; owner = 0; nest = 0; maximum = 1; queue = [] } ∷ [];
      ready = 1 ∷ [];
    }
    ∷ []
unfolding answers_of
Leftovers = refl

-- and the sequences that those on the sequence leave
Sequences : map (λ run. (tables_of (requests run)).ready) (arrivals ∷ in_queue_order ∷ in_task_order ∷ unmoved ∷ [])
    ≡ (3 ∷ 2 ∷ 1 ∷ []) ∷ (2 ∷ 3 ∷ 1 ∷ []) ∷ (2 ∷ 1 ∷ 3 ∷ []) ∷ (1 ∷ 2 ∷ 3 ∷ []) ∷ []
unfolding answers_of
Sequences = refl

-- numbers at their ends: a slot is not used again after generation 65535, and a nest stops at 4294967295
Ends : answers (record { tasks = ready 1 0 ∷ []; slots = free_slot 65534 ∷ []; ready = 1 ∷ [] })
    (ask (Create 1 7 1 0 4294967295) ∷ ask (Delete 1 4294901761) ∷ ask (Create 1 7 1 0 4294967295) ∷ [])
    ∷ answers (record { tasks = ready 1 0 ∷ []; slots = live 1 7 16 1 4294967295 [] ∷ []; ready = 1 ∷ [] })
    (obtains 1 first 0 0 ∷ ask (Release 1 first) ∷ obtains 1 first 0 0 ∷ [])
    ∷ []
    ≡ (says 0 4294901761 1 ∷ says 0 0 1 ∷ says 5 0 1 ∷ []) ∷ (says 13 0 1 ∷ says 0 0 1 ∷ says 0 0 1 ∷ []) ∷ []
unfolding answers_of
Ends = refl
