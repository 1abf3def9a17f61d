-- P1 to P14 of document 01 with the maxima of request 4 and the timeouts of request 6, P15 of request 1, and what request 3 counts.
use mathlib.Core.Path.{◌≡◌, refl}
use mathlib.Core.List.{List, [], ◌∷◌, ◌++◌}
use Prim.Native.Nat.{ℕ}
use Rattle.rules.specs.declared.Call.TheVariants.{Create, Delete, Release, Tick}
use Rattle.rules.specs.Machine.{Tables, unstarted}
use Rattle.rules.specs.Calls.{searched_slots, looked}
use Rattle.rules.specs.Runs.{Request}
use Rattle.rules.proofs.Asking.{Line, ◌gives◌, ask, start_with, obtains, says, requests, expected, answers_of, tables_of, last_of}

-- P1 to P11
abbrev pub worked : List Line
worked =
    (start_with 4 (10 ∷ 20 ∷ []) gives says 0 0 1)
    ∷ (ask (Create 1 77 1 20 1) gives says 0 65537 1)
    ∷ (obtains 2 65537 0 4294967295 gives says 0 0 1)
    ∷ (obtains 1 65537 0 3 gives says 100 0 2)
    ∷ (ask Tick gives says 0 0 2)
    ∷ (ask (Release 2 65537) gives says 0 0 1)
    ∷ (ask (Delete 2 65537) gives says 12 0 1)
    ∷ (ask (Release 1 65537) gives says 0 0 1)
    ∷ (ask (Delete 1 65537) gives says 0 0 1)
    ∷ (obtains 1 65537 0 4294967295 gives says 4 0 1)
    ∷ (ask (Create 1 78 2 0 4294967295) gives says 0 131073 1)
    ∷ []

-- one task has created a semaphore of that count, those attributes and that maximum
abbrev pub one : ℕ → ℕ → ℕ → List Request
one count attributes maximum = start_with 1 (5 ∷ []) ∷ ask (Create 1 77 count attributes maximum) ∷ []

-- P15: task 1 is ready again, but task 2 has been ready longer
abbrev pub equals : List Line
equals =
    (start_with 1 (10 ∷ 10 ∷ []) gives says 0 0 1)
    ∷ (ask (Create 1 77 0 0 4294967295) gives says 0 65537 1)
    ∷ (obtains 1 65537 0 0 gives says 100 0 2)
    ∷ (ask (Release 2 65537) gives says 0 0 2)
    ∷ []

-- P12 counting at 4294967295, P13 simple binary at 1, P14 unowned binary
pub P1_P15 : answers_of (requests worked)
    ++ last_of (one 4294967295 0 4294967295) (ask (Release 1 65537))
    ∷ last_of (one 1 32 1) (ask (Release 0 65537))
    ∷ last_of (one 1 16 1) (ask (Release 0 65537))
    ∷ answers_of (requests equals)
    ≡ expected worked ++ says 13 0 1 ∷ says 13 0 1 ∷ says 23 0 1 ∷ expected equals
unfolding answers_of
P1_P15 = refl

-- the tables that P15 leaves: both tasks are ready, task 2 the longer
pub P15_leaves : tables_of (requests equals) ≡ record {
  tasks = record { priority = 10; answer = 0; awaited = 0; ticks = 0 } ∷ record { priority = 10; answer = 0; awaited = 0; ticks = 0 } ∷ [];
  slots = record { generation = 1; live = 1; name = 77; attributes = 0; count = 0; owner = 0; nest = 0; maximum = 4294967295; queue = [] } ∷ [];
  ready = 2 ∷ 1 ∷ [];
}
unfolding answers_of
P15_leaves = refl

-- ---- request 3: how many slots ident looks at, on a machine of four

-- names 77, 78 and 77 again in slots 1 to 3; then slot 1 is deleted
abbrev pub three : List Request
three = start_with 4 (10 ∷ []) ∷ ask (Create 1 77 1 0 4294967295) ∷ ask (Create 1 78 1 0 4294967295) ∷ ask (Create 1 77 1 0 4294967295) ∷ []

abbrev pub two : List Request
two = three ++ ask (Delete 1 65537) ∷ []

abbrev counts : Tables → List ℕ
counts t = looked t 77 ∷ looked t 78 ∷ looked t 79 ∷ looked t 0 ∷ []

pub counts_looked : counts (tables_of three) ++ counts (tables_of two) ++ counts unstarted
    ≡ 1 ∷ 2 ∷ 4 ∷ 0 ∷ 3 ∷ 2 ∷ 4 ∷ 0 ∷ 0 ∷ 0 ∷ 0 ∷ 0 ∷ []
unfolding answers_of looked
counts_looked = refl

pub slots_looked_at : searched_slots 77 (tables_of two).slots 1 ≡ 1 ∷ 2 ∷ 3 ∷ []
unfolding answers_of searched_slots
slots_looked_at = refl
