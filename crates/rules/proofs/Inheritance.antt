-- Worked runs of request 8, computed: the radio waits for the display and no logger runs instead; chains, a deadlock, and queues served by working priorities.
use mathlib.Core.Path.{◌≡◌, refl}
use mathlib.Core.List.{List, [], ◌∷◌, ◌++◌}
use Prim.Native.Nat.{ℕ}
use Rattle.rules.specs.declared.Call.TheVariants.{Create, Release, Flush, Delete, Tick}
use Rattle.rules.specs.Machine.{Tables, urgency}
use Rattle.rules.specs.Runs.{Request}
use Rattle.rules.proofs.Asking.{Line, ◌gives◌, ask, start_with, obtains, says, requests, expected, answers_of, tables_of, last_of}

-- radio 10, logger 20, display 30: the display holds the bus, of these attributes, and the radio waits; `runs` is next then
abbrev pub bus : ℕ → ℕ → List Line
bus attributes runs =
    (start_with 1 (10 ∷ 20 ∷ 30 ∷ []) gives says 0 0 1)
    ∷ (ask (Create 3 66 1 attributes 1) gives says 0 65537 1)
    ∷ (obtains 3 65537 0 4294967295 gives says 0 0 1)
    ∷ (obtains 1 65537 0 4294967295 gives says 100 0 runs)
    ∷ (ask (Release 3 65537) gives says 0 0 1)
    ∷ []

-- with 84 the display runs, with 20 the logger
pub radio_and_display : (answers_of (requests (bus 84 3)) ≡ expected (bus 84 3)) × (answers_of (requests (bus 20 2)) ≡ expected (bus 20 2))
unfolding answers_of
radio_and_display = (refl, refl)

-- task 4 holds 65537, of these attributes; task 3 holds 65538 and waits for 65537
abbrev pub waiting_for : ℕ → List Line
waiting_for attributes =
    (start_with 2 (10 ∷ 20 ∷ 30 ∷ 40 ∷ []) gives says 0 0 1)
    ∷ (ask (Create 4 65 0 attributes 1) gives says 0 65537 1)
    ∷ (ask (Create 3 66 0 84 1) gives says 0 65538 1)
    ∷ (obtains 3 65537 0 4294967295 gives says 100 0 1)
    ∷ []

-- two links, once task 1 waits for 65538: task 4 works with 10; then task 3 does, as long as it holds 65538, also after it has released 65537
abbrev pub two_links : List Line
two_links =
    waiting_for 84
    ++ (obtains 1 65538 0 4294967295 gives says 100 0 4)
    ∷ (ask (Release 4 65537) gives says 0 0 3)
    ∷ (ask (Release 3 65537) gives says 0 0 3)
    ∷ (ask (Release 3 65538) gives says 0 0 1)
    ∷ []

-- a link of attributes 20 cuts the chain: task 2 runs
abbrev pub cut_chain : List Line
cut_chain = waiting_for 20 ++ (obtains 1 65538 0 4294967295 gives says 100 0 2) ∷ []

-- an owner of two: task 1 waits for 65537 and task 2 for 65538. The outermost release of 65537 restores what the rule then gives, 15 of task 2, although
-- 65538 is still held; a release of both restores the task's own
abbrev pub two_owned : List Line
two_owned =
    (start_with 2 (10 ∷ 15 ∷ 30 ∷ 20 ∷ []) gives says 0 0 1)
    ∷ (ask (Create 3 65 0 84 1) gives says 0 65537 1)
    ∷ (ask (Create 3 66 0 84 1) gives says 0 65538 1)
    ∷ (obtains 2 65538 0 4294967295 gives says 100 0 1)
    ∷ (obtains 1 65537 0 4294967295 gives says 100 0 3)
    ∷ []

-- the working priorities of four tasks
abbrev working_of : Tables → List ℕ
working_of t = urgency t 1 ∷ urgency t 2 ∷ urgency t 3 ∷ urgency t 4 ∷ []

pub restored_at_once : (answers_of (requests two_owned) ≡ expected two_owned)
    × (working_of (tables_of (requests two_owned)) ≡ 10 ∷ 15 ∷ 10 ∷ 20 ∷ [])
    × (working_of (tables_of (requests two_owned ++ ask (Release 3 65537) ∷ [])) ≡ 10 ∷ 15 ∷ 15 ∷ 20 ∷ [])
    × (working_of (tables_of (requests two_owned ++ ask (Release 3 65537) ∷ ask (Release 3 65538) ∷ [])) ≡ 10 ∷ 15 ∷ 30 ∷ 20 ∷ [])
unfolding answers_of
restored_at_once = (refl, refl, refl, refl)

-- an inner release keeps what was inherited, the outermost restores the task's own
abbrev pub nested : List Line
nested =
    (start_with 1 (10 ∷ 20 ∷ 30 ∷ []) gives says 0 0 1)
    ∷ (ask (Create 3 66 0 84 1) gives says 0 65537 1)
    ∷ (obtains 3 65537 0 4294967295 gives says 0 0 1)
    ∷ (obtains 1 65537 0 4294967295 gives says 100 0 3)
    ∷ (ask (Release 3 65537) gives says 0 0 3)
    ∷ (ask (Release 3 65537) gives says 0 0 1)
    ∷ []

-- a tick that ends the radio's wait takes what it lent
abbrev pub lent_for_a_tick : List Line
lent_for_a_tick =
    (start_with 1 (10 ∷ 20 ∷ 30 ∷ []) gives says 0 0 1)
    ∷ (ask (Create 3 66 0 84 1) gives says 0 65537 1)
    ∷ (obtains 1 65537 0 1 gives says 100 0 3)
    ∷ (ask Tick gives says 0 0 1)
    ∷ (obtains 1 65537 0 1 gives says 100 0 3)
    ∷ (ask Tick gives says 0 0 1)
    ∷ []

-- a deadlock of tasks 1 and 2, until a flush ends the wait of task 2, who then works for task 1
abbrev pub deadlock : List Line
deadlock =
    (start_with 2 (10 ∷ 20 ∷ 15 ∷ []) gives says 0 0 1)
    ∷ (ask (Create 1 65 0 84 1) gives says 0 65537 1)
    ∷ (ask (Create 2 66 0 84 1) gives says 0 65538 1)
    ∷ (obtains 1 65538 0 4294967295 gives says 100 0 2)
    ∷ (obtains 2 65537 0 4294967295 gives says 100 0 3)
    ∷ (ask (Flush 3 65537) gives says 0 0 2)
    ∷ []

pub chains_worked : (answers_of (requests two_links) ≡ expected two_links) × (answers_of (requests cut_chain) ≡ expected cut_chain)
    × (answers_of (requests nested) ≡ expected nested) × (answers_of (requests lent_for_a_tick) ≡ expected lent_for_a_tick)
    × (answers_of (requests deadlock) ≡ expected deadlock)
unfolding answers_of
chains_worked = (refl, refl, refl, refl, refl)

-- tasks 2 and then 3 wait on a counting semaphore with PRIORITY, and task 1 on the one that task 3 owns: task 3 works with 10, by its own number it is last
abbrev pub boosted : List Request
boosted =
    start_with 2 (10 ∷ 20 ∷ 30 ∷ 40 ∷ [])
    ∷ ask (Create 3 65 0 84 1)
    ∷ ask (Create 4 66 0 4 9)
    ∷ obtains 2 65538 0 4294967295
    ∷ obtains 3 65538 0 4294967295
    ∷ obtains 1 65537 0 4294967295
    ∷ []

-- a release serves task 3 first; a flush and a delete wake it before task 2, so that it joins the sequence before it
pub served_by_working_priority : (last_of boosted (ask (Release 4 65538)) ≡ says 0 0 3)
    × ((tables_of (boosted ++ ask (Flush 4 65538) ∷ [])).ready ≡ 4 ∷ 3 ∷ 2 ∷ [])
    × ((tables_of (boosted ++ ask (Delete 4 65538) ∷ [])).ready ≡ 4 ∷ 3 ∷ 2 ∷ [])
unfolding answers_of
served_by_working_priority = (refl, refl, refl)

-- 64 without both 16 and 4 is 11
pub half_inheritance_refused : last_of (start_with 1 (10 ∷ []) ∷ []) (ask (Create 1 65 1 80 1)) ∷ last_of (start_with 1 (10 ∷ []) ∷ []) (ask (Create 1 65 1 64 1))
    ∷ last_of (start_with 1 (10 ∷ []) ∷ []) (ask (Create 1 65 1 68 1)) ∷ last_of (start_with 1 (10 ∷ []) ∷ []) (ask (Create 1 65 1 84 1)) ∷ []
    ≡ says 11 0 1 ∷ says 11 0 1 ∷ says 11 0 1 ∷ says 0 65537 1 ∷ []
unfolding answers_of
half_inheritance_refused = refl
