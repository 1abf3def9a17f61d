-- Document 01, "Guarded sections": a task's place in its script, one event, a list of events, and the sections open after it.
use Rattle.std.specs.Prelude.{Bool, List, [], ◌∷◌, ◌++◌, ℕ, suc, pred, leb, eqb, length, get_or, set}
use Rattle.laws.specs.Choose.{choose, ◌or◌}
use Rattle.laws.specs.Rows.{tabulate, rows}
use Rattle.rules.specs.declared.Call.{Call}
use Rattle.rules.specs.declared.Call.TheVariants.{Start, Create, Ident, Delete, Obtain, Release, Flush, Tick}
use Rattle.rules.specs.Numbers.{successful, waiting}
use Rattle.rules.specs.Machine.{Tables, task_of, waits}
use Rattle.rules.specs.Semaphore.{wait_of}
use Rattle.rules.specs.Calls.{Outcome, perform}
use Rattle.rules.specs.Runs.{Request}
use Rattle.rules.specs.Promises.{kind_of}
use Rattle.sections.specs.Scripts.{Step, Script, Memory, script_at, section_at, index_of, do_step, Grant}
use Rattle.sections.specs.Scripts.Step.{NoStep}

-- one turn of a script task; a call by someone else, or a tick; or what is none of these
pub data Event : Type 0 where
  Turn : (task : ℕ) → Event
  Other : Request → Event
  NoEvent : Event

-- position 0: the obtain, not yet made or waiting; p from 1: the section's p-th step comes next; one more than its steps: the release.
-- A finished script stands at the number of its sections, position 0.
pub record Place : Type 0 where
  pub section : ℕ
  pub position : ℕ

abbrev pub at : ℕ → ℕ → Place
at section position = record { section = section; position = position }

-- what an event gets from the one before; a place for each script, in their order
pub record State : Type 0 where
  pub tables : Tables
  pub memory : Memory
  pub places : List Place
  pub grants : List Grant

abbrev pub place_at : State → ℕ → Place
place_at s i = get_or s.places i (at 0 0)

-- script i at a place, with other cells and locals; an obtain leaves both as they are, and its answer moves the place
abbrev pub moved : State → ℕ → Place → Memory → State
moved s i p memory = record { tables = s.tables; memory = memory; places = set s.places i p; grants = s.grants }

-- the caller, or 0: start, ident and tick have none
abbrev pub caller_of : Call → ℕ
caller_of (Start slots) = 0
caller_of (Create caller name count attributes maximum) = caller
caller_of (Ident name) = 0
caller_of (Delete caller id) = caller
caller_of (Obtain caller id wait) = caller
caller_of (Release caller id) = caller
caller_of (Flush caller id) = caller
caller_of Tick = 0

-- the task whose obtain a call is, or 0; 5 is the kind of an obtain
abbrev pub obtainer_of : Call → ℕ
obtainer_of call = choose (eqb (kind_of call) 5) (caller_of call) 0

-- what a call says to a task's obtain: the ending of its wait, whoever made the call (with 0 only a release ends one), or the answer to the
-- obtain itself; 100 where it says nothing
unfoldable pub said : Tables → Call → Outcome → ℕ → ℕ
said t call o q = choose (waits (task_of t q)) (task_of o.tables q).answer (choose (eqb (obtainer_of call) q) o.answer.status waiting)

-- with 0 the section is granted, and its first step or its release comes next; with any other answer but 100 it is skipped at once
abbrev pub place_after : ℕ → Place → Place
place_after answer p = choose (eqb answer successful) (at p.section 1) (choose (eqb answer waiting) p (at (suc p.section) 0))

abbrev pub grant_if : Bool → ℕ → ℕ → List Grant
grant_if test q section = choose test (record { task = q; section = section } ∷ []) []

-- the tables agree at the outset and every call keeps that, so `perform` is `step` here
unfoldable pub called : List Script → State → Request → State
called scripts s r =
    let o = perform s.tables r.call r.priorities in
    let answer : ℕ → ℕ = λ i. said s.tables r.call o (script_at scripts i).task in
    record {
      tables = o.tables;
      memory = s.memory;
      places = tabulate (length scripts) (λ i. place_after (answer i) (place_at s i));
      grants = s.grants ++ rows (tabulate (length scripts) (λ i. grant_if (eqb (answer i) successful) (script_at scripts i).task (place_at s i).section));
    }

-- a turn does one thing: nothing, a call, or a step; then its script stands at that place
pub data Act : Type 0 where
  Nothing : Act
  Calls : Call → Place → Act
  Steps : Step → Place → Act

-- a waiting or finished task's turn changes nothing; else the obtain, one step, or the release
unfoldable pub act_of : List Script → State → ℕ → Act
act_of scripts s i =
    let script = script_at scripts i in
    let p = place_at s i in
    let section = section_at script p.section in
    choose (waits (task_of s.tables script.task) or leb (length script.sections) p.section) Nothing
    (choose (eqb p.position 0) (Calls (Obtain script.task section.id (wait_of section.options section.timeout)) p)
    (choose (leb p.position (length section.steps)) (Steps (get_or section.steps (pred p.position) NoStep) (at p.section (suc p.position)))
    (Calls (Release script.task section.id) (at (suc p.section) 0))))

abbrev pub ask : Call → Request
ask call = record { call = call; priorities = [] }

unfoldable pub acted : List Script → State → ℕ → Act → State
acted scripts s i Nothing = s
acted scripts s i (Calls call p) = called scripts (moved s i p s.memory) (ask call)
acted scripts s i (Steps step p) = moved s i p (do_step (script_at scripts i).task step s.memory)

unfoldable pub event_of : List Script → State → Event → State
event_of scripts s (Turn q) = let i = index_of q scripts in acted scripts s i (act_of scripts s i)
event_of scripts s (Other r) = called scripts s r
event_of scripts s NoEvent = s

-- each event gets what the one before left
unfoldable pub run_from : List Script → State → List Event → State
run_from scripts s [] = s
run_from scripts s (e ∷ es) = run_from scripts (event_of scripts s e) es

-- a section is open from its grant to its release; those open, in the order of the scripts
unfoldable pub open_of : List Script → State → List Grant
open_of scripts s = rows (tabulate (length scripts) (λ i. grant_if (leb 1 (place_at s i).position) (script_at scripts i).task (place_at s i).section))
