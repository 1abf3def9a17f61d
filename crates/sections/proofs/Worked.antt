-- Worked examples that compute: two writers take turns, a wait times out in the middle, the mission's story, and a section with inheritance.
use mathlib.Core.Path.{◌≡◌, refl}
use mathlib.Core.List.{List, [], ◌∷◌, ◌++◌}
use Prim.Native.Nat.{ℕ}
use lib.ListN.{replicate, take}
use Rattle.laws.specs.Rows.{tabulate, rows}
use Rattle.rules.specs.declared.Call.TheVariants.{Create, Delete, Tick}
use Rattle.rules.specs.declared.Answer.{Answer}
use Rattle.rules.specs.Machine.{Tables}
use Rattle.rules.specs.Promises.{kind_of}
use Rattle.rules.proofs.Asking.{start_with, tables_of, answers_of, says}
use Rattle.sections.specs.Scripts.{Section, Script, Grant, index_of, do_step, do_steps, plain}
use Rattle.sections.specs.Scripts.Step.{Load, Store, Set, Add}
use Rattle.sections.specs.Run.{Event, Place, at, ask, said, called, act_of, acted, event_of, run_from, open_of}
use Rattle.sections.specs.Run.Event.{Turn, Other, NoEvent}
use Rattle.sections.specs.Refusals.{Input, limits_fit, steps_fit, one_script_each, refusal, at_first, run}
use Rattle.sections.specs.History.{answers_in, history, grants_shown}

-- what a run gives, shown by its parts: the first locals of tasks 1 and 2 alone
record Seen : Type 0 where
  answer : Answer
  cells : List ℕ
  locals : List ℕ
  places : List Place
  grants : List Grant
  opened : List Grant
  plain : List ℕ
  read : List Grant

seen : Tables → Input → List Event → Seen
unfolding answers_of kind_of tabulate rows index_of do_step do_steps plain said called act_of acted event_of run_from open_of limits_fit steps_fit one_script_each
    refusal run history grants_shown
seen t w events =
    let r = run t w events in
    let s = r.state in
    record {
      answer = r.answer;
      cells = s.memory.cells;
      locals = take 16 s.memory.locals;
      places = s.places;
      grants = s.grants;
      opened = open_of w.scripts s;
      plain = (plain w.scripts s.grants w.memory).cells;
      read = grants_shown w.scripts (λ q. 0) (answers_in t) (history w.scripts (at_first t w) events);
    }

abbrev granted : ℕ → ℕ → Grant
granted q k = record { task = q; section = k }

-- three tasks, of which 3 made a binary semaphore, 65537
abbrev made : Tables
made = tables_of (start_with 2 (10 ∷ 20 ∷ 30 ∷ []) ∷ ask (Create 3 77 1 20 1) ∷ [])

-- one more in cell 0, with local 1 for the one
abbrev counting : ℕ → Section
counting timeout = record { id = 65537; options = 0; timeout = timeout; steps = Load 0 0 ∷ Set 1 1 ∷ Add 1 0 ∷ Store 0 0 ∷ [] }

abbrev script : ℕ → List Section → Script
script q sections = record { task = q; sections = sections }

abbrev handed : List Script → Input
handed scripts = record { scripts = scripts; ids = 65537 ∷ []; memory = record { cells = 40 ∷ []; locals = replicate 256 0 } }

abbrev turns : ℕ → List Event
turns q = Turn q ∷ Turn q ∷ Turn q ∷ Turn q ∷ Turn q ∷ Turn q ∷ []

-- twice as much in cell 0
abbrev doubling : Section
doubling = record { id = 65537; options = 0; timeout = 0; steps = Load 0 0 ∷ Add 0 0 ∷ Store 0 0 ∷ [] }

-- task 2 waits while task 1 is inside, turn by turn, and enters at its release: one more, then twice as much
two_writers : seen made (handed (script 1 (counting 0 ∷ []) ∷ script 2 (doubling ∷ []) ∷ []))
    (Turn 1 ∷ Turn 1 ∷ Turn 2 ∷ Turn 1 ∷ Turn 2 ∷ Turn 1 ∷ Turn 1 ∷ Turn 1 ∷ turns 2)
    ≡ record {
      answer = says 0 0 1;
      cells = 82 ∷ [];
      locals = 41 ∷ 1 ∷ 0 ∷ 0 ∷ 0 ∷ 0 ∷ 0 ∷ 0 ∷ 82 ∷ 0 ∷ 0 ∷ 0 ∷ 0 ∷ 0 ∷ 0 ∷ 0 ∷ [];
      places = at 1 0 ∷ at 1 0 ∷ [];
      grants = granted 1 0 ∷ granted 2 0 ∷ [];
      opened = [];
      plain = 82 ∷ [];
      read = granted 1 0 ∷ granted 2 0 ∷ [];
    }
unfolding seen
two_writers = refl

-- task 2's wait ends at the tick, in the middle of task 1's section: its section is skipped at that event
timed_out_lem : seen made (handed (script 1 (counting 0 ∷ []) ∷ script 2 (counting 1 ∷ counting 0 ∷ []) ∷ []))
    (Turn 1 ∷ Turn 1 ∷ Turn 2 ∷ Other (ask Tick) ∷ Turn 1 ∷ Turn 1 ∷ Turn 1 ∷ [])
    ≡ record {
      answer = says 0 0 1;
      cells = 41 ∷ [];
      locals = 41 ∷ 1 ∷ 0 ∷ 0 ∷ 0 ∷ 0 ∷ 0 ∷ 0 ∷ 0 ∷ 0 ∷ 0 ∷ 0 ∷ 0 ∷ 0 ∷ 0 ∷ 0 ∷ [];
      places = at 0 5 ∷ at 1 0 ∷ [];
      grants = granted 1 0 ∷ [];
      opened = granted 1 0 ∷ [];
      plain = 41 ∷ [];
      read = granted 1 0 ∷ [];
    }
unfolding seen
timed_out_lem = refl

-- the semaphore is deleted, its slot goes to a counting semaphore with room for two, and neither writer walks in
no_address : seen made (handed (script 1 (counting 0 ∷ []) ∷ script 2 (counting 0 ∷ []) ∷ []))
    (Other (ask (Delete 3 65537)) ∷ Other (ask (Create 3 78 2 0 4294967295)) ∷ turns 1 ++ turns 2)
    ≡ record {
      answer = says 0 0 1;
      cells = 40 ∷ [];
      locals = replicate 16 0;
      places = at 1 0 ∷ at 1 0 ∷ [];
      grants = [];
      opened = [];
      plain = 40 ∷ [];
      read = [];
    }
unfolding seen
no_address = refl

-- while task 1 waits for the section of task 3, the next task is task 3 with inheritance and task 2 without it
waited_for : ℕ → Answer
unfolding seen
waited_for attributes =
    (run (tables_of (start_with 2 (10 ∷ 20 ∷ 30 ∷ []) ∷ ask (Create 2 77 1 attributes 1) ∷ []))
    (handed (script 1 (counting 0 ∷ []) ∷ script 3 (counting 0 ∷ []) ∷ [])) (Turn 3 ∷ Turn 1 ∷ [])).answer

inherited : waited_for 84 ≡ says 0 0 3
unfolding waited_for
inherited = refl

not_inherited : waited_for 20 ≡ says 0 0 2
unfolding waited_for
not_inherited = refl

-- refused before anything is run: a section on a counting semaphore, on an owned one, two scripts for one task; a turn of a task without a script;
-- tables that do not agree
refused_11 : (run (tables_of (start_with 2 (10 ∷ []) ∷ ask (Create 1 77 2 0 4294967295) ∷ [])) (handed (script 1 (counting 0 ∷ []) ∷ []))
    (Turn 1 ∷ [])).answer ≡ says 11 0 1
unfolding seen
refused_11 = refl

refused_owned : (run (tables_of (start_with 2 (10 ∷ []) ∷ ask (Create 1 77 0 16 1) ∷ [])) (handed (script 1 (counting 0 ∷ []) ∷ []))
    (Turn 1 ∷ [])).answer ≡ says 11 0 1
unfolding seen
refused_owned = refl

refused_twice : (run made (handed (script 1 (counting 0 ∷ []) ∷ script 1 [] ∷ [])) (Turn 1 ∷ [])).answer ≡ says 11 0 1
unfolding seen
refused_twice = refl

refused_4 : (run made (handed (script 1 (counting 0 ∷ []) ∷ [])) (Turn 2 ∷ [])).answer ≡ says 4 0 1
unfolding seen
refused_4 = refl

refused_25 : (run (record { tasks = made.tasks; slots = []; ready = made.ready }) (handed []) (NoEvent ∷ [])).answer ≡ says 25 0 0
unfolding seen
refused_25 = refl
