-- Why a run is refused: past the test it would come out otherwise than the plain run. Each line is a list of events that the runner would take.
use mathlib.Core.Path.{◌≡◌, refl}
use mathlib.Core.List.{List, [], ◌∷◌, ◌++◌}
use Prim.Native.Nat.{ℕ}
use lib.ListN.{replicate}
use Rattle.laws.specs.Rows.{tabulate, rows}
use Rattle.rules.specs.declared.Call.TheVariants.{Create, Release}
use Rattle.rules.specs.Machine.{Tables}
use Rattle.rules.specs.Promises.{kind_of}
use Rattle.rules.proofs.Asking.{start_with, tables_of, answers_of}
use Rattle.sections.specs.Scripts.{Step, Section, Grant, index_of, do_step, do_steps, plain}
use Rattle.sections.specs.Scripts.Step.{Load, Store, Set, Add}
use Rattle.sections.specs.Run.{Event, ask, said, called, act_of, acted, event_of, run_from, open_of}
use Rattle.sections.specs.Run.Event.{Turn, Other}
use Rattle.sections.specs.Refusals.{Input, limits_fit, steps_fit, one_script_each, refusal, at_first}

record Past : Type 0 where
  refused : ℕ
  -- what the events would leave in the cells, with which sections open, and what the plain run of their grants leaves
  cells : List ℕ
  opened : List Grant
  plain : List ℕ

past : Tables → Input → List Event → Past
unfolding answers_of kind_of tabulate rows index_of do_step do_steps plain said called act_of acted event_of run_from open_of limits_fit steps_fit one_script_each refusal
past t w events =
    let s = run_from w.scripts (at_first t w) events in
    record { refused = refusal t w events; cells = s.memory.cells; opened = open_of w.scripts s; plain = (plain w.scripts s.grants w.memory).cells }

-- three tasks; task 3 has made two semaphores of these attributes, 65537 and 65538
abbrev made : ℕ → Tables
made attributes = tables_of (start_with 2 (10 ∷ 20 ∷ 30 ∷ []) ∷ ask (Create 3 77 1 attributes 1) ∷ ask (Create 3 78 1 attributes 1) ∷ [])

abbrev section : ℕ → List Step → Section
section id steps = record { id = id; options = 0; timeout = 0; steps = steps }

-- one more in cell 0
abbrev counting : List Step
counting = Load 0 0 ∷ Set 1 1 ∷ Add 1 0 ∷ Store 0 0 ∷ []

-- tasks 1 and 2 with one section each; cell 0 belongs to 65537, cell 1 to 65538
abbrev handed : Section → Section → Input
handed a b =
    record {
      scripts = record { task = 1; sections = a ∷ [] } ∷ record { task = 2; sections = b ∷ [] } ∷ [];
      ids = 65537 ∷ 65538 ∷ [];
      memory = record { cells = 40 ∷ 0 ∷ []; locals = replicate 256 0 };
    }

-- task 1 loads, something happens, task 2 loads, and both go on to their ends
abbrev between : List Event → List Event
between other =
    Turn 1 ∷ Turn 1 ∷ other ++ Turn 2 ∷ Turn 2 ∷ Turn 1 ∷ Turn 1 ∷ Turn 1 ∷ Turn 1 ∷ Turn 2 ∷ Turn 2 ∷ Turn 2 ∷ Turn 2 ∷ []

-- one of two is lost
abbrev lost : ℕ → Past
lost status = record { refused = status; cells = 41 ∷ 0 ∷ []; opened = []; plain = 42 ∷ 0 ∷ [] }

-- a simple binary semaphore: anybody may release it
simple_binary : past (made 32) (handed (section 65537 counting) (section 65537 counting)) (between (Other (ask (Release 3 65537)) ∷ [])) ≡ lost 11
unfolding past
simple_binary = refl

-- a cell of another identifier
other_cell : past (made 16) (handed (section 65537 counting) (section 65538 counting)) (between []) ≡ lost 11
unfolding past
other_cell = refl

-- a script task as the caller of a release
own_caller : past (made 16) (handed (section 65537 counting) (section 65537 counting)) (between (Other (ask (Release 1 65537)) ∷ [])) ≡ lost 4
unfolding past
own_caller = refl

-- local 8 of task 1 would be local 0 of task 2
other_local : past (made 16) (handed (section 65537 (Set 8 7 ∷ [])) (section 65538 (Set 0 1 ∷ Store 0 1 ∷ [])))
    (Turn 2 ∷ Turn 2 ∷ Turn 1 ∷ Turn 1 ∷ Turn 1 ∷ Turn 2 ∷ Turn 2 ∷ [])
    ≡ record { refused = 11; cells = 40 ∷ 7 ∷ []; opened = []; plain = 40 ∷ 1 ∷ [] }
unfolding past
other_local = refl
