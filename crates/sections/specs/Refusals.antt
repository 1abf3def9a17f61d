-- Document 01, "Guarded sections": what is refused, a test for each kind that holds where nothing is to refuse, and the whole run.
use Rattle.std.specs.Prelude.{Bool, true, false, List, [], ℕ, ◌%◌, leb, ltb, eqb, length, get_or, replicate}
use Rattle.laws.specs.Choose.{choose, ◌and◌, isnt}
use Rattle.laws.specs.All.{all}
use Rattle.rules.specs.declared.Answer.{Answer}
use Rattle.rules.specs.Numbers.{within, is_binary, invalid_id, not_defined, internal_error}
use Rattle.rules.specs.Machine.{Tables, task_of, slot_of, waits, names, next}
use Rattle.rules.specs.Agreement.{agrees}
use Rattle.rules.specs.Fits.{fits, call_fits}
use Rattle.sections.specs.Scripts.{Step, Section, Script, Memory, script_at, section_at, index_of}
use Rattle.sections.specs.Scripts.Step.{Load, Store, Set, Add, NoStep}
use Rattle.sections.specs.Run.{Event, at, State, caller_of, run_from}
use Rattle.sections.specs.Run.Event.{Turn, Other, NoEvent}

-- what is handed in beside the tables and the events; `ids` has the identifier that each cell belongs to
pub record Input : Type 0 where
  pub scripts : List Script
  pub ids : List ℕ
  pub memory : Memory

abbrev pub each_script : Input → (Script → Bool) → Bool
each_script w p = all (length w.scripts) (λ i. p (script_at w.scripts i))

abbrev pub each_section : Input → (Section → Bool) → Bool
each_section w p = each_script w (λ s. all (length s.sections) (λ k. p (section_at s k)))

abbrev pub each_event : List Event → (Event → Bool) → Bool
each_event events p = all (length events) (λ k. p (get_or events k NoEvent))

-- 11: over a limit (8 sections a task, 16 steps a section, 64 cells), or (our own rule) not as many identifiers as cells, or not 256 locals
unfoldable pub limits_fit : Input → Bool
limits_fit w =
    each_script w (λ s. leb (length s.sections) 8) and each_section w (λ s. leb (length s.steps) 16) and leb (length w.memory.cells) 64
    and eqb (length w.ids) (length w.memory.cells) and eqb (length w.memory.locals) 256

-- 11: a local outside 0..7; a missing cell or one of another identifier; what is no step
abbrev pub is_local : ℕ → Bool
is_local local = ltb local 8

abbrev pub is_cell : List ℕ → ℕ → ℕ → Bool
is_cell ids id cell = ltb cell (length ids) and eqb (get_or ids cell 0) id

abbrev pub is_step : List ℕ → ℕ → Step → Bool
is_step ids id (Load cell local) = is_cell ids id cell and is_local local
is_step ids id (Store local cell) = is_local local and is_cell ids id cell
is_step ids id (Set local number) = is_local local
is_step ids id (Add local other) = is_local local and is_local other
is_step ids id NoStep = false

unfoldable pub steps_fit : Input → Bool
steps_fit w = each_section w (λ s. all (length s.steps) (λ k. is_step w.ids s.id (get_or s.steps k NoStep)))

-- 11: two scripts for one task: a script is the first of its task
unfoldable pub one_script_each : Input → Bool
one_script_each w = all (length w.scripts) (λ i. eqb (index_of (script_at w.scripts i).task w.scripts) i)

-- 11: what is no event
abbrev pub is_event : Event → Bool
is_event (Turn q) = true
is_event (Other r) = true
is_event NoEvent = false

-- 11: a section's identifier that is not, at the outset, a live, unowned semaphore with attributes 16, 20 or, since request 8, 84
abbrev pub is_guard : Tables → ℕ → Bool
is_guard t id = names t id and is_binary (slot_of t (id % 65536)).attributes and eqb (slot_of t (id % 65536)).owner 0

-- 4: a script task that is not a ready task
abbrev pub is_ready : Tables → ℕ → Bool
is_ready t q = within 1 (length t.tasks) q and isnt (waits (task_of t q))

-- 4: a turn of a task without a script, or an event in which a script task is the caller
abbrev pub has_script : Input → ℕ → Bool
has_script w q = ltb (index_of q w.scripts) (length w.scripts)

abbrev pub is_allowed : Input → Event → Bool
is_allowed w (Turn q) = has_script w q
is_allowed w (Other r) = isnt (has_script w (caller_of r.call))
is_allowed w NoEvent = true

-- the order is 25, 11, 4; 0 for no refusal
unfoldable pub refusal : Tables → Input → List Event → ℕ
refusal t w events =
    choose (agrees t)
    (choose (limits_fit w and steps_fit w and one_script_each w and each_event events is_event and each_section w (λ s. is_guard t s.id))
    (choose (each_script w (λ s. is_ready t s.task) and each_event events (is_allowed w)) 0 invalid_id)
    not_defined)
    internal_error

-- the first event gets tables, cells and locals as handed in, places at the start
abbrev pub at_first : Tables → Input → State
at_first t w = record { tables = t; memory = w.memory; places = replicate (length w.scripts) (at 0 0); grants = [] }

pub record Ran : Type 0 where
  pub answer : Answer
  pub state : State

-- refused, nothing is run: value 0, and the next task as in any refusal, with 25 none
unfoldable pub run : Tables → Input → List Event → Ran
run t w events =
    let r = refusal t w events in
    let s = choose (eqb r 0) (run_from w.scripts (at_first t w) events) (at_first t w) in
    record { answer = record { status = r; value = 0; next = choose (eqb r internal_error) 0 (next s.tables) }; state = s }

-- what reaches the calls are numbers of 32 bits
abbrev pub event_fits : Event → Bool
event_fits (Turn q) = true
event_fits (Other r) = call_fits r.call
event_fits NoEvent = true

unfoldable pub input_fits : Input → List Event → Bool
input_fits w events = each_section w (λ s. fits s.timeout) and each_event events event_fits
