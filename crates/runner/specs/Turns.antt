-- A turn: what it does by the rows of its script.
use Rattle.std.specs.Prelude.{◌≡◌, ℕ, suc, pred, ◌<◌, Bool, true, false, leb, List, [], ◌∷◌, length, get_or, ◌==◌, nat_le, nat_lt, slice_index_or, slice_set, Option, Some, None}
use Rattle.laws.specs.Choose.{choose, ◌or◌}
use Rattle.rules.specs.declared.Call.{Call}
use Rattle.rules.specs.declared.Call.TheVariants.{Obtain, Release}
use Rattle.rules.specs.Machine.{Tables, task_of, waits}
use Rattle.rules.specs.Runs.{Request}
use Rattle.rules.specs.Semaphore.{wait_of}
use Rattle.sections.specs.Scripts.{Section, Script, script_at, index_of}
use Rattle.sections.specs.Scripts.Step.{NoStep}
use Rattle.sections.specs.Run.{Event, Place, at, State, moved, called, ask, Act, act_of, event_of}
use Rattle.sections.specs.Run.Act.{Nothing, Calls, Steps}
use Rattle.sections.specs.Run.Event.{Turn, Other, NoEvent}
use Rattle.runner.specs.declared.turns.Act.{Act as Doing}
use Rattle.runner.specs.declared.turns.Act.TheVariants.{Calls as DoesCall, Steps as DoesStep}
use Rattle.encoding.specs.Rows.{step_of, no_section, scripts_of}
use Rattle.encoding.specs.Laid.{place_of, memory, reaches}
use Rattle.runner.specs.State.{answers_to, Holds, Room}

abbrev pub act_from : Option Doing → Act
act_from None = Nothing
act_from (Some (DoesCall call place)) = Calls call (place_of place)
act_from (Some (DoesStep step place)) = Steps (step_of step) (place_of place)

-- what its step goes by is there
abbrev pub act_reaches : ℕ → Act → Bool
act_reaches cells Nothing = true
act_reaches cells (Calls call p) = true
act_reaches cells (Steps step p) = reaches cells step

-- what a turn of task q does at a place in a section: the obtain, one step, or the release
unfoldable pub doing_in : ℕ → Section → Place → Act
doing_in q section p =
    choose (p.position == 0) (Calls (Obtain q section.id (wait_of section.options section.timeout)) p)
    (choose (nat_le p.position (length section.steps)) (Steps (slice_index_or section.steps (pred p.position) NoStep) (at p.section (suc p.position)))
    (Calls (Release q section.id) (at (suc p.section) 0)))

-- and at a place in its sections
unfoldable pub doing_at : Tables → ℕ → List Section → Place → Act
doing_at t q sections p = choose (waits (task_of t q) or leb (length sections) p.section) Nothing (doing_in q (slice_index_or sections p.section no_section) p)

-- sections and steps that 32 bits count
pub record Countable (sections : List Section) : Type 0 where
  pub few : length sections < 4294967295
  pub short : (k : ℕ) → k < length sections → length (get_or sections k no_section).steps < 4294967295

-- each step goes by what is there
pub record Stepped (ns : List ℕ) (cells : ℕ) : Type 0 where
  pub count : (i : ℕ) → i < length (scripts_of ns) → Countable (script_at (scripts_of ns) i).sections
  pub reach : (i k j : ℕ) → i < length (scripts_of ns) → k < length (script_at (scripts_of ns) i).sections
      → j < length (get_or (script_at (scripts_of ns) i).sections k no_section).steps
      → reaches cells (slice_index_or (get_or (script_at (scripts_of ns) i).sections k no_section).steps j NoStep) ≡ true

-- script i moves to a place, and its task makes the call
abbrev pub CallsAt : (ns : List ℕ) (i : ℕ) (call : Call) (p : Place) (m places grants m' places' grants' : List ℕ) → Type 0
CallsAt ns i call p m places grants m' places' grants' =
    (places₀ grants₀ : List ℕ) (s : State) → Holds places₀ grants₀ s m places grants → i < length s.places
    → Room (scripts_of ns) (answers_to (scripts_of ns) (moved s i p s.memory) (ask call)) (slice_set s.places i p) s.grants
    → Holds places₀ grants₀ (called (scripts_of ns) (moved s i p s.memory) (ask call)) m' places' grants'

-- bytes and numbers hold a whole state
pub record Stands (places₀ grants₀ : List ℕ) (s : State) (m cells locals places grants : List ℕ) : Type 0 where
  pub holds : Holds places₀ grants₀ s m places grants
  pub same : s.memory ≡ memory cells locals

-- the numbers have room for the call that an act makes
abbrev pub RoomToAct : List Script → State → ℕ → Act → Type 0
RoomToAct scripts s i a =
    (call : Call) (p : Place) → a ≡ Calls call p → Room scripts (answers_to scripts (moved s i p s.memory) (ask call)) (slice_set s.places i p) s.grants

-- the numbers have room for what an event moves and grants
pub record RoomAt (scripts : List Script) (s : State) (e : Event) : Type 0 where
  pub turn : (q : ℕ) → e ≡ Turn q → RoomToAct scripts s (index_of q scripts) (act_of scripts s (index_of q scripts))
  pub other : (r : Request) → e ≡ Other r → Room scripts (answers_to scripts s r) s.places s.grants

-- and at every event of a list
pub data RoomAlong (scripts : List Script) : State → List Event → Type 0 where
  none : {s : State} → RoomAlong scripts s []
  more : {s : State} {e : Event} {es : List Event} → length s.places ≡ length scripts → RoomAt scripts s e → RoomAlong scripts (event_of scripts s e) es
      → RoomAlong scripts s (e ∷ es)

-- what is run: a turn of a task that has a script, or a call
abbrev pub is_run : List Script → Event → Bool
is_run scripts (Turn q) = nat_lt (index_of q scripts) (length scripts)
is_run scripts (Other r) = true
is_run scripts NoEvent = false
