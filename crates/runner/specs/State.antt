-- What a run asks of lent slices of numbers, and what it leaves in them.
use Rattle.std.specs.Prelude.{◌≡◌, ℕ, pred, ◌*◌, ◌<◌, ◌≤◌, Bool, false, List, ◌++◌, length, get_or, ◌==◌, ◌≢◌, slice_index_or}
use Rattle.laws.specs.Choose.{choose}
use Rattle.laws.specs.Rows.{tabulate, rows}
use Rattle.rules.specs.Numbers.{successful, waiting}
use Rattle.rules.specs.Machine.{Tables, task_of}
use Rattle.sections.specs.Scripts.{Script, Grant, script_at}
use Rattle.rules.specs.Calls.{perform}
use Rattle.rules.specs.Runs.{Request}
use Rattle.tables.specs.Layout.{model_of}
use Rattle.sections.specs.Run.{Place, at, State, place_after, grant_if, said, called}
use Rattle.encoding.specs.Rows.{scripts_of}
use Rattle.encoding.specs.Laid.{Reports}

-- what a call says to task q's obtain, by who waited before it, the tables that it left, who obtains by it, and its status
unfoldable pub told : List Bool → Tables → ℕ → ℕ → ℕ → ℕ
told waited t obtainer status q = choose (slice_index_or waited (pred q) false) (task_of t q).answer (choose (obtainer == q) status waiting)

-- the places of the first n scripts after those answers to their obtains, and the grants that they are
abbrev pub places_after : ℕ → (ℕ → ℕ) → List Place → List Place
places_after n answer ps = tabulate n (λ i. place_after (answer i) (slice_index_or ps i (at 0 0)))

abbrev pub grants_after : ℕ → List Script → (ℕ → ℕ) → List Place → List Grant
grants_after n scripts answer ps = rows (tabulate n (λ i. grant_if (answer i == successful) (script_at scripts i).task (get_or ps i (at 0 0)).section))

-- the numbers have room for what the answers move and grant: a section's index and the count of grants stay below 2 ^ 32
pub record Room (scripts : List Script) (answer : ℕ → ℕ) (ps : List Place) (gs : List Grant) : Type 0 where
  pub many : length ps ≡ length scripts
  pub small : (i : ℕ) → i < length scripts → (answer i ≢ waiting) → (get_or ps i (at 0 0)).section < 4294967295
  pub few : (i : ℕ) → i < length scripts → answer i ≡ successful → length (gs ++ grants_after i scripts answer ps) < 4294967295

-- scripts of the tasks 1 to 32, and room for their places; grants are written as far as there is room
pub record Lent (ns places₀ grants₀ : List ℕ) : Type 0 where
  pub tasks : (i : ℕ) → i < length (scripts_of ns) → (1 ≤ (script_at (scripts_of ns) i).task) × ((script_at (scripts_of ns) i).task ≤ 32)
  pub places : 2 * length (scripts_of ns) ≤ length places₀

-- the answers to all scripts' obtains are noted
abbrev pub Settles : (ns places grants : List ℕ) (answer : ℕ → ℕ) (places' grants' : List ℕ) → Type 0
Settles ns places grants answer places' grants' =
    (places₀ grants₀ : List ℕ) (ps : List Place) (gs : List Grant) → Reports places₀ grants₀ ps gs places grants → Room (scripts_of ns) answer ps gs
    → Reports places₀ grants₀ (places_after (length (scripts_of ns)) answer ps)
    (gs ++ grants_after (length (scripts_of ns)) (scripts_of ns) answer ps) places' grants'

-- what a call says to the scripts' obtains
abbrev pub answers_to : List Script → State → Request → ℕ → ℕ
answers_to scripts s r i = said s.tables r.call (perform s.tables r.call r.priorities) (script_at scripts i).task

-- bytes and numbers hold a state's tables, places and grants
pub record Holds (places₀ grants₀ : List ℕ) (s : State) (m places grants : List ℕ) : Type 0 where
  pub tables : s.tables ≡ model_of m
  pub reports : Reports places₀ grants₀ s.places s.grants places grants

abbrev pub Called : (ns : List ℕ) (r : Request) (m places grants m' places' grants' : List ℕ) → Type 0
Called ns r m places grants m' places' grants' =
    (places₀ grants₀ : List ℕ) (s : State) → Holds places₀ grants₀ s m places grants → Room (scripts_of ns) (answers_to (scripts_of ns) s r) s.places s.grants
    → Holds places₀ grants₀ (called (scripts_of ns) s r) m' places' grants'
