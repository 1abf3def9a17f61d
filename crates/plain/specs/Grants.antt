-- The plain run on numbers: the grants laid end to end, each a task and a section, and what the scripts ask of the cells and locals.
use Rattle.std.specs.Prelude.{◌≡◌, true, List, [], ◌∷◌, ℕ, ◌≤◌, ◌<◌, length, get_or}
use Rattle.sections.specs.Scripts.{Step, Script, Grant, script_at}
use Rattle.sections.specs.Scripts.Step.{NoStep}
use Rattle.encoding.specs.Rows.{scripts_of}
use Rattle.encoding.specs.Laid.{reaches}

abbrev pub granted : ℕ → ℕ → Grant
granted q k = record { task = q; section = k }

-- two by two; an odd number at the end is none
unfoldable pub grants_of : List ℕ → List Grant
grants_of [] = []
grants_of (q ∷ []) = []
grants_of (q ∷ k ∷ ns) = granted q k ∷ grants_of ns

abbrev pub task_in : Script → ℕ
task_in s = s.task

-- each script is of a task 1 to 32
abbrev pub Tasked : List ℕ → Type 0
Tasked ns = (i : ℕ) → i < length (scripts_of ns) → (1 ≤ (script_at (scripts_of ns) i).task) × ((script_at (scripts_of ns) i).task ≤ 32)

-- each step goes by what is there
abbrev pub Reach : ℕ → List Step → Type 0
Reach cells steps = (j : ℕ) → j < length steps → reaches cells (get_or steps j NoStep) ≡ true
