-- What iterators over scripts have left.
use Rattle.std.specs.Prelude.{◌≡◌, ℕ, ◌<◌, List, length, Option, Some, None}
use Rattle.sections.specs.Scripts.{Step, Section, Script, script_at, index_of}
use Rattle.encoding.specs.declared.rows.Row.{Row}
use Rattle.encoding.specs.declared.rows.Rows.{Rows}
use Rattle.encoding.specs.declared.scripts.Steps.{Steps}
use Rattle.encoding.specs.declared.scripts.Section.{Section as SectionFound}
use Rattle.encoding.specs.declared.scripts.Sections.{Sections}
use Rattle.encoding.specs.declared.scripts.Script.{Script as ScriptFound}
use Rattle.encoding.specs.declared.scripts.Scripts.{Scripts}
use Rattle.encoding.specs.Rows.{rows_of, steps_from, sections_from, scripts_from}

abbrev pub rows_left : Rows → List Row
rows_left s = rows_of s.numbers.now

abbrev pub steps_left : Steps → List Step
steps_left s = steps_from (rows_left s.rows)

abbrev pub section_from : SectionFound → Section
section_from s = record { id = s.id; options = s.options; timeout = s.timeout; steps = steps_left s.steps }

abbrev pub sections_left : Sections → List Section
sections_left s = sections_from (rows_left s.rows)

abbrev pub script_from : ScriptFound → Script
script_from s = record { task = s.task; sections = sections_left s.sections }

abbrev pub scripts_left : Scripts → List Script
scripts_left s = scripts_from (rows_left s.rows)

-- a task's script, behind its place in the list, if it has one
abbrev pub ScriptOf : List Script → ℕ → Option (ℕ × ScriptFound) → Type 0
ScriptOf scripts q None = index_of q scripts ≡ length scripts
ScriptOf scripts q (Some (i, s)) = (i ≡ index_of q scripts) × (i < length scripts) × (script_at scripts i ≡ script_from s)
