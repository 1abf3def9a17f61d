-- The tests of what is handed in, on scripts laid out as rows.
use Rattle.std.specs.Prelude.{Bool, List, [], ℕ, leb, ltb, eqb, length, get_or}
use Rattle.laws.specs.Choose.{◌and◌}
use Rattle.laws.specs.All.{all}
use Rattle.rules.specs.Machine.{Tables}
use Rattle.sections.specs.Scripts.{Section, Script, Memory, index_of}
use Rattle.sections.specs.Scripts.Step.{NoStep}
use Rattle.sections.specs.Refusals.{Input, is_step, is_guard}
use Rattle.encoding.specs.Rows.{no_section, scripts_of}
use Rattle.encoding.specs.Laid.{memory}

-- scripts in rows, with the identifiers of the cells and with the memory
abbrev pub input_with : List ℕ → List ℕ → Memory → Input
input_with ns ids m = record { scripts = scripts_of ns; ids = ids; memory = m }

-- for tests that look at scripts alone
abbrev pub scripts_alone : List ℕ → Input
scripts_alone ns = input_with ns [] (memory [] [])

abbrev pub is_short : Script → Bool
is_short s = leb (length s.sections) 8

abbrev pub are_steps : List ℕ → Section → Bool
are_steps ids s = all (length s.steps) (λ k. is_step ids s.id (get_or s.steps k NoStep))

-- what 11 asks of a section: at most 16 steps, each of them a step, and a semaphore that guards
unfoldable pub section_fits : Tables → List ℕ → Section → Bool
section_fits t ids s = (leb (length s.steps) 16 and are_steps ids s) and is_guard t s.id

abbrev pub sections_fit : Tables → List ℕ → List Section → Bool
sections_fit t ids sections = all (length sections) (λ k. section_fits t ids (get_or sections k no_section))

-- a task's first script is at that place
abbrev pub is_first : List Script → ℕ → ℕ → Bool
is_first scripts i q = ltb (index_of q scripts) (length scripts) and eqb (index_of q scripts) i
