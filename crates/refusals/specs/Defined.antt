-- What 11 asks of everything that a run is handed.
use Rattle.std.specs.Prelude.{Bool, List, ℕ, ◌*◌, leb, length}
use Rattle.laws.specs.Choose.{choose, ◌and◌}
use Rattle.rules.specs.Numbers.{max_number, not_defined}
use Rattle.rules.specs.Machine.{Tables}
use Rattle.sections.specs.Run.{Event}
use Rattle.sections.specs.Refusals.{Input, limits_fit, steps_fit, one_script_each, each_script, each_section, each_event, is_event, is_guard}
use Rattle.sections.specs.Refusals.{is_ready, is_allowed, refusal}
use Rattle.encoding.specs.Rows.{scripts_of, rows_fit}
use Rattle.encoding.specs.Events.{events_of}
use Rattle.encoding.specs.Laid.{memory}
use Rattle.refusals.specs.Tests.{input_with}

abbrev pub input_of : List ℕ → List ℕ → List ℕ → List ℕ → Input
input_of scripts ids cells locals = input_with scripts ids (memory cells locals)

-- the rule for lengths: whole rows, each where it may stand, room for a place of each script, and numbers of events that a count can hold; how many
-- identifiers and locals there are is among the limits
unfoldable pub lengths_fit : List ℕ → List ℕ → List ℕ → Bool
lengths_fit scripts events places =
    rows_fit scripts and leb (2 * length (scripts_of scripts)) (length places) and leb (length events) max_number

-- what 11 asks beside that
unfoldable pub is_defined : Tables → Input → List Event → Bool
is_defined t w events = limits_fit w and steps_fit w and one_script_each w and each_event events is_event and each_section w (λ s. is_guard t s.id)

-- what 4 asks
unfoldable pub is_permitted : Tables → Input → List Event → Bool
is_permitted t w events = each_script w (λ s. is_ready t s.task) and each_event events (is_allowed w)

-- on tables that agree: the rule for lengths, then the refusals of a run
abbrev pub refusal_where : Tables → Input → List ℕ → List ℕ → List ℕ → ℕ
refusal_where t w scripts events places = choose (lengths_fit scripts events places) (refusal t w (events_of events)) not_defined
