-- A file read by the definition: the example of docs/SECTIONS.md, and a file with each fault.
use mathlib.Core.Path.{◌≡◌, refl}
use mathlib.Core.List.{List, [], ◌∷◌}
use Prim.Native.Nat.{ℕ}
use lib.ListN.{replicate}
use Rattle.laws.specs.Choose.{choose}
use Rattle.rules.specs.Machine.{unstarted}
use Rattle.tables.specs.Layout.{laid}
use Rattle.line.specs.Line.{fields, all_digits, spelled, is_number, are_numbers, numbers}
use Rattle.session.specs.Session.{lines}
use Rattle.session.specs.Kept.{respond}
use Rattle.text.specs.Words.{event_word, script_part, word_number, takes, count_fits, said_by}
use Rattle.text.specs.Reading.{Room, cell_line, local_line, row_line, section_begins, other_line, script_line, session_line, step_line}
use Rattle.text.specs.Reading.{section_line}
use Rattle.text.specs.Reading.{event_numbers, event_put, read_line, read_lines, read_text}
use Rattle.text.specs.Reading.Outcome.{Says, Fault}

-- ---- the example

abbrev pub example : List ℕ
example =
    -- start 2 10 20
    115 ∷ 116 ∷ 97 ∷ 114 ∷ 116 ∷ 32 ∷ 50 ∷ 32 ∷ 49 ∷ 48 ∷ 32 ∷ 50 ∷ 48 ∷ 10
    -- create 1 77 1 16 1
    ∷ 99 ∷ 114 ∷ 101 ∷ 97 ∷ 116 ∷ 101 ∷ 32 ∷ 49 ∷ 32 ∷ 55 ∷ 55 ∷ 32 ∷ 49 ∷ 32 ∷ 49 ∷ 54 ∷ 32 ∷ 49 ∷ 10
    -- cell 65537 100
    ∷ 99 ∷ 101 ∷ 108 ∷ 108 ∷ 32 ∷ 54 ∷ 53 ∷ 53 ∷ 51 ∷ 55 ∷ 32 ∷ 49 ∷ 48 ∷ 48 ∷ 10
    -- local 1 1 5
    ∷ 108 ∷ 111 ∷ 99 ∷ 97 ∷ 108 ∷ 32 ∷ 49 ∷ 32 ∷ 49 ∷ 32 ∷ 53 ∷ 10
    -- script 1
    ∷ 115 ∷ 99 ∷ 114 ∷ 105 ∷ 112 ∷ 116 ∷ 32 ∷ 49 ∷ 10
    -- section 65537 0 4294967295
    ∷ 115 ∷ 101 ∷ 99 ∷ 116 ∷ 105 ∷ 111 ∷ 110 ∷ 32 ∷ 54 ∷ 53 ∷ 53 ∷ 51 ∷ 55 ∷ 32 ∷ 48 ∷ 32 ∷ 52 ∷ 50 ∷ 57 ∷ 52 ∷ 57 ∷ 54 ∷ 55 ∷ 50 ∷ 57 ∷ 53 ∷ 10
    -- load 0 0
    ∷ 108 ∷ 111 ∷ 97 ∷ 100 ∷ 32 ∷ 48 ∷ 32 ∷ 48 ∷ 10
    -- add 1 0
    ∷ 97 ∷ 100 ∷ 100 ∷ 32 ∷ 49 ∷ 32 ∷ 48 ∷ 10
    -- store 0 0
    ∷ 115 ∷ 116 ∷ 111 ∷ 114 ∷ 101 ∷ 32 ∷ 48 ∷ 32 ∷ 48 ∷ 10
    -- end
    ∷ 101 ∷ 110 ∷ 100 ∷ 10
    -- run
    ∷ 114 ∷ 117 ∷ 110 ∷ 10
    -- turn 1
    ∷ 116 ∷ 117 ∷ 114 ∷ 110 ∷ 32 ∷ 49 ∷ 10
    -- turn 1
    ∷ 116 ∷ 117 ∷ 114 ∷ 110 ∷ 32 ∷ 49 ∷ 10
    -- turn 1
    ∷ 116 ∷ 117 ∷ 114 ∷ 110 ∷ 32 ∷ 49 ∷ 10
    -- turn 1
    ∷ 116 ∷ 117 ∷ 114 ∷ 110 ∷ 32 ∷ 49 ∷ 10
    -- turn 1
    ∷ 116 ∷ 117 ∷ 114 ∷ 110 ∷ 32 ∷ 49 ∷ 10
    ∷ []

abbrev pub start_line : List ℕ
start_line = 115 ∷ 116 ∷ 97 ∷ 114 ∷ 116 ∷ 32 ∷ 50 ∷ 32 ∷ 49 ∷ 48 ∷ 32 ∷ 50 ∷ 48 ∷ []

abbrev pub create_line : List ℕ
create_line = 99 ∷ 114 ∷ 101 ∷ 97 ∷ 116 ∷ 101 ∷ 32 ∷ 49 ∷ 32 ∷ 55 ∷ 55 ∷ 32 ∷ 49 ∷ 32 ∷ 49 ∷ 54 ∷ 32 ∷ 49 ∷ []

abbrev pub room : Room
room = record { cells = 8; scripts = 64; events = 64 }

-- a cell, a local, a script of one section with three steps, and five turns
pub example_says : read_text room example ≡ Says (record {
  part = 3;
  bytes = (respond (respond (laid unstarted) start_line).bytes create_line).bytes;
  ids = 65537 ∷ [];
  cells = 100 ∷ [];
  locals = 0 ∷ 5 ∷ replicate 254 0;
  scripts = 1 ∷ 1 ∷ 0 ∷ 0 ∷ 2 ∷ 65537 ∷ 0 ∷ 4294967295 ∷ 3 ∷ 0 ∷ 0 ∷ 0 ∷ 6 ∷ 1 ∷ 0 ∷ 0 ∷ 4 ∷ 0 ∷ 0 ∷ 0 ∷ [];
  events = 1 ∷ 1 ∷ 1 ∷ 1 ∷ 1 ∷ 1 ∷ 1 ∷ 1 ∷ 1 ∷ 1 ∷ [];
})
unfolding choose fields all_digits spelled is_number are_numbers numbers lines event_word script_part word_number takes count_fits said_by
    cell_line local_line row_line section_begins other_line script_line session_line step_line section_line event_numbers event_put read_line read_lines read_text
example_says = refl

-- ---- faults

abbrev none : Room
none = record { cells = 0; scripts = 0; events = 0 }

abbrev no_line : List ℕ
no_line =
    -- cell 1 2
    99 ∷ 101 ∷ 108 ∷ 108 ∷ 32 ∷ 49 ∷ 32 ∷ 50 ∷ 10
    -- cell 3
    ∷ 99 ∷ 101 ∷ 108 ∷ 108 ∷ 32 ∷ 51 ∷ 10
    ∷ []

abbrev local_out : List ℕ
local_out =
    -- local 33 0 1
    108 ∷ 111 ∷ 99 ∷ 97 ∷ 108 ∷ 32 ∷ 51 ∷ 51 ∷ 32 ∷ 48 ∷ 32 ∷ 49 ∷ 10
    ∷ []

abbrev end_alone : List ℕ
end_alone =
    -- script 1
    115 ∷ 99 ∷ 114 ∷ 105 ∷ 112 ∷ 116 ∷ 32 ∷ 49 ∷ 10
    -- end, the last line without a newline
    ∷ 101 ∷ 110 ∷ 100
    ∷ []

abbrev step_alone : List ℕ
step_alone =
    -- script 1
    115 ∷ 99 ∷ 114 ∷ 105 ∷ 112 ∷ 116 ∷ 32 ∷ 49 ∷ 10
    -- load 0 0
    ∷ 108 ∷ 111 ∷ 97 ∷ 100 ∷ 32 ∷ 48 ∷ 32 ∷ 48 ∷ 10
    ∷ []

abbrev section_alone : List ℕ
section_alone =
    -- cell 5 1
    99 ∷ 101 ∷ 108 ∷ 108 ∷ 32 ∷ 53 ∷ 32 ∷ 49 ∷ 10
    -- section 5 0 0
    ∷ 115 ∷ 101 ∷ 99 ∷ 116 ∷ 105 ∷ 111 ∷ 110 ∷ 32 ∷ 53 ∷ 32 ∷ 48 ∷ 32 ∷ 48 ∷ 10
    ∷ []

abbrev script_inside : List ℕ
script_inside =
    -- script 1
    115 ∷ 99 ∷ 114 ∷ 105 ∷ 112 ∷ 116 ∷ 32 ∷ 49 ∷ 10
    -- section 5 0 0
    ∷ 115 ∷ 101 ∷ 99 ∷ 116 ∷ 105 ∷ 111 ∷ 110 ∷ 32 ∷ 53 ∷ 32 ∷ 48 ∷ 32 ∷ 48 ∷ 10
    -- script 1
    ∷ 115 ∷ 99 ∷ 114 ∷ 105 ∷ 112 ∷ 116 ∷ 32 ∷ 49 ∷ 10
    ∷ []

abbrev run_inside : List ℕ
run_inside =
    -- script 1
    115 ∷ 99 ∷ 114 ∷ 105 ∷ 112 ∷ 116 ∷ 32 ∷ 49 ∷ 10
    -- section 5 0 0
    ∷ 115 ∷ 101 ∷ 99 ∷ 116 ∷ 105 ∷ 111 ∷ 110 ∷ 32 ∷ 53 ∷ 32 ∷ 48 ∷ 32 ∷ 48 ∷ 10
    -- run
    ∷ 114 ∷ 117 ∷ 110 ∷ 10
    ∷ []

abbrev full_cells : List ℕ
full_cells =
    -- cell 1 1
    99 ∷ 101 ∷ 108 ∷ 108 ∷ 32 ∷ 49 ∷ 32 ∷ 49 ∷ 10
    ∷ []

abbrev full_scripts : List ℕ
full_scripts =
    -- script 1
    115 ∷ 99 ∷ 114 ∷ 105 ∷ 112 ∷ 116 ∷ 32 ∷ 49 ∷ 10
    ∷ []

abbrev full_events : List ℕ
full_events =
    -- run
    114 ∷ 117 ∷ 110 ∷ 10
    -- tick
    ∷ 116 ∷ 105 ∷ 99 ∷ 107 ∷ 10
    ∷ []

abbrev pub FaultIs : Room → List ℕ → ℕ → ℕ → Type 0
FaultIs space text line fault = read_text space text ≡ Fault line fault

pub faults_are :
    FaultIs room no_line 2 1
    × FaultIs room local_out 1 2
    × FaultIs room end_alone 2 3
    × FaultIs room step_alone 2 4
    × FaultIs room section_alone 2 5
    × FaultIs room script_inside 3 6
    × FaultIs room run_inside 3 7
    × FaultIs none full_cells 1 8
    × FaultIs none full_scripts 1 9
    × FaultIs none full_events 2 10
unfolding choose fields all_digits spelled is_number are_numbers numbers lines event_word script_part word_number takes count_fits said_by
    cell_line local_line row_line section_begins other_line script_line session_line step_line section_line event_numbers event_put read_line read_lines read_text
faults_are = (refl, refl, refl, refl, refl, refl, refl, refl, refl, refl)
