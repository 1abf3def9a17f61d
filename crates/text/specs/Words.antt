-- The text of a run of guarded sections: a line's word and numbers. Events' words are numbered as a run's events are, those of scripts as a script's rows
-- are and 10 more, and the four others from 17 on.
use Rattle.std.specs.Prelude.{Bool, List, [], ◌∷◌, ℕ, leb, eqb, length, get_or, drop}
use Rattle.laws.specs.Choose.{choose, ◌and◌, ◌or◌}
use Rattle.rules.specs.Numbers.{within}
use Rattle.line.specs.Line.{max_line, fields, are_numbers, numbers, same_bytes, start_word, create_word, ident_word, delete_word, obtain_word, release_word}
use Rattle.line.specs.Line.{flush_word, tick_word}

abbrev pub turn_word : List ℕ
turn_word = 116 ∷ 117 ∷ 114 ∷ 110 ∷ []

abbrev pub script_word : List ℕ
script_word = 115 ∷ 99 ∷ 114 ∷ 105 ∷ 112 ∷ 116 ∷ []

abbrev pub section_word : List ℕ
section_word = 115 ∷ 101 ∷ 99 ∷ 116 ∷ 105 ∷ 111 ∷ 110 ∷ []

abbrev pub load_word : List ℕ
load_word = 108 ∷ 111 ∷ 97 ∷ 100 ∷ []

abbrev pub store_word : List ℕ
store_word = 115 ∷ 116 ∷ 111 ∷ 114 ∷ 101 ∷ []

abbrev pub set_word : List ℕ
set_word = 115 ∷ 101 ∷ 116 ∷ []

abbrev pub add_word : List ℕ
add_word = 97 ∷ 100 ∷ 100 ∷ []

abbrev pub cell_word : List ℕ
cell_word = 99 ∷ 101 ∷ 108 ∷ 108 ∷ []

abbrev pub local_word : List ℕ
local_word = 108 ∷ 111 ∷ 99 ∷ 97 ∷ 108 ∷ []

abbrev pub end_word : List ℕ
end_word = 101 ∷ 110 ∷ 100 ∷ []

abbrev pub run_word : List ℕ
run_word = 114 ∷ 117 ∷ 110 ∷ []

-- a word's number, 0 for any other
unfoldable pub event_word : List ℕ → ℕ
event_word w =
    choose (same_bytes w turn_word) 1
    (choose (same_bytes w start_word) 2
    (choose (same_bytes w create_word) 3
    (choose (same_bytes w ident_word) 4
    (choose (same_bytes w delete_word) 5
    (choose (same_bytes w obtain_word) 6
    (choose (same_bytes w release_word) 7
    (choose (same_bytes w flush_word) 8
    (choose (same_bytes w tick_word) 9 0))))))))

unfoldable pub script_part : List ℕ → ℕ
script_part w =
    choose (same_bytes w script_word) 11
    (choose (same_bytes w section_word) 12
    (choose (same_bytes w load_word) 13
    (choose (same_bytes w store_word) 14
    (choose (same_bytes w set_word) 15
    (choose (same_bytes w add_word) 16
    (choose (same_bytes w cell_word) 17
    (choose (same_bytes w local_word) 18
    (choose (same_bytes w end_word) 19
    (choose (same_bytes w run_word) 20 0)))))))))

unfoldable pub word_number : List ℕ → ℕ
word_number w = choose (eqb (event_word w) 0) (script_part w) (event_word w)

abbrev pub is_event_word : ℕ → Bool
is_event_word w = within 1 9 w

abbrev pub is_step_word : ℕ → Bool
is_step_word w = within 13 16 w

-- a cell, a local, a script or the run: with the first of them the second part begins
abbrev pub opens_scripts : ℕ → Bool
opens_scripts w = eqb w 11 or eqb w 17 or eqb w 18 or eqb w 20

-- how many numbers a word takes; a start takes one and then any count of priorities
unfoldable pub takes : ℕ → ℕ
takes w = get_or (0 ∷ 1 ∷ 1 ∷ 5 ∷ 1 ∷ 2 ∷ 4 ∷ 2 ∷ 2 ∷ 0 ∷ 0 ∷ 1 ∷ 3 ∷ 2 ∷ 2 ∷ 2 ∷ 2 ∷ 2 ∷ 3 ∷ 0 ∷ 0 ∷ []) w 0

unfoldable pub count_fits : ℕ → ℕ → Bool
count_fits w n = choose (eqb w 2) (leb 1 n) (eqb n (takes w))

-- what a line says: its word's number and its numbers; 0 and none where it is no line of these
pub record Said : Type 0 where
  pub word : ℕ
  pub numbers : List ℕ

abbrev pub says : ℕ → List ℕ → Said
says w ns = record { word = w; numbers = ns }

-- lines as in a session: single spaces, decimal numbers, at most 256 bytes
unfoldable pub said_by : List ℕ → Said
said_by bs =
    let fs = fields bs in
    let w = word_number (get_or fs 0 []) in
    let ns = numbers (drop 1 fs) in
    choose (leb (length bs) max_line and are_numbers (drop 1 fs) and leb 1 w and count_fits w (length ns)) (says w ns) (says 0 [])
