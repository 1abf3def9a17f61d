-- Reports as the definition prints them: the run of docs/SECTIONS.md, one that stops in a section, and one that the plain run does not match.
use mathlib.Core.Path.{◌≡◌, refl}
use mathlib.Core.List.{List, [], ◌∷◌, ◌++◌}
use Prim.Native.Nat.{ℕ}
use lib.ListN.{replicate}
use Rattle.laws.specs.Choose.{choose}
use Rattle.laws.specs.Rows.{tabulate, rows}
use Rattle.rules.specs.declared.Answer.{Answer}
use Rattle.line.specs.Print.{digits_before, decimal, answer_line}
use Rattle.report.specs.Report.{report_of, report_text, left_text, run_text, plain_text, spaced, paired, line_text, pairs_text}
use Rattle.report.specs.Report.{locals_text, places_text, open_pairs}

abbrev answer : ℕ → ℕ → Answer
answer status next = record { status = status; value = 0; next = next }

-- the locals of task 1, and zeros
abbrev locals_of : ℕ → ℕ → List ℕ
locals_of a b = a ∷ b ∷ replicate 254 0

abbrev added_text : List ℕ
added_text =
    -- 0 0 1
    (48 ∷ 32 ∷ 48 ∷ 32 ∷ 49 ∷ 10 ∷ [])
    -- cells 105
    ++ (99 ∷ 101 ∷ 108 ∷ 108 ∷ 115 ∷ 32 ∷ 49 ∷ 48 ∷ 53 ∷ 10 ∷ [])
    -- locals 1 105 5 0 0 0 0 0 0
    ++ (108 ∷ 111 ∷ 99 ∷ 97 ∷ 108 ∷ 115 ∷ 32 ∷ 49 ∷ 32 ∷ 49 ∷ 48 ∷ 53 ∷ 32 ∷ 53 ∷ 32 ∷ 48 ∷ 32 ∷ 48 ∷ 32 ∷ 48 ∷ 32 ∷ 48 ∷ 32 ∷ 48 ∷ 32 ∷ 48 ∷ 10 ∷ [])
    -- locals 2 0 0 0 0 0 0 0 0
    ++ (108 ∷ 111 ∷ 99 ∷ 97 ∷ 108 ∷ 115 ∷ 32 ∷ 50 ∷ 32 ∷ 48 ∷ 32 ∷ 48 ∷ 32 ∷ 48 ∷ 32 ∷ 48 ∷ 32 ∷ 48 ∷ 32 ∷ 48 ∷ 32 ∷ 48 ∷ 32 ∷ 48 ∷ 10 ∷ [])
    -- place 1 1 0
    ++ (112 ∷ 108 ∷ 97 ∷ 99 ∷ 101 ∷ 32 ∷ 49 ∷ 32 ∷ 49 ∷ 32 ∷ 48 ∷ 10 ∷ [])
    -- grants 1:0
    ++ (103 ∷ 114 ∷ 97 ∷ 110 ∷ 116 ∷ 115 ∷ 32 ∷ 49 ∷ 58 ∷ 48 ∷ 10 ∷ [])
    -- open
    ++ (111 ∷ 112 ∷ 101 ∷ 110 ∷ 10 ∷ [])
    -- plain cells 105
    ++ (112 ∷ 108 ∷ 97 ∷ 105 ∷ 110 ∷ 32 ∷ 99 ∷ 101 ∷ 108 ∷ 108 ∷ 115 ∷ 32 ∷ 49 ∷ 48 ∷ 53 ∷ 10 ∷ [])
    -- plain locals 1 105 5 0 0 0 0 0 0
    ++ (112 ∷ 108 ∷ 97 ∷ 105 ∷ 110 ∷ 32 ∷ 108 ∷ 111 ∷ 99 ∷ 97 ∷ 108 ∷ 115 ∷ 32 ∷ 49 ∷ 32 ∷ 49 ∷ 48 ∷ 53 ∷ 32 ∷ 53 ∷ 32 ∷ 48 ∷ 32 ∷ 48 ∷ 32 ∷ 48 ∷ 32 ∷ 48 ∷
    32 ∷ 48 ∷ 32 ∷ 48 ∷ 10 ∷ [])
    -- plain locals 2 0 0 0 0 0 0 0 0
    ++ (112 ∷ 108 ∷ 97 ∷ 105 ∷ 110 ∷ 32 ∷ 108 ∷ 111 ∷ 99 ∷ 97 ∷ 108 ∷ 115 ∷ 32 ∷ 50 ∷ 32 ∷ 48 ∷ 32 ∷ 48 ∷ 32 ∷ 48 ∷ 32 ∷ 48 ∷ 32 ∷ 48 ∷ 32 ∷ 48 ∷ 32 ∷ 48 ∷
    32 ∷ 48 ∷ 10 ∷ [])
    -- serial yes
    ++ (115 ∷ 101 ∷ 114 ∷ 105 ∷ 97 ∷ 108 ∷ 32 ∷ 121 ∷ 101 ∷ 115 ∷ 10 ∷ [])

abbrev open_text : List ℕ
open_text =
    -- 0 0 1
    (48 ∷ 32 ∷ 48 ∷ 32 ∷ 49 ∷ 10 ∷ [])
    -- cells 100 7
    ++ (99 ∷ 101 ∷ 108 ∷ 108 ∷ 115 ∷ 32 ∷ 49 ∷ 48 ∷ 48 ∷ 32 ∷ 55 ∷ 10 ∷ [])
    -- locals 1 100 5 0 0 0 0 0 0
    ++ (108 ∷ 111 ∷ 99 ∷ 97 ∷ 108 ∷ 115 ∷ 32 ∷ 49 ∷ 32 ∷ 49 ∷ 48 ∷ 48 ∷ 32 ∷ 53 ∷ 32 ∷ 48 ∷ 32 ∷ 48 ∷ 32 ∷ 48 ∷ 32 ∷ 48 ∷ 32 ∷ 48 ∷ 32 ∷ 48 ∷ 10 ∷ [])
    -- locals 2 0 0 0 0 0 0 0 0
    ++ (108 ∷ 111 ∷ 99 ∷ 97 ∷ 108 ∷ 115 ∷ 32 ∷ 50 ∷ 32 ∷ 48 ∷ 32 ∷ 48 ∷ 32 ∷ 48 ∷ 32 ∷ 48 ∷ 32 ∷ 48 ∷ 32 ∷ 48 ∷ 32 ∷ 48 ∷ 32 ∷ 48 ∷ 10 ∷ [])
    -- place 1 0 2
    ++ (112 ∷ 108 ∷ 97 ∷ 99 ∷ 101 ∷ 32 ∷ 49 ∷ 32 ∷ 48 ∷ 32 ∷ 50 ∷ 10 ∷ [])
    -- place 2 0 0
    ++ (112 ∷ 108 ∷ 97 ∷ 99 ∷ 101 ∷ 32 ∷ 50 ∷ 32 ∷ 48 ∷ 32 ∷ 48 ∷ 10 ∷ [])
    -- grants 1:0
    ++ (103 ∷ 114 ∷ 97 ∷ 110 ∷ 116 ∷ 115 ∷ 32 ∷ 49 ∷ 58 ∷ 48 ∷ 10 ∷ [])
    -- open 1:0
    ++ (111 ∷ 112 ∷ 101 ∷ 110 ∷ 32 ∷ 49 ∷ 58 ∷ 48 ∷ 10 ∷ [])
    -- serial open
    ++ (115 ∷ 101 ∷ 114 ∷ 105 ∷ 97 ∷ 108 ∷ 32 ∷ 111 ∷ 112 ∷ 101 ∷ 110 ∷ 10 ∷ [])

abbrev other_text : List ℕ
other_text =
    -- 11 0 0
    (49 ∷ 49 ∷ 32 ∷ 48 ∷ 32 ∷ 48 ∷ 10 ∷ [])
    -- cells
    ++ (99 ∷ 101 ∷ 108 ∷ 108 ∷ 115 ∷ 10 ∷ [])
    -- locals 1 4294967295 0 0 0 0 0 0 0
    ++ (108 ∷ 111 ∷ 99 ∷ 97 ∷ 108 ∷ 115 ∷ 32 ∷ 49 ∷ 32 ∷ 52 ∷ 50 ∷ 57 ∷ 52 ∷ 57 ∷ 54 ∷ 55 ∷ 50 ∷ 57 ∷ 53 ∷ 32 ∷ 48 ∷ 32 ∷ 48 ∷ 32 ∷ 48 ∷ 32 ∷ 48 ∷ 32 ∷ 48 ∷
    32 ∷ 48 ∷ 32 ∷ 48 ∷ 10 ∷ [])
    -- grants
    ++ (103 ∷ 114 ∷ 97 ∷ 110 ∷ 116 ∷ 115 ∷ 10 ∷ [])
    -- open
    ++ (111 ∷ 112 ∷ 101 ∷ 110 ∷ 10 ∷ [])
    -- plain cells
    ++ (112 ∷ 108 ∷ 97 ∷ 105 ∷ 110 ∷ 32 ∷ 99 ∷ 101 ∷ 108 ∷ 108 ∷ 115 ∷ 10 ∷ [])
    -- plain locals 1 0 0 0 0 0 0 0 0
    ++ (112 ∷ 108 ∷ 97 ∷ 105 ∷ 110 ∷ 32 ∷ 108 ∷ 111 ∷ 99 ∷ 97 ∷ 108 ∷ 115 ∷ 32 ∷ 49 ∷ 32 ∷ 48 ∷ 32 ∷ 48 ∷ 32 ∷ 48 ∷ 32 ∷ 48 ∷ 32 ∷ 48 ∷ 32 ∷ 48 ∷ 32 ∷ 48 ∷
    32 ∷ 48 ∷ 10 ∷ [])
    -- serial no
    ++ (115 ∷ 101 ∷ 114 ∷ 105 ∷ 97 ∷ 108 ∷ 32 ∷ 110 ∷ 111 ∷ 10 ∷ [])

worked :
    (report_text (report_of (answer 0 1) 2 (105 ∷ []) (locals_of 105 5) (1 ∷ []) (1 ∷ 0 ∷ []) (1 ∷ 0 ∷ []) (105 ∷ []) (locals_of 105 5)) ≡ added_text) ×
    (report_text (report_of (answer 0 1) 2 (100 ∷ 7 ∷ []) (locals_of 100 5) (1 ∷ 2 ∷ []) (0 ∷ 2 ∷ 0 ∷ 0 ∷ []) (1 ∷ 0 ∷ []) (105 ∷ 7 ∷ [])
    (locals_of 105 5)) ≡ open_text) ×
    (report_text (report_of (answer 11 0) 1 [] (locals_of 4294967295 0) [] [] [] [] (locals_of 0 0)) ≡ other_text)
unfolding report_text left_text run_text plain_text spaced paired line_text pairs_text locals_text places_text open_pairs answer_line digits_before decimal choose tabulate rows
worked = (refl, refl, refl)
