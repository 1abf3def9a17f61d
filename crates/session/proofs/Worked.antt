-- P1 to P15 as the text of a session and the text of its answers, byte by byte.
use mathlib.Core.Path.{◌≡◌, refl}
use mathlib.Core.List.{List, [], ◌∷◌}
use Prim.Native.Nat.{ℕ}
use Rattle.rules.proofs.Asking.{answers_of}
use Rattle.line.specs.Line.{fields, all_digits, spelled, is_number, are_numbers, numbers, request_of, line_of}
use Rattle.line.specs.Print.{digits_before, decimal, answer_line}
use Rattle.session.specs.Session.{lines, answer_to, outputs, session}

abbrev pub input : List ℕ
input =
    -- start 4 10 20
    115 ∷ 116 ∷ 97 ∷ 114 ∷ 116 ∷ 32 ∷ 52 ∷ 32 ∷ 49 ∷ 48 ∷ 32 ∷ 50 ∷ 48 ∷ 10
    -- create 1 77 1 20 1
    ∷ 99 ∷ 114 ∷ 101 ∷ 97 ∷ 116 ∷ 101 ∷ 32 ∷ 49 ∷ 32 ∷ 55 ∷ 55 ∷ 32 ∷ 49 ∷ 32 ∷ 50 ∷ 48 ∷ 32 ∷ 49 ∷ 10
    -- obtain 2 65537 0 4294967295
    ∷ 111 ∷ 98 ∷ 116 ∷ 97 ∷ 105 ∷ 110 ∷ 32 ∷ 50 ∷ 32 ∷ 54 ∷ 53 ∷ 53 ∷ 51 ∷ 55 ∷ 32 ∷ 48 ∷ 32 ∷ 52 ∷ 50 ∷ 57 ∷ 52 ∷ 57 ∷ 54 ∷ 55 ∷ 50 ∷ 57 ∷ 53 ∷ 10
    -- obtain 1 65537 0 3
    ∷ 111 ∷ 98 ∷ 116 ∷ 97 ∷ 105 ∷ 110 ∷ 32 ∷ 49 ∷ 32 ∷ 54 ∷ 53 ∷ 53 ∷ 51 ∷ 55 ∷ 32 ∷ 48 ∷ 32 ∷ 51 ∷ 10
    -- tick
    ∷ 116 ∷ 105 ∷ 99 ∷ 107 ∷ 10
    -- release 2 65537
    ∷ 114 ∷ 101 ∷ 108 ∷ 101 ∷ 97 ∷ 115 ∷ 101 ∷ 32 ∷ 50 ∷ 32 ∷ 54 ∷ 53 ∷ 53 ∷ 51 ∷ 55 ∷ 10
    -- delete 2 65537
    ∷ 100 ∷ 101 ∷ 108 ∷ 101 ∷ 116 ∷ 101 ∷ 32 ∷ 50 ∷ 32 ∷ 54 ∷ 53 ∷ 53 ∷ 51 ∷ 55 ∷ 10
    -- release 1 65537
    ∷ 114 ∷ 101 ∷ 108 ∷ 101 ∷ 97 ∷ 115 ∷ 101 ∷ 32 ∷ 49 ∷ 32 ∷ 54 ∷ 53 ∷ 53 ∷ 51 ∷ 55 ∷ 10
    -- delete 1 65537
    ∷ 100 ∷ 101 ∷ 108 ∷ 101 ∷ 116 ∷ 101 ∷ 32 ∷ 49 ∷ 32 ∷ 54 ∷ 53 ∷ 53 ∷ 51 ∷ 55 ∷ 10
    -- obtain 1 65537 0 4294967295
    ∷ 111 ∷ 98 ∷ 116 ∷ 97 ∷ 105 ∷ 110 ∷ 32 ∷ 49 ∷ 32 ∷ 54 ∷ 53 ∷ 53 ∷ 51 ∷ 55 ∷ 32 ∷ 48 ∷ 32 ∷ 52 ∷ 50 ∷ 57 ∷ 52 ∷ 57 ∷ 54 ∷ 55 ∷ 50 ∷ 57 ∷ 53 ∷ 10
    -- create 1 78 2 0 4294967295
    ∷ 99 ∷ 114 ∷ 101 ∷ 97 ∷ 116 ∷ 101 ∷ 32 ∷ 49 ∷ 32 ∷ 55 ∷ 56 ∷ 32 ∷ 50 ∷ 32 ∷ 48 ∷ 32 ∷ 52 ∷ 50 ∷ 57 ∷ 52 ∷ 57 ∷ 54 ∷ 55 ∷ 50 ∷ 57 ∷ 53 ∷ 10
    ∷ []

abbrev pub output : List ℕ
output =
    -- 0 0 1
    48 ∷ 32 ∷ 48 ∷ 32 ∷ 49 ∷ 10
    -- 0 65537 1
    ∷ 48 ∷ 32 ∷ 54 ∷ 53 ∷ 53 ∷ 51 ∷ 55 ∷ 32 ∷ 49 ∷ 10
    -- 0 0 1
    ∷ 48 ∷ 32 ∷ 48 ∷ 32 ∷ 49 ∷ 10
    -- 100 0 2
    ∷ 49 ∷ 48 ∷ 48 ∷ 32 ∷ 48 ∷ 32 ∷ 50 ∷ 10
    -- 0 0 2
    ∷ 48 ∷ 32 ∷ 48 ∷ 32 ∷ 50 ∷ 10
    -- 0 0 1
    ∷ 48 ∷ 32 ∷ 48 ∷ 32 ∷ 49 ∷ 10
    -- 12 0 1
    ∷ 49 ∷ 50 ∷ 32 ∷ 48 ∷ 32 ∷ 49 ∷ 10
    -- 0 0 1
    ∷ 48 ∷ 32 ∷ 48 ∷ 32 ∷ 49 ∷ 10
    -- 0 0 1
    ∷ 48 ∷ 32 ∷ 48 ∷ 32 ∷ 49 ∷ 10
    -- 4 0 1
    ∷ 52 ∷ 32 ∷ 48 ∷ 32 ∷ 49 ∷ 10
    -- 0 131073 1
    ∷ 48 ∷ 32 ∷ 49 ∷ 51 ∷ 49 ∷ 48 ∷ 55 ∷ 51 ∷ 32 ∷ 49 ∷ 10
    ∷ []

pub P1_P11_as_text : session input ≡ output
unfolding answers_of fields all_digits spelled is_number are_numbers numbers request_of line_of digits_before decimal answer_line
    lines answer_to outputs session
P1_P11_as_text = refl

abbrev pub P12_input : List ℕ
P12_input =
    -- start 1 5
    115 ∷ 116 ∷ 97 ∷ 114 ∷ 116 ∷ 32 ∷ 49 ∷ 32 ∷ 53 ∷ 10
    -- create 1 77 4294967295 0 4294967295
    ∷ 99 ∷ 114 ∷ 101 ∷ 97 ∷ 116 ∷ 101 ∷ 32 ∷ 49 ∷ 32 ∷ 55 ∷ 55 ∷ 32 ∷ 52 ∷ 50 ∷ 57 ∷ 52 ∷ 57 ∷ 54 ∷ 55 ∷ 50 ∷ 57 ∷ 53 ∷ 32 ∷ 48
    ∷ 32 ∷ 52 ∷ 50 ∷ 57 ∷ 52 ∷ 57 ∷ 54 ∷ 55 ∷ 50 ∷ 57 ∷ 53 ∷ 10
    -- release 1 65537
    ∷ 114 ∷ 101 ∷ 108 ∷ 101 ∷ 97 ∷ 115 ∷ 101 ∷ 32 ∷ 49 ∷ 32 ∷ 54 ∷ 53 ∷ 53 ∷ 51 ∷ 55 ∷ 10
    ∷ []

abbrev pub P12_output : List ℕ
P12_output =
    -- 0 0 1
    48 ∷ 32 ∷ 48 ∷ 32 ∷ 49 ∷ 10
    -- 0 65537 1
    ∷ 48 ∷ 32 ∷ 54 ∷ 53 ∷ 53 ∷ 51 ∷ 55 ∷ 32 ∷ 49 ∷ 10
    -- 13 0 1
    ∷ 49 ∷ 51 ∷ 32 ∷ 48 ∷ 32 ∷ 49 ∷ 10
    ∷ []

abbrev pub P13_input : List ℕ
P13_input =
    -- start 1 5
    115 ∷ 116 ∷ 97 ∷ 114 ∷ 116 ∷ 32 ∷ 49 ∷ 32 ∷ 53 ∷ 10
    -- create 1 77 1 32 1
    ∷ 99 ∷ 114 ∷ 101 ∷ 97 ∷ 116 ∷ 101 ∷ 32 ∷ 49 ∷ 32 ∷ 55 ∷ 55 ∷ 32 ∷ 49 ∷ 32 ∷ 51 ∷ 50 ∷ 32 ∷ 49 ∷ 10
    -- release 0 65537
    ∷ 114 ∷ 101 ∷ 108 ∷ 101 ∷ 97 ∷ 115 ∷ 101 ∷ 32 ∷ 48 ∷ 32 ∷ 54 ∷ 53 ∷ 53 ∷ 51 ∷ 55 ∷ 10
    ∷ []

abbrev pub P13_output : List ℕ
P13_output =
    -- 0 0 1
    48 ∷ 32 ∷ 48 ∷ 32 ∷ 49 ∷ 10
    -- 0 65537 1
    ∷ 48 ∷ 32 ∷ 54 ∷ 53 ∷ 53 ∷ 51 ∷ 55 ∷ 32 ∷ 49 ∷ 10
    -- 13 0 1
    ∷ 49 ∷ 51 ∷ 32 ∷ 48 ∷ 32 ∷ 49 ∷ 10
    ∷ []

abbrev pub P14_input : List ℕ
P14_input =
    -- start 1 5
    115 ∷ 116 ∷ 97 ∷ 114 ∷ 116 ∷ 32 ∷ 49 ∷ 32 ∷ 53 ∷ 10
    -- create 1 77 1 16 1
    ∷ 99 ∷ 114 ∷ 101 ∷ 97 ∷ 116 ∷ 101 ∷ 32 ∷ 49 ∷ 32 ∷ 55 ∷ 55 ∷ 32 ∷ 49 ∷ 32 ∷ 49 ∷ 54 ∷ 32 ∷ 49 ∷ 10
    -- release 0 65537
    ∷ 114 ∷ 101 ∷ 108 ∷ 101 ∷ 97 ∷ 115 ∷ 101 ∷ 32 ∷ 48 ∷ 32 ∷ 54 ∷ 53 ∷ 53 ∷ 51 ∷ 55 ∷ 10
    ∷ []

abbrev pub P14_output : List ℕ
P14_output =
    -- 0 0 1
    48 ∷ 32 ∷ 48 ∷ 32 ∷ 49 ∷ 10
    -- 0 65537 1
    ∷ 48 ∷ 32 ∷ 54 ∷ 53 ∷ 53 ∷ 51 ∷ 55 ∷ 32 ∷ 49 ∷ 10
    -- 23 0 1
    ∷ 50 ∷ 51 ∷ 32 ∷ 48 ∷ 32 ∷ 49 ∷ 10
    ∷ []

abbrev pub P15_input : List ℕ
P15_input =
    -- start 1 10 10
    115 ∷ 116 ∷ 97 ∷ 114 ∷ 116 ∷ 32 ∷ 49 ∷ 32 ∷ 49 ∷ 48 ∷ 32 ∷ 49 ∷ 48 ∷ 10
    -- create 1 77 0 0 4294967295
    ∷ 99 ∷ 114 ∷ 101 ∷ 97 ∷ 116 ∷ 101 ∷ 32 ∷ 49 ∷ 32 ∷ 55 ∷ 55 ∷ 32 ∷ 48 ∷ 32 ∷ 48 ∷ 32 ∷ 52 ∷ 50 ∷ 57 ∷ 52 ∷ 57 ∷ 54 ∷ 55 ∷ 50 ∷ 57 ∷ 53 ∷ 10
    -- obtain 1 65537 0 0
    ∷ 111 ∷ 98 ∷ 116 ∷ 97 ∷ 105 ∷ 110 ∷ 32 ∷ 49 ∷ 32 ∷ 54 ∷ 53 ∷ 53 ∷ 51 ∷ 55 ∷ 32 ∷ 48 ∷ 32 ∷ 48 ∷ 10
    -- release 2 65537
    ∷ 114 ∷ 101 ∷ 108 ∷ 101 ∷ 97 ∷ 115 ∷ 101 ∷ 32 ∷ 50 ∷ 32 ∷ 54 ∷ 53 ∷ 53 ∷ 51 ∷ 55 ∷ 10
    ∷ []

abbrev pub P15_output : List ℕ
P15_output =
    -- 0 0 1
    48 ∷ 32 ∷ 48 ∷ 32 ∷ 49 ∷ 10
    -- 0 65537 1
    ∷ 48 ∷ 32 ∷ 54 ∷ 53 ∷ 53 ∷ 51 ∷ 55 ∷ 32 ∷ 49 ∷ 10
    -- 100 0 2
    ∷ 49 ∷ 48 ∷ 48 ∷ 32 ∷ 48 ∷ 32 ∷ 50 ∷ 10
    -- 0 0 2
    ∷ 48 ∷ 32 ∷ 48 ∷ 32 ∷ 50 ∷ 10
    ∷ []

pub P12_P15_as_text : (session P12_input ≡ P12_output) × (session P13_input ≡ P13_output) × (session P14_input ≡ P14_output)
    × (session P15_input ≡ P15_output)
unfolding answers_of fields all_digits spelled is_number are_numbers numbers request_of line_of digits_before decimal answer_line
    lines answer_to outputs session
P12_P15_as_text = (refl, refl, refl, refl)
