-- Lines of each kind and every kind of bad line, read by the definition, and answer lines as it prints them.
use mathlib.Core.Path.{◌≡◌, refl}
use mathlib.Core.List.{List, [], ◌∷◌, ◌++◌, map}
use mathlib.Core.Option.{Option, none, some}
use Prim.Native.Nat.{ℕ, zero, suc}
use lib.ListN.{replicate}
use Rattle.laws.specs.Choose.{choose}
use Rattle.rules.specs.declared.Call.TheVariants.{Start, Create, Ident, Delete, Obtain, Release, Flush, Tick}
use Rattle.rules.specs.declared.Wait.TheVariants.{Poll, Forever, Ticks}
use Rattle.rules.specs.declared.Answer.{Answer}
use Rattle.rules.specs.Semaphore.{wait_of}
use Rattle.rules.specs.Runs.{Request}
use Rattle.line.specs.Line.{line_of, fields, all_digits, spelled, is_number, are_numbers, numbers, request_of, asked, start_word}
use Rattle.line.specs.Print.{answer_line, digits_before, decimal}

-- `n` times the same bytes
times : ℕ → List ℕ → List ℕ
times zero bs = []
times (suc n) bs = bs ++ times n bs

starting : ℕ → List ℕ → Option Request
starting slots priorities = some (record { call = Start slots; priorities = priorities })

good : List (List ℕ)
good =
    -- start 4 10 20
    (115 ∷ 116 ∷ 97 ∷ 114 ∷ 116 ∷ 32 ∷ 52 ∷ 32 ∷ 49 ∷ 48 ∷ 32 ∷ 50 ∷ 48 ∷ []) ∷
    -- start 4
    (115 ∷ 116 ∷ 97 ∷ 114 ∷ 116 ∷ 32 ∷ 52 ∷ []) ∷
    -- create 1 77 1 20 1
    (99 ∷ 114 ∷ 101 ∷ 97 ∷ 116 ∷ 101 ∷ 32 ∷ 49 ∷ 32 ∷ 55 ∷ 55 ∷ 32 ∷ 49 ∷ 32 ∷ 50 ∷ 48 ∷ 32 ∷ 49 ∷ []) ∷
    -- obtain 2 65537 0 0
    (111 ∷ 98 ∷ 116 ∷ 97 ∷ 105 ∷ 110 ∷ 32 ∷ 50 ∷ 32 ∷ 54 ∷ 53 ∷ 53 ∷ 51 ∷ 55 ∷ 32 ∷ 48 ∷ 32 ∷ 48 ∷ []) ∷
    -- obtain 2 65537 0 4294967295
    (111 ∷ 98 ∷ 116 ∷ 97 ∷ 105 ∷ 110 ∷ 32 ∷ 50 ∷ 32 ∷ 54 ∷ 53 ∷ 53 ∷ 51 ∷ 55 ∷ 32 ∷ 48 ∷ 32 ∷ 52 ∷ 50 ∷ 57 ∷ 52 ∷ 57 ∷ 54 ∷ 55 ∷ 50 ∷ 57 ∷ 53 ∷ []) ∷
    -- obtain 1 65537 0 3
    (111 ∷ 98 ∷ 116 ∷ 97 ∷ 105 ∷ 110 ∷ 32 ∷ 49 ∷ 32 ∷ 54 ∷ 53 ∷ 53 ∷ 51 ∷ 55 ∷ 32 ∷ 48 ∷ 32 ∷ 51 ∷ []) ∷
    -- obtain 1 65537 1 3
    (111 ∷ 98 ∷ 116 ∷ 97 ∷ 105 ∷ 110 ∷ 32 ∷ 49 ∷ 32 ∷ 54 ∷ 53 ∷ 53 ∷ 51 ∷ 55 ∷ 32 ∷ 49 ∷ 32 ∷ 51 ∷ []) ∷
    -- tick
    (116 ∷ 105 ∷ 99 ∷ 107 ∷ []) ∷
    -- release 2 65537
    (114 ∷ 101 ∷ 108 ∷ 101 ∷ 97 ∷ 115 ∷ 101 ∷ 32 ∷ 50 ∷ 32 ∷ 54 ∷ 53 ∷ 53 ∷ 51 ∷ 55 ∷ []) ∷
    -- delete 2 4294967295
    (100 ∷ 101 ∷ 108 ∷ 101 ∷ 116 ∷ 101 ∷ 32 ∷ 50 ∷ 32 ∷ 52 ∷ 50 ∷ 57 ∷ 52 ∷ 57 ∷ 54 ∷ 55 ∷ 50 ∷ 57 ∷ 53 ∷ []) ∷
    -- flush 0 0
    (102 ∷ 108 ∷ 117 ∷ 115 ∷ 104 ∷ 32 ∷ 48 ∷ 32 ∷ 48 ∷ []) ∷
    -- ident 77
    (105 ∷ 100 ∷ 101 ∷ 110 ∷ 116 ∷ 32 ∷ 55 ∷ 55 ∷ []) ∷
    -- 256 bytes: start, 124 times 1, and 11
    (start_word ++ times 124 (32 ∷ 49 ∷ []) ++ 32 ∷ 49 ∷ 49 ∷ []) ∷ []

bad : List (List ℕ)
bad =
    -- an empty line
    ([]) ∷
    -- start
    (115 ∷ 116 ∷ 97 ∷ 114 ∷ 116 ∷ []) ∷
    -- tick
    (116 ∷ 105 ∷ 99 ∷ 107 ∷ 32 ∷ []) ∷
    -- tick 1
    (116 ∷ 105 ∷ 99 ∷ 107 ∷ 32 ∷ 49 ∷ []) ∷
    --  tick
    (32 ∷ 116 ∷ 105 ∷ 99 ∷ 107 ∷ []) ∷
    -- tock
    (116 ∷ 111 ∷ 99 ∷ 107 ∷ []) ∷
    -- tic
    (116 ∷ 105 ∷ 99 ∷ []) ∷
    -- ticks
    (116 ∷ 105 ∷ 99 ∷ 107 ∷ 115 ∷ []) ∷
    -- TICK
    (84 ∷ 73 ∷ 67 ∷ 75 ∷ []) ∷
    -- ident
    (105 ∷ 100 ∷ 101 ∷ 110 ∷ 116 ∷ []) ∷
    -- ident 1 2
    (105 ∷ 100 ∷ 101 ∷ 110 ∷ 116 ∷ 32 ∷ 49 ∷ 32 ∷ 50 ∷ []) ∷
    -- create 1 77 1 20
    (99 ∷ 114 ∷ 101 ∷ 97 ∷ 116 ∷ 101 ∷ 32 ∷ 49 ∷ 32 ∷ 55 ∷ 55 ∷ 32 ∷ 49 ∷ 32 ∷ 50 ∷ 48 ∷ []) ∷
    -- create 1 77 1 20 1 0
    (99 ∷ 114 ∷ 101 ∷ 97 ∷ 116 ∷ 101 ∷ 32 ∷ 49 ∷ 32 ∷ 55 ∷ 55 ∷ 32 ∷ 49 ∷ 32 ∷ 50 ∷ 48 ∷ 32 ∷ 49 ∷ 32 ∷ 48 ∷ []) ∷
    -- obtain 1 65537 0
    (111 ∷ 98 ∷ 116 ∷ 97 ∷ 105 ∷ 110 ∷ 32 ∷ 49 ∷ 32 ∷ 54 ∷ 53 ∷ 53 ∷ 51 ∷ 55 ∷ 32 ∷ 48 ∷ []) ∷
    -- delete 1
    (100 ∷ 101 ∷ 108 ∷ 101 ∷ 116 ∷ 101 ∷ 32 ∷ 49 ∷ []) ∷
    -- release 1 2 3
    (114 ∷ 101 ∷ 108 ∷ 101 ∷ 97 ∷ 115 ∷ 101 ∷ 32 ∷ 49 ∷ 32 ∷ 50 ∷ 32 ∷ 51 ∷ []) ∷
    -- flush  1 2
    (102 ∷ 108 ∷ 117 ∷ 115 ∷ 104 ∷ 32 ∷ 32 ∷ 49 ∷ 32 ∷ 50 ∷ []) ∷
    -- flush 1  2
    (102 ∷ 108 ∷ 117 ∷ 115 ∷ 104 ∷ 32 ∷ 49 ∷ 32 ∷ 32 ∷ 50 ∷ []) ∷
    -- flush 1 2
    (102 ∷ 108 ∷ 117 ∷ 115 ∷ 104 ∷ 32 ∷ 49 ∷ 32 ∷ 50 ∷ 32 ∷ []) ∷
    -- ident 01
    (105 ∷ 100 ∷ 101 ∷ 110 ∷ 116 ∷ 32 ∷ 48 ∷ 49 ∷ []) ∷
    -- ident 00
    (105 ∷ 100 ∷ 101 ∷ 110 ∷ 116 ∷ 32 ∷ 48 ∷ 48 ∷ []) ∷
    -- ident 4294967296
    (105 ∷ 100 ∷ 101 ∷ 110 ∷ 116 ∷ 32 ∷ 52 ∷ 50 ∷ 57 ∷ 52 ∷ 57 ∷ 54 ∷ 55 ∷ 50 ∷ 57 ∷ 54 ∷ []) ∷
    -- ident 10000000000
    (105 ∷ 100 ∷ 101 ∷ 110 ∷ 116 ∷ 32 ∷ 49 ∷ 48 ∷ 48 ∷ 48 ∷ 48 ∷ 48 ∷ 48 ∷ 48 ∷ 48 ∷ 48 ∷ 48 ∷ []) ∷
    -- ident -1
    (105 ∷ 100 ∷ 101 ∷ 110 ∷ 116 ∷ 32 ∷ 45 ∷ 49 ∷ []) ∷
    -- ident 1a
    (105 ∷ 100 ∷ 101 ∷ 110 ∷ 116 ∷ 32 ∷ 49 ∷ 97 ∷ []) ∷
    -- ident 1.
    (105 ∷ 100 ∷ 101 ∷ 110 ∷ 116 ∷ 32 ∷ 49 ∷ 46 ∷ []) ∷
    -- ident \0
    (105 ∷ 100 ∷ 101 ∷ 110 ∷ 116 ∷ 32 ∷ 0 ∷ []) ∷
    -- ident 1\r
    (105 ∷ 100 ∷ 101 ∷ 110 ∷ 116 ∷ 32 ∷ 49 ∷ 13 ∷ []) ∷
    -- ident\t1
    (105 ∷ 100 ∷ 101 ∷ 110 ∷ 116 ∷ 9 ∷ 49 ∷ []) ∷
    -- tick\x80
    (116 ∷ 105 ∷ 99 ∷ 107 ∷ 128 ∷ []) ∷
    -- ident 1\x80
    (105 ∷ 100 ∷ 101 ∷ 110 ∷ 116 ∷ 32 ∷ 49 ∷ 128 ∷ []) ∷
    -- tick\r
    (116 ∷ 105 ∷ 99 ∷ 107 ∷ 13 ∷ []) ∷
    -- \0
    (0 ∷ []) ∷
    -- 257 bytes: start and 126 times 1
    (start_word ++ times 126 (32 ∷ 49 ∷ [])) ∷
    -- 257 bytes of one field
    replicate 257 49 ∷ []

requests : List (Option Request)
requests =
    starting 4 (10 ∷ 20 ∷ []) ∷
    starting 4 [] ∷
    asked (Create 1 77 1 20 1) ∷
    asked (Obtain 2 65537 (Ticks 500)) ∷
    asked (Obtain 2 65537 Forever) ∷
    asked (Obtain 1 65537 (Ticks 3)) ∷
    asked (Obtain 1 65537 Poll) ∷
    asked Tick ∷
    asked (Release 2 65537) ∷
    asked (Delete 2 4294967295) ∷
    asked (Flush 0 0) ∷
    asked (Ident 77) ∷
    starting 1 (replicate 123 1 ++ 11 ∷ []) ∷ []

given : List Answer
given =
    record { status = 0; value = 0; next = 1 } ∷
    record { status = 0; value = 65537; next = 1 } ∷
    record { status = 100; value = 0; next = 2 } ∷
    record { status = 4294967295; value = 1000000000; next = 999999999 } ∷ []

printed : List (List ℕ)
printed =
    -- 0 0 1
    (48 ∷ 32 ∷ 48 ∷ 32 ∷ 49 ∷ 10 ∷ []) ∷
    -- 0 65537 1
    (48 ∷ 32 ∷ 54 ∷ 53 ∷ 53 ∷ 51 ∷ 55 ∷ 32 ∷ 49 ∷ 10 ∷ []) ∷
    -- 100 0 2
    (49 ∷ 48 ∷ 48 ∷ 32 ∷ 48 ∷ 32 ∷ 50 ∷ 10 ∷ []) ∷
    -- 4294967295 1000000000 999999999
    (52 ∷ 50 ∷ 57 ∷ 52 ∷ 57 ∷ 54 ∷ 55 ∷ 50 ∷ 57 ∷ 53 ∷ 32 ∷ 49 ∷ 48 ∷ 48 ∷ 48 ∷ 48 ∷ 48 ∷ 48 ∷ 48 ∷ 48 ∷ 48 ∷ 32 ∷ 57 ∷ 57 ∷ 57 ∷ 57 ∷ 57 ∷ 57 ∷ 57 ∷ 57 ∷
    57 ∷ 10 ∷ []) ∷ []

-- one statement: each good line is its request, each bad line none, and answers are printed so
vectors : (map line_of good ≡ requests) × (map line_of bad ≡ replicate 35 none) × (map answer_line given ≡ printed)
unfolding times starting good bad requests given printed choose wait_of line_of fields all_digits spelled is_number are_numbers numbers request_of
    answer_line digits_before decimal
vectors = (refl, refl, refl)
