-- Document 01, "The session program": a line, from its bytes to a request or bad.
use Rattle.std.specs.Prelude.{Bool, true, List, [], ◌∷◌, ℕ, ◌+◌, ◌-◌, ◌*◌, leb, eqb, length, get_or, take, drop, bytes_eq, Option as Answered, Some, None, codes}
use Rattle.std.proofs.Math.Option.{Option, none, some}
use Rattle.laws.specs.Choose.{choose, ◌and◌, ◌or◌, isnt}
use Rattle.rules.specs.declared.Call.{Call}
use Rattle.rules.specs.declared.Call.TheVariants.{Start, Create, Ident, Delete, Obtain, Release, Flush, Tick}
use Rattle.rules.specs.Numbers.{max_number, within}
use Rattle.rules.specs.Semaphore.{wait_of}
use Rattle.rules.specs.Runs.{Request}
use Rattle.line.specs.declared.Request.{Request as Asked}

-- at most 256 bytes without the newline
abbrev pub max_line : ℕ
max_line = 256

-- ---- fields: what stands between single spaces; no bytes at all are one empty field

abbrev pub onto_first : ℕ → List (List ℕ) → List (List ℕ)
onto_first b [] = (b ∷ []) ∷ []
onto_first b (f ∷ fs) = (b ∷ f) ∷ fs

unfoldable pub fields : List ℕ → List (List ℕ)
fields [] = [] ∷ []
fields (b ∷ bs) = let rest = fields bs in choose (eqb b 32) ([] ∷ rest) (onto_first b rest)

-- ---- a number: decimal digits, no leading zero, at most 4294967295

unfoldable pub all_digits : List ℕ → Bool
all_digits [] = true
all_digits (b ∷ bs) = let rest = all_digits bs in within 48 57 b and rest

-- the number that digits spell behind `value`
unfoldable pub spelled : ℕ → List ℕ → ℕ
spelled value [] = value
spelled value (b ∷ bs) = spelled (value * 10 + (b - 48)) bs

unfoldable pub is_number : List ℕ → Bool
is_number field =
    leb 1 (length field) and all_digits field and (eqb (length field) 1 or isnt (eqb (get_or field 0 0) 48)) and leb (spelled 0 field) max_number

unfoldable pub are_numbers : List (List ℕ) → Bool
are_numbers [] = true
are_numbers (f ∷ fs) = let rest = are_numbers fs in is_number f and rest

unfoldable pub numbers : List (List ℕ) → List ℕ
numbers [] = []
numbers (f ∷ fs) = spelled 0 f ∷ numbers fs

-- ---- the words

abbrev pub same_bytes : List ℕ → List ℕ → Bool
same_bytes = bytes_eq

abbrev pub start_word : List ℕ
start_word = codes "start"

abbrev pub create_word : List ℕ
create_word = codes "create"

abbrev pub ident_word : List ℕ
ident_word = codes "ident"

abbrev pub delete_word : List ℕ
delete_word = codes "delete"

abbrev pub obtain_word : List ℕ
obtain_word = codes "obtain"

abbrev pub release_word : List ℕ
release_word = codes "release"

abbrev pub flush_word : List ℕ
flush_word = codes "flush"

abbrev pub tick_word : List ℕ
tick_word = codes "tick"

-- ---- the right number of numbers for the word; start takes one and then any count of priorities

abbrev pub asked : Call → Option Request
asked call = some (record { call = call; priorities = [] })

abbrev pub taking : ℕ → List ℕ → Option Request → Option Request
taking arity ns request = choose (eqb (length ns) arity) request none

unfoldable pub request_of : List ℕ → List ℕ → Option Request
request_of word ns =
    let n : ℕ → ℕ = λ i. get_or ns i 0 in
    choose (same_bytes word start_word) (choose (leb 1 (length ns)) (some (record { call = Start (n 0); priorities = drop 1 ns })) none)
    (choose (same_bytes word create_word) (taking 5 ns (asked (Create (n 0) (n 1) (n 2) (n 3) (n 4))))
    (choose (same_bytes word ident_word) (taking 1 ns (asked (Ident (n 0))))
    (choose (same_bytes word delete_word) (taking 2 ns (asked (Delete (n 0) (n 1))))
    (choose (same_bytes word obtain_word) (taking 4 ns (asked (Obtain (n 0) (n 1) (wait_of (n 2) (n 3)))))
    (choose (same_bytes word release_word) (taking 2 ns (asked (Release (n 0) (n 1))))
    (choose (same_bytes word flush_word) (taking 2 ns (asked (Flush (n 0) (n 1))))
    (choose (same_bytes word tick_word) (taking 0 ns (asked Tick))
    none)))))))

-- ---- a line: a word and numbers; none is bad

unfoldable pub line_of : List ℕ → Option Request
line_of bs =
    let fs = fields bs in
    choose (leb (length bs) max_line and are_numbers (drop 1 fs)) (request_of (get_or fs 0 []) (numbers (drop 1 fs))) none

-- what the code's scan stands for: a start's priorities are the `count` numbers behind the first
abbrev pub scanned : Answered Asked → List ℕ → Option Request
scanned None ns = none
scanned (Some r) ns = some (record { call = r.call; priorities = take r.count (drop 1 ns) })
