-- The parts of the scan: what each of its functions answers, over the definitions of a line.
use Rattle.std.specs.Prelude.{Bool, List, [], ℕ, ◌+◌, ◌-◌, ◌*◌, leb, eqb, get_or, take, drop, Option as Answered, Some, None}
use Rattle.std.proofs.Math.Option.{Option, none, some}
use Rattle.laws.specs.Choose.{choose, ◌and◌, isnt}
use Rattle.rules.specs.declared.Call.{Call}
use Rattle.rules.specs.declared.Call.TheVariants.{Start, Create, Ident, Delete, Obtain, Release, Flush, Tick}
use Rattle.rules.specs.Numbers.{max_number, within}
use Rattle.rules.specs.Semaphore.{wait_of}
use Rattle.line.specs.declared.Request.{Request}
use Rattle.line.specs.declared.Word.{Word}
use Rattle.line.specs.declared.Word.TheVariants as w
use Rattle.line.specs.Line.{fields, are_numbers, numbers, same_bytes, start_word, create_word, ident_word, delete_word, obtain_word, release_word}
use Rattle.line.specs.Line.{flush_word, tick_word}

-- the first field, and those behind it
abbrev pub first : List ℕ → List ℕ
first bs = get_or (fields bs) 0 []

abbrev pub others : List ℕ → List (List ℕ)
others bs = drop 1 (fields bs)

-- the numbers of fields, unless one is no number
unfoldable pub all_numbers : List (List ℕ) → Option (List ℕ)
all_numbers fs = choose (are_numbers fs) (some (numbers fs)) none

-- what the code's reading of the numbers stands for
abbrev pub numbers_read : Answered ℕ → List ℕ → Option (List ℕ)
numbers_read None ns = none
numbers_read (Some n) ns = some (take n ns)

-- how many places of the lent numbers are filled
abbrev pub placed : Answered ℕ → ℕ
placed None = 0
placed (Some n) = n

-- a byte behind a number of so many digits: a digit, none behind a lone zero, and none that makes it too great
abbrev pub goes_on : ℕ → ℕ → ℕ → Bool
goes_on digits value b = within 48 57 b and isnt (leb 1 digits and eqb value 0) and leb (value * 10 + (b - 48)) max_number

unfoldable pub digit_behind : ℕ → ℕ → ℕ → Answered ℕ
digit_behind digits value b = choose (goes_on digits value b) (Some (value * 10 + (b - 48))) None

unfoldable pub word_of : List ℕ → Answered Word
word_of f =
    choose (same_bytes f start_word) (Some w.Start)
    (choose (same_bytes f create_word) (Some w.Create)
    (choose (same_bytes f ident_word) (Some w.Ident)
    (choose (same_bytes f delete_word) (Some w.Delete)
    (choose (same_bytes f obtain_word) (Some w.Obtain)
    (choose (same_bytes f release_word) (Some w.Release)
    (choose (same_bytes f flush_word) (Some w.Flush)
    (choose (same_bytes f tick_word) (Some w.Tick) None)))))))

-- a call and how many numbers stand behind a start's first
abbrev pub request : Call → ℕ → Request
request call count = record { call = call; count = count }

abbrev pub with_count : ℕ → ℕ → Call → Answered Request
with_count arity count call = choose (eqb count arity) (Some (request call 0)) None

abbrev pub started : ℕ → ℕ → Answered Request
started count slots = choose (leb 1 count) (Some (request (Start slots) (count - 1))) None

-- what a word asks with the first `count` of these numbers
unfoldable pub asked_by : Word → ℕ → List ℕ → Answered Request
asked_by w.Start count ns = started count (get_or ns 0 0)
asked_by w.Create count ns = with_count 5 count (Create (get_or ns 0 0) (get_or ns 1 0) (get_or ns 2 0) (get_or ns 3 0) (get_or ns 4 0))
asked_by w.Ident count ns = with_count 1 count (Ident (get_or ns 0 0))
asked_by w.Delete count ns = with_count 2 count (Delete (get_or ns 0 0) (get_or ns 1 0))
asked_by w.Obtain count ns = with_count 4 count (Obtain (get_or ns 0 0) (get_or ns 1 0) (wait_of (get_or ns 2 0) (get_or ns 3 0)))
asked_by w.Release count ns = with_count 2 count (Release (get_or ns 0 0) (get_or ns 1 0))
asked_by w.Flush count ns = with_count 2 count (Flush (get_or ns 0 0) (get_or ns 1 0))
asked_by w.Tick count ns = with_count 0 count Tick
