-- The text that a run of guarded sections leaves: the answer, cells, locals, places, grants, the sections open, and the plain run beside them.
use Rattle.std.specs.Prelude.{Bool, List, [], ◌∷◌, ◌++◌, ◌≡◌, ℕ, suc, ◌+◌, ◌*◌, ◌≤◌, max, leb, eqb, length, get_or, take, drop, codes}
use Rattle.laws.specs.Choose.{choose, ◌and◌}
use Rattle.laws.specs.Rows.{tabulate, rows}
use Rattle.rules.specs.declared.Answer.{Answer}
use Rattle.line.specs.Line.{same_bytes as same_numbers}
use Rattle.line.specs.Print.{decimal, answer_line, spliced}

-- ---- the words

abbrev pub cells_word : List ℕ
cells_word = codes "cells"

abbrev pub locals_word : List ℕ
locals_word = codes "locals"

abbrev pub place_word : List ℕ
place_word = codes "place"

abbrev pub grants_word : List ℕ
grants_word = codes "grants"

abbrev pub open_word : List ℕ
open_word = codes "open"

-- "plain " before a word
abbrev pub plainly : List ℕ → List ℕ
plainly w = codes "plain " ++ w

abbrev pub serial_yes : List ℕ
serial_yes = codes "serial yes\n"

abbrev pub serial_no : List ℕ
serial_no = codes "serial no\n"

abbrev pub serial_open : List ℕ
serial_open = codes "serial open\n"

-- ---- a line

-- each number behind a space
unfoldable pub spaced : List ℕ → List ℕ
spaced [] = []
spaced (n ∷ ns) = 32 ∷ decimal n ++ spaced ns

-- a pair behind a space with a colon between
abbrev pub pair_text : ℕ → ℕ → List ℕ
pair_text a b = 32 ∷ decimal a ++ 58 ∷ decimal b

-- numbers two by two
unfoldable pub paired : List ℕ → List ℕ
paired [] = []
paired (a ∷ []) = []
paired (a ∷ b ∷ ns) = pair_text a b ++ paired ns

unfoldable pub line_text : List ℕ → List ℕ → List ℕ
line_text word ns = word ++ spaced ns ++ 10 ∷ []

unfoldable pub pairs_text : List ℕ → List ℕ → List ℕ
pairs_text word ns = word ++ paired ns ++ 10 ∷ []

-- ---- what is printed

-- a line of each task from 1 to n; its locals stand at 8 times its number less one
unfoldable pub locals_text : List ℕ → ℕ → List ℕ → List ℕ
locals_text word n locals = rows (tabulate n (λ i. line_text word (suc i ∷ take 8 (drop (8 * i) locals))))

-- a line of each script: its task, its section, its position
unfoldable pub places_text : List ℕ → List ℕ → List ℕ
places_text tasks places =
    rows (tabulate (length tasks) (λ i. line_text place_word (get_or tasks i 0 ∷ get_or places (2 * i) 0 ∷ get_or places (2 * i + 1) 0 ∷ [])))

-- the task and the section of each script that stands behind its grant, in the order of the scripts
unfoldable pub open_pairs : List ℕ → List ℕ → List ℕ
open_pairs tasks places =
    rows (tabulate (length tasks) (λ i. choose (leb 1 (get_or places (2 * i + 1) 0)) (get_or tasks i 0 ∷ get_or places (2 * i) 0 ∷ []) []))

-- all that is printed: how many tasks the tables have, the tasks of the scripts in their order, and grants as pairs of a task and a section
pub record Report : Type 0 where
  pub answer : Answer
  pub count : ℕ
  pub cells : List ℕ
  pub locals : List ℕ
  pub tasks : List ℕ
  pub places : List ℕ
  pub grants : List ℕ
  pub plain_cells : List ℕ
  pub plain_locals : List ℕ

-- what the run leaves, to its grants
unfoldable pub run_text : Answer → (n : ℕ) → (cells locals tasks places grants : List ℕ) → List ℕ
run_text a n cells locals tasks places grants =
    answer_line a ++ line_text cells_word cells ++ locals_text locals_word n locals ++ places_text tasks places ++ pairs_text grants_word grants

unfoldable pub left_text : Report → List ℕ
left_text r =
    run_text r.answer r.count r.cells r.locals r.tasks r.places r.grants ++ pairs_text open_word (open_pairs r.tasks r.places)

abbrev pub is_serial : (cells locals plain_cells plain_locals : List ℕ) → Bool
is_serial cells locals plain_cells plain_locals = same_numbers cells plain_cells and same_numbers locals plain_locals

-- what the plain run leaves, and whether that is the same
unfoldable pub plain_text : (n : ℕ) → (cells locals plain_cells plain_locals : List ℕ) → List ℕ
plain_text n cells locals plain_cells plain_locals =
    line_text (plainly cells_word) plain_cells
    ++ locals_text (plainly locals_word) n plain_locals
    ++ choose (is_serial cells locals plain_cells plain_locals) serial_yes serial_no

-- the plain run is printed with no section open
unfoldable pub report_text : Report → List ℕ
report_text r =
    left_text r
    ++ choose (eqb (length (open_pairs r.tasks r.places)) 0) (plain_text r.count r.cells r.locals r.plain_cells r.plain_locals) serial_open

-- ---- text written over what is lent

-- there is room for the text at `at`
abbrev pub Fits : ℕ → List ℕ → List ℕ → Type 0
Fits at text out = at + length text ≤ length out

-- the text is written at `at`, and ends at `r`
abbrev pub Written : ℕ → List ℕ → List ℕ → List ℕ → ℕ → Type 0
Written at text out out' r = (r ≡ at + length text) × (out' ≡ spliced at text out)

abbrev pub report_of : Answer → ℕ → List ℕ → List ℕ → List ℕ → List ℕ → List ℕ → List ℕ → List ℕ → Report
report_of a n cells locals tasks places grants plain_cells plain_locals = record {
  answer = a;
  count = n;
  cells = cells;
  locals = locals;
  tasks = tasks;
  places = places;
  grants = grants;
  plain_cells = plain_cells;
  plain_locals = plain_locals;
}

-- bytes that are enough for any report: a number has at most ten digits, and where a section is open no plain run is printed
abbrev pub report_room : (cells n tasks grants plain_cells : ℕ) → ℕ
report_room cells n tasks grants plain_cells =
    63 + 11 * cells + 106 * n + 39 * tasks + 11 * grants + max (22 * tasks) (12 + 11 * plain_cells + 112 * n)

-- a report that `room` bytes hold, of tables and scripts that are there
pub record Printable (r : Report) (room : ℕ) : Type 0 where
  pub few : r.count ≤ 32
  pub locals : length r.locals ≡ 256
  pub plain_locals : length r.plain_locals ≡ 256
  pub places : 2 * length r.tasks ≤ length r.places
  pub roomy : report_room (length r.cells) r.count (length r.tasks) (length r.grants) (length r.plain_cells) ≤ room

-- the report stands at the front, `n` bytes long
abbrev pub Reported : Report → List ℕ → List ℕ → ℕ → Type 0
Reported r out out' n = (n ≡ length (report_text r)) × (out' ≡ report_text r ++ drop n out)
