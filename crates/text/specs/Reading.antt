-- The text of a run of guarded sections, line by line: the tables that the session's lines make, then cells, locals and scripts, then events, as the numbers
-- that a run takes. A line for which there is no room is a fault of the file.
use Rattle.std.specs.Prelude.{List, [], ◌∷◌, ◌++◌, ℕ, suc, pred, ◌+◌, ◌-◌, ◌*◌, leb, ltb, eqb, length, get_or, drop, set, replicate}
use Rattle.laws.specs.Choose.{choose, ◌and◌}
use Rattle.rules.specs.Numbers.{max_number, within}
use Rattle.rules.specs.Machine.{unstarted}
use Rattle.tables.specs.Layout.{laid}
use Rattle.session.specs.Session.{lines}
use Rattle.session.specs.Kept.{respond}
use Rattle.text.specs.Words.{Said, is_event_word, is_step_word, opens_scripts, said_by}

-- the parts of a file: 0 the session's lines, 1 cells, locals and scripts, 2 a section's steps, 3 events
pub record Reading : Type 0 where
  pub part : ℕ
  pub bytes : List ℕ
  pub ids : List ℕ
  pub cells : List ℕ
  pub locals : List ℕ
  pub scripts : List ℕ
  pub events : List ℕ

-- how many cells, numbers of scripts and numbers of events there is room for
pub record Room : Type 0 where
  pub cells : ℕ
  pub scripts : ℕ
  pub events : ℕ

-- a line is read, or it is a fault of the file, by its number:
-- 1 no line of the second part, 2 a local out of range, 3 an end without a section, 4 a step without a section, 5 a section without a script,
-- 6 a script in a section, 7 the run in a section, 8 no room for a cell, 9 none for a script's row, 10 none for an event
pub data Read : Type 0 where
  Goes : Reading → Read
  Stops : ℕ → Read

abbrev pub in_part : ℕ → Reading → Reading
in_part part r =
    record { part = part; bytes = r.bytes; ids = r.ids; cells = r.cells; locals = r.locals; scripts = r.scripts; events = r.events }

abbrev pub with_bytes : List ℕ → Reading → Reading
with_bytes bs r = record { part = r.part; bytes = bs; ids = r.ids; cells = r.cells; locals = r.locals; scripts = r.scripts; events = r.events }

abbrev pub with_cell : ℕ → ℕ → Reading → Reading
with_cell id n r =
    record {
      part = r.part;
      bytes = r.bytes;
      ids = r.ids ++ id ∷ [];
      cells = r.cells ++ n ∷ [];
      locals = r.locals;
      scripts = r.scripts;
      events = r.events;
    }

abbrev pub with_local : ℕ → ℕ → ℕ → Reading → Reading
with_local q local n r =
    record {
      part = r.part;
      bytes = r.bytes;
      ids = r.ids;
      cells = r.cells;
      locals = set r.locals (pred q * 8 + local) n;
      scripts = r.scripts;
      events = r.events;
    }

abbrev pub with_row : List ℕ → Reading → Reading
with_row row r =
    record { part = r.part; bytes = r.bytes; ids = r.ids; cells = r.cells; locals = r.locals; scripts = r.scripts ++ row; events = r.events }

abbrev pub with_event : List ℕ → Reading → Reading
with_event event r =
    record { part = r.part; bytes = r.bytes; ids = r.ids; cells = r.cells; locals = r.locals; scripts = r.scripts; events = r.events ++ event }

-- ---- cells, locals and scripts

-- the next cell: the identifier it belongs to, and its number
unfoldable pub cell_line : Room → Reading → ℕ → ℕ → Read
cell_line room r id n = choose (ltb (length r.cells) room.cells) (Goes (with_cell id n r)) (Stops 8)

unfoldable pub local_line : Reading → ℕ → ℕ → ℕ → Read
local_line r q local n = choose (within 1 32 q and ltb local 8) (Goes (with_local q local n r)) (Stops 2)

-- one row more of the scripts: four numbers
unfoldable pub row_line : Room → Reading → ℕ → ℕ → ℕ → ℕ → Read
row_line room r kind a b c =
    choose (leb (length r.scripts + 4) room.scripts) (Goes (with_row (kind ∷ a ∷ b ∷ c ∷ []) r)) (Stops 9)

-- a section is its script's: there must be one
unfoldable pub section_begins : Room → Reading → ℕ → ℕ → ℕ → Read
section_begins room r id options timeout =
    choose (eqb (length r.scripts) 0) (Stops 5) (row_line room (in_part 2 r) 2 id options timeout)

-- a line that stores nothing
unfoldable pub other_line : Reading → ℕ → Read
other_line r w =
    choose (is_step_word w) (Stops 4)
    (choose (eqb w 19) (Stops 3)
    (choose (eqb w 20) (Goes (in_part 3 r)) (Stops 1)))

unfoldable pub script_line : Room → Reading → Said → Read
script_line room r s =
    let w = s.word in
    let n : ℕ → ℕ = λ i. get_or s.numbers i 0 in
    choose (eqb w 17) (cell_line room r (n 0) (n 1))
    (choose (eqb w 18) (local_line r (n 0) (n 1) (n 2))
    (choose (eqb w 11) (row_line room r 1 (n 0) 0 0)
    (choose (eqb w 12) (section_begins room r (n 0) (n 1) (n 2))
    (other_line r w))))

-- ---- the session's lines: a bad line is skipped, and a right line of a cell, a local, a script or the run begins the second part

unfoldable pub session_line : Room → Reading → List ℕ → Read
session_line room r line =
    choose (opens_scripts (said_by line).word) (script_line room (in_part 1 r) (said_by line)) (Goes (with_bytes (respond r.bytes line).bytes r))

-- ---- in a section: any other line is a step of no kind

unfoldable pub step_line : Room → Reading → Said → Read
step_line room r s =
    choose (is_step_word s.word) (row_line room r (s.word - 10) (get_or s.numbers 0 0) (get_or s.numbers 1 0) 0) (row_line room r 0 0 0 0)

unfoldable pub section_line : Room → Reading → Said → Read
section_line room r s =
    choose (eqb s.word 19) (Goes (in_part 1 r))
    (choose (eqb s.word 11) (Stops 6)
    (choose (eqb s.word 20) (Stops 7) (step_line room r s)))

-- ---- events: any other line is an event of no kind

-- a start has the count of its priorities before them
unfoldable pub event_numbers : Said → List ℕ
event_numbers s =
    choose (eqb s.word 2) (2 ∷ get_or s.numbers 0 0 ∷ (length s.numbers - 1) ∷ drop 1 s.numbers)
    (choose (is_event_word s.word) (s.word ∷ s.numbers) (0 ∷ []))

unfoldable pub event_put : Room → Reading → List ℕ → Read
event_put room r es = choose (leb (length r.events + length es) room.events) (Goes (with_event es r)) (Stops 10)

abbrev pub event_line : Room → Reading → Said → Read
event_line room r s = event_put room r (event_numbers s)

-- ---- a line, and the lines of a file

unfoldable pub read_line : Room → Reading → List ℕ → Read
read_line room r line =
    choose (eqb r.part 0) (session_line room r line)
    (choose (eqb r.part 1) (script_line room r (said_by line))
    (choose (eqb r.part 2) (section_line room r (said_by line)) (event_line room r (said_by line))))

-- what a file says, or its first fault with the number of its line, from 1
pub data Outcome : Type 0 where
  Says : Reading → Outcome
  Fault : (line fault : ℕ) → Outcome

-- from a machine that is not started; locals are 0 unless the file says otherwise
abbrev pub outset : Reading
outset = record { part = 0; bytes = laid unstarted; ids = []; cells = []; locals = replicate 256 0; scripts = []; events = [] }

abbrev pub and_then : Read → ℕ → (Reading → Outcome) → Outcome
and_then (Goes r) n go = go r
and_then (Stops fault) n go = Fault n fault

-- the number of the next line; 32 bits count no further
abbrev pub one_more : ℕ → ℕ
one_more n = choose (ltb n max_number) (suc n) n

unfoldable pub read_lines : Room → Reading → ℕ → List (List ℕ) → Outcome
read_lines room r n [] = Says r
read_lines room r n (l ∷ ls) = let m = one_more n in and_then (read_line room r l) m (λ r'. read_lines room r' m ls)

unfoldable pub read_text : Room → List ℕ → Outcome
read_text room text = read_lines room outset 0 (lines text)
