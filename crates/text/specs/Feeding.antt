-- What the code keeps of a text between two bytes: the numbers read so far stand at the front of what is lent, and a line that has begun in 257 bytes, since
-- a line of more than 256 is none, however much longer.
use Rattle.std.specs.Prelude.{◌≡◌, List, [], ◌∷◌, ℕ, ◌+◌, ◌≤◌, ltb, eqb, length, take, set, Result, Ok, Err}
use Rattle.laws.specs.Choose.{choose}
use Rattle.text.specs.declared.At.{At}
use Rattle.text.specs.declared.Part.{Part}
use Rattle.text.specs.declared.Part.TheVariants as part
use Rattle.text.specs.declared.Fault.{Fault as LineFault}
use Rattle.text.specs.declared.Fault.TheVariants as fault
use Rattle.text.specs.declared.feeding.Progress.{Progress}
use Rattle.text.specs.declared.feeding.Faulty.{Faulty}
use Rattle.text.specs.Reading.{Reading, Room, Read, Outcome, read_line, one_more}
use Rattle.text.specs.Reading.Read.{Goes, Stops}
use Rattle.text.specs.Reading.Outcome.{Says, Fault}

-- the number of each part and of each fault
abbrev pub part_of : Part → ℕ
part_of part.Session = 0
part_of part.Scripts = 1
part_of part.Section = 2
part_of part.Events = 3

-- the part that a number stands for: any above 2 that of the events
abbrev pub IsPart : ℕ → Part → Type 0
IsPart n part.Session = n ≡ part_of part.Session
IsPart n part.Scripts = n ≡ part_of part.Scripts
IsPart n part.Section = n ≡ part_of part.Section
IsPart n part.Events = (n ≡ part_of part.Session → ⊥) × (n ≡ part_of part.Scripts → ⊥) × (n ≡ part_of part.Section → ⊥)

abbrev pub fault_of : LineFault → ℕ
fault_of fault.NoLine = 1
fault_of fault.LocalOutOfRange = 2
fault_of fault.EndWithoutSection = 3
fault_of fault.StepWithoutSection = 4
fault_of fault.SectionWithoutScript = 5
fault_of fault.ScriptInSection = 6
fault_of fault.RunInSection = 7
fault_of fault.NoRoomForCell = 8
fault_of fault.NoRoomForRow = 9
fault_of fault.NoRoomForEvent = 10

-- what the code answers to a line: how much is read, or why it is refused
abbrev pub Next : Type 0
Next = Result At LineFault

-- and to bytes: what is kept, or the first line at fault
abbrev pub FedTo : Type 0
FedTo = Result Progress Faulty

-- all that is lent
pub record Lent : Type 0 where
  pub bytes : List ℕ
  pub ids : List ℕ
  pub cells : List ℕ
  pub locals : List ℕ
  pub scripts : List ℕ
  pub events : List ℕ

abbrev pub lent : (bytes ids cells locals scripts events : List ℕ) → Lent
lent bytes ids cells locals scripts events = record { bytes = bytes; ids = ids; cells = cells; locals = locals; scripts = scripts; events = events }

abbrev pub room_of : Lent → Room
room_of l = record { cells = length l.cells; scripts = length l.scripts; events = length l.events }

abbrev pub reading_of : At → Lent → Reading
reading_of at l =
    record {
      part = at.part;
      bytes = l.bytes;
      ids = take at.cells l.ids;
      cells = take at.cells l.cells;
      locals = l.locals;
      scripts = take at.scripts l.scripts;
      events = take at.events l.events;
    }

abbrev pub read_of : Next → Lent → Read
read_of (Ok at) l = Goes (reading_of at l)
read_of (Err f) l = Stops (fault_of f)

-- the fronts lie inside, and cells have as many identifiers
pub record Inside (at : At) (l : Lent) : Type 0 where
  pub cells : at.cells ≤ length l.cells
  pub ids : length l.ids ≡ length l.cells
  pub scripts : at.scripts ≤ length l.scripts
  pub events : at.events ≤ length l.events
  pub locals : length l.locals ≡ 256

abbrev pub InsideNext : Next → Lent → Type 0
InsideNext (Ok at) l = Inside at l
InsideNext (Err f) l = Unit {0}

-- what a line leaves in what is lent
pub record Leaves (what : Read) (next : Next) (after : Lent) : Type 0 where
  pub read : read_of next after ≡ what
  pub inside : InsideNext next after

-- a kind of line, on what is lent
abbrev pub Line : Type 0
Line = Room → Reading → Read

abbrev pub Reads : Line → At → Next → Lent → Lent → Type 0
Reads line at next before after = Inside at before → Leaves (line (room_of before) (reading_of at before)) next after

-- a line that goes to cells, to locals, to scripts, to any of these, or to events, whatever the rest is
abbrev pub ReadsCells : Line → At → Next → (ids cells ids' cells' : List ℕ) → Type 0
ReadsCells line at next ids cells ids' cells' =
    (bytes locals scripts events : List ℕ) → Reads line at next (lent bytes ids cells locals scripts events) (lent bytes ids' cells' locals scripts events)

abbrev pub ReadsLocals : Line → At → Next → (locals locals' : List ℕ) → Type 0
ReadsLocals line at next locals locals' =
    (bytes ids cells scripts events : List ℕ) → Reads line at next (lent bytes ids cells locals scripts events) (lent bytes ids cells locals' scripts events)

abbrev pub ReadsScripts : Line → At → Next → (scripts scripts' : List ℕ) → Type 0
ReadsScripts line at next scripts scripts' =
    (bytes ids cells locals events : List ℕ) → Reads line at next (lent bytes ids cells locals scripts events) (lent bytes ids cells locals scripts' events)

abbrev pub ReadsPart : Line → At → Next → (ids cells locals scripts ids' cells' locals' scripts' : List ℕ) → Type 0
ReadsPart line at next ids cells locals scripts ids' cells' locals' scripts' =
    (bytes events : List ℕ) → Reads line at next (lent bytes ids cells locals scripts events) (lent bytes ids' cells' locals' scripts' events)

abbrev pub ReadsEvents : Line → At → Next → (events events' : List ℕ) → Type 0
ReadsEvents line at next events events' =
    (bytes ids cells locals scripts : List ℕ) → Reads line at next (lent bytes ids cells locals scripts events) (lent bytes ids cells locals scripts events')

-- what the second part's lines ask of what is lent
pub record Roomy (at : At) (ids₀ cells₀ locals₀ scripts₀ : List ℕ) : Type 0 where
  pub cells : at.cells ≤ length cells₀
  pub ids : length ids₀ ≡ length cells₀
  pub scripts : at.scripts ≤ length scripts₀
  pub locals : length locals₀ ≡ 256

-- ---- bytes: a newline ends the line

pub record Kept : Type 0 where
  pub reading : Reading
  pub line : List ℕ
  pub begun : ℕ
  pub count : ℕ

abbrev pub keeping : Reading → List ℕ → ℕ → ℕ → Kept
keeping r line begun count = record { reading = r; line = line; begun = begun; count = count }

-- or the fault of a line, by its number
pub data Fed : Type 0 where
  Keeps : Kept → Fed
  Faults : (line fault : ℕ) → Fed

abbrev pub kept_of : Progress → List ℕ → Lent → Kept
kept_of p line l = keeping (reading_of p.at l) line p.begun p.count

abbrev pub fed_of : FedTo → List ℕ → Lent → Fed
fed_of (Ok p) line l = Keeps (kept_of p line l)
fed_of (Err e) line l = Faults e.line (fault_of e.fault)

-- 257 bytes are lent for the line
pub record Ready (p : Progress) (line : List ℕ) (l : Lent) : Type 0 where
  pub inside : Inside p.at l
  pub full : length line ≡ 257
  pub begun : p.begun ≤ 257

abbrev pub ReadyNext : FedTo → List ℕ → Lent → Type 0
ReadyNext (Ok p) line l = Ready p line l
ReadyNext (Err e) line l = Unit {0}

-- what a step over bytes leaves in what is lent
pub record Feeds (what : Fed) (r : FedTo) (line : List ℕ) (after : Lent) : Type 0 where
  pub fed : fed_of r line after ≡ what
  pub ready : ReadyNext r line after

abbrev pub Takes : (Room → Kept → Fed) → Progress → FedTo → (line : List ℕ) → Lent → (line' : List ℕ) → Lent → Type 0
Takes step p r line before line' after = Feeds (step (room_of before) (kept_of p line before)) r line' after

abbrev pub ended : Kept → Read → Fed
ended k (Goes r) = Keeps (keeping r k.line 0 (one_more k.count))
ended k (Stops fault) = Faults (one_more k.count) fault

unfoldable pub end_line : Room → Kept → Fed
end_line room k = ended k (read_line room k.reading (take k.begun k.line))

unfoldable pub lengthen : Kept → ℕ → Kept
lengthen k b =
    choose (ltb k.begun 257) (keeping k.reading (set k.line k.begun b) (k.begun + 1) k.count) k

unfoldable pub take_byte : Room → Kept → ℕ → Fed
take_byte room k b = choose (eqb b 10) (end_line room k) (Keeps (lengthen k b))

abbrev pub and_next : Fed → (Kept → Fed) → Fed
and_next (Keeps k) go = go k
and_next (Faults line fault) go = Faults line fault

unfoldable pub take_bytes : Room → Kept → List ℕ → Fed
take_bytes room k [] = Keeps k
take_bytes room k (b ∷ bs) = and_next (take_byte room k b) (λ k'. take_bytes room k' bs)

-- at the end of the input a line that has begun counts
unfoldable pub at_end : Room → Kept → Fed
at_end room k = choose (eqb k.begun 0) (Keeps k) (end_line room k)

-- ---- a text in parts, and its end

unfoldable pub fed_in_parts : Room → Kept → List (List ℕ) → Fed
fed_in_parts room k [] = at_end room k
fed_in_parts room k (p ∷ ps) = and_next (take_bytes room k p) (λ k'. fed_in_parts room k' ps)

-- what is kept at the end is what the file says
abbrev pub outcome_of : Fed → Outcome
outcome_of (Keeps k) = Says k.reading
outcome_of (Faults line fault) = Fault line fault
