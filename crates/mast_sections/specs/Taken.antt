-- What the program does with what it reads: the bytes are fed in order and once, and what is read at the end is what some text says, or its first fault.
use Rattle.std.specs.Prelude.{◌≡◌, List, ◌++◌, ◌⊎◌, ℕ, Option, Result, Ok, Err, length, replicate}
use Rattle.std.specs.Io.KnownBytes.{Consumes, IsAtEnd}
use Rattle.std.specs.declared.io.Error.{Error}
use Rattle.rules.specs.Machine.{unstarted}
use Rattle.tables.specs.Layout.{laid}
use Rattle.text.specs.declared.At.{At}
use Rattle.text.specs.Reading.{Room, Outcome, outset, read_text}
use Rattle.text.specs.Reading.Outcome.{Says, Fault}
use Rattle.text.specs.Feeding.{fault_of, Lent, Kept, keeping, reading_of, kept_of, take_bytes, Inside, Ready}
use Rattle.text.specs.Feeding.Fed.{Keeps}
use Rattle.mast_sections.specs.declared.reading.TextError.{TextError}
use Rattle.mast_sections.specs.declared.reading.TextError.TheVariants.{Faulty, Unread, Unended}

-- a read that failed, as why the text was not read
abbrev pub unread : Result ℕ Error → Result ℕ TextError
unread (Ok n) = Ok n
unread (Err e) = Err (Unread e)

-- ---- from the outset

-- nothing is read: the machine is not started, and locals are 0
pub record Fresh (line : List ℕ) (l : Lent) : Type 0 where
  pub bytes : l.bytes ≡ laid unstarted
  pub locals : l.locals ≡ replicate 256 0
  pub ids : length l.ids ≡ length l.cells
  pub full : length line ≡ 257

-- what is kept after some text from the outset, with what stood in the 257 bytes of a line then
pub record Reached (room : Room) (k : Kept) : Type 0 where
  pub line : List ℕ
  pub full : length line ≡ 257
  pub text : List ℕ
  pub kept : take_bytes room (keeping outset line 0 0) text ≡ Keeps k

-- what some text says
pub record SaidBy (room : Room) (what : Outcome) : Type 0 where
  pub text : List ℕ
  pub says : read_text room text ≡ what

-- all is read, and it is what a text says; or it is a text's first fault; or it could not be read; or it has no end, and this is kept
abbrev pub Takes : Room → Result At TextError → List ℕ → Lent → Type 0
Takes room (Ok at) line l = Inside at l × SaidBy room (Says (reading_of at l))
Takes room (Err (Faulty f)) line l = SaidBy room (Fault f.line (fault_of f.fault))
Takes room (Err (Unread e)) line l = Unit {0}
Takes room (Err (Unended p)) line l = Ready p line l × Reached room (kept_of p line l)

-- ---- the text is what was read

-- the text that is kept is what was read so far, in order and once
pub record ReadSoFar (room : Room) (k : Kept) (unread unread' : Option (List ℕ)) : Type 0 where
  pub reached : Reached room k
  pub read : Consumes unread unread' reached.text

-- what there was to read says so: all of it was read, in order and once, or a front that says so whatever follows it
pub record SaidByAll (room : Room) (what : Outcome) (unread unread' : Option (List ℕ)) : Type 0 where
  pub said : SaidBy room what
  pub read : Consumes unread unread' said.text
  pub whole : IsAtEnd unread' ⊎ ((rest : List ℕ) → read_text room (said.text ++ rest) ≡ what)

-- after reads: what all of it says, its first fault, what was kept before the read that failed, or what is kept
abbrev pub TakesFrom : Room → Result At TextError → (unread unread' : Option (List ℕ)) → List ℕ → Lent → Type 0
TakesFrom room (Ok at) unread unread' line l = SaidByAll room (Says (reading_of at l)) unread unread'
TakesFrom room (Err (Faulty f)) unread unread' line l = SaidByAll room (Fault f.line (fault_of f.fault)) unread unread'
TakesFrom room (Err (Unread e)) unread unread' line l = (k : Kept) × ReadSoFar room k unread unread'
TakesFrom room (Err (Unended p)) unread unread' line l = ReadSoFar room (kept_of p line l) unread unread'
