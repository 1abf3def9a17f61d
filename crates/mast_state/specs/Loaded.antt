-- What the program does with the bytes of a file: those of a state file give its tables, which are shown or played on, and others nothing.
use Rattle.std.specs.Prelude.{◌≡◌, Bool, true, false, List, ◌⊎◌, ℕ, ◌<◌, ◌≤◌, Option, Result, Ok, Err, length, take}
use Rattle.std.specs.Io.KnownBytes.{Consumes, IsAtEnd}
use Rattle.laws.specs.Choose.{choose}
use Rattle.rules.specs.Machine.{unstarted}
use Rattle.tables.specs.Layout.{laid}
use Rattle.calls.specs.Agreeing.{Agreeing}
use Rattle.playing.specs.Turns.{Ran}
use Rattle.state.specs.Reading.{tables_in, is_state}
use Rattle.shown.specs.Shown.{shown_text}
use Rattle.mast_state.specs.declared.showing.ShowError.{ShowError}
use Rattle.mast_state.specs.declared.showing.ShowError.TheVariants.{Unloaded, Unwritten}
use Rattle.mast_state.specs.declared.showing.ShortWrite.{ShortWrite}

-- so many bytes, at the buffer's front, are what the reader had left, or the buffer is full of the front of it
pub record ReadsAll (unread unread' : Option (List ℕ)) (n : ℕ) (buffer : List ℕ) : Type 0 where
  pub inside : n ≤ length buffer
  pub read : Consumes unread unread' (take n buffer)
  pub ended : n < length buffer → IsAtEnd unread'

-- the tables are the file's where it is a state file, and else those of a machine not started: they agree
pub record Loads (loaded : Bool) (file bs : List ℕ) : Type 0 where
  pub told : loaded ≡ is_state file
  pub bytes : bs ≡ laid (choose (is_state file) (tables_in file) unstarted)
  pub agrees : Agreeing bs

-- the tables of some state file
pub record Loaded (bs : List ℕ) : Type 0 where
  pub file : List ℕ
  pub valid : is_state file ≡ true
  pub bytes : bs ≡ laid (tables_in file)

-- whatever was read
pub record LoadsSome (loaded : Bool) (bs : List ℕ) : Type 0 where
  pub when_loaded : loaded ≡ true → Loaded bs
  pub when_not : loaded ≡ false → bs ≡ laid unstarted

-- ---- a session from a state file

-- the lent bytes are those after some text from the tables of some state file and, where all is done, after its end
pub record Resumed (done : Bool) (bs : List ℕ) : Type 0 where
  pub file : List ℕ
  pub valid : is_state file ≡ true
  pub ran : Ran (laid (tables_in file)) done bs

-- unless there was none
abbrev pub Resumes : Bool → List ℕ → Type 0
Resumes done bs = ((done ≡ false) × (bs ≡ laid unstarted)) ⊎ Resumed done bs

-- ---- a state file in words

-- the bytes handed to the writer are the whole text, which stands at the front of the output
pub record Shows (n : ℕ) (text out : List ℕ) : Type 0 where
  pub all : n ≡ length text
  pub front : take n out ≡ text

-- the text of the tables of some state file
pub record Shown (n : ℕ) (out : List ℕ) : Type 0 where
  pub file : List ℕ
  pub valid : is_state file ≡ true
  pub shows : Shows n (shown_text (tables_in file)) out

-- how many bytes were handed to the writer, whether it took them all or not
abbrev pub handed : Result ℕ ShortWrite → ℕ
handed (Ok n) = n
handed (Err e) = e.length

-- it stands at the front of the output even where not all of it was written, unless there was none
abbrev pub ShowsSome : Result ℕ ShowError → List ℕ → Type 0
ShowsSome (Ok n) out = Shown n out
ShowsSome (Err (Unloaded told)) out = Unit {0}
ShowsSome (Err (Unwritten n told)) out = Shown n out
