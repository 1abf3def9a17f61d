-- What the program saves: all of the file of the machine that a session leaves, and nothing else.
use Rattle.std.specs.Prelude.{◌≡◌, true, List, [], ℕ, ◌≤◌, length, take, codes}
use Rattle.laws.specs.Choose.{choose, ◌and◌}
use Rattle.rules.specs.Machine.{unstarted}
use Rattle.tables.specs.Layout.{laid, model_of}
use Rattle.agreement.specs.Bytes.{agrees_bytes}
use Rattle.playing.specs.Turns.{Ran}
use Rattle.state.specs.File.{is_started, state_file}

-- the file of lent tables: none of a machine that is not started, or of tables that do not agree
unfoldable pub file_of : List ℕ → List ℕ
file_of bs = choose (agrees_bytes bs and is_started (model_of bs)) (state_file (model_of bs)) []

-- so many bytes, at the buffer's front, are the file
pub record Files (n : ℕ) (bs buffer : List ℕ) : Type 0 where
  pub all : n ≡ length (file_of bs)
  pub front : take n buffer ≡ file_of bs

-- so many bytes are at the front
abbrev pub Counts : ℕ → List ℕ → Type 0
Counts n xs = (n ≤ length xs) × (n ≡ length (take n xs))

-- ".XXXXXX"
abbrev pub suffix : List ℕ
suffix = codes ".XXXXXX"

-- what is written is the file of the machine after the whole of some session, from a machine not yet started
abbrev pub Saves : ℕ → List ℕ → List ℕ → Type 0
Saves n bs buffer = Ran (laid unstarted) true bs × Files n bs buffer
