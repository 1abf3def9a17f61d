-- Text put where there is room for it. Nothing is promised without room, so that only the length of the whole text has to be known.
use Rattle.std.specs.Prelude.{◌≡◌, List, ℕ}
use Rattle.report.specs.Report.{Fits, Written}
use Rattle.shown.specs.declared.writing.Text.{Text}

-- the text is put at the end, in the same lent bytes
pub record Puts (text : List ℕ) (old new : Text) : Type 0 where
  pub written : Fits old.end text old.bytes.now → Written old.end text old.bytes.now new.bytes.now new.end
  pub loan : new.bytes.ghost_name ≡ old.bytes.ghost_name
