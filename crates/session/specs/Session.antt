-- Document 01, "The session program": from the bytes of the input to the bytes of the output.
use Rattle.std.specs.Prelude.{List, [], ◌∷◌, ◌++◌, ℕ, eqb}
use Rattle.std.proofs.Math.Option.{Option, none, some}
use Rattle.laws.specs.Choose.{choose}
use Rattle.rules.specs.Machine.{Tables, unstarted}
use Rattle.rules.specs.Runs.{Request, step_of}
use Rattle.line.specs.Line.{onto_first, line_of}
use Rattle.line.specs.Print.{answer_line, bad_line}

-- what stands before each newline; a last line without a newline counts, nothing after a last newline is no line
unfoldable pub lines : List ℕ → List (List ℕ)
lines [] = []
lines (b ∷ bs) = let rest = lines bs in choose (eqb b 10) ([] ∷ rest) (onto_first b rest)

-- a line's output, and the tables after it
pub record Answered : Type 0 where
  pub tables : Tables
  pub output : List ℕ

-- a bad line changes nothing
abbrev pub answer_of : Tables → Option Request → Answered
answer_of t none = record { tables = t; output = bad_line }
answer_of t (some r) = let o = step_of t r in record { tables = o.tables; output = answer_line o.answer }

unfoldable pub answer_to : Tables → List ℕ → Answered
answer_to t line = answer_of t (line_of line)

-- lines one after another
unfoldable pub outputs : Tables → List (List ℕ) → List ℕ
outputs t [] = []
outputs t (l ∷ ls) = let a = answer_to t l in a.output ++ outputs a.tables ls

unfoldable pub session : List ℕ → List ℕ
session input = outputs unstarted (lines input)
