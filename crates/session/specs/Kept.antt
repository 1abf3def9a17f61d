-- What the code keeps of a session between two bytes of its input, and what it says to each: over lent bytes of any length and content.
use Rattle.std.specs.Prelude.{◌≡◌, List, [], ◌∷◌, ◌++◌, ℕ, suc, ◌+◌, ◌-◌, leb, ltb, eqb, length, take, set}
use Rattle.std.proofs.Math.Option.{Option, none, some}
use Rattle.laws.specs.Choose.{choose}
use Rattle.rules.specs.Machine.{unstarted}
use Rattle.rules.specs.Runs.{Request}
use Rattle.tables.specs.Layout.{laid}
use Rattle.manager.specs.Entry.{reply_to}
use Rattle.line.specs.Line.{max_line, line_of}
use Rattle.line.specs.Print.{answer_line, bad_line}

-- the lent bytes, the 256 bytes lent for a line, and how many of them the line that has begun fills: more than 256 where it is longer
pub record Kept : Type 0 where
  pub bytes : List ℕ
  pub line : List ℕ
  pub begun : ℕ

abbrev pub keeps : List ℕ → List ℕ → ℕ → Kept
keeps bs line n = record { bytes = bs; line = line; begun = n }

-- a machine not yet started, and no line
abbrev pub outset : List ℕ → Kept
outset line = keeps (laid unstarted) line 0

-- ---- a line

-- what is said to it, and the lent bytes after it
pub record Response : Type 0 where
  pub bytes : List ℕ
  pub output : List ℕ

-- a bad line changes nothing, and another gets the entry point's reply
abbrev pub response_to : List ℕ → Option Request → Response
response_to bs none = record { bytes = bs; output = bad_line }
response_to bs (some r) = let o = reply_to bs r.call r.priorities in record { bytes = o.bytes; output = answer_line o.answer }

unfoldable pub respond : List ℕ → List ℕ → Response
respond bs line = response_to bs (line_of line)

-- the line that has begun ends: longer than 256 bytes is bad
unfoldable pub end_line : Kept → Response
end_line k = choose (leb k.begun max_line) (respond k.bytes (take k.begun k.line)) (response_to k.bytes none)

-- or has one byte more: beyond 256 only its being longer is kept
unfoldable pub lengthen : Kept → ℕ → Kept
lengthen k b =
    choose (ltb k.begun max_line) (keeps k.bytes (set k.line k.begun b) (k.begun + 1))
    (keeps k.bytes k.line (max_line + 1))

-- ---- bytes: a newline ends the line

unfoldable pub after_byte : Kept → ℕ → Kept
after_byte k b = choose (eqb b 10) (keeps (end_line k).bytes k.line 0) (lengthen k b)

unfoldable pub said_to : Kept → ℕ → List ℕ
said_to k b = choose (eqb b 10) (end_line k).output []

unfoldable pub after_part : Kept → List ℕ → Kept
after_part k [] = k
after_part k (b ∷ bs) = after_part (after_byte k b) bs

unfoldable pub said_to_part : Kept → List ℕ → List ℕ
said_to_part k [] = []
said_to_part k (b ∷ bs) = said_to k b ++ said_to_part (after_byte k b) bs

-- at the end of the input a line that has begun counts
unfoldable pub at_end : Kept → Response
at_end k = choose (eqb k.begun 0) (record { bytes = k.bytes; output = [] }) (end_line k)

-- how many bytes of a part are taken: one more wherever the output has room for an answer, which is at most 33 bytes
unfoldable pub taken_of : Kept → List ℕ → ℕ → ℕ
taken_of k [] room = 0
taken_of k (b ∷ bs) room = choose (leb 33 room) (suc (taken_of (after_byte k b) bs (room - length (said_to k b)))) 0

-- ---- the input in parts, and its end

unfoldable pub said_in_parts : Kept → List (List ℕ) → List ℕ
said_in_parts k [] = (at_end k).output
said_in_parts k (p ∷ ps) = said_to_part k p ++ said_in_parts (after_part k p) ps

-- what is kept after some text from these lent bytes and no line, with what stood in the 256 bytes of a line then
pub record Reached (bs : List ℕ) (k : Kept) : Type 0 where
  pub line : List ℕ
  pub full : length line ≡ 256
  pub text : List ℕ
  pub kept : k ≡ after_part (keeps bs line 0) text
