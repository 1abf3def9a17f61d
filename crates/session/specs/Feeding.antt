-- What the code does with a line, a byte and a part: what it keeps, and what it writes where.
use Rattle.std.specs.Prelude.{◌≡◌, List, ℕ, ◌+◌, length, take}
use Rattle.line.specs.Print.{spliced}
use Rattle.session.specs.declared.Fed.{Fed}
use Rattle.session.specs.declared.LineBuffer.{LineBuffer}
use Rattle.session.specs.Kept.{Kept, keeps, Response, after_byte, said_to, after_part, said_to_part, taken_of}

-- the lent bytes, and the line that has begun
abbrev pub holding : List ℕ → LineBuffer → Kept
holding bs line = keeps bs line.bytes line.length

-- the response stands in the output from `at` to `end`, the rest of which stays, and the lent bytes are those after it
pub record Writes (s : Response) (at end : ℕ) (bs before out : List ℕ) : Type 0 where
  pub bytes : bs ≡ s.bytes
  pub ends : end ≡ at + length s.output
  pub output : out ≡ spliced at s.output before

-- a byte is taken
pub record Took (k : Kept) (b at end : ℕ) (k' : Kept) (before out : List ℕ) : Type 0 where
  pub kept : k' ≡ after_byte k b
  pub ends : end ≡ at + length (said_to k b)
  pub output : out ≡ spliced at (said_to k b) before

-- as many bytes of a part are taken as the output has room for, and what is said to them stands at its front
pub record FedIs (r : Fed) (k : Kept) (input : List ℕ) (k' : Kept) (before out : List ℕ) : Type 0 where
  pub taken : r.taken ≡ taken_of k input (length before)
  pub kept : k' ≡ after_part k (take r.taken input)
  pub written : r.written ≡ length (said_to_part k (take r.taken input))
  pub output : out ≡ spliced 0 (said_to_part k (take r.taken input)) before
