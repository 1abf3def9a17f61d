-- What is done with what is read: which bytes the session is fed, and what it leaves of the lent bytes, to its end or to where it broke off.
use Rattle.std.specs.Prelude.{◌≡◌, Bool, false, List, ◌⊎◌, ℕ, ◌≤◌, length, take}
use Rattle.session.specs.Kept.{Kept, after_part, said_to_part, at_end, Reached}

-- one turn takes something: the bytes taken are fed, in order and once, and what is said to them is the front of the output
pub record Answers (taken : ℕ) (k : Kept) (input : List ℕ) (k' : Kept) (out : List ℕ) : Type 0 where
  pub inside : taken ≤ length input
  pub some : 1 ≤ taken
  pub kept : k' ≡ after_part k (take taken input)
  pub text : take (length (said_to_part k (take taken input))) out ≡ said_to_part k (take taken input)

-- the lent bytes are those after some text from the bytes at the outset and, where all is done, after its end; where not, the end may still have come
pub record Ran (outset : List ℕ) (done : Bool) (bs : List ℕ) : Type 0 where
  pub last : Kept
  pub reached : Reached outset last
  pub bytes : ((done ≡ false) × (bs ≡ last.bytes)) ⊎ (bs ≡ (at_end last).bytes)
