-- What a session does to a reader and to a writer: what is read is fed, and what is said is written, where the bytes of either are known.
use Rattle.std.specs.Prelude.{◌≡◌, List, [], ◌∷◌, ◌++◌, ◌⊎◌, ℕ, ◌≤◌, Option, Result, Ok, Err, take, length, replicate, MatchResult, codes}
use Rattle.std.specs.Io.KnownBytes.{Consumes, Appends, IsAtEnd}
use Rattle.session.specs.Kept.{Kept, keeps, after_part, said_to_part, at_end}
use Rattle.std.specs.declared.io.Error.{Error}
use Rattle.playing.specs.declared.PlayError.{PlayError}
use Rattle.playing.specs.declared.PlayError.TheVariants.{Unread, Unwritten}

-- ---- what is written

-- a front of these bytes is written, and nothing else
abbrev pub AppendsFront : Option (List ℕ) → Option (List ℕ) → List ℕ → Type 0
AppendsFront old new bs = (n : ℕ) × Appends old new (take n bs)

-- all of them is written, once and with nothing else, or on an error a front
abbrev pub WritesAll : {T E : Type 0} → Result T E → Option (List ℕ) → Option (List ℕ) → List ℕ → Type 0
WritesAll r old new bs = MatchResult r (λ _. Appends old new bs) (λ _. AppendsFront old new bs)

-- a write that failed, as what broke the session off
abbrev pub unwritten : {T : Type 0} → Result T Error → Result T PlayError
unwritten (Ok x) = Ok x
unwritten (Err e) = Err (Unwritten e)

-- ---- what is read

-- a read that failed, likewise
abbrev pub unread : {T : Type 0} → Result T Error → Result T PlayError
unread (Ok x) = Ok x
unread (Err e) = Err (Unread e)

-- what a read gave is what the reader had next; where there was room for a byte, none is the end of all that it had
abbrev pub Hears : {E : Type 0} → Result ℕ E → Option (List ℕ) → Option (List ℕ) → List ℕ → Type 0
Hears (Ok n) old new input = Consumes old new (take n input) × (n ≡ 0 → 1 ≤ length input → IsAtEnd new)
Hears (Err e) old new input = Consumes old new []

-- ---- a part

-- all of it is fed, and all that is said to it is written
pub record FedAll (k : Kept) (part : List ℕ) (k' : Kept) (written written' : Option (List ℕ)) : Type 0 where
  pub kept : k' ≡ after_part k part
  pub said : Appends written written' (said_to_part k part)

-- a write failed: a front of it is fed, which is not empty, and a front of what is said to that is written
pub record CutOff (k : Kept) (part : List ℕ) (k' : Kept) (written written' : Option (List ℕ)) : Type 0 where
  pub taken : ℕ
  pub some : 1 ≤ taken
  pub inside : taken ≤ length part
  pub kept : k' ≡ after_part k (take taken part)
  pub said : AppendsFront written written' (said_to_part k (take taken part))

-- ---- one after another

-- what was read is fed, in order and once, and what is said to it is written
pub record Feeds (unread unread' written written' : Option (List ℕ)) (k k' : Kept) : Type 0 where
  pub text : List ℕ
  pub read : Consumes unread unread' text
  pub kept : k' ≡ after_part k text
  pub said : Appends written written' (said_to_part k text)

-- all that is said to a text and to its end
abbrev pub said_to_whole : Kept → List ℕ → List ℕ
said_to_whole k text = said_to_part k text ++ (at_end (after_part k text)).output

-- all that there was to read is read and fed, in order and once, and then its end; all that is said to it is written, and nothing else
pub record Played (unread unread' written written' : Option (List ℕ)) (k : Kept) (bs : List ℕ) : Type 0 where
  pub text : List ℕ
  pub read : Consumes unread unread' text
  pub ended : IsAtEnd unread'
  pub bytes : bs ≡ (at_end (after_part k text)).bytes
  pub said : Appends written written' (said_to_whole k text)

-- a read or a write failed: a front of what was read is fed, or all of it and its end; a front of what is said to it is written, and nothing else
pub record BrokeOff (unread unread' written written' : Option (List ℕ)) (k : Kept) (bs : List ℕ) : Type 0 where
  pub text : List ℕ
  pub unfed : List ℕ
  pub read : Consumes unread unread' (text ++ unfed)
  pub left : ((bs ≡ (after_part k text).bytes) × AppendsFront written written' (said_to_part k text))
      ⊎ ((bs ≡ (at_end (after_part k text)).bytes) × AppendsFront written written' (said_to_whole k text))

-- no line yet
abbrev pub fresh : List ℕ → Kept
fresh bs = keeps bs (replicate 256 0) 0

-- a line is written: the name of what failed, a colon, and why
abbrev pub Tells : Option (List ℕ) → Option (List ℕ) → List ℕ → Type 0
Tells old new what = (words : List ℕ) × Appends old new (((what ++ 58 ∷ 32 ∷ []) ++ words) ++ 10 ∷ [])

-- the session of this name could not be read, or standard output not written
abbrev pub what_failed : PlayError → List ℕ → List ℕ
what_failed (Unread e) name = name
what_failed (Unwritten e) name = codes "standard output"
