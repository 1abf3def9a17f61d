-- What the code writes, feed after feed from a machine that is not started, and at the end, is the session of what it took.
use mathlib.Core.Path.{◌≡◌, refl, sym, ap, ap₂, ◌∙◌}
use mathlib.Core.List.{List, [], ◌++◌}
use Prim.Native.Nat.{ℕ}
use native.Mathlib.Omega.{arith}
use lib.ListN.{length, take}
use Rattle.session.specs.declared.Fed.{Fed}
use Rattle.session.specs.Session.{session}
use Rattle.session.specs.Kept.{Kept, outset, after_part, said_to_part, at_end}
use Rattle.session.specs.Feeding.{Writes, FedIs}
use Rattle.session.proofs.Output.{front}
use Rattle.session.proofs.Feeding.{after_append, said_append, fed_text}
use Rattle.session.proofs.Whole.{session_said}

-- each feed is handed the bytes and the line that the one before left: what is kept, all that was taken and all that was written
pub data Feeds : Kept → List ℕ → List ℕ → Type 0 where
  start : (line : List ℕ) → length line ≡ 256 → Feeds (outset line) [] []
  more : {k : Kept} {text written : List ℕ} → Feeds k text written
      → (r : Fed) (input : List ℕ) (k' : Kept) (before out : List ℕ) → FedIs r k input k' before out
      → Feeds k' (text ++ take r.taken input) (written ++ take r.written out)

pub record FedAll (k : Kept) (text written : List ℕ) : Type 0 where
  pub line : List ℕ
  pub full : length line ≡ 256
  pub kept : k ≡ after_part (outset line) text
  pub said : written ≡ said_to_part (outset line) text

pub feeds_all : {k : Kept} {text written : List ℕ} → Feeds k text written → FedAll k text written
unfolding said_to_part after_part
feeds_all (start line h) = record { line = line; full = h; kept = refl; said = refl }
feeds_all (more {k = k} {text = t} {written = w} f r input k' before out is) =
    let all = feeds_all f in
    let part : List ℕ = take r.taken input in
    record {
      line = all.line;
      full = all.full;
      kept = is.kept ∙ ap (λ (s : Kept). after_part s part) all.kept ∙ sym (after_append (outset all.line) t part);
      said = ap₂ (λ (a b : List ℕ). a ++ b) all.said (fed_text is ∙ ap (λ (s : Kept). said_to_part s part) all.kept)
          ∙ sym (said_append (outset all.line) t part);
    }

pub code_session : {k : Kept} {text written : List ℕ} → Feeds k text written
    → (r : ℕ) (bs before out : List ℕ) → Writes (at_end k) 0 r bs before out
    → written ++ take r out ≡ session text
code_session {k} {text} f r bs before out e =
    let all = feeds_all f in
    let last : take r out ≡ (at_end k).output =
    ap₂ (λ (n : ℕ) (l : List ℕ). take n l) e.ends e.output ∙ front 0 (at_end k).output before (omega arith) in
    ap₂ (λ (a b : List ℕ). a ++ b) all.said (last ∙ ap (λ (s : Kept). (at_end s).output) all.kept) ∙ session_said all.line all.full text
