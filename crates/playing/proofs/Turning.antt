-- Runs from the bytes at the outset, and the answer at the end.
use mathlib.Core.Path.{◌≡◌, refl, sym, ap, subst, ◌∙◌}
use mathlib.Core.Bool.{Bool, false}
use mathlib.Core.List.{List, []}
use mathlib.Core.Logic.{inl}
use Prim.Native.Nat.{ℕ, ◌≤◌}
use native.Mathlib.Omega.{arith}
use lib.ListN.{length, take, replicate, length-replicate}
use Rattle.line.specs.Print.{spliced}
use Rattle.session.specs.declared.Fed.{Fed}
use Rattle.session.specs.Kept.{Kept, keeps, after_part, at_end, Reached}
use Rattle.session.specs.Feeding.{Writes, FedIs}
use Rattle.session.proofs.Feeding.{fed_inside, fed_some, fed_text, at_end_few}
use Rattle.session.proofs.Output.{front}
use Rattle.playing.specs.Turns.{Answers, Ran}

-- ---- one feed

pub answers : {r : Fed} {k k' : Kept} {input before out : List ℕ} → FedIs r k input k' before out → 33 ≤ length before → 1 ≤ length input
    → Answers r.taken k input k' out
answers {out = out} f room more =
    record {
      inside = fed_inside f;
      some = fed_some f room more;
      kept = f.kept;
      text = ap (λ (n : ℕ). take n out) (sym f.written) ∙ fed_text f;
    }

-- ---- the end

module _ (k : Kept) {n : ℕ} {bs before out : List ℕ} (w : Writes (at_end k) 0 n bs before out) where
  pub end_within : n ≤ 33
  end_within = omega (arith, w.ends, at_end_few k)

  pub end_text : take n out ≡ (at_end k).output
  end_text =
      ap (λ (l : List ℕ). take n l) w.output ∙ ap (λ (j : ℕ). take j (spliced 0 (at_end k).output before)) w.ends
      ∙ front 0 (at_end k).output before (omega arith)

-- ---- from the outset

reached_none : (bs line : List ℕ) → length line ≡ 256 → Reached bs (keeps bs line 0)
unfolding after_part
reached_none bs line h = record { line = line; full = h; text = []; kept = refl }

-- no text at all
pub ran_none : (bs : List ℕ) → Ran bs false bs
ran_none bs =
    let line : List ℕ = replicate 256 0 in
    record { last = keeps bs line 0; reached = reached_none bs line (length-replicate {A = ℕ} 256 0); bytes = inl (refl, refl) }

-- the same bytes at the outset
pub ran_from_lem : {outset bs : List ℕ} {done : Bool} (from : List ℕ) → from ≡ outset → Ran from done bs → Ran outset done bs
ran_from_lem {bs = bs} {done = done} from e ran = subst (λ (l : List ℕ). Ran l done bs) e ran
