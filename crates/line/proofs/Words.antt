-- The length of a line's first word.
use mathlib.Core.Path.{◌≡◌, sym, ap, ◌∙◌}
use mathlib.Core.Logic.{◌≢◌}
use mathlib.Core.Bool.{Bool, cond}
use mathlib.Core.List.{List, ◌∷◌}
use Prim.Native.Nat.{ℕ, ◌+◌, ◌<◌}
use native.Mathlib.Omega.{arith}
use native.Mathlib.Decide.{ℕ_discrete}
use lib.Dec.{eqb}
use lib.ListN.{length, get_or}
use borrow.Author.Tests.{eq-eqb, ne_eqb}
use Rattle.std.specs.Option.{MatchOption, unwrap_or}
use Rattle.std.specs.Prelude.{Option, Some, None}
use Rattle.std.specs.List.{position_or_len}
use Rattle.std.proofs.lemmas.List.Recursion.{is_position_or_len}
use Rattle.std.proofs.lemmas.List.Sums.{position_or_len_is}
use Rattle.line.specs.Scan.{first}
use Rattle.line.proofs.Fields.{first_none, first_space, first_cons}

one_byte : (b : ℕ) (bs : List ℕ) → length (first (b ∷ bs)) ≡ cond (eqb b 32) 0 (1 + length (first bs))
one_byte b bs = elim (ℕ_discrete b 32) [
  | yes e ↦ ap (λ (x : ℕ). length (first (x ∷ bs))) e ∙ ap length (first_space bs) ∙ sym (ap (λ (t : Bool). cond t 0 (1 + length (first bs))) (eq-eqb b 32 e))
  | no d ↦ ap length (first_cons b bs d) ∙ omega arith ∙ sym (ap (λ (t : Bool). cond t 0 (1 + length (first bs))) (ne_eqb b 32 d))
]

-- the first word ends before the first space
pub word_length_is : (bs : List ℕ) → length (first bs) ≡ position_or_len (λ b. eqb b 32) bs
word_length_is = is_position_or_len (λ bs. length (first bs)) (λ b. eqb b 32) (ap length first_none) one_byte

module _ (l : List ℕ) where
  abbrev NotYet : ℕ → Type 0
  NotYet n = (k : ℕ) → k < n → get_or l k 0 ≢ 32

  -- where the search for a space ends, the first word does
  pub first_space_is : (r : Option ℕ) → MatchOption r (NotYet (length l)) (λ i. (i < length l) × (get_or l i 0 ≡ 32) × NotYet i)
      → unwrap_or r (length l) ≡ length (first l)
  first_space_is None none_yet =
      sym
      (word_length_is l ∙ position_or_len_is (λ b. eqb b 32) l (length l) 0 (omega arith) (λ k h. ne_eqb (get_or l k 0) 32 (none_yet k h)) (λ h. absurd (omega arith)))
  first_space_is (Some i) found =
      sym
      (word_length_is l ∙ position_or_len_is (λ b. eqb b 32) l i 0 (omega arith) (λ k h. ne_eqb (get_or l k 0) 32 (found.2 k h)) (λ h. eq-eqb (get_or l i 0) 32 found.1))
