-- The pairs of the grants, by where they end.
use mathlib.Core.Path.{◌≡◌, refl, sym, ◌∙◌}
use mathlib.Core.List.{List, [], ◌∷◌}
use Prim.Native.Nat.{ℕ, ◌+◌, ◌-◌, ◌*◌, ◌≤◌, ◌<◌, min}
use native.Mathlib.Omega.{arith}
use native.Mathlib.Decide.{dec_lt}
use lib.ListN.{length, get_or, take, drop, length-drop}
use lib.Seq.{take_all}
use Rattle.laws.specs.Rows.{rows}
use Rattle.laws.proofs.Choose.{if_le, if_not_le}
use Rattle.words.specs.Words.{word_at}
use Rattle.encoding.specs.Laid.{laid_grants}
use Rattle.outcome.specs.Outcome.{pairs_in, tasks_in}

module _ (ns : List ℕ) (r : ℕ) where
  pub pairs_end : r ≡ 1 + 2 * get_or ns 0 0 → take (r - 1) (drop 1 ns) ≡ pairs_in ns
  unfolding pairs_in
  pairs_end e =
      let n : r - 1 ≡ 2 * get_or ns 0 0 = omega arith in
      rw n

  -- more than there is room for
  pub pairs_all : length ns ≤ r → r < 1 + 2 * get_or ns 0 0 → take (r - 1) (drop 1 ns) ≡ pairs_in ns
  unfolding pairs_in
  pairs_all h l =
      take_all (r - 1) (drop 1 ns) (omega (arith, length-drop 1 ns)) ∙ sym (take_all (2 * get_or ns 0 0) (drop 1 ns) (omega (arith, length-drop 1 ns)))

-- as many as the count says, and as there is room for
pub pairs_least : (ns : List ℕ) (r : ℕ) → length ns ≡ 513 → r ≡ min (1 + 2 * get_or ns 0 0) 513 → take (r - 1) (drop 1 ns) ≡ pairs_in ns
pairs_least ns r h e =
    elim (dec_lt 513 (1 + 2 * get_or ns 0 0)) [
      | yes l ↦ pairs_all ns r (omega arith) (omega arith)
      | no n ↦ pairs_end ns r (omega arith)
    ]

-- at most 32 tasks
pub tasks_least : (bs : List ℕ) → min (word_at bs 0) 32 ≡ tasks_in bs
unfolding tasks_in
tasks_least bs =
    elim (dec_lt 32 (word_at bs 0)) [
      | yes l ↦ sym (if_not_le (word_at bs 0) 32 (word_at bs 0) 32 l ∙ omega arith)
      | no n ↦ sym (if_le (word_at bs 0) 32 (word_at bs 0) 32 (omega arith) ∙ omega arith)
    ]

-- no grant is reported
pub pairs_none : (ns : List ℕ) → pairs_in (laid_grants ns []) ≡ []
unfolding pairs_in laid_grants rows
pairs_none [] = refl
pairs_none (n ∷ ns) = refl
