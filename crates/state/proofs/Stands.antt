-- Numbers that stand in bytes, from a place on: read as a row, cut, joined, tested, and as all that the bytes are.
use mathlib.Core.Path.{◌≡◌, refl, sym, ap, ◌∙◌}
use mathlib.Core.Bool.{true}
use mathlib.Core.List.{List, [], ◌∷◌, ◌++◌}
use Prim.Native.Nat.{ℕ, zero, suc, ◌+◌, ◌-◌, ◌*◌, ◌<◌}
use native.Mathlib.Decide.{dec_lt}
use native.Mathlib.Omega.{arith}
use lib.Dec.{eqb}
use lib.ListN.{length, get_or, length-append, get_or-append}
use lib.Seq.{get_or-append-add}
use borrow.Author.Tests.{eq-eqb, eqb-true}
use Rattle.laws.proofs.All.{all_at, all_of}
use Rattle.laws.proofs.Fit.{length_tabulate, get_d_tabulate, tabulate_is}
use Rattle.words.specs.Words.{bytes_of, word_at, same_words}
use Rattle.words.proofs.WordsInBytes.{Bytes, Words, word_at_bytes_of, bytes_words}
use Rattle.tables.specs.Layout.{row_at}

-- the numbers stand from number `at` on
abbrev pub Stands : List ℕ → ℕ → List ℕ → Type 0
Stands bs at ws = (k : ℕ) → k < length ws → word_at bs (at + k) ≡ get_or ws k 0

module _ (bs : List ℕ) (at : ℕ) where
  -- ---- rows

  pub stands_row : (ws : List ℕ) → Stands bs at ws → row_at bs at (length ws) ≡ ws
  stands_row ws h = sym (tabulate_is (length ws) (λ k. word_at bs (at + k)) ws 0 refl (λ k l. sym (h k l)))

  pub row_stands : (n : ℕ) → Stands bs at (row_at bs at n)
  row_stands n k l =
      let f : ℕ → ℕ = λ k. word_at bs (at + k) in
      sym (get_d_tabulate n f k 0 (omega (arith, length_tabulate n f)))

  -- ---- the first number

  pub stands_first : (w : ℕ) (ws : List ℕ) → Stands bs at (w ∷ ws) → word_at bs at ≡ w
  stands_first w ws h = ap (word_at bs) (omega arith) ∙ h 0 (omega arith)

  pub stands_cons : (w : ℕ) (ws : List ℕ) → word_at bs at ≡ w → Stands bs (suc at) ws → Stands bs at (w ∷ ws)
  stands_cons w ws e h zero l = ap (word_at bs) (omega arith) ∙ e
  stands_cons w ws e h (suc k) l = ap (word_at bs) (omega arith) ∙ h k (omega arith)

  pub stands_none : Stands bs at []
  stands_none k l = absurd (omega arith)

  -- ---- one behind another

  module _ (ws vs : List ℕ) where
    pub stands_front : Stands bs at (ws ++ vs) → Stands bs at ws
    stands_front h k l = h k (omega (arith, length-append ws vs)) ∙ get_or-append ws vs 0 k l

    pub stands_behind : (next : ℕ) → next ≡ at + length ws → Stands bs at (ws ++ vs) → Stands bs next vs
    stands_behind next e h k l =
        ap (word_at bs) (omega arith) ∙ h (length ws + k) (omega (arith, length-append ws vs)) ∙ get_or-append-add ws vs k 0

    pub stands_joined : (next : ℕ) → next ≡ at + length ws → Stands bs at ws → Stands bs next vs → Stands bs at (ws ++ vs)
    stands_joined next e h g k l =
        elim (dec_lt k (length ws)) [
          | yes y ↦ h k y ∙ sym (get_or-append ws vs 0 k y)
          | no n ↦ later (k - length ws) (omega arith) (omega (arith, length-append ws vs))
        ]
      where
        later : (j : ℕ) → k ≡ length ws + j → j < length vs → word_at bs (at + k) ≡ get_or (ws ++ vs) k 0
        later j s b =
            ap (word_at bs) (omega arith) ∙ g j b ∙ sym (ap (λ (i : ℕ). get_or (ws ++ vs) i 0) s ∙ get_or-append-add ws vs j 0)

  -- ---- the test

  pub tested_stands : (ws : List ℕ) → same_words bs at ws ≡ true → Stands bs at ws
  unfolding same_words
  tested_stands ws e k l = eqb-true (word_at bs (at + k)) (get_or ws k 0) (all_at (length ws) (λ k. eqb (word_at bs (at + k)) (get_or ws k 0)) e k l)

  pub stands_tested : (ws : List ℕ) → Stands bs at ws → same_words bs at ws ≡ true
  unfolding same_words
  stands_tested ws h =
      all_of (length ws) (λ k. eqb (word_at bs (at + k)) (get_or ws k 0)) (λ k l. eq-eqb (word_at bs (at + k)) (get_or ws k 0) (h k l))

-- ---- all of the bytes

pub stands_bytes : (ws : List ℕ) → Words ws → Stands (bytes_of ws) 0 ws
stands_bytes ws h k l = ap (word_at (bytes_of ws)) (omega arith) ∙ word_at_bytes_of ws h k

pub bytes_stand : (bs ws : List ℕ) → Bytes bs → length bs ≡ 4 * length ws → Stands bs 0 ws → bs ≡ bytes_of ws
bytes_stand bs ws b e h =
    bytes_words (length ws) bs b e
    ∙ ap bytes_of (sym (tabulate_is (length ws) (word_at bs) ws 0 refl (λ k l. sym (ap (word_at bs) (omega arith) ∙ h k l))))
