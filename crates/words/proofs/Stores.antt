-- Rows of words stored one word after another, and words tested one after another.
use mathlib.Core.Path.{◌≡◌, ap, sym, ◌∙◌}
use mathlib.Core.Bool.{true}
use mathlib.Core.List.{List}
use Prim.Native.Nat.{ℕ, ◌+◌, ◌-◌, ◌*◌, ◌≤◌, ◌<◌}
use native.Mathlib.Numerals.{add-one, add-four}
use native.Mathlib.Omega.{arith}
use lib.Dec.{eqb}
use lib.ListN.{length, get_or, drop}
use lib.Bits.{or_add_and, and_le_l, and_le_r}
use lib.Seq.{sets, drop-cons, drop-length}
use borrow.Author.Count.{below_more}
use borrow.Author.Tests.{eq-eqb, eqb-true}
use Rattle.laws.specs.All.{all}
use Rattle.laws.proofs.Choose.{same_test}
use Rattle.words.specs.Words.{bytes_of_word, bytes_of, word_at, blank}
use Rattle.std.specs.Int.Bits.{bit_or, bit_and}
use Rattle.words.proofs.WordsInBytes.{blank_at, blank_of}

-- the bytes of a row's rest are those of its next word, and of the rest behind it
next_word : (l row : List ℕ) (at k : ℕ) → k < length row
    → sets l at (bytes_of (drop k row)) ≡ sets (sets l at (bytes_of_word (get_or row k 0))) (at + 4) (bytes_of (drop (k + 1) row))
unfolding bytes_of
next_word l row at k h = rw (add-one k, add-four at, drop-cons row k 0 h)

-- with k words of the row stored, the stores that are left lead to the whole row
abbrev pub Stored : List ℕ → ℕ → List ℕ → List ℕ → ℕ → Type 0
Stored m₀ i row m k = sets m (4 * (i + k)) (bytes_of (drop k row)) ≡ sets m₀ (4 * i) (bytes_of row)

pub stored_none : (m₀ : List ℕ) (i : ℕ) (row : List ℕ) → Stored m₀ i row m₀ 0
stored_none m₀ i row = ap (λ (n : ℕ). sets m₀ (4 * n) (bytes_of row)) (omega arith)

module _ (m₀ : List ℕ) (i : ℕ) (row m : List ℕ) where
  pub stored_more : (k : ℕ) (m' : List ℕ) → k < length row → Stored m₀ i row m k
      → m' ≡ sets m (4 * (i + k)) (bytes_of_word (get_or row k 0)) → Stored m₀ i row m' (k + 1)
  stored_more k m' h e w =
      let p : 4 * (i + (k + 1)) ≡ 4 * (i + k) + 4 = omega arith in
      ap (λ (l : List ℕ). sets l (4 * (i + (k + 1))) (bytes_of (drop (k + 1) row))) w
      ∙ ap (λ (at : ℕ). sets (sets m (4 * (i + k)) (bytes_of_word (get_or row k 0))) at (bytes_of (drop (k + 1) row))) p
      ∙ sym (next_word m row (4 * (i + k)) k h)
      ∙ e

  pub stored_all : (k : ℕ) → k ≡ length row → Stored m₀ i row m k → m ≡ sets m₀ (4 * i) (bytes_of row)
  unfolding bytes_of
  stored_all k h e = rw (h, drop-length row) at e

-- ---- words tested one after another

-- bits that are 0 exactly where the words from `from` up to k are
abbrev pub Blank : List ℕ → ℕ → ℕ → ℕ → Type 0
Blank bs from k seen = eqb seen 0 ≡ blank bs from k

pub blank_none : (bs : List ℕ) (from : ℕ) → Blank bs from from 0
blank_none bs from = sym (blank_of bs from from (λ k l h. absurd (omega arith)))

-- one word more
pub blank_more : (bs : List ℕ) (from k seen w r : ℕ) → from ≤ k → Blank bs from k seen → eqb w 0 ≡ eqb (word_at bs k) 0
    → r ≡ bit_or seen w → Blank bs from (k + 1) r
blank_more bs from k seen w r low e read joined = same_test _ _ there back
  where
    both : r + bit_and seen w ≡ seen + w
    both = omega (arith, or_add_and seen w)

    there : eqb r 0 ≡ true → blank bs from (k + 1) ≡ true
    there z =
        let none : r ≡ 0 = eqb-true r 0 z in
        let bits : seen ≡ 0 = omega (arith, both, and_le_r seen w) in
        let last : w ≡ 0 = omega (arith, both, and_le_l seen w) in
        let passed = blank_at bs from k (sym e ∙ eq-eqb seen 0 bits) in
        let zero : word_at bs k ≡ 0 = eqb-true (word_at bs k) 0 (sym read ∙ eq-eqb w 0 last) in
        blank_of bs from (k + 1)
        (λ j l b. below_more (λ (j : ℕ). from ≤ j → word_at bs j ≡ 0) k (λ j b l. passed j l b) (λ l. zero) j b l)

    back : blank bs from (k + 1) ≡ true → eqb r 0 ≡ true
    back b =
        let at = blank_at bs from (k + 1) b in
        let bits : seen ≡ 0 = eqb-true seen 0 (e ∙ blank_of bs from k (λ j l p. at j l (omega arith))) in
        let zero : word_at bs k ≡ 0 = at k low (omega arith) in
        let last : w ≡ 0 = eqb-true w 0 (read ∙ eq-eqb (word_at bs k) 0 zero) in
        eq-eqb r 0 (omega (arith, both))

-- all of them, and none where `to` is not behind `from`
pub blank_all : (bs : List ℕ) (from k to seen : ℕ) → k - from ≡ to - from → Blank bs from k seen → eqb seen 0 ≡ blank bs from to
unfolding blank
blank_all bs from k to seen same e = e ∙ ap (λ (n : ℕ). all n (λ k. eqb (word_at bs (from + k)) 0)) same
