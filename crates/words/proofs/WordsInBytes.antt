-- Words in bytes: reading back what was laid, storing a row of words, bytes that are words, and words that are 0.
use mathlib.Core.Path.{◌≡◌, refl, sym, ap, ap₂, ◌∙◌}
use mathlib.Core.Bool.{true}
use mathlib.Core.List.{List, [], ◌∷◌, ◌++◌}
use Prim.Native.Nat.{ℕ, zero, suc, ◌+◌, ◌-◌, ◌*◌, ◌/◌, ◌%◌, ◌≤◌, ◌<◌}
use native.Mathlib.Nat.{not-suc-le-zero}
use native.Mathlib.Decide.{dec_lt}
use native.Mathlib.Omega.{arith}
use lib.Dec.{eqb}
use lib.ListN.{length, get_or, set, take, length-set, replicate, replicate-append-replicate, get_or-eq_default}
use lib.Seq.{sets, get_or-take}
use borrow.Author.Tests.{eq-eqb, eqb-true}
use Rattle.laws.proofs.All.{all_at, all_of}
use Rattle.laws.specs.Rows.{tabulate}
use Rattle.laws.proofs.Fit.{sets_right, sets_join, tabulate_same}
use Rattle.words.specs.Words.{bytes_of_word, bytes_of, word_at, blank}

-- every number of the list is below the bound, as 0 past the end is
abbrev pub Below : ℕ → List ℕ → Type 0
Below b xs = (k : ℕ) → get_or xs k 0 < b

abbrev pub Bytes : List ℕ → Type 0
Bytes = Below 256

abbrev pub Words : List ℕ → Type 0
Words = Below 4294967296

-- what is so of the first n elements is so of all: 0 is a word
pub words_within : (n : ℕ) (xs : List ℕ) → length xs ≡ n → ((k : ℕ) → k < n → get_or xs k 0 < 4294967296) → Words xs
words_within n xs e h k =
    elim (dec_lt k n) [
      | yes l ↦ h k l
      | no d ↦ let past : length xs ≤ k = omega arith in omega (arith, get_or-eq_default xs 0 past)
    ]

-- ---- the bytes of words

pub length_bytes_of : (ws : List ℕ) → length (bytes_of ws) ≡ 4 * length ws
unfolding bytes_of
length_bytes_of [] = refl
length_bytes_of (w ∷ ws) = omega (arith, length_bytes_of ws)

pub bytes_of_zeros : (n : ℕ) → bytes_of (replicate n 0) ≡ replicate (4 * n) 0
unfolding bytes_of
bytes_of_zeros zero = refl
bytes_of_zeros (suc n) =
    let e : 4 + 4 * n ≡ 4 * suc n = omega arith in
    ap (λ (r : List ℕ). 0 ∷ 0 ∷ 0 ∷ 0 ∷ r) (bytes_of_zeros n)
    ∙ replicate-append-replicate 4 (4 * n) 0
    ∙ ap (λ (k : ℕ). replicate k 0) e

-- ---- reading a word

-- four bytes before the words move every index by one
word_at_suc : (a b c d : ℕ) (bs : List ℕ) (i : ℕ) → word_at (a ∷ b ∷ c ∷ d ∷ bs) (suc i) ≡ word_at bs i
unfolding word_at
word_at_suc a b c d bs i =
    let m : List ℕ = a ∷ b ∷ c ∷ d ∷ bs in
    let at : (j k : ℕ) → j ≡ suc (suc (suc (suc k))) → get_or m j 0 ≡ get_or bs k 0 = λ j k e. ap (λ (n : ℕ). get_or m n 0) e in
    let byte : (j : ℕ) → get_or m (4 * suc i + j) 0 ≡ get_or bs (4 * i + j) 0 = λ j. at (4 * suc i + j) (4 * i + j) (omega arith) in
    cc (at (4 * suc i) (4 * i) (omega arith), byte 1, byte 2, byte 3)

word_at_first : (w : ℕ) (bs : List ℕ) → w < 4294967296 → word_at (bytes_of_word w ++ bs) 0 ≡ w
unfolding word_at
word_at_first w bs h = omega arith

word_at_none : (i : ℕ) → word_at [] i ≡ 0
unfolding word_at
word_at_none i = refl

-- the word at i, or 0 past the end
pub word_at_bytes_of : (ws : List ℕ) → Words ws → (i : ℕ) → word_at (bytes_of ws) i ≡ get_or ws i 0
unfolding bytes_of
word_at_bytes_of [] h i = word_at_none i
word_at_bytes_of (w ∷ ws) h zero = word_at_first w (bytes_of ws) (h 0)
word_at_bytes_of (w ∷ ws) h (suc i) =
    word_at_suc (w / 16777216) (w / 65536 % 256) (w / 256 % 256) (w % 256) (bytes_of ws) i ∙ word_at_bytes_of ws (λ k. h (suc k)) i

pub word_at_below : (bs : List ℕ) → Bytes bs → (i : ℕ) → word_at bs i < 4294967296
unfolding word_at
word_at_below bs h i = omega (arith, h (4 * i), h (4 * i + 1), h (4 * i + 2), h (4 * i + 3))

-- a word is the same in bytes that are cut behind it
pub word_at_cut : (bs : List ℕ) (n i : ℕ) → 4 * i + 4 ≤ n → word_at (take n bs) i ≡ word_at bs i
unfolding word_at
word_at_cut bs n i h =
    let at : (k : ℕ) → k < n → get_or (take n bs) k 0 ≡ get_or bs k 0 = λ k l. get_or-take n bs k 0 l in
    rw (at (4 * i) (omega arith), at (4 * i + 1) (omega arith), at (4 * i + 2) (omega arith), at (4 * i + 3) (omega arith)) refl

-- the top byte is not reduced, so words are below 2 ^ 32 exactly where their bytes are bytes
pub words_below : (ws : List ℕ) → Bytes (bytes_of ws) → Words ws
unfolding bytes_of
words_below [] h k = omega arith
words_below (w ∷ ws) h zero = omega (arith, h 0)
words_below (w ∷ ws) h (suc k) = words_below ws (λ k. h (suc (suc (suc (suc k))))) k

pub bytes_below : (ws : List ℕ) → Words ws → Bytes (bytes_of ws)
unfolding bytes_of
bytes_below [] h k = omega arith
bytes_below (w ∷ ws) h zero = omega (arith, h 0)
bytes_below (w ∷ ws) h (suc zero) = omega arith
bytes_below (w ∷ ws) h (suc (suc zero)) = omega arith
bytes_below (w ∷ ws) h (suc (suc (suc zero))) = omega arith
bytes_below (w ∷ ws) h (suc (suc (suc (suc k)))) = bytes_below ws (λ k. h (suc k)) k

-- ---- storing a row of words

set_word : (ws : List ℕ) (i w : ℕ) → i < length ws → sets (bytes_of ws) (4 * i) (bytes_of_word w) ≡ bytes_of (set ws i w)
unfolding bytes_of
set_word [] i w h = absurd (not-suc-le-zero h)
set_word (x ∷ ws) zero w h = refl
set_word (x ∷ ws) (suc i) w h =
    let e : 4 * suc i ≡ 4 + 4 * i = omega arith in
    ap (λ (k : ℕ). sets (bytes_of (x ∷ ws)) k (bytes_of_word w)) e
    ∙ sets_right (bytes_of_word x) (bytes_of ws) (4 * i) (bytes_of_word w)
    ∙ ap (λ (r : List ℕ). bytes_of_word x ++ r) (set_word ws i w (omega arith))

pub sets_bytes_of : (ws : List ℕ) (i : ℕ) (vs : List ℕ) → i + length vs ≤ length ws → sets (bytes_of ws) (4 * i) (bytes_of vs) ≡ bytes_of (sets ws i vs)
unfolding bytes_of
sets_bytes_of ws i [] h = refl
sets_bytes_of ws i (v ∷ vs) h =
    sym (sets_join (bytes_of ws) (4 * i) (bytes_of_word v) (bytes_of vs))
    ∙ ap₂ (λ (m : List ℕ) (k : ℕ). sets m k (bytes_of vs)) (set_word ws i v (omega arith)) (omega arith)
    ∙ sets_bytes_of (set ws i v) (suc i) vs (rw length-set (omega arith))

-- ---- bytes that are words

word_bytes : (a b c d : ℕ) (bs : List ℕ) → Bytes (a ∷ b ∷ c ∷ d ∷ bs) → bytes_of_word (word_at (a ∷ b ∷ c ∷ d ∷ bs) 0) ≡ a ∷ b ∷ c ∷ d ∷ []
unfolding word_at
word_bytes a b c d bs h =
    let m : List ℕ = a ∷ b ∷ c ∷ d ∷ bs in
    let ha : a < 256 = h 0 in
    let hb : b < 256 = h 1 in
    let hc : c < 256 = h 2 in
    let hd : d < 256 = h 3 in
    let ea : word_at m 0 / 16777216 ≡ a = omega arith in
    let eb : word_at m 0 / 65536 % 256 ≡ b = omega arith in
    let ec : word_at m 0 / 256 % 256 ≡ c = omega arith in
    let ed : word_at m 0 % 256 ≡ d = omega arith in
    λ k. ea k ∷ eb k ∷ ec k ∷ ed k ∷ []

-- bytes of whole words are the bytes of the words that are read from them
pub bytes_words : (n : ℕ) (bs : List ℕ) → Bytes bs → length bs ≡ 4 * n → bs ≡ bytes_of (tabulate n (word_at bs))
unfolding bytes_of tabulate
bytes_words zero [] h e = refl
bytes_words zero (b ∷ bs) h e = absurd (omega arith)
bytes_words (suc n) [] h e = absurd (omega arith)
bytes_words (suc n) (a ∷ []) h e = absurd (omega arith)
bytes_words (suc n) (a ∷ b ∷ []) h e = absurd (omega arith)
bytes_words (suc n) (a ∷ b ∷ c ∷ []) h e = absurd (omega arith)
bytes_words (suc n) (a ∷ b ∷ c ∷ d ∷ bs) h e =
    let m : List ℕ = a ∷ b ∷ c ∷ d ∷ bs in
    ap₂ (λ (u v : List ℕ). u ++ v)
    (sym (word_bytes a b c d bs h))
    (bytes_words n bs (λ k. h (suc (suc (suc (suc k))))) (omega arith)
    ∙ ap bytes_of (tabulate_same n (word_at bs) (λ i. word_at m (suc i)) (λ i l. sym (word_at_suc a b c d bs i))))

-- ---- words that are 0

pub blank_at : (bs : List ℕ) (from to : ℕ) → blank bs from to ≡ true → (k : ℕ) → from ≤ k → k < to → word_at bs k ≡ 0
unfolding blank
blank_at bs from to e k l h =
    let z : word_at bs (from + (k - from)) ≡ 0 =
    eqb-true (word_at bs (from + (k - from))) 0 (all_at (to - from) (λ k. eqb (word_at bs (from + k)) 0) e (k - from) (omega arith))
    in
    ap (word_at bs) (omega arith) ∙ z

pub blank_of : (bs : List ℕ) (from to : ℕ) → ((k : ℕ) → from ≤ k → k < to → word_at bs k ≡ 0) → blank bs from to ≡ true
unfolding blank
blank_of bs from to f =
    all_of (to - from) (λ k. eqb (word_at bs (from + k)) 0) (λ k h. eq-eqb (word_at bs (from + k)) 0 (f (from + k) (omega arith) (omega arith)))
