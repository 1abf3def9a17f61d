-- Words in bytes: each of four bytes, high byte first.
use Rattle.std.specs.Prelude.{Bool, List, [], ◌∷◌, ◌++◌, ℕ, ◌+◌, ◌-◌, ◌*◌, ◌/◌, ◌%◌, eqb, length, get_or}
use Rattle.laws.specs.All.{all}

abbrev pub bytes_of_word : ℕ → List ℕ
bytes_of_word w = w / 16777216 ∷ w / 65536 % 256 ∷ w / 256 % 256 ∷ w % 256 ∷ []

unfoldable pub bytes_of : List ℕ → List ℕ
bytes_of [] = []
bytes_of (w ∷ ws) = bytes_of_word w ++ bytes_of ws

-- the word at index i, counted in words
unfoldable pub word_at : List ℕ → ℕ → ℕ
word_at bs i = get_or bs (4 * i) 0 * 16777216 + get_or bs (4 * i + 1) 0 * 65536 + get_or bs (4 * i + 2) 0 * 256 + get_or bs (4 * i + 3) 0

-- every word from index `from` up to `to` is 0
unfoldable pub blank : List ℕ → ℕ → ℕ → Bool
blank bs from to = all (to - from) (λ k. eqb (word_at bs (from + k)) 0)

-- the words of a row stand from index i on
unfoldable pub same_words : List ℕ → ℕ → List ℕ → Bool
same_words bs i row = all (length row) (λ k. eqb (word_at bs (i + k)) (get_or row k 0))
