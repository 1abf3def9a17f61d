-- Texts written one behind the other, and row by row in a loop.
use mathlib.Core.Path.{◌≡◌, refl, sym, ap, subst, ◌∙◌}
use mathlib.Core.List.{List, [], ◌∷◌, ◌++◌, append_assoc, append-nil}
use Prim.Native.Nat.{ℕ, zero, suc, ◌+◌, ◌≤◌, ◌<◌}
use native.Mathlib.Nat.{add-zero}
use native.Mathlib.Numerals.{add-one}
use native.Mathlib.Omega.{arith}
use lib.ListN.{length, take, drop, set, length-append, take-append-drop}
use lib.Seq.{set_split, append_snoc}
use Rattle.laws.specs.Rows.{tabulate, rows}
use Rattle.line.specs.Print.{spliced}
use Rattle.line.proofs.Printing.{one_more, length_spliced, spliced_front}
use Rattle.report.specs.Report.{Fits, Written}

module _ (at : ℕ) (out : List ℕ) where
  pub written_none : Written at [] out out at
  unfolding spliced
  written_none = (
    sym (add-zero at),
    sym (ap (λ (n : ℕ). take at out ++ [] ++ drop n out) (add-zero at)
        ∙ ap (λ (l : List ℕ). l ++ drop at out) (append-nil (take at out)) ∙ take-append-drop at out),
  )

  -- one byte
  pub written_byte : (b : ℕ) → at < length out → Written at (b ∷ []) out (set out at b) (at + 1)
  unfolding spliced
  written_byte b h = (
    refl,
    set_split out at b h ∙ sym (append_snoc (take at out) b (drop (suc at) out)) ∙ ap (λ (n : ℕ). take at out ++ (b ∷ []) ++ drop n out) (sym (add-one at)),
  )

  module _ (xs w : List ℕ) (end : ℕ) where
    pub written_length : Fits at xs out → Written at xs out w end → length w ≡ length out
    written_length fits first = ap length first.1 ∙ length_spliced at xs out fits

-- a text, and a second behind it
module _ (at : ℕ) (out xs ys : List ℕ) (fits : Fits at (xs ++ ys) out) where
  pub fits_first : Fits at xs out
  fits_first = omega (arith, length-append xs ys)

  module _ (w : List ℕ) (end : ℕ) (first : Written at xs out w end) where
    pub fits_second : Fits end ys w
    fits_second = omega (arith, length-append xs ys, written_length at out xs w end fits_first first)

    pub written_both : (w' : List ℕ) (end' : ℕ) → Written end ys w w' end' → Written at (xs ++ ys) out w' end'
    written_both w' end' second = one_more at xs ys out w w' end end' fits_first first second

-- three texts
module _ (at : ℕ) (out xs ys zs : List ℕ) (fits : Fits at (xs ++ ys ++ zs) out) where
  both_fit : Fits at (xs ++ ys) out
  both_fit = fits_first at out (xs ++ ys) zs fits

  pub fits_1 : Fits at xs out
  fits_1 = fits_first at out xs ys both_fit

  module _ (w₁ : List ℕ) (end₁ : ℕ) (first : Written at xs out w₁ end₁) where
    pub fits_2 : Fits end₁ ys w₁
    fits_2 = fits_second at out xs ys both_fit w₁ end₁ first

    module _ (w₂ : List ℕ) (end₂ : ℕ) (second : Written end₁ ys w₁ w₂ end₂) where
      pub two_written : Written at (xs ++ ys) out w₂ end₂
      two_written = written_both at out xs ys both_fit w₁ end₁ first w₂ end₂ second

      pub fits_3 : Fits end₂ zs w₂
      fits_3 = fits_second at out (xs ++ ys) zs fits w₂ end₂ two_written

      pub three_written : (w₃ : List ℕ) (end₃ : ℕ) → Written end₂ zs w₂ w₃ end₃ → Written at (xs ++ ys ++ zs) out w₃ end₃
      three_written w₃ end₃ third = written_both at out (xs ++ ys) zs fits w₂ end₂ two_written w₃ end₃ third

-- what is written at the front
pub written_front : (xs out w : List ℕ) (r : ℕ) → r ≡ length xs → w ≡ xs ++ drop r out → Written 0 xs out w r
written_front xs out w r e f = (omega arith, f ∙ ap (λ (n : ℕ). xs ++ drop n out) e ∙ sym (spliced_front xs out))

pub front_written : (xs out w : List ℕ) (r : ℕ) → Written 0 xs out w r → (r ≡ length xs) × (w ≡ xs ++ drop r out)
front_written xs out w r written =
    let whole : length xs ≡ r = omega arith in
    (sym whole, written.1 ∙ spliced_front xs out ∙ ap (λ (n : ℕ). xs ++ drop n out) whole)

-- ---- rows, one after another

pub next_row : (i : ℕ) (f : ℕ → List ℕ) → rows (tabulate (suc i) f) ≡ rows (tabulate i f) ++ f i
unfolding rows tabulate
next_row zero f = append-nil (f zero)
next_row (suc i) f =
    ap (λ (l : List ℕ). f zero ++ l) (next_row i (λ j. f (suc j))) ∙ sym (append_assoc (f zero) (rows (tabulate i (λ j. f (suc j)))) (f (suc i)))

rows_grow : (i n : ℕ) (f : ℕ → List ℕ) → i ≤ n → length (rows (tabulate i f)) ≤ length (rows (tabulate n f))
unfolding rows tabulate
rows_grow zero n f h = omega arith
rows_grow (suc i) zero f h = absurd (omega arith)
rows_grow (suc i) (suc n) f h =
    omega (
      arith,
      length-append (f zero) (rows (tabulate i (λ j. f (suc j)))),
      length-append (f zero) (rows (tabulate n (λ j. f (suc j)))),
      rows_grow i n (λ j. f (suc j)) (omega arith),
    )

module _ (f : ℕ → List ℕ) (at : ℕ) (out : List ℕ) where
  pub no_rows : Written at (rows (tabulate 0 f)) out out at
  unfolding rows tabulate
  no_rows = written_none at out

  module _ (n : ℕ) (fits : Fits at (rows (tabulate n f)) out) (i : ℕ) (w : List ℕ) (end : ℕ) (first : Written at (rows (tabulate i f)) out w end) where
    pub rows_length : i ≤ n → length w ≡ length out
    rows_length h = written_length at out (rows (tabulate i f)) w end (omega (arith, rows_grow i n f h)) first

    module _ (h : i < n) where
      fits_next : Fits at (rows (tabulate i f) ++ f i) out
      fits_next = omega (arith, rows_grow (suc i) n f h, ap length (next_row i f))

      pub row_room : Fits end (f i) w
      row_room = fits_second at out (rows (tabulate i f)) (f i) fits_next w end first

      pub row_more : (w' : List ℕ) (end' : ℕ) → Written end (f i) w w' end' → Written at (rows (tabulate (i + 1) f)) out w' end'
      row_more w' end' second =
          rw (add-one, next_row i f) (written_both at out (rows (tabulate i f)) (f i) fits_next w end first w' end' second)

-- the same text by another name
pub written_as : (at : ℕ) (out w : List ℕ) (r : ℕ) {xs ys : List ℕ} → xs ≡ ys → Written at xs out w r → Written at ys out w r
written_as at out w r e written = subst (λ (t : List ℕ). Written at t out w r) e written

pub fits_as : (at : ℕ) (out : List ℕ) {xs ys : List ℕ} → xs ≡ ys → Fits at xs out → Fits at ys out
fits_as at out e fits = subst (λ (t : List ℕ). Fits at t out) e fits
