-- Laws of rows of one width, laid end to end: each is one law over any width.
use mathlib.Core.Path.{◌≡◌, refl, sym, ap, ◌∙◌}
use mathlib.Core.List.{List, [], ◌∷◌, ◌++◌, map}
use Prim.Native.Nat.{ℕ, zero, suc, ◌+◌, ◌*◌, ◌≤◌, ◌<◌}
use native.Mathlib.Nat.{not-suc-le-zero, zero-add, mul-zero, mul-suc, mul-le-mul_left}
use native.Mathlib.Omega.{arith}
use lib.ListN.{length, get_or, set, length-append, get_or-append}
use lib.Seq.{sets, get_or-append-add}
use Rattle.laws.specs.Rows.{rows}
use Rattle.laws.proofs.Fit.{sets_left, sets_right, sets_whole}

-- every row has the width w
pub data AllWide {A : Type 0} (w : ℕ) : List (List A) → Type 0 where
  none : AllWide w []
  one : {r : List A} {rs : List (List A)} → length r ≡ w → AllWide w rs → AllWide w (r ∷ rs)

pub wide_map : {A B : Type 0} (w : ℕ) (f : A → List B) → ((a : A) → length (f a) ≡ w) → (xs : List A) → AllWide w (map f xs)
wide_map w f e [] = none
wide_map w f e (x ∷ xs) = one (e x) (wide_map w f e xs)

module _ {A : Type 0} {w : ℕ} where
  pub length_rows : (rs : List (List A)) → AllWide w rs → length (rows rs) ≡ w * length rs
  unfolding rows
  length_rows [] none = sym (mul-zero w)
  length_rows (r ∷ rs) (one e a) = length-append r (rows rs) ∙ (rw (length_rows rs a, mul-suc, e) (omega arith))

  -- element j of row i
  pub get_d_rows : (rs : List (List A)) → AllWide w rs → (i j : ℕ) (d : A) → j < w → get_or (rows rs) (w * i + j) d ≡ get_or (get_or rs i []) j d
  unfolding rows
  get_d_rows [] none i j d h = refl
  get_d_rows (r ∷ rs) (one e a) zero j d h =
      let l : j < length r = omega arith in
      ap (λ (k : ℕ). get_or (r ++ rows rs) k d) (rw (mul-zero, zero-add) refl) ∙ get_or-append r (rows rs) d j l
  get_d_rows (r ∷ rs) (one e a) (suc i) j d h =
      ap (λ (k : ℕ). get_or (r ++ rows rs) k d) (rw (mul-suc, e) (omega arith))
      ∙ get_or-append-add r (rows rs) (w * i + j) d
      ∙ get_d_rows rs a i j d h

  -- a row replaced
  pub sets_rows : (rs : List (List A)) → AllWide w rs → (i : ℕ) (r : List A) → i < length rs → length r ≡ w → sets (rows rs) (w * i) r ≡ rows (set rs i r)
  unfolding rows
  sets_rows [] none i v h l = absurd (not-suc-le-zero h)
  sets_rows (r ∷ rs) (one e a) zero v h l =
      ap (λ (k : ℕ). sets (r ++ rows rs) k v) (mul-zero w)
      ∙ sets_left r (rows rs) 0 v (omega arith)
      ∙ ap (λ (s : List A). s ++ rows rs) (sets_whole r v (omega arith))
  sets_rows (r ∷ rs) (one e a) (suc i) v h l =
      ap (λ (k : ℕ). sets (r ++ rows rs) k v) (rw (mul-suc, e) (omega arith))
      ∙ sets_right r (rows rs) (w * i) v
      ∙ ap (λ (s : List A). r ++ s) (sets_rows rs a i v (omega arith) l)

-- rows that stand between other elements
module _ {A : Type 0} {w : ℕ} (before : List A) (rs : List (List A)) (after : List A) (wide : AllWide w rs) (i : ℕ) (h : i < length rs) where
  row_ends : w * i + w ≤ length (rows rs)
  row_ends = rw (← mul-suc, length_rows rs wide) (mul-le-mul_left w h)

  -- element j of row i
  pub get_d_between : (k j : ℕ) (d : A) → k ≡ length before + (w * i + j) → j < w → get_or (before ++ (rows rs ++ after)) k d ≡ get_or (get_or rs i []) j d
  get_d_between k j d e l =
      ap (λ (k : ℕ). get_or (before ++ (rows rs ++ after)) k d) e
      ∙ get_or-append-add before (rows rs ++ after) (w * i + j) d
      ∙ get_or-append (rows rs) after d (w * i + j) (omega (arith, row_ends))
      ∙ get_d_rows rs wide i j d l

  -- row i replaced
  pub sets_between : (k : ℕ) (r : List A) → k ≡ length before + w * i → length r ≡ w
      → sets (before ++ (rows rs ++ after)) k r ≡ before ++ (rows (set rs i r) ++ after)
  sets_between k r e l =
      ap (λ (k : ℕ). sets (before ++ (rows rs ++ after)) k r) e
      ∙ sets_right before (rows rs ++ after) (w * i) r
      ∙ ap (λ (x : List A). before ++ x)
      (sets_left (rows rs) after (w * i) r (omega (arith, row_ends)) ∙ ap (λ (x : List A). x ++ after) (sets_rows rs wide i r h l))
