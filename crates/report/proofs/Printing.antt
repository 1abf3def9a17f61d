-- The lines of a report row by row, as the loops write them.
use mathlib.Core.Path.{◌≡◌, refl, sym, ap, ◌∙◌}
use mathlib.Core.Bool.{Bool, true, false}
use mathlib.Core.List.{List, [], ◌∷◌, ◌++◌, append_assoc}
use Prim.Native.Nat.{ℕ, zero, suc, ◌+◌, ◌-◌, ◌*◌, ◌/◌, ◌≤◌}
use native.Mathlib.Numerals.{add-one}
use native.Mathlib.Omega.{arith}
use lib.Dec.{leb, eqb}
use lib.ListN.{length, get_or, take, drop}
use lib.Seq.{drop-cons}
use borrow.Author.Tests.{eq-eqb, ne_eqb}
use Rattle.laws.specs.Choose.{choose}
use Rattle.laws.specs.Rows.{tabulate, rows}
use Rattle.laws.proofs.Fit.{tabulate_same}
use Rattle.line.specs.Print.{decimal}
use Rattle.report.specs.Report.{spaced, paired, pair_text, line_text, open_pairs, place_word}

abbrev pub number_at : List ℕ → ℕ → List ℕ
number_at ns i = 32 ∷ decimal (get_or ns i 0)

pub spaced_rows : (ns : List ℕ) → rows (tabulate (length ns) (number_at ns)) ≡ spaced ns
unfolding spaced rows tabulate
spaced_rows [] = refl
spaced_rows (n ∷ ns) = ap (λ (t : List ℕ). 32 ∷ decimal n ++ t) (spaced_rows ns)

abbrev pub pair_at : List ℕ → ℕ → List ℕ
pair_at ns i = pair_text (get_or ns (2 * i) 0) (get_or ns (2 * i + 1) 0)

pub paired_rows : (ns : List ℕ) → rows (tabulate (length ns / 2) (pair_at ns)) ≡ paired ns
unfolding paired rows tabulate
paired_rows [] = refl
paired_rows (a ∷ []) = refl
paired_rows (a ∷ b ∷ ns) =
    let half : suc (suc (length ns)) / 2 ≡ suc (length ns / 2) = omega arith in
    let next : (i : ℕ) → pair_at (a ∷ b ∷ ns) (suc i) ≡ pair_at ns i =
    λ i. let even : 2 * suc i ≡ suc (suc (2 * i)) = omega arith in
    let odd : 2 * suc i + 1 ≡ suc (suc (2 * i + 1)) = omega arith in
    rw (odd, even) refl in
    ap (λ (n : ℕ). rows (tabulate n (pair_at (a ∷ b ∷ ns)))) half
    ∙ ap (λ (ts : List (List ℕ)). pair_text a b ++ rows ts)
    (tabulate_same (length ns / 2) (λ i. pair_at (a ∷ b ∷ ns) (suc i)) (pair_at ns) (λ i h. next i))
    ∙ ap (λ (t : List ℕ). pair_text a b ++ t) (paired_rows ns)

-- ---- the lines of tasks and scripts

pub task_line_lem : (word : List ℕ) (task : ℕ) (ns : List ℕ) → word ++ 32 ∷ decimal task ++ spaced ns ++ 10 ∷ [] ≡ line_text word (task ∷ ns)
unfolding line_text spaced
task_line_lem word task ns = ap (λ (t : List ℕ). t ++ 10 ∷ []) (append_assoc word (32 ∷ decimal task) (spaced ns))

abbrev pub locals_at : List ℕ → List ℕ → ℕ → List ℕ
locals_at word locals i = line_text word (suc i ∷ take 8 (drop (8 * i) locals))

-- as the code cuts a task's locals out
pub locals_row : (word locals : List ℕ) (i : ℕ) → line_text word ((i + 1) ∷ take (8 * i + 8 - 8 * i) (drop (8 * i) locals)) ≡ locals_at word locals i
locals_row word locals i = let eight : 8 * i + 8 - 8 * i ≡ 8 = omega arith in rw (eight, add-one) refl

abbrev pub place_at : List ℕ → List ℕ → ℕ → List ℕ
place_at tasks places i = line_text place_word (get_or tasks i 0 ∷ get_or places (2 * i) 0 ∷ get_or places (2 * i + 1) 0 ∷ [])

pub two_at : (ns : List ℕ) (k : ℕ) → k + 2 ≤ length ns → take (k + 2 - k) (drop k ns) ≡ get_or ns k 0 ∷ get_or ns (k + 1) 0 ∷ []
two_at ns k h =
    let two : k + 2 - k ≡ 2 = omega arith in
    rw (two, add-one, drop-cons ns k 0 (omega arith), drop-cons ns (suc k) 0 (omega arith)) refl

pub place_row_lem : (tasks places : List ℕ) (i : ℕ) → 2 * i + 2 ≤ length places
    → line_text place_word (get_or tasks i 0 ∷ take (2 * i + 2 - 2 * i) (drop (2 * i) places)) ≡ place_at tasks places i
place_row_lem tasks places i h = ap (λ (ns : List ℕ). line_text place_word (get_or tasks i 0 ∷ ns)) (two_at places (2 * i) h)

-- ---- the sections open

abbrev pub open_at : List ℕ → List ℕ → ℕ → List ℕ
open_at tasks places i = choose (leb 1 (get_or places (2 * i + 1) 0)) (pair_text (get_or tasks i 0) (get_or places (2 * i) 0)) []

-- pairs of the numbers at which a test holds
module _ where
  abbrev those : (ℕ → Bool) → (ℕ → ℕ) → (ℕ → ℕ) → ℕ → List ℕ
  those p a b i = choose (p i) (a i ∷ b i ∷ []) []

  first_pair : (t : Bool) (a b : ℕ) (ns : List ℕ) → choose t (pair_text a b) [] ++ paired ns ≡ paired (choose t (a ∷ b ∷ []) [] ++ ns)
  unfolding choose paired
  first_pair true a b ns = refl
  first_pair false a b ns = refl

  those_paired : (n : ℕ) (p : ℕ → Bool) (a b : ℕ → ℕ)
      → rows (tabulate n (λ i. choose (p i) (pair_text (a i) (b i)) [])) ≡ paired (rows (tabulate n (those p a b)))
  unfolding rows tabulate paired
  those_paired zero p a b = refl
  those_paired (suc n) p a b =
      ap (λ (t : List ℕ). choose (p zero) (pair_text (a zero) (b zero)) [] ++ t) (those_paired n (λ i. p (suc i)) (λ i. a (suc i)) (λ i. b (suc i)))
      ∙ first_pair (p zero) (a zero) (b zero) (rows (tabulate n (those (λ i. p (suc i)) (λ i. a (suc i)) (λ i. b (suc i)))))

  -- no text is written just if there is none
  none_first : (t : Bool) (a b x : ℕ) (ns : List ℕ) → eqb x (x + length (paired ns)) ≡ eqb (length ns) 0
      → eqb x (x + length (paired (choose t (a ∷ b ∷ []) [] ++ ns))) ≡ eqb (length (choose t (a ∷ b ∷ []) [] ++ ns)) 0
  unfolding choose paired
  none_first true a b x ns e =
      let some : 1 ≤ length (pair_text a b ++ paired ns) = omega arith in
      ne_eqb x (x + length (pair_text a b ++ paired ns)) (λ s. omega arith) ∙ sym (ne_eqb (suc (suc (length ns))) 0 (λ s. omega arith))
  none_first false a b x ns e = e

  those_none : (n : ℕ) (p : ℕ → Bool) (a b : ℕ → ℕ) (x : ℕ)
      → eqb x (x + length (paired (rows (tabulate n (those p a b))))) ≡ eqb (length (rows (tabulate n (those p a b)))) 0
  unfolding rows tabulate
  those_none zero p a b x = eq-eqb x (x + length (paired [])) (unfold paired in omega arith) ∙ sym (eq-eqb 0 0 refl)
  those_none (suc n) p a b x =
      none_first (p zero) (a zero) (b zero) x (rows (tabulate n (those (λ i. p (suc i)) (λ i. a (suc i)) (λ i. b (suc i)))))
      (those_none n (λ i. p (suc i)) (λ i. a (suc i)) (λ i. b (suc i)) x)

module _ (tasks places : List ℕ) where
  pub open_rows : rows (tabulate (length tasks) (open_at tasks places)) ≡ paired (open_pairs tasks places)
  unfolding open_pairs
  open_rows = those_paired (length tasks) (λ i. leb 1 (get_or places (2 * i + 1) 0)) (λ i. get_or tasks i 0) (λ i. get_or places (2 * i) 0)

  pub open_none : (x end : ℕ) → end ≡ x + length (paired (open_pairs tasks places)) → eqb x end ≡ eqb (length (open_pairs tasks places)) 0
  unfolding open_pairs
  open_none x end e =
      ap (eqb x) e ∙ those_none (length tasks) (λ i. leb 1 (get_or places (2 * i + 1) 0)) (λ i. get_or tasks i 0) (λ i. get_or places (2 * i) 0) x
