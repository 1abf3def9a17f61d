-- The bytes that a report takes: a number has at most ten digits.
use mathlib.Core.Path.{◌≡◌, refl, ap, ◌∙◌}
use mathlib.Core.Bool.{true}
use mathlib.Core.List.{List, [], ◌∷◌, ◌++◌}
use Prim.Native.Nat.{ℕ, zero, suc, ◌+◌, ◌*◌, ◌≤◌}
use native.Mathlib.Nat.{mul-suc, mul-zero}
use native.Mathlib.Omega.{arith}
use lib.Dec.{leb, eqb}
use lib.ListN.{length, get_or, take, drop, length-append, length-take}
use borrow.Author.Tests.{eqb-true}
use Rattle.laws.specs.Choose.{choose}
use Rattle.laws.specs.Rows.{tabulate, rows}
use Rattle.laws.proofs.Choose.{choose_cases}
use Rattle.line.specs.Print.{decimal, answer_line}
use Rattle.line.proofs.Printing.{decimal_length, answer_length}
use Rattle.report.specs.Report.{spaced, paired, pair_text, line_text, pairs_text, locals_text, places_text, open_pairs, run_text, left_text, plain_text}
use Rattle.report.specs.Report.{report_text, report_room, Report, cells_word, locals_word, place_word, grants_word, open_word, plainly}
use Rattle.report.specs.Report.{serial_yes, serial_no, serial_open, is_serial}
use Rattle.report.proofs.Printing.{open_at, open_rows, open_none, locals_at, place_at}

pub digits : (n : ℕ) → length (decimal n) ≤ 10
digits n = omega (arith, decimal_length n 0, length-append (decimal n) (0 ∷ []))

pair_room : (a b : ℕ) → length (pair_text a b) ≤ 22
pair_room a b = omega (arith, length-append (32 ∷ decimal a) (58 ∷ decimal b), digits a, digits b)

pub spaced_room : (ns : List ℕ) → length (spaced ns) ≤ 11 * length ns
unfolding spaced
spaced_room [] = omega arith
spaced_room (n ∷ ns) = omega (arith, length-append (32 ∷ decimal n) (spaced ns), digits n, spaced_room ns)

paired_room : (ns : List ℕ) → length (paired ns) ≤ 11 * length ns
unfolding paired
paired_room [] = omega arith
paired_room (a ∷ []) = omega arith
paired_room (a ∷ b ∷ ns) = omega (arith, length-append (pair_text a b) (paired ns), pair_room a b, paired_room ns)

line_room : (word ns : List ℕ) → length (line_text word ns) ≤ length word + 11 * length ns + 1
unfolding line_text
line_room word ns = omega (arith, length-append (word ++ spaced ns) (10 ∷ []), length-append word (spaced ns), spaced_room ns)

pairs_room : (word ns : List ℕ) → length (pairs_text word ns) ≡ length word + length (paired ns) + 1
unfolding pairs_text
pairs_room word ns = omega (arith, length-append (word ++ paired ns) (10 ∷ []), length-append word (paired ns))

pub rows_room : (k n : ℕ) (f : ℕ → List ℕ) → ((i : ℕ) → length (f i) ≤ k) → length (rows (tabulate n f)) ≤ k * n
unfolding rows tabulate
rows_room k zero f h = omega (arith, mul-zero k)
rows_room k (suc n) f h =
    omega (
      arith,
      mul-suc k n,
      length-append (f zero) (rows (tabulate n (λ i. f (suc i)))),
      h zero,
      rows_room k n (λ i. f (suc i)) (λ i. h (suc i)),
    )

locals_room : (k : ℕ) (word : List ℕ) (n : ℕ) (locals : List ℕ) → length word + 100 ≤ k → length (locals_text word n locals) ≤ k * n
unfolding locals_text
locals_room k word n locals h =
    rows_room k n (locals_at word locals)
    (λ i. omega (arith, line_room word (suc i ∷ take 8 (drop (8 * i) locals)), length-take 8 (drop (8 * i) locals)))

places_room : (tasks places : List ℕ) → length (places_text tasks places) ≤ 39 * length tasks
unfolding places_text
places_room tasks places =
    rows_room 39 (length tasks) (place_at tasks places)
    (λ i. omega (arith, line_room place_word (get_or tasks i 0 ∷ get_or places (2 * i) 0 ∷ get_or places (2 * i + 1) 0 ∷ [])))

open_room : (tasks places : List ℕ) → length (paired (open_pairs tasks places)) ≤ 22 * length tasks
open_room tasks places =
    omega (
      arith,
      ap length (open_rows tasks places),
      rows_room 22 (length tasks) (open_at tasks places)
          (λ i. choose_cases (λ (t : List ℕ). length t ≤ 22) (leb 1 (get_or places (2 * i + 1) 0)) (pair_text (get_or tasks i 0) (get_or places (2 * i) 0)) []
          (λ _. pair_room (get_or tasks i 0) (get_or places (2 * i) 0)) (λ _. omega arith)),
    )

module _ (r : Report) where
  run_room :
      length (run_text r.answer r.count r.cells r.locals r.tasks r.places r.grants) ≤
      46 + 11 * length r.cells + 106 * r.count + 39 * length r.tasks + 11 * length r.grants
  unfolding run_text
  run_room =
      let a = answer_line r.answer in
      let b = line_text cells_word r.cells in
      let c = locals_text locals_word r.count r.locals in
      let d = places_text r.tasks r.places in
      let e = pairs_text grants_word r.grants in
      omega (
        arith,
        length-append (a ++ b ++ c ++ d) e,
        length-append (a ++ b ++ c) d,
        length-append (a ++ b) c,
        length-append a b,
        answer_length r.answer,
        line_room cells_word r.cells,
        locals_room 106 locals_word r.count r.locals (omega arith),
        places_room r.tasks r.places,
        pairs_room grants_word r.grants,
        paired_room r.grants,
      )

  plain_room :
      length (plain_text r.count r.cells r.locals r.plain_cells r.plain_locals) ≤
      24 + 11 * length r.plain_cells + 112 * r.count
  unfolding plain_text
  plain_room =
      let a = line_text (plainly cells_word) r.plain_cells in
      let b = locals_text (plainly locals_word) r.count r.plain_locals in
      let serial = is_serial r.cells r.locals r.plain_cells r.plain_locals in
      let c = choose serial serial_yes serial_no in
      let short : length c ≤ 11 = choose_cases (λ (t : List ℕ). length t ≤ 11) serial serial_yes serial_no (λ _. omega arith) (λ _. omega arith) in
      omega (
        arith,
        length-append (a ++ b) c,
        length-append a b,
        line_room (plainly cells_word) r.plain_cells,
        locals_room 112 (plainly locals_word) r.count r.plain_locals (omega arith),
      )

  pub report_room_lem :
      length (report_text r) ≤
      report_room (length r.cells) r.count (length r.tasks) (length r.grants) (length r.plain_cells)
  unfolding report_text left_text
  report_room_lem =
      let run = run_text r.answer r.count r.cells r.locals r.tasks r.places r.grants in
      let pairs = open_pairs r.tasks r.places in
      let plain = plain_text r.count r.cells r.locals r.plain_cells r.plain_locals in
      let room =
      report_room (length r.cells) r.count (length r.tasks) (length r.grants) (length r.plain_cells) in
      choose_cases (λ (t : List ℕ). length (run ++ pairs_text open_word pairs ++ t) ≤ room) (eqb (length pairs) 0) plain serial_open
      (λ none.
      let same : eqb 0 (0 + length (paired pairs)) ≡ true = open_none r.tasks r.places 0 (0 + length (paired pairs)) refl ∙ none in
      omega (
        arith,
        eqb-true 0 (0 + length (paired pairs)) same,
        length-append (run ++ pairs_text open_word pairs) plain,
        length-append run (pairs_text open_word pairs),
        pairs_room open_word pairs,
        run_room,
        plain_room,
      ))
      (λ some. omega (
        arith,
        length-append (run ++ pairs_text open_word pairs) serial_open,
        length-append run (pairs_text open_word pairs),
        pairs_room open_word pairs,
        open_room r.tasks r.places,
        run_room,
      ))

-- what the program lends is enough
pub lent_room : (cells n tasks grants plain_cells : ℕ) → cells ≤ 1024 → n ≤ 32 → tasks ≤ 8192 → grants ≤ 512 → plain_cells ≤ 1024
    → report_room cells n tasks grants plain_cells ≤ 524288
lent_room cells n tasks grants plain_cells a b c d e = omega arith
