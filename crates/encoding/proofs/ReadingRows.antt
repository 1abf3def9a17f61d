-- Rows read one after another.
use Rattle.std.proofs.Common.{◌≡◌, ℕ, suc, ◌+◌, ◌*◌, ◌/◌, ◌<◌, ◌≤◌, List, [], ◌∷◌, length, get_or, drop, sym, ap, ◌∙◌, arith, length-drop, get_or-drop}
use Rattle.laws.specs.Rows.{tabulate}
use Rattle.encoding.specs.Rows.{row_in, row_at, rows_of}

number_later : (ns : List ℕ) (k j : ℕ) → j ≡ 4 + k → get_or ns j 0 ≡ get_or (drop 4 ns) k 0
number_later ns k j e = ap (λ (n : ℕ). get_or ns n 0) e ∙ sym (get_or-drop 4 ns k 0)

row_later : (ns : List ℕ) (r : ℕ) → row_at ns (suc r) ≡ row_at (drop 4 ns) r
unfolding row_at
row_later ns r =
    λ i. row_in (number_later ns (4 * r) (4 * suc r) (omega arith) i) (number_later ns (4 * r + 1) (4 * suc r + 1) (omega arith) i)
    (number_later ns (4 * r + 2) (4 * suc r + 2) (omega arith) i) (number_later ns (4 * r + 3) (4 * suc r + 3) (omega arith) i)

pub rows_next : (ns : List ℕ) → 4 ≤ length ns → rows_of ns ≡ row_in (get_or ns 0 0) (get_or ns 1 0) (get_or ns 2 0) (get_or ns 3 0) ∷ rows_of (drop 4 ns)
unfolding rows_of tabulate row_at
rows_next ns h =
    let n : length ns / 4 ≡ suc (length (drop 4 ns) / 4) = omega (arith, length-drop 4 ns) in
    ap (λ (k : ℕ). tabulate k (row_at ns)) n
    ∙ λ i. row_at ns 0 ∷ tabulate (length (drop 4 ns) / 4) (λ r. row_later ns r i)

pub rows_none : (ns : List ℕ) → length ns < 4 → rows_of ns ≡ []
unfolding rows_of tabulate
rows_none ns h = let n : length ns / 4 ≡ 0 = omega arith in ap (λ (k : ℕ). tabulate k (row_at ns)) n

pub ruleset rows_read = (rows_next, rows_none)
