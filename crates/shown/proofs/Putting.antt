-- Texts put one behind the other, row by row in a loop, and by a test.
use mathlib.Core.Path.{◌≡◌, refl, sym, ap, ap₂, subst, ◌∙◌}
use mathlib.Core.Bool.{Bool, true, false}
use mathlib.Core.List.{List, [], ◌++◌}
use Prim.Native.Nat.{ℕ, ◌+◌, ◌≤◌}
use native.Mathlib.Omega.{arith}
use lib.ListN.{length}
use native.Mathlib.Numerals.{add-one}
use Rattle.laws.specs.Choose.{choose}
use Rattle.laws.specs.Rows.{tabulate, rows}
use Rattle.laws.proofs.Choose.{if_yes, if_no}
use Rattle.line.specs.Print.{spliced}
use Rattle.report.proofs.Writing.{written_none, fits_first, fits_second, written_both, next_row}
use Rattle.shown.specs.declared.writing.Text.{Text}
use Rattle.shown.specs.Puts.{Puts}

infixl 20 ◌then◌
pub puts_none : {t : Text} → Puts [] t t
puts_none {t} = record { written = λ fits. written_none t.end t.bytes.now; loan = refl }

module _ {old new : Text} {xs : List ℕ} where
  -- the same text by another name
  pub puts_as : {ys : List ℕ} → xs ≡ ys → Puts xs old new → Puts ys old new
  puts_as e put = subst (λ (text : List ℕ). Puts text old new) e put

  pub ◌then◌ : {ys : List ℕ} {last : Text} → Puts xs old new → Puts ys new last → Puts (xs ++ ys) old last
  ◌then◌ {ys} {last} first second =
      record {
        written = λ fits.
            let begun = first.written (fits_first old.end old.bytes.now xs ys fits) in
            written_both old.end old.bytes.now xs ys fits new.bytes.now new.end begun last.bytes.now last.end
            (second.written (fits_second old.end old.bytes.now xs ys fits new.bytes.now new.end begun));
        loan = second.loan ∙ first.loan;
      }

  module _ {t : Bool} (other : List ℕ) where
    pub puts_yes : t ≡ true → Puts xs old new → Puts (choose t xs other) old new
    puts_yes e put = puts_as (sym (if_yes xs other e)) put

    pub puts_no : t ≡ false → Puts xs old new → Puts (choose t other xs) old new
    puts_no e put = puts_as (sym (if_no other xs e)) put

-- a text from the front on, where it has room
pub from_outset : {text out : List ℕ} {old new : Text} → Puts text old new → old.end ≡ 0 → old.bytes.now ≡ out → length text ≤ length out
    → (new.end ≡ 0 + length text) × (new.bytes.now ≡ spliced 0 text out)
from_outset {text} {out} {old} {new} put e same fits =
    let written = put.written (omega (arith, ap length same)) in
    (omega arith, written.1 ∙ ap₂ (λ (n : ℕ) (l : List ℕ). spliced n text l) e same)

-- ---- rows, one after another

module _ (f : ℕ → List ℕ) where
  pub no_rows : {t : Text} → Puts (rows (tabulate 0 f)) t t
  unfolding rows tabulate
  no_rows = puts_none

  pub row_more : (i : ℕ) {old now next : Text} → Puts (rows (tabulate i f)) old now → Puts (f i) now next → Puts (rows (tabulate (i + 1) f)) old next
  row_more i first second = rw (add-one, next_row i f) (first then second)
