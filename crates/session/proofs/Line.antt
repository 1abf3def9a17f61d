-- What every line is: its numbers are of 32 bits, and more than 256 bytes are none.
use mathlib.Core.Path.{◌≡◌, refl}
use mathlib.Core.Bool.{Bool, true}
use mathlib.Core.List.{List, [], ◌∷◌}
use mathlib.Core.Option.{Option, none, some}
use Prim.Native.Nat.{ℕ, zero, suc, ◌≤◌, ◌<◌}
use native.Mathlib.Omega.{arith}
use lib.Dec.{leb}
use lib.ListN.{length, get_or, drop}
use borrow.Author.Tests.{le-leb, lt-leb, leb-true}
use Rattle.laws.specs.Choose.{choose}
use Rattle.laws.proofs.Choose.{if_no, choose_cases, and_both, both_and}
use Rattle.rules.specs.Numbers.{max_number}
use Rattle.rules.specs.Runs.{Request}
use Rattle.rules.specs.Fits.{call_fits}
use Rattle.rules.proofs.Waits.{wait_fits_lem}
use Rattle.line.specs.Line.{fields, is_number, are_numbers, numbers, request_of, line_of}

numbers_fit : (fs : List (List ℕ)) → are_numbers fs ≡ true → (i : ℕ) → get_or (numbers fs) i 0 ≤ max_number
unfolding are_numbers numbers is_number
numbers_fit [] e i = omega arith
numbers_fit (f ∷ fs) e zero = leb-true _ _ (and_both _ _ (and_both _ _ (and_both _ _ (and_both _ _ e).0).1).1).1
numbers_fit (f ∷ fs) e (suc i) = numbers_fit fs (and_both _ _ e).1 i

-- a request's call has numbers that a u32 holds
abbrev pub Fitting : Option Request → Type 0
Fitting none = Unit {0}
Fitting (some r) = call_fits r.call ≡ true

either : (t : Bool) (a b : Option Request) → Fitting a → Fitting b → Fitting (choose t a b)
either t a b f g = choose_cases Fitting t a b (λ _. f) (λ _. g)

request_fits : (word ns : List ℕ) → ((i : ℕ) → get_or ns i 0 ≤ max_number) → Fitting (request_of word ns)
unfolding request_of
request_fits word ns h =
    let n : (i : ℕ) → leb (get_or ns i 0) max_number ≡ true = λ i. le-leb (get_or ns i 0) max_number (h i) in
    let two = both_and (n 0) (n 1) in
    either _ _ _ (either _ _ _ (n 0) tt)
    (either _ _ _ (either _ _ _ (both_and (n 0) (both_and (n 1) (both_and (n 2) (both_and (n 3) (n 4))))) tt)
    (either _ _ _ (either _ _ _ (n 0) tt)
    (either _ _ _ (either _ _ _ two tt)
    (either _ _ _ (either _ _ _ (both_and (n 0) (both_and (n 1) (wait_fits_lem (get_or ns 2 0) (get_or ns 3 0) (h 3)))) tt)
    (either _ _ _ (either _ _ _ two tt)
    (either _ _ _ (either _ _ _ two tt)
    (either _ _ _ (either _ _ _ refl tt) tt)))))))

pub line_fits : (bs : List ℕ) → Fitting (line_of bs)
unfolding line_of
line_fits bs =
    choose_cases Fitting _ _ _ (λ e. request_fits _ _ (numbers_fit (drop 1 (fields bs)) (and_both _ _ e).1)) (λ _. tt)

pub too_long : (bs : List ℕ) → 256 < length bs → line_of bs ≡ none
unfolding line_of
too_long bs h = if_no _ _ (if_no _ _ (lt-leb (length bs) 256 h))
