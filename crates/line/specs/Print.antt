-- Document 01, "The session program": the answer line, `status value next`, or `bad`.
use Rattle.std.specs.Prelude.{List, [], ◌∷◌, ◌++◌, ℕ, zero, suc, ◌+◌, ◌/◌, ◌%◌, leb, length, take, drop, codes}
use Rattle.laws.specs.Choose.{choose}
use Rattle.rules.specs.declared.Answer.{Answer}

-- decimal digits in front of what follows: at most as many as `fuel` says
unfoldable pub digits_before : ℕ → ℕ → List ℕ → List ℕ
digits_before zero n after = after
digits_before (suc fuel) n after =
    let here = (48 + n % 10) ∷ after in
    let more = digits_before fuel (n / 10) here in
    choose (leb n 9) here more

-- a number of 32 bits in decimal: ten digits are enough
unfoldable pub decimal : ℕ → List ℕ
decimal n = digits_before 10 n []

unfoldable pub answer_line : Answer → List ℕ
answer_line a = decimal a.status ++ 32 ∷ decimal a.value ++ 32 ∷ decimal a.next ++ 10 ∷ []

abbrev pub bad_line : List ℕ
bad_line = codes "bad\n"

-- a list with `xs` written over it at `at`
unfoldable pub spliced : {A : Type 0} → ℕ → List A → List A → List A
spliced at xs out = take at out ++ xs ++ drop (at + length xs) out
