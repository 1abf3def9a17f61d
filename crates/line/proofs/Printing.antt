-- Decimal digits from the back, and text written over a list.
use mathlib.Core.Path.{◌≡◌, refl, sym, ap, ◌∙◌}
use mathlib.Core.List.{List, [], ◌∷◌, ◌++◌, append_assoc, append-nil}
use Prim.Native.Nat.{ℕ, zero, suc, ◌+◌, ◌-◌, ◌/◌, ◌%◌, ◌^◌, ◌≤◌, ◌<◌}
use native.Mathlib.Nat.{pow-succ', zero-add, le_refl}
use native.Mathlib.Omega.{arith}
use lib.Dec.{leb}
use lib.ListN.{length, take, drop, set, length-append, length-drop, length-set}
use lib.Seq.{paste, take_all, take-length, take_at, drop-cons, drop-drop, drop-set-lt, get_or-set_same, length-take-le, drop-append-add}
use Rattle.std.specs.Fmt.{decimal as written}
use Rattle.std.proofs.lemmas.Fmt.{PrependsLastDigit, decimal_from_prepends, length-decimal-le}
use Rattle.laws.specs.Choose.{choose}
use Rattle.laws.proofs.Choose.{choose_cases, choose_map, if_le, if_not_le}
use Rattle.line.specs.Print.{digits_before, decimal, answer_line, spliced}
use Rattle.rules.specs.declared.Answer.{Answer}

-- ---- digits

prepends : PrependsLastDigit digits_before
unfolding digits_before
prepends = record {
  one = λ k n acc h. if_le n 9 _ _ (omega arith) ∙ ap (λ (d : ℕ). (48 + d) ∷ acc) (omega arith);
  more = λ k n acc h. if_not_le n 9 _ _ (omega arith);
}

-- the digits are those that the library writes
pub decimal_is : (n : ℕ) → n < 2 ^ 32 → written n ≡ decimal n
unfolding decimal
decimal_is n h =
    let small : n < 2 ^ 64 = omega arith in
    let few : length (written n) ≤ 10 = length-decimal-le 10 n (omega arith) (omega arith) small in
    sym (decimal_from_prepends digits_before prepends 10 n [] small few ∙ append-nil (written n))

-- ---- the digits from the back

module _ (fuel n : ℕ) (after : List ℕ) where
  last_digit : n ≤ 9 → digits_before (suc fuel) n after ≡ (48 + n % 10) ∷ after
  unfolding digits_before
  last_digit h = if_le n 9 ((48 + n % 10) ∷ after) (digits_before fuel (n / 10) ((48 + n % 10) ∷ after)) h

  more_digits : 9 < n → digits_before (suc fuel) n after ≡ digits_before fuel (n / 10) ((48 + n % 10) ∷ after)
  unfolding digits_before
  more_digits h = if_not_le n 9 ((48 + n % 10) ∷ after) (digits_before fuel (n / 10) ((48 + n % 10) ∷ after)) h

pub digits_append : (fuel n : ℕ) (xs ys : List ℕ) → digits_before fuel n xs ++ ys ≡ digits_before fuel n (xs ++ ys)
unfolding digits_before
digits_append zero n xs ys = refl
digits_append (suc fuel) n xs ys =
    choose_map (λ (l : List ℕ). l ++ ys) (leb n 9) ((48 + n % 10) ∷ xs) (digits_before fuel (n / 10) ((48 + n % 10) ∷ xs))
    ∙ ap (λ (l : List ℕ). choose (leb n 9) ((48 + n % 10) ∷ xs ++ ys) l) (digits_append fuel (n / 10) ((48 + n % 10) ∷ xs) ys)

-- there is room for as many digits as a number below a power of ten has
pub room : (from rest : ℕ) → rest < 10 ^ from → 9 < rest → 2 ≤ from
room zero rest h more = omega arith
room (suc zero) rest h more = omega arith
room (suc (suc k)) rest h more = omega arith

pub room_left : (from rest : ℕ) → 1 ≤ from → rest < 10 ^ from → rest / 10 < 10 ^ (from - 1)
room_left zero rest one h = omega arith
room_left (suc k) rest one h =
    let s : suc k - 1 ≡ k = omega arith in
    rw s (omega (arith, pow-succ' 10 k))

-- ---- a digit stored before the text so far

stored : (bytes : List ℕ) (k b : ℕ) → k < length bytes → drop k (set bytes k b) ≡ b ∷ drop (suc k) bytes
stored bytes k b h =
    drop-cons (set bytes k b) k 0 (rw length-set h)
    ∙ rw (get_or-set_same bytes k b 0, drop-set-lt (suc k) bytes k b (le_refl (suc k)))

module _ (bytes : List ℕ) (rest : ℕ) where
  pub text_more : (from : ℕ) → 1 ≤ from → from ≤ length bytes → 9 < rest
      → digits_before from rest (drop from bytes) ≡ digits_before (from - 1) (rest / 10) (drop (from - 1) (set bytes (from - 1) (48 + rest % 10)))
  text_more zero one h more = absurd (omega arith)
  text_more (suc k) one h more =
      let s : suc k - 1 ≡ k = omega arith in
      let b : ℕ = 48 + rest % 10 in
      more_digits k rest (drop (suc k) bytes) more
      ∙ ap (digits_before k (rest / 10)) (sym (stored bytes k b (omega arith)))
      ∙ sym (ap (λ (j : ℕ). digits_before j (rest / 10) (drop j (set bytes j b))) s)

  pub text_over : (from : ℕ) → 1 ≤ from → from ≤ length bytes → rest ≤ 9
      → digits_before from rest (drop from bytes) ≡ drop (from - 1) (set bytes (from - 1) (48 + rest))
  text_over zero one h last = absurd (omega arith)
  text_over (suc k) one h last =
      let s : suc k - 1 ≡ k = omega arith in
      let d : rest % 10 ≡ rest = omega arith in
      last_digit k rest (drop (suc k) bytes) last
      ∙ ap (λ (r : ℕ). (48 + r) ∷ drop (suc k) bytes) d
      ∙ sym (stored bytes k (48 + rest) (omega arith))
      ∙ sym (ap (λ (j : ℕ). drop j (set bytes j (48 + rest))) s)

-- the part of the bytes from where the text begins
pub part_is : (bytes text : List ℕ) (from : ℕ) → drop from bytes ≡ text → take (length bytes - from) (drop from bytes) ≡ text
part_is bytes text from e = take_all (length bytes - from) (drop from bytes) (omega (arith, length-drop from bytes)) ∙ e

-- a number's digits without the byte that ends them
pub digits_part : (bytes : List ℕ) (v end from : ℕ) → length bytes ≡ 11 → from ≤ 10 → drop from bytes ≡ decimal v ++ end ∷ []
    → take (10 - from) (drop from bytes) ≡ decimal v
digits_part bytes v end from n h e =
    let l : length (decimal v) ≡ 10 - from = omega (arith, ap length e, length-append (decimal v) (end ∷ []), length-drop from bytes) in
    ap (λ (t : List ℕ). take (10 - from) t) e ∙ take_at (decimal v) (end ∷ []) (10 - from) l

-- ---- text written over a list

module _ {A : Type 0} (at : ℕ) (xs out : List A) where
  pub spliced_paste : paste out at xs (length xs) ≡ spliced at xs out
  unfolding spliced
  spliced_paste = ap (λ (l : List A). take at out ++ l ++ drop (at + length xs) out) (take-length xs)

  module _ (fits : at + length xs ≤ length out) where
    head_length : length (take at out ++ xs) ≡ at + length xs
    head_length = length-append (take at out) xs ∙ ap (λ (n : ℕ). n + length xs) (length-take-le at out (omega arith))

    pub length_spliced : length (spliced at xs out) ≡ length out
    unfolding spliced
    length_spliced =
        length-append (take at out ++ xs) (drop (at + length xs) out)
        ∙ omega (arith, head_length, length-drop (at + length xs) out)

    -- one text, and another where it ends
    pub spliced_twice : (ys : List A) → spliced (at + length xs) ys (spliced at xs out) ≡ spliced at (xs ++ ys) out
    unfolding spliced
    spliced_twice ys =
        let head : List A = take at out ++ xs in
        let end : ℕ = at + length xs in
        let taken : take end (head ++ drop end out) ≡ head = take_at head (drop end out) end head_length in
        let dropped : drop (end + length ys) (head ++ drop end out) ≡ drop (end + length ys) out =
        ap (λ (n : ℕ). drop (n + length ys) (head ++ drop end out)) (sym head_length)
        ∙ drop-append-add head (drop end out) (length ys)
        ∙ drop-drop (length ys) end out in
        let grown : at + length (xs ++ ys) ≡ end + length ys = omega (arith, length-append xs ys) in
        rw (taken, dropped, grown, append_assoc (take at out) xs ys)

pub spliced_front : {A : Type 0} (xs out : List A) → spliced 0 xs out ≡ xs ++ drop (length xs) out
unfolding spliced
spliced_front xs out = ap (λ (n : ℕ). xs ++ drop n out) (zero-add (length xs))

-- a second text behind the first, with the places that the code has
pub one_more :
    (at : ℕ) (xs ys out written written' : List ℕ) (end end' : ℕ)
    → at + length xs ≤ length out
    → (end ≡ at + length xs) × (written ≡ spliced at xs out)
    → (end' ≡ end + length ys) × (written' ≡ spliced end ys written)
    → (end' ≡ at + length (xs ++ ys)) × (written' ≡ spliced at (xs ++ ys) out)
one_more at xs ys out written written' end end' fits first second = (
  omega (arith, length-append xs ys),
  second.1
      ∙ ap (λ (w : List ℕ). spliced end ys w) first.1
      ∙ ap (λ (n : ℕ). spliced n ys (spliced at xs out)) first.0
      ∙ spliced_twice at xs out fits ys,
)

-- a number's text has at most ten digits and its end
digits_length : (fuel n : ℕ) (xs : List ℕ) → length (digits_before fuel n xs) ≤ fuel + length xs
unfolding digits_before
digits_length zero n xs = omega arith
digits_length (suc fuel) n xs =
    choose_cases (λ (l : List ℕ). length l ≤ suc fuel + length xs) (leb n 9) ((48 + n % 10) ∷ xs) (digits_before fuel (n / 10) ((48 + n % 10) ∷ xs))
    (λ _. omega arith)
    (λ _. omega (arith, digits_length fuel (n / 10) ((48 + n % 10) ∷ xs)))

pub decimal_length : (n end : ℕ) → length (decimal n ++ end ∷ []) ≤ 11
unfolding decimal
decimal_length n end = omega (arith, length-append (digits_before 10 n []) (end ∷ []), digits_length 10 n [])

-- the three texts of an answer, one behind the other
pub three_texts : (a : Answer) → (decimal a.status ++ 32 ∷ []) ++ (decimal a.value ++ 32 ∷ []) ++ (decimal a.next ++ 10 ∷ []) ≡ answer_line a
unfolding answer_line
three_texts a = simp append_assoc

-- so an answer is at most 33 bytes
pub answer_length : (a : Answer) → length (answer_line a) ≤ 33
answer_length a =
    omega (
      arith,
      ap length (three_texts a),
      length-append ((decimal a.status ++ 32 ∷ []) ++ (decimal a.value ++ 32 ∷ [])) (decimal a.next ++ 10 ∷ []),
      length-append (decimal a.status ++ 32 ∷ []) (decimal a.value ++ 32 ∷ []),
      decimal_length a.status 32,
      decimal_length a.value 32,
      decimal_length a.next 10,
    )

-- an answer's three numbers, each written where the one before it ends
pub answer_written :
    (a : Answer) (out o₁ o₂ o₃ : List ℕ) (r₁ r₂ r₃ : ℕ)
    → 33 ≤ length out
    → (r₁ ≡ 0 + length (decimal a.status ++ 32 ∷ [])) × (o₁ ≡ spliced 0 (decimal a.status ++ 32 ∷ []) out)
    → (r₂ ≡ r₁ + length (decimal a.value ++ 32 ∷ [])) × (o₂ ≡ spliced r₁ (decimal a.value ++ 32 ∷ []) o₁)
    → (r₃ ≡ r₂ + length (decimal a.next ++ 10 ∷ [])) × (o₃ ≡ spliced r₂ (decimal a.next ++ 10 ∷ []) o₂)
    → (r₃ ≡ length (answer_line a)) × (o₃ ≡ answer_line a ++ drop r₃ out)
answer_written a out o₁ o₂ o₃ r₁ r₂ r₃ fits status value next =
    let first_text : List ℕ = decimal a.status ++ 32 ∷ [] in
    let second_text : List ℕ = decimal a.value ++ 32 ∷ [] in
    let third_text : List ℕ = decimal a.next ++ 10 ∷ [] in
    let s = decimal_length a.status 32 in
    let v = decimal_length a.value 32 in
    let two = one_more 0 first_text second_text out o₁ o₂ r₁ r₂ (omega arith) status value in
    let three = one_more 0 (first_text ++ second_text) third_text out o₂ o₃ r₂ r₃ (omega (arith, length-append first_text second_text)) two next in
    let whole : length (first_text ++ second_text ++ third_text) ≡ r₃ = omega arith in (
      sym whole ∙ ap length (three_texts a),
      three.1 ∙ spliced_front (first_text ++ second_text ++ third_text) out ∙ ap
          (λ (n : ℕ). (first_text ++ second_text ++ third_text) ++ drop n out) whole ∙ ap (λ (t : List ℕ). t ++ drop r₃ out) (three_texts a),
    )
