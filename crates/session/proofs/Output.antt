-- What is said to a line, and its text at its place in the output.
use mathlib.Core.Path.{◌≡◌, refl, sym, ap, ap₂, subst, ◌∙◌}
use mathlib.Core.List.{List, [], ◌++◌, append_assoc, append-nil}
use mathlib.Core.Option.{Option, none, some}
use Prim.Native.Nat.{ℕ, ◌+◌, ◌-◌, ◌≤◌, ◌<◌, min}
use native.Mathlib.Omega.{arith}
use lib.ListN.{length, take, drop, length-append, length-drop, take-append-drop}
use lib.Seq.{take_all, take_at, drop-length, drop-drop, length-take-le}
use Rattle.std.proofs.lemmas.List.{take_min}
use Rattle.laws.proofs.Choose.{if_le, if_not_le}
use Rattle.rules.specs.declared.Answer.{Answer}
use Rattle.rules.specs.declared.Call.{Call}
use Rattle.rules.specs.Runs.{Request}
use Rattle.manager.specs.Entry.{Replied, reply_to}
use Rattle.line.specs.Line.{line_of}
use Rattle.line.specs.Print.{answer_line, bad_line, spliced}
use Rattle.session.specs.Kept.{Kept, Response, response_to, respond, end_line}
use Rattle.session.specs.Feeding.{Writes}

-- ---- responses

pub respond_is : (bs line : List ℕ) {x : Option Request} → line_of line ≡ x → respond bs line ≡ response_to bs x
unfolding respond
respond_is bs line e = ap (response_to bs) e

module _ (k : Kept) where
  pub end_few : k.begun ≤ 256 → end_line k ≡ respond k.bytes (take k.begun k.line)
  unfolding end_line
  end_few h = if_le k.begun 256 _ _ h

  pub end_many : 256 < k.begun → end_line k ≡ response_to k.bytes none
  unfolding end_line
  end_many h = if_not_le k.begun 256 _ _ h

-- ---- text over an output

module _ (at : ℕ) (xs out : List ℕ) (fits : at ≤ length out) where
  front_length : length (take at out ++ xs) ≡ at + length xs
  front_length = length-append (take at out) xs ∙ ap (λ (n : ℕ). n + length xs) (length-take-le at out fits)

  pub front : take (at + length xs) (spliced at xs out) ≡ take at out ++ xs
  unfolding spliced
  front = take_at (take at out ++ xs) (drop (at + length xs) out) (at + length xs) front_length

  -- an output that keeps its length has room for it
  pub spliced_fits : (out' : List ℕ) → length out' ≡ length out → out' ≡ spliced at xs out → at + length xs ≤ length out
  unfolding spliced
  spliced_fits out' h e =
      omega (
        arith,
        ap length e,
        length-append (take at out ++ xs) (drop (at + length xs) out),
        front_length,
        length-drop (at + length xs) out,
      )

pub unspliced : (at : ℕ) (out : List ℕ) → spliced at [] out ≡ out
unfolding spliced
unspliced at out =
    let none_more : at + 0 ≡ at = omega arith in
    ap₂ (λ (l : List ℕ) (n : ℕ). l ++ drop n out) (append-nil (take at out)) none_more ∙ take-append-drop at out

-- what is written at the front of the rest of the output is written at its place
module _ (at : ℕ) (xs out part : List ℕ) (k n : ℕ) (rest : k ≡ length out - at) (is : n ≡ length xs)
    (written : part ≡ xs ++ drop n (take k (drop at out))) where
  whole_rest : take k (drop at out) ≡ drop at out
  whole_rest = take_all k (drop at out) (omega (arith, length-drop at out))

  part_is : part ≡ xs ++ drop (at + length xs) out
  part_is =
      written
      ∙ ap (λ (j : ℕ). xs ++ drop j (take k (drop at out))) is
      ∙ ap (λ (l : List ℕ). xs ++ drop (length xs) l) whole_rest
      ∙ ap (λ (l : List ℕ). xs ++ l) (drop-drop (length xs) at out)

  pub written_at : take at out ++ (part ++ drop k (drop at out)) ≡ spliced at xs out
  unfolding spliced
  written_at =
      let all : k ≡ length (drop at out) = rest ∙ sym (length-drop at out) in
      ap (λ (j : ℕ). take at out ++ (part ++ drop j (drop at out))) all
      ∙ ap (λ (l : List ℕ). take at out ++ (part ++ l)) (drop-length (drop at out))
      ∙ ap (λ (l : List ℕ). take at out ++ l) (append-nil part ∙ part_is)
      ∙ sym (append_assoc (take at out) xs (drop (at + length xs) out))

  -- and is within the output
  pub written_fits : length part ≡ length (take k (drop at out)) → at ≤ length out → at + length xs ≤ length out
  written_fits h l =
      omega (
        arith,
        ap length part_is,
        length-append xs (drop (at + length xs) out),
        ap length whole_rest,
        length-drop at out,
        length-drop (at + length xs) out,
      )

-- ---- a response that is written

module _ {at end : ℕ} {before out : List ℕ} where
  pub writes_same : {s s' : Response} {bs : List ℕ} → s ≡ s' → Writes s at end bs before out → Writes s' at end bs before out
  writes_same {bs = bs} e w = subst (λ (s : Response). Writes s at end bs before out) e w

  pub writes_bad : {s : Response} (bs : List ℕ) → s ≡ response_to bs none → end ≡ at + 4 → out ≡ spliced at bad_line before
      → Writes s at end bs before out
  writes_bad bs e f g = writes_same (sym e) (record { bytes = refl; ends = f; output = g })

  pub writes_asked :
      (bs line : List ℕ) (call : Call) (priorities : List ℕ) (r : Answer) (after : List ℕ)
      → line_of line ≡ some (record { call = call; priorities = priorities })
      → Replied r after (reply_to bs call priorities)
      → end ≡ at + length (answer_line r)
      → out ≡ spliced at (answer_line r) before
      → Writes (respond bs line) at end after before out
  writes_asked bs line call priorities r after l d f g =
      writes_same (sym (respond_is bs line l)) (record {
        bytes = d.bytes;
        ends = f ∙ ap (λ (x : Answer). at + length (answer_line x)) d.answer;
        output = g ∙ ap (λ (x : Answer). spliced at (answer_line x) before) d.answer;
      })

-- the first `count` of the numbers behind the first, or all of them
pub behind_first : (numbers : List ℕ) (k n count : ℕ) → length numbers ≤ k + 1 → n ≡ min count (length (take k (drop 1 numbers)))
    → take n (take k (drop 1 numbers)) ≡ take count (drop 1 numbers)
behind_first numbers k n count h e =
    let all : take k (drop 1 numbers) ≡ drop 1 numbers = take_all k (drop 1 numbers) (omega (arith, length-drop 1 numbers)) in
    ap (λ (j : ℕ). take j (take k (drop 1 numbers))) e
    ∙ ap (λ (l : List ℕ). take (min count (length l)) l) all
    ∙ take_min count (drop 1 numbers)

-- the same priorities
pub replied_same : (bs : List ℕ) (call : Call) {p q : List ℕ} → p ≡ q → {r : Answer} {after : List ℕ}
    → Replied r after (reply_to bs call p) → Replied r after (reply_to bs call q)
replied_same bs call e {r} {after} d = subst (λ (p : List ℕ). Replied r after (reply_to bs call p)) e d
