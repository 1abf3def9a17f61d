use mathlib.Core.List.{List, ◌++◌, ◌∷◌, []}
use mathlib.Core.Path.{◌≡◌, refl, sym, ap, ◌∙◌}
use Prim.Native.Nat.{ℕ, suc, ◌-◌, ◌+◌}
use native.Mathlib.Numerals.{add-one}
use native.Mathlib.Omega.{arith}
use lib.ListN.{get_or, take, drop, set, length-set}
use lib.Seq.{take-suc-set}
use Rattle.line.specs.Scan.{digit_behind}
use Rattle.line.proofs.Fields.{in_line}
use Rattle.line.proofs.Reading.{between, inside, reading_starts, at_end_lem, field_begins, field_empty, field_over, number_breaks, number_goes_on}
use Rattle.line.proofs.read_numbers.Goals as goal

pub fields-init : goal.fields-init
fields-init c = (refl, omega arith, c.requires.1, reading_starts (drop c.args.from c.args.line.now))

pub loop-begin-init : goal.loop-begin-init
loop-begin-init c =
    let l : List ℕ = c.args.line.now in
    let ns : List ℕ = take c.fields.count c.fields.numbers in
    let at : ℕ = c.fields.at in
    let none_yet : 0 ≡ at + 1 - (at + 1) = omega arith in (
      omega arith,
      omega arith,
      c.fields.invariant.3
          ∙ field_begins l at ns (omega arith) c.fields.invariant.2
          ∙ ap (λ (n : ℕ). inside ns n 0 (drop (at + 1) l)) none_yet,
    )

pub overflow_add-at-in-loop-begin : goal.overflow_add-at-in-loop-begin
overflow_add-at-in-loop-begin c =
    let l : List ℕ = c.args.line.now in
    let ns : List ℕ = take c.fields.count
    c.fields.numbers in
    let begin : ℕ = c.fields.at + 1 in
    let at : ℕ = c.loop-begin.at in
    let value : ℕ = c.loop-begin.value in
    let goes : (get_or l at 32 ≡ 32 → ⊥) = λ e. c.if-b-eq32.false (c.byte_at-b.ensures ∙ e) in
    omega (arith, in_line l at goes)

pub loop-begin-smaller : goal.loop-begin-smaller
loop-begin-smaller c =
    let l : List ℕ = c.args.line.now in
    let ns : List ℕ = take c.fields.count
    c.fields.numbers in
    let begin : ℕ = c.fields.at + 1 in
    let at : ℕ = c.loop-begin.at in
    let value : ℕ = c.loop-begin.value in
    let goes : (get_or l at 32 ≡ 32 → ⊥) = λ e. c.if-b-eq32.false (c.byte_at-b.ensures ∙ e) in
    omega (arith, in_line l at goes)

pub loop-begin-preserved : goal.loop-begin-preserved
loop-begin-preserved c =
    let l : List ℕ = c.args.line.now in
    let ns : List ℕ = take c.fields.count
    c.fields.numbers in
    let begin : ℕ = c.fields.at + 1 in
    let at : ℕ = c.loop-begin.at in
    let value : ℕ = c.loop-begin.value in
    let goes : (get_or l at 32 ≡ 32 → ⊥) = λ e. c.if-b-eq32.false (c.byte_at-b.ensures ∙ e) in
    let one_more : suc (at - begin) ≡ at + 1 - begin = omega arith in (
      omega arith,
      omega (arith, in_line l at goes),
      c.loop-begin.invariant.2
          ∙ number_goes_on l at ns (at - begin) value goes c.in-Some.longer
          (ap (digit_behind (at - begin) value) (sym c.byte_at-b.ensures) ∙ sym
          c.digit_behind.ensures ∙ c.in-Some.is)
          ∙ ap (λ (n : ℕ). inside ns n c.in-Some.longer (drop (at + 1) l)) one_more,
    )

pub fields-preserved : goal.fields-preserved
fields-preserved c =
    let l : List ℕ = c.args.line.now in
    let ns : List ℕ = take c.fields.count c.fields.numbers in
    let begin : ℕ = c.fields.at + 1 in
    let at : ℕ = c.loop-begin.at in
    let value : ℕ = c.loop-begin.value in
    let count : ℕ = c.fields.count in
    let numbers : List ℕ = c.fields.numbers in
    let ends : get_or l at 32 ≡ 32 = sym c.byte_at-b.ensures ∙ c.if-b-eq32.true in
    let read : take (count + 1) (set numbers count value) ≡ ns ++ value ∷ [] = ap (λ (n : ℕ). take n (set numbers count value)) (add-one count)
    ∙ take-suc-set numbers count value (omega arith) in (
      length-set numbers count value ∙ c.fields.invariant.0,
      omega arith,
      ends,
      c.loop-begin.invariant.2
          ∙ field_over l at ns (at - begin) value (omega arith) ends
          ∙ ap (λ (xs : List ℕ). between xs (drop at l)) (sym read),
    )

pub returns-then-line-at : goal.returns-then-line-at
returns-then-line-at c =
    let l : List ℕ = c.args.line.now in
    let ns : List ℕ = take c.fields.count c.fields.numbers in
    let at : ℕ = c.fields.at in
    (c.fields.invariant.3 ∙ at_end_lem l at ns (omega arith), omega arith)

pub returns-then-at-begin : goal.returns-then-at-begin
returns-then-at-begin c =
    let l : List ℕ = c.args.line.now in
    let ns : List ℕ = take c.fields.count c.fields.numbers in
    let begin : ℕ = c.fields.at + 1 in
    let at : ℕ = c.loop-begin.at in
    let value : ℕ = c.loop-begin.value in
    let none_yet : at - begin ≡ 0 = omega arith in (
      c.loop-begin.invariant.2
          ∙ ap (λ (n : ℕ). inside ns n value (drop at l)) none_yet
          ∙ field_empty l at ns 0 value (sym c.byte_at-b.ensures ∙ c.if-b-eq32.true),
      omega arith,
    )

pub returns-in_default : goal.returns-in_default
returns-in_default c =
    let l : List ℕ = c.args.line.now in
    let ns : List ℕ = take c.fields.count
    c.fields.numbers in
    let begin : ℕ = c.fields.at + 1 in
    let at : ℕ = c.loop-begin.at in
    let value : ℕ = c.loop-begin.value in
    let goes : (get_or l at 32 ≡ 32 → ⊥) = λ e. c.if-b-eq32.false (c.byte_at-b.ensures ∙ e) in (
      c.loop-begin.invariant.2 ∙ number_breaks l at ns (at - begin) value goes
          (ap (digit_behind (at - begin) value) (sym c.byte_at-b.ensures) ∙ sym c.digit_behind.ensures
          ∙ c.in_default.is),
      omega arith,
    )
