-- A loop that marks tasks and stops at the first test that fails: what has been passed, one more, a test that fails, and the end.
use mathlib.Core.Path.{◌≡◌, refl, ap, sym, ◌∙◌}
use mathlib.Core.Bool.{Bool, true, false}
use mathlib.Core.List.{List}
use Prim.Native.Nat.{ℕ, pred, ◌+◌, ◌<◌}
use native.Mathlib.Numerals.{add-one}
use lib.ListN.{get_or, set}
use Rattle.std.specs.Prelude.{Option}
use Rattle.laws.proofs.Choose.{never}
use Rattle.laws.specs.All.{all}
use Rattle.laws.proofs.All.{all_none, all_more, all_not}
use Rattle.rules.specs.Machine.{Tables}
use Rattle.agreement.specs.Tests.{Marked, seen_at, number_agrees, NumberTested, place_agrees}

-- the first k tests hold, and the marks are those that they make
pub record Passed (test : ℕ → Bool) (marks : ℕ → List Bool) (k : ℕ) (seen : List Bool) : Type 0 where
  pub tests : all k test ≡ true
  pub made : seen ≡ marks k

-- a test that fails tells nothing of the marks
pub told_no : {agrees : Bool} {marks seen : List Bool} → agrees ≡ false → Marked agrees marks false seen
told_no e = record { answer = sym e; marks = λ y. never y refl }

pub not_passed : (test : ℕ → Bool) {n k : ℕ} {r : Bool} {made after marks seen : List Bool} → k < n → Marked (test k) made r after → r ≡ false
    → Marked (all n test) marks false seen
not_passed test {n} {k} h m e = told_no (all_not n test k h (sym m.answer ∙ e))

module _ {test : ℕ → Bool} {marks : ℕ → List Bool} where
  pub passed_none : {seen : List Bool} → seen ≡ marks 0 → Passed test marks 0 seen
  passed_none e = record { tests = all_none test; made = e }

  pub passed_more : {k : ℕ} {r : Bool} {seen after : List Bool} → Passed test marks k seen → Marked (test k) (marks (k + 1)) r after → r ≡ true
      → Passed test marks (k + 1) after
  passed_more {k} p m e = record { tests = all_more k test p.tests (sym m.answer ∙ e); made = m.marks e }

  pub passed_all : {n k : ℕ} {seen : List Bool} → Passed test marks k seen → k ≡ n → Marked (all n test) (marks n) true seen
  passed_all p e = record { answer = sym (ap (λ (n : ℕ). all n test) (sym e) ∙ p.tests); marks = λ y. p.made ∙ ap marks e }

-- what the test of the number at place k tells of the place, with the marks of those before it
pub place_told : (t : Tables) (first : List Bool) (owner : ℕ) (awaited : Option ℕ) (queue : List ℕ) (k : ℕ) {seen : List Bool} {o q : ℕ} {r : Bool} {after : List Bool}
    → seen ≡ seen_at first queue k → o ≡ owner → q ≡ get_or queue k 0 → NumberTested t seen o awaited q r after
    → Marked (place_agrees t first owner awaited queue k) (seen_at first queue (k + 1)) r after
unfolding place_agrees seen_at
place_told t first owner awaited queue k e f g m =
    record {
      answer = m.answer ∙ (λ x. number_agrees t (e x) (f x) awaited (g x));
      marks = λ y. m.marks y ∙ (λ x. set (e x) (pred (g x)) true) ∙ ap (seen_at first queue) (sym (add-one k));
    }
