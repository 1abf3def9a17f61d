-- What a line says, from the word and the numbers that the code read.
use mathlib.Core.Path.{◌≡◌, refl, sym, ap, ap₂, subst, ◌∙◌}
use mathlib.Core.Bool.{Bool, true, false}
use mathlib.Core.List.{List, []}
use mathlib.Core.Logic.{⊎_elim}
use mathlib.Core.Option.{none, some}
use Rattle.std.specs.Prelude.{Option as Answered, Some, None}
use Prim.Native.Nat.{ℕ, ◌≤◌, ◌<◌}
use native.Mathlib.Omega.{arith}
use lib.Dec.{leb}
use lib.ListN.{length, take, drop}
use lib.Seq.{length-take-le}
use borrow.Author.Tests.{le-leb, lt-leb}
use Rattle.laws.specs.Choose.{choose, ◌and◌}
use Rattle.laws.proofs.Choose.{tested, if_yes, if_no, choose_same}
use Rattle.line.specs.Line.{max_line, are_numbers, numbers}
use Rattle.line.specs.Scan.{first, others, all_numbers, numbers_read, placed}
use Rattle.line.proofs.Fields.{word_is, behind_word}
use Rattle.text.specs.declared.vocabulary.Word.{Word}
use Rattle.text.specs.Words.{Said, says, said_by, word_number, count_fits}
use Rattle.text.specs.Spoken.{number_of}
use Rattle.text.proofs.Words.{number_some}

-- ---- a test of several parts: one that fails, and one that holds

module _ {A : Type 0} (x z : A) where
  part_fails : (a b : Bool) → b ≡ false → choose (a and b) x z ≡ z
  part_fails a b e = ap (λ (t : Bool). choose (a and t) x z) e ∙ if_no x z (choose_same a false)

  part_holds : (a b : Bool) → a ≡ true → choose (a and b) x z ≡ choose b x z
  part_holds a b e = ap (λ (t : Bool). choose t x z) (if_yes b false e)

-- ---- longer than 256 bytes

pub long_none : (bs : List ℕ) → max_line < length bs → said_by bs ≡ says 0 []
unfolding said_by
long_none bs h = if_no _ _ (if_no _ _ (lt-leb (length bs) max_line h))

-- ---- at most 256 bytes: the word has n of them

module _ (bs : List ℕ) (n : ℕ) (short : length bs ≤ max_line) (ends : n ≡ length (first bs)) where
  word_there : take n bs ≡ first bs
  word_there = ap (λ (m : ℕ). take m bs) ends ∙ sym (word_is bs)

  rest_there : others (drop n bs) ≡ others bs
  rest_there = ap (λ (m : ℕ). others (drop m bs)) ends ∙ sym (behind_word bs)

  -- by its word and its numbers
  wording : ℕ → List ℕ → Said
  wording w ns = choose (leb 1 w and count_fits w (length ns)) (says w ns) (says 0 [])

  by_word : said_by bs ≡ choose (are_numbers (others bs)) (wording (word_number (first bs)) (numbers (others bs))) (says 0 [])
  unfolding said_by wording
  by_word =
      let w : ℕ = word_number (first bs) in
      let ns : List ℕ = numbers (others bs) in
      part_holds (says w ns) (says 0 []) _ _ (le-leb (length bs) max_line short)
      ∙ ⊎_elim
      (λ (t : are_numbers (others bs) ≡ true). part_holds (says w ns) (says 0 []) _ _ t ∙ sym (if_yes (wording w ns) (says 0 []) t))
      (λ (t : are_numbers (others bs) ≡ false). if_no _ _ (if_no _ _ t) ∙ sym (if_no (wording w ns) (says 0 []) t))
      (tested (are_numbers (others bs)))

  pub unknown_none : word_number (take n bs) ≡ 0 → said_by bs ≡ says 0 []
  unfolding wording
  unknown_none e =
      by_word
      ∙ ap (λ (w : ℕ). choose (are_numbers (others bs)) (wording w (numbers (others bs))) (says 0 [])) (ap word_number (sym word_there) ∙ e)
      ∙ ap (λ (s : Said). choose (are_numbers (others bs)) s (says 0 [])) (if_no _ _ (if_no _ _ refl))
      ∙ choose_same (are_numbers (others bs)) (says 0 [])

  module _ (x : Answered ℕ) (ns : List ℕ) (read : all_numbers (others (drop n bs)) ≡ numbers_read x ns) where
    read_there : all_numbers (others bs) ≡ numbers_read x ns
    read_there = ap all_numbers (sym rest_there) ∙ read

    pub broken_none : x ≡ None → said_by bs ≡ says 0 []
    unfolding all_numbers
    broken_none b =
        let e : all_numbers (others bs) ≡ none = read_there ∙ ap (λ (x : Answered ℕ). numbers_read x ns) b in
        ⊎_elim
        (λ (t : are_numbers (others bs) ≡ true). let f = if_yes (some (numbers (others bs))) none t in let z : ◌≡◌ {A = ℕ} 0 1 = cc in absurd (omega arith))
        (λ (t : are_numbers (others bs) ≡ false). by_word ∙ if_no _ _ t)
        (tested (are_numbers (others bs)))

    -- the word that was found, and k numbers behind it
    module _ (k : ℕ) (counts : x ≡ Some k) (fits : placed x ≤ length ns) (v : Word) (is : number_of v ≡ word_number (take n bs)) where
      pub count_few : k ≤ length ns
      count_few = subst (λ (x : Answered ℕ). placed x ≤ length ns) counts fits

      by_count : said_by bs ≡ choose (count_fits (number_of v) k) (says (number_of v) (take k ns)) (says 0 [])
      unfolding all_numbers wording
      by_count =
          let e : all_numbers (others bs) ≡ some (take k ns) = read_there ∙ ap (λ (x : Answered ℕ). numbers_read x ns) counts in
          ⊎_elim
          (λ (t : are_numbers (others bs) ≡ true).
          let f = if_yes (some (numbers (others bs))) none t in
          let taken : numbers (others bs) ≡ take k ns = cc in
          by_word ∙ if_yes _ _ t ∙ ap₂ wording (ap word_number (sym word_there) ∙ sym is) taken
          ∙ part_holds (says (number_of v) (take k ns)) (says 0 []) _ _ (number_some v)
          ∙ ap (λ (m : ℕ). choose (count_fits (number_of v) m) (says (number_of v) (take k ns)) (says 0 [])) (length-take-le k ns count_few))
          (λ (t : are_numbers (others bs) ≡ false). let f = if_no (some (numbers (others bs))) none t in let z : ◌≡◌ {A = ℕ} 0 1 = cc in absurd (omega arith))
          (tested (are_numbers (others bs)))

      pub fit_said : count_fits (number_of v) k ≡ true → said_by bs ≡ says (number_of v) (take k ns)
      fit_said t = by_count ∙ if_yes _ _ t

      pub unfit_none : count_fits (number_of v) k ≡ false → said_by bs ≡ says 0 []
      unfit_none t = by_count ∙ if_no _ _ t
