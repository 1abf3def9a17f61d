-- The search through the words finds the word of the definition, by its number.
use mathlib.Core.Path.{◌≡◌, refl, sym, ap, ◌∙◌}
use mathlib.Core.Bool.{Bool, true, false, cond}
use mathlib.Core.List.{List, [], ◌∷◌, ◌++◌}
use Prim.Native.Nat.{ℕ}
use native.Mathlib.Omega.{arith}
use lib.Dec.{eqb, leb}
use lib.ListN.{get_or}
use borrow.Author.Tests.{leb-true, le-leb}
use Rattle.std.specs.Prelude.{Option, Some, find}
use Rattle.std.specs.Str.{bytes_eq}
use Rattle.laws.specs.Choose.{choose}
use Rattle.laws.proofs.Choose.{if_ne}
use Rattle.line.specs.Line.{same_bytes}
use Rattle.text.specs.declared.vocabulary.Word.{Word}
use Rattle.text.specs.declared.vocabulary.Word.TheVariants as w
use Rattle.text.specs.Words.{event_word, script_part, word_number}
use Rattle.text.specs.Spoken.{number_of, number_or_none, text_of, event_words, script_words, every_word}

-- ---- a word is known by its number

back : ℕ → Word
back n =
    get_or
    (w.Turn ∷ w.Turn ∷ w.Start ∷ w.Create ∷ w.Ident ∷ w.Delete ∷ w.Obtain ∷ w.Release ∷ w.Flush ∷ w.Tick
    ∷ w.Turn ∷ w.Script ∷ w.Section ∷ w.Load ∷ w.Store ∷ w.Set ∷ w.Add ∷ w.Cell ∷ w.Local ∷ w.End ∷ w.Run ∷ []) n w.Turn

back_is : (v : Word) → back (number_of v) ≡ v
unfolding back
back_is w.Turn = refl
back_is w.Start = refl
back_is w.Create = refl
back_is w.Ident = refl
back_is w.Delete = refl
back_is w.Obtain = refl
back_is w.Release = refl
back_is w.Flush = refl
back_is w.Tick = refl
back_is w.Script = refl
back_is w.Section = refl
back_is w.Load = refl
back_is w.Store = refl
back_is w.Set = refl
back_is w.Add = refl
back_is w.Cell = refl
back_is w.Local = refl
back_is w.End = refl
back_is w.Run = refl

pub number_not : (v u : Word) → (v ≡ u → ⊥) → number_of v ≡ number_of u → ⊥
number_not v u d e = d (sym (back_is v) ∙ ap back e ∙ back_is u)

-- every word has one
pub number_some : (v : Word) → leb 1 (number_of v) ≡ true
unfolding back
number_some v = le-leb 1 (number_of v) (omega (arith, none_has_0))
  where
    none_has_0 : number_of v ≡ 0 → ⊥
    none_has_0 e = let first : v ≡ w.Turn = sym (back_is v) ∙ ap back e in omega (arith, ap number_of first)

-- ---- the first word of a list with these bytes, by its number: 0 where there is none

module _ (word : List ℕ) where
  first_in : List Word → ℕ
  first_in [] = 0
  first_in (v ∷ vs) = choose (same_bytes word (text_of v)) (number_of v) (first_in vs)

  found_in : (vs : List Word) → number_or_none (find (λ v. bytes_eq word (text_of v)) vs) ≡ first_in vs
  unfolding first_in choose
  found_in [] = refl
  found_in (v ∷ vs) = either _ _ (bytes_eq word (text_of v)) (found_in vs)
    where
      either : (x : Option Word) (n : ℕ) (t : Bool) → number_or_none x ≡ n → number_or_none (cond t (Some v) x) ≡ choose t (number_of v) n
      either x n true e = refl
      either x n false e = e

  -- a word of events, and else one of scripts
  either_list : (scripts events : List Word) → choose (eqb (first_in events) 0) (first_in scripts) (first_in events) ≡ first_in (events ++ scripts)
  unfolding first_in choose
  either_list scripts [] = refl
  either_list scripts (v ∷ vs) = either _ _ (same_bytes word (text_of v)) (either_list scripts vs)
    where
      either : (n m : ℕ) (t : Bool) → choose (eqb n 0) (first_in scripts) n ≡ m
          → choose (eqb (choose t (number_of v) n) 0) (first_in scripts) (choose t (number_of v) n) ≡ choose t (number_of v) m
      either n m true e = if_ne (number_of v) 0 _ _ (λ f. omega (arith, leb-true 1 (number_of v) (number_some v)))
      either n m false e = e

  pub word_found : number_or_none (find (λ v. bytes_eq word (text_of v)) every_word) ≡ word_number word
  unfolding word_number event_word script_part first_in
  word_found = found_in every_word ∙ sym (either_list script_words event_words)
