-- A word that is no command.
use mathlib.Core.Path.{◌≡◌, refl, ap, ◌∙◌}
use mathlib.Core.Bool.{Bool, true, false}
use mathlib.Core.List.{List}
use lib.Dec.{eqb}
use mathlib.Core.Logic.{◌≢◌}
use Prim.Native.Nat.{ℕ}
use Rattle.std.specs.Prelude.{Option, None}
use Rattle.std.specs.Str.{bytes_eq}
use Rattle.std.proofs.lemmas.Slice.Eq.{bytes_eq-Decides}
use Rattle.laws.specs.Choose.{choose, ◌and◌}
use Rattle.laws.proofs.Choose.{if_no, choose_same}
use Rattle.rules.specs.Numbers.{within}
use Rattle.line.specs.Line.{same_bytes}
use Rattle.mast_state.specs.declared.Command.{Command}
use Rattle.mast_state.specs.Command.{save_word, show_word, resume_word, command_of}

-- other bytes than a word's
other : (f word : List ℕ) → f ≢ word → same_bytes f word ≡ false
other f word d = answer (bytes_eq f word) (λ e. d ((bytes_eq-Decides f word).0 e))
  where
    answer : (t : Bool) → (t ≡ true → ⊥) → t ≡ false
    answer true d = absurd (d refl)
    answer false d = refl

pub no_command : (word : List ℕ) (count : ℕ) → word ≢ save_word → word ≢ resume_word → word ≢ show_word → command_of word count ≡ None
unfolding command_of
no_command word count save resume show =
    let none =
    if_no _ _ (other word save_word save) ∙ if_no _ _ (other word resume_word resume)
    ∙ if_no _ _ (ap (λ (t : Bool). eqb count 3 and t) (other word show_word show) ∙ choose_same (eqb count 3) false) in
    ap (λ (c : Option Command). choose (within 3 4 count) c None) none ∙ choose_same (within 3 4 count) None
