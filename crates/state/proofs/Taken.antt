-- The test of a file step by step, as the reader makes it: contents, queues, and agreement of the tables that were filled.
use mathlib.Core.Path.{◌≡◌, sym, ap, ◌∙◌}
use mathlib.Core.Bool.{true, false}
use mathlib.Core.List.{List}
use mathlib.Core.Logic.{⊎_elim}
use Prim.Native.Nat.{ℕ, ◌≤◌}
use native.Mathlib.Omega.{arith}
use Rattle.laws.proofs.Choose.{if_yes, if_no, tested}
use Rattle.words.proofs.WordsInBytes.{Bytes}
use Rattle.rules.specs.Machine.{Tables}
use Rattle.rules.specs.Agreement.{agrees}
use Rattle.tables.specs.Layout.{laid, model_of, is_laid}
use Rattle.tables.proofs.LayoutRead.{model_of_laid}
use Rattle.tables.proofs.LayoutTest.{is_laid_laid}
use Rattle.agreement.specs.Bytes.{agrees_bytes}
use Rattle.state.specs.Reading.{tables_in, is_state}
use Rattle.state.specs.Shape.{is_headed, is_filled, unless_invalid}
use Rattle.state.proofs.Refused.{invalid, valid}
use Rattle.state.proofs.Held.{held}
use Rattle.state.proofs.Exact.{exact}

module _ (bs : List ℕ) (b : Bytes bs) where
  pub other_contents : is_headed bs ≡ false → is_state bs ≡ false
  other_contents h = exact bs b ∙ if_no _ _ h

  module _ (h : is_headed bs ≡ true) where
    pub other_queues : is_filled bs ≡ false → is_state bs ≡ false
    other_queues f = exact bs b ∙ if_yes _ _ h ∙ if_no _ _ f

    -- and so is their refusal
    pub queues_refused : (n : ℕ) → n ≡ unless_invalid (is_filled bs) → 1 ≤ n → n ≡ unless_invalid (is_state bs)
    queues_refused n e some =
        ⊎_elim (λ (y : is_filled bs ≡ true). absurd (omega (arith, e ∙ sym (valid _ y)))) (λ (f : is_filled bs ≡ false). e ∙ sym (invalid _ f) ∙ invalid _ (other_queues f))
        (tested (is_filled bs))

    -- the tables that were filled agree exactly where the file is one
    pub filled_agree : is_filled bs ≡ true → (m : List ℕ) → m ≡ laid (tables_in bs) → agrees_bytes m ≡ is_state bs
    unfolding agrees_bytes
    filled_agree f m e =
        let t : Tables = tables_in bs in
        let holds = held bs b h f in
        let test : is_laid m ≡ true = ap is_laid e ∙ is_laid_laid t holds in
        let model : model_of m ≡ t = ap model_of e ∙ model_of_laid t holds in
        if_yes _ _ test ∙ ap agrees model ∙ sym (exact bs b ∙ if_yes _ _ h ∙ if_yes _ _ f)
