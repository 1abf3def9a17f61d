-- A slot's test by the case that the code has come to.
use mathlib.Core.Path.{◌≡◌, refl, ap, sym, ◌∙◌}
use mathlib.Core.Bool.{Bool, true, false}
use mathlib.Core.List.{List}
use Prim.Native.Nat.{ℕ, ◌≤◌, ◌<◌}
use native.Mathlib.Omega.{arith}
use lib.ListN.{length}
use borrow.Author.Tests.{eq-eqb, ne_eqb, le-leb, lt-leb}
use Rattle.laws.proofs.Choose.{never, if_yes, if_no}
use Rattle.rules.specs.Numbers.{max_generation}
use Rattle.rules.specs.Machine.{Slot, Tables, is_live, id_of}
use Rattle.rules.specs.Agreement.{is_clear}
use Rattle.agreement.specs.Tests.{queue_agrees, head_agrees, slot_agrees, seen_with, QueueTested, SlotTested}

module _ (t : Tables) (first : List Bool) (n : ℕ) (s : Slot) where
  refused : (after : List Bool) → slot_agrees t first n s ≡ false → SlotTested t first n s false after
  refused after e = record { answer = sym e; marks = λ y. never y refl }

  pub too_late : (after : List Bool) → max_generation < s.generation → SlotTested t first n s false after
  unfolding slot_agrees
  too_late after h = refused after (if_no _ _ (lt-leb _ _ h))

  module _ (h : s.generation ≤ max_generation) where
    pub neither : (after : List Bool) → (s.live ≡ 0 → ⊥) → (s.live ≡ 1 → ⊥) → SlotTested t first n s false after
    unfolding slot_agrees
    neither after z o = refused after (if_yes _ _ (le-leb _ _ h) ∙ if_no _ _ (ne_eqb _ _ o) ∙ if_no _ _ (ne_eqb _ _ z))

    pub free : (r : Bool) → s.live ≡ 0 → r ≡ is_clear s → SlotTested t first n s r first
    unfolding slot_agrees seen_with
    free r z e =
        let other : is_live s ≡ false = ne_eqb _ _ (λ (o : s.live ≡ 1). omega arith) in
        record { answer = e ∙ sym (if_yes _ _ (le-leb _ _ h) ∙ if_no _ _ other ∙ if_yes _ _ (eq-eqb _ _ z)); marks = λ y. sym (if_no _ _ other) }

    module _ (l : s.live ≡ 1) where
      pub wrong_head : (after : List Bool) → head_agrees (length t.tasks) s ≡ false → SlotTested t first n s false after
      unfolding slot_agrees
      wrong_head after f = refused after (if_yes _ _ (le-leb _ _ h) ∙ if_yes _ _ (eq-eqb _ _ l) ∙ if_no _ _ f)

      pub live : (id : ℕ) (r : Bool) (seen : List Bool) → head_agrees (length t.tasks) s ≡ true → id ≡ id_of n s
          → QueueTested t first id s r seen → SlotTested t first n s r seen
      unfolding slot_agrees seen_with
      live id r seen f e q =
          record {
            answer = q.answer ∙ ap (λ (id : ℕ). queue_agrees t first id s) e ∙ sym (if_yes _ _ (le-leb _ _ h) ∙ if_yes _ _ (eq-eqb _ _ l) ∙ if_yes _ _ f);
            marks = λ y. q.marks y ∙ sym (if_yes _ _ (eq-eqb _ _ l));
          }
