-- Granted sections that take some of their steps, in the order of the grants: one more grant, and a step taken before the rest.
use mathlib.Core.Path.{◌≡◌, refl, sym, subst, ap, ◌∙◌}
use mathlib.Core.Bool.{Bool, true, false}
use mathlib.Core.List.{List, [], ◌∷◌, ◌++◌}
use mathlib.Core.Logic.{⊎_elim, ◌≢◌}
use Prim.Native.Nat.{ℕ, ◌+◌, ◌≤◌}
use native.Mathlib.Omega.{arith}
use lib.Dec.{eqb}
use borrow.Author.Tests.{eqb-true, eq-eqb}
use Rattle.laws.specs.Choose.{◌and◌, bit}
use Rattle.laws.proofs.Choose.{and_both, both_and, tested, never}
use Rattle.rules.proofs.Invariants.Lists.{bit_yes, bit_no}
use Rattle.sections.specs.Scripts.{Step, Script, Memory, Grant, do_step, do_steps, steps_of, plain}

abbrev pub is_grant : Grant → Grant → Bool
is_grant g h = eqb g.task h.task and eqb g.section h.section

pub grant_is : (g h : Grant) → is_grant g h ≡ true → g ≡ h
grant_is g h e = λ i. record { task = eqb-true g.task h.task (and_both _ _ e).0 i; section = eqb-true g.section h.section (and_both _ _ e).1 i }

pub is_grant_lem : (g h : Grant) → g ≡ h → is_grant g h ≡ true
is_grant_lem g h e = both_and (eq-eqb _ _ (ap (λ (z : Grant). z.task) e)) (eq-eqb _ _ (ap (λ (z : Grant). z.section) e))

-- how often a section is granted
unfoldable pub times : Grant → List Grant → ℕ
times g [] = 0
times g (h ∷ hs) = bit (is_grant g h) + times g hs

pub times_append : (g h : Grant) (gs : List Grant) → times g (gs ++ h ∷ []) ≡ times g gs + bit (is_grant g h)
unfolding times
times_append g h [] = omega arith
times_append g h (k ∷ gs) = omega (arith, times_append g h gs)

-- each grant takes the steps that `rest` leaves it
unfoldable pub finish : (Grant → List Step) → List Grant → Memory → Memory
finish rest [] m = m
finish rest (g ∷ gs) m = finish rest gs (do_steps g.task (rest g) m)

pub plain_finish : (scripts : List Script) (gs : List Grant) (m : Memory) → plain scripts gs m ≡ finish (steps_of scripts) gs m
unfolding plain finish
plain_finish scripts [] m = refl
plain_finish scripts (g ∷ gs) m = plain_finish scripts gs (do_steps g.task (steps_of scripts g) m)

pub finish_append : (rest : Grant → List Step) (gs : List Grant) (h : Grant) (m : Memory)
    → finish rest (gs ++ h ∷ []) m ≡ do_steps h.task (rest h) (finish rest gs m)
unfolding finish
finish_append rest [] h m = refl
finish_append rest (g ∷ gs) h m = finish_append rest gs h (do_steps g.task (rest g) m)

-- with nothing left, nothing is done
pub finish_none : (rest : Grant → List Step) (gs : List Grant) (m : Memory) → ((g : Grant) → rest g ≡ []) → finish rest gs m ≡ m
unfolding finish do_steps
finish_none rest [] m e = refl
finish_none rest (g ∷ gs) m e = ap (λ (ss : List Step). finish rest gs (do_steps g.task ss m)) (e g) ∙ finish_none rest gs m e

module _ (rest rest' : Grant → List Step) where
  pub finish_same : (gs : List Grant) (m : Memory) → ((g : Grant) → 1 ≤ times g gs → rest g ≡ rest' g) → finish rest gs m ≡ finish rest' gs m
  unfolding finish times
  finish_same [] m e = refl
  finish_same (g ∷ gs) m e =
      ap (λ (ss : List Step). finish rest gs (do_steps g.task ss m)) (e g (omega (arith, bit_yes _ (is_grant_lem g g refl))))
      ∙ finish_same gs (do_steps g.task (rest' g) m) (λ h n. e h (omega arith))

  -- a step of one granted section goes before all that is left
  module _ (g : Grant) (step : Step) (first : (m : Memory) → do_steps g.task (rest g) m ≡ do_steps g.task (rest' g) (do_step g.task step m))
      (same : (h : Grant) → h ≢ g → rest h ≡ rest' h)
      (commutes : (h : Grant) → h ≢ g → (m : Memory)
      → do_steps h.task (rest h) (do_step g.task step m) ≡ do_step g.task step (do_steps h.task (rest h) m)) where
    pub finish_step : (gs : List Grant) (m : Memory) → times g gs ≡ 1 → finish rest gs m ≡ finish rest' gs (do_step g.task step m)
    unfolding finish times
    finish_step [] m once = absurd (omega arith)
    finish_step (h ∷ gs) m once = ⊎_elim here (there (finish_step gs (do_steps h.task (rest h) m))) (tested (is_grant g h))
      where
        here : is_grant g h ≡ true → finish rest gs (do_steps h.task (rest h) m) ≡ finish rest' gs (do_steps h.task (rest' h) (do_step g.task step m))
        here e =
            subst (λ (k : Grant). finish rest gs (do_steps k.task (rest k) m) ≡ finish rest' gs (do_steps k.task (rest' k) (do_step g.task step m)))
            (grant_is g h e)
            (ap (finish rest gs) (first m)
            ∙ finish_same gs (do_steps g.task (rest' g) (do_step g.task step m))
            (λ k n. same k (λ (z : k ≡ g). let some : 1 ≤ times g gs = subst (λ (l : Grant). 1 ≤ times l gs) z n in omega (arith, bit_yes _ e))))

        there : (times g gs ≡ 1 → finish rest gs (do_steps h.task (rest h) m) ≡ finish rest' gs (do_step g.task step (do_steps h.task (rest h) m)))
            → is_grant g h ≡ false → finish rest gs (do_steps h.task (rest h) m) ≡ finish rest' gs (do_steps h.task (rest' h) (do_step g.task step m))
        there rec e =
            let n : h ≢ g = λ z. never (is_grant_lem g h (sym z)) e in
            rec (omega (arith, bit_no _ e))
            ∙ ap (finish rest' gs) (sym (commutes h n m) ∙ ap (λ (ss : List Step). do_steps h.task ss (do_step g.task step m)) (same h n))
