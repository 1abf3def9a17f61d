-- A refusal changes nothing; 25 says exactly that the tables do not agree; only a done create or ident has a value.
use mathlib.Core.Path.{◌≡◌, refl, sym, subst}
use mathlib.Core.Bool.{true, false}
use mathlib.Core.List.{List}
use mathlib.Core.Logic.{◌↔◌, ⊎_elim}
use Prim.Native.Nat.{ℕ}
use Rattle.laws.specs.Choose.{choose}
use Rattle.laws.proofs.Choose.{choose_cases, if_eq, if_ne, tested, never}
use Rattle.rules.specs.declared.Call.{Call}
use Rattle.rules.specs.declared.Call.TheVariants.{Start, Create, Ident, Delete, Obtain, Release, Flush, Tick}
use Rattle.rules.specs.Machine.{Tables, next}
use Rattle.rules.specs.Agreement.{agrees}
use Rattle.rules.specs.Calls.{Outcome, perform, step}
use Rattle.rules.specs.Promises.{Refusal, valued, given, is_in}
use Rattle.rules.proofs.Performed.{Performed, performed}
use Rattle.rules.proofs.Performed.Performed.{refusing, done, began}

-- 25 is the answer of no call on agreeing tables
internal_not_given : (call : Call) → is_in 25 (given call) ≡ false
unfolding choose is_in given
internal_not_given (Start slots) = refl
internal_not_given (Create caller name count attributes maximum) = refl
internal_not_given (Ident name) = refl
internal_not_given (Delete caller id) = refl
internal_not_given (Obtain caller id wait) = refl
internal_not_given (Release caller id) = refl
internal_not_given (Flush caller id) = refl
internal_not_given Tick = refl

not_internal : (call : Call) (status : ℕ) → is_in status (given call) ≡ true → status ≡ 25 → ⊥
not_internal call status i e = never (subst (λ (n : ℕ). is_in n (given call) ≡ true) e i) (internal_not_given call)

-- the same of each way that a call goes
module _ (t : Tables) (call : Call) where
  keeps : (o : Outcome) → Performed t call o → (o.answer.status ≡ 0 → ⊥) → (o.answer.status ≡ 100 → ⊥) → Refusal t o
  keeps o (refusing status d i) f g =
      record { kept = refl; value = refl; next_task = sym (if_ne status 25 0 (next t) (not_internal call status i)) }
  keeps o (done value after i v) f g = absurd (f refl)
  keeps o (began after i) f g = absurd (g refl)

  performed_given : (o : Outcome) → Performed t call o → is_in o.answer.status (given call) ≡ true
  performed_given o (refusing status d i) = i
  performed_given o (done value after i v) = i
  performed_given o (began after i) = i

  valueless : (o : Outcome) → Performed t call o → (o.answer.status ≡ 0 → ⊥) → o.answer.value ≡ 0
  valueless o (refusing status d i) f = refl
  valueless o (done value after i v) f = absurd (f refl)
  valueless o (began after i) f = refl

  unvalued : (o : Outcome) → Performed t call o → valued call ≡ false → o.answer.value ≡ 0
  unvalued o (refusing status d i) e = refl
  unvalued o (done value after i v) e = v e
  unvalued o (began after i) e = refl

module _ (t : Tables) (call : Call) (priorities : List ℕ) where
  pub refusal_keeps : ((step t call priorities).answer.status ≡ 0 → ⊥) → ((step t call priorities).answer.status ≡ 100 → ⊥)
      → Refusal t (step t call priorities)
  unfolding step
  refusal_keeps =
      choose_cases (λ (o : Outcome). (o.answer.status ≡ 0 → ⊥) → (o.answer.status ≡ 100 → ⊥) → Refusal t o) (agrees t) _ _
      (λ a. keeps t call (perform t call priorities) (performed t call priorities))
      (λ a f g. record { kept = refl; value = refl; next_task = sym (if_eq 25 25 0 (next t) refl) })

  -- what an agreeing machine answers is no 25
  pub agreeing_given : agrees t ≡ true → is_in (step t call priorities).answer.status (given call) ≡ true
  unfolding step
  agreeing_given =
      choose_cases (λ (o : Outcome). agrees t ≡ true → is_in o.answer.status (given call) ≡ true) (agrees t) _ _
      (λ a b. performed_given t call (perform t call priorities) (performed t call priorities)) (λ a b. never b a)

  pub disagreeing : agrees t ≡ false → (step t call priorities).answer.status ≡ 25
  unfolding step
  disagreeing e =
      choose_cases (λ (o : Outcome). o.answer.status ≡ 25) (agrees t) _ _ (λ a. never a e) (λ a. refl)

  pub internal_error_lem : ((step t call priorities).answer.status ≡ 25) ↔ (agrees t ≡ false)
  internal_error_lem = (
    λ e. ⊎_elim (λ (a : agrees t ≡ true). absurd (not_internal call (step t call priorities).answer.status (agreeing_given a) e))
        (λ (a : agrees t ≡ false). a) (tested (agrees t)),
    disagreeing,
  )

  pub unsuccessful_valueless : ((step t call priorities).answer.status ≡ 0 → ⊥) → (step t call priorities).answer.value ≡ 0
  unfolding step
  unsuccessful_valueless =
      choose_cases (λ (o : Outcome). (o.answer.status ≡ 0 → ⊥) → o.answer.value ≡ 0) (agrees t) _ _
      (λ a. valueless t call (perform t call priorities) (performed t call priorities)) (λ a f. refl)

  pub only_create_and_ident_valued : valued call ≡ false → (step t call priorities).answer.value ≡ 0
  unfolding step
  only_create_and_ident_valued =
      choose_cases (λ (o : Outcome). valued call ≡ false → o.answer.value ≡ 0) (agrees t) _ _
      (λ a. unvalued t call (perform t call priorities) (performed t call priorities)) (λ a f. refl)
