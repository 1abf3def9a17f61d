-- A Classic delete's outcome: done, and then the identifier named a semaphore, or nothing is changed.
use mathlib.Core.Path.{◌≡◌, refl, sym, ap, subst, ◌∙◌}
use mathlib.Core.Bool.{true, false}
use mathlib.Core.List.{List}
use Prim.Native.Nat.{ℕ, ◌%◌}
use lib.Dec.{eqb}
use borrow.Author.Tests.{eq-eqb, eqb-true}
use Rattle.laws.proofs.Choose.{choose_cases, if_yes, if_no, or_first, never, isnt_false, same_test}
use Rattle.rules.specs.declared.Call.{Call}
use Rattle.rules.specs.Numbers.{is_binary, is_simple}
use Rattle.rules.specs.Machine.{Tables, slot_of, names, slot_named}
use Rattle.rules.specs.Agreement.{agrees}
use Rattle.rules.specs.Calls.{Outcome, delete_refusal, delete, perform, step}
use Rattle.rules.proofs.History.Passed.{delete_passed}
use Rattle.rules.proofs.History.Used.{named_names}
use Rattle.rules.proofs.Invariants.Refusals.{Caller}
use Rattle.mapping.specs.Mapping.{is_counting}
use Rattle.family.proofs.Passing.{task_may}
use Rattle.family.proofs.Entries.{Mappable}

-- on tables that agree a step is the call performed
pub step_is : (t : Tables) (call : Call) (priorities : List ℕ) → agrees t ≡ true → step t call priorities ≡ perform t call priorities
unfolding step
step_is t call priorities a = if_yes _ _ a

-- a counting semaphore is not binary
pub counting_unowned : (a : ℕ) → is_counting a ≡ true → is_binary a ≡ false
counting_unowned a c =
    same_test _ _ (λ b. never (or_first (is_binary a) (is_simple a) b) (isnt_false _ c)) (λ b. never b refl)

module _ (t : Tables) (caller id : ℕ) where
  -- of a task that may call, and a counting semaphore, it is done
  delete_allowed : Caller t caller → Mappable t id → delete_refusal t caller id ≡ 0
  unfolding delete_refusal
  delete_allowed c m =
      let n = named_names t id m.named in
      let at : slot_named t id ≡ id % 65536 = if_yes _ _ n in
      task_may t caller c _ ∙ if_yes _ _ n
      ∙ if_no _ _
      (if_no _ _ (subst (λ (k : ℕ). is_binary (slot_of t k).attributes ≡ false) (sym at) (counting_unowned (slot_of t (id % 65536)).attributes m.counting)))

  pub delete_allowed_done : Caller t caller → Mappable t id → (delete t caller id).answer.status ≡ 0
  unfolding delete
  delete_allowed_done c m = ap (λ (o : Outcome). o.answer.status) (if_yes _ _ (eq-eqb (delete_refusal t caller id) 0 (delete_allowed c m)))

  pub delete_valueless : (delete t caller id).answer.value ≡ 0
  unfolding delete
  delete_valueless = choose_cases (λ (o : Outcome). o.answer.value ≡ 0) _ _ _ (λ e. refl) (λ e. refl)

  pub delete_done_named : (delete t caller id).answer.status ≡ 0 → names t id ≡ true
  unfolding delete
  delete_done_named =
      choose_cases (λ (o : Outcome). o.answer.status ≡ 0 → names t id ≡ true) (eqb (delete_refusal t caller id) 0) _ _
      (λ e z. delete_passed t caller id (eqb-true _ _ e)) (λ e z. never (eq-eqb _ _ z) e)

  pub delete_refused : ((delete t caller id).answer.status ≡ 0 → ⊥) → (delete t caller id).tables ≡ t
  unfolding delete
  delete_refused =
      choose_cases (λ (o : Outcome). (o.answer.status ≡ 0 → ⊥) → o.tables ≡ t) (eqb (delete_refusal t caller id) 0) _ _
      (λ e n. absurd (n refl)) (λ e n. refl)
