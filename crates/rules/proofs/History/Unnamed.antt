-- A call that takes an identifier which names no live semaphore is refused, by the caller's checks or with 4.
use mathlib.Core.Path.{◌≡◌, sym, subst, ap}
use mathlib.Core.Bool.{true, false, false≢true}
use mathlib.Core.List.{List}
use Prim.Native.Nat.{ℕ, ◌≤◌}
use native.Mathlib.Omega.{arith}
use lib.Dec.{eqb, ltb}
use lib.ListN.{length}
use borrow.Author.Tests.{eqb-true, eqb-false}
use Rattle.laws.specs.Choose.{choose, ◌and◌, isnt}
use Rattle.laws.proofs.Choose.{choose_cases, if_no, and_both, isnt_false}
use Rattle.rules.specs.declared.Call.{Call}
use Rattle.rules.specs.declared.Call.TheVariants.{Start, Create, Ident, Delete, Obtain, Release, Flush, Tick}
use Rattle.rules.specs.Machine.{Tables, task_of, waits, names}
use Rattle.rules.specs.Agreement.{agrees}
use Rattle.rules.specs.Calls.{Outcome, refused, unless, caller_refusal, task_only, any_caller, delete_refusal, delete, obtain_refusal, obtain}
use Rattle.rules.specs.Calls.{release_refusal, release, flush_refusal, flush, perform, step}
use Rattle.rules.specs.Promises.{IsRefusal, takes}

-- the numbers of refusals by a caller's checks
abbrev Stops : ℕ → Type 0
Stops n = (1 ≤ n) × (n ≤ 18)

module _ (t : Tables) (caller : ℕ) where
  caller_few : caller_refusal t caller ≤ 18
  caller_few =
      choose_cases (λ (n : ℕ). n ≤ 18) (ltb (length t.tasks) caller) _ _ (λ e. omega arith)
      (λ e. choose_cases (λ (n : ℕ). n ≤ 18) (waits (task_of t caller)) 14 0 (λ e. omega arith) (λ e. omega arith))

  task_stops : Stops (task_only t caller 4)
  task_stops =
      choose_cases Stops (eqb caller 0) _ _ (λ e. omega arith)
      (λ e. choose_cases Stops (eqb (caller_refusal t caller) 0) 4 (caller_refusal t caller) (λ e. omega arith)
      (λ e. let n = eqb-false (caller_refusal t caller) 0 e in omega (arith, caller_few)))

  any_stops : Stops (any_caller t caller 4)
  any_stops =
      choose_cases Stops (isnt (eqb caller 0) and isnt (eqb (caller_refusal t caller) 0)) (caller_refusal t caller) 4
      (λ e. let n = eqb-false (caller_refusal t caller) 0 (isnt_false _ (and_both _ _ e).1) in omega (arith, caller_few)) (λ e. omega arith)

stopped : (t : Tables) (refusal : ℕ) (o : Outcome) → Stops refusal → IsRefusal (unless refusal t o).answer.status
stopped t refusal o h =
    choose_cases (λ (x : Outcome). IsRefusal x.answer.status) (eqb refusal 0) o (refused t refusal)
    (λ e. let z = eqb-true refusal 0 e in absurd (omega arith))
    (λ e. record { not_done = λ z. omega arith; not_begun = λ z. omega arith })

module _ (t : Tables) (id : ℕ) (n : names t id ≡ false) where
  task_refused : (caller x : ℕ) (o : Outcome) → IsRefusal (unless (task_only t caller (choose (names t id) x 4)) t o).answer.status
  task_refused caller x o = stopped t _ o (subst Stops (sym (ap (λ (r : ℕ). task_only t caller r) (if_no x 4 n))) (task_stops t caller))

  any_refused : (caller x : ℕ) (o : Outcome) → IsRefusal (unless (any_caller t caller (choose (names t id) x 4)) t o).answer.status
  any_refused caller x o = stopped t _ o (subst Stops (sym (ap (λ (r : ℕ). any_caller t caller r) (if_no x 4 n))) (any_stops t caller))

  perform_refused : (call : Call) (priorities : List ℕ) → takes call id ≡ true → IsRefusal (perform t call priorities).answer.status
  unfolding perform takes delete delete_refusal obtain obtain_refusal release release_refusal flush flush_refusal
  perform_refused (Start slots) priorities e = absurd (false≢true e)
  perform_refused (Create caller name count attributes maximum) priorities e = absurd (false≢true e)
  perform_refused (Ident name) priorities e = absurd (false≢true e)
  perform_refused (Delete caller i) priorities e =
      subst (λ (k : ℕ). IsRefusal (delete t caller k).answer.status) (sym (eqb-true i id e)) (task_refused caller _ _)
  perform_refused (Obtain caller i wait) priorities e =
      subst (λ (k : ℕ). IsRefusal (obtain t caller k wait).answer.status) (sym (eqb-true i id e)) (task_refused caller _ _)
  perform_refused (Release caller i) priorities e =
      subst (λ (k : ℕ). IsRefusal (release t caller k).answer.status) (sym (eqb-true i id e)) (any_refused caller _ _)
  perform_refused (Flush caller i) priorities e =
      subst (λ (k : ℕ). IsRefusal (flush t caller k).answer.status) (sym (eqb-true i id e)) (any_refused caller _ _)
  perform_refused Tick priorities e = absurd (false≢true e)

  pub unnamed_refused : (call : Call) (priorities : List ℕ) → takes call id ≡ true → IsRefusal (step t call priorities).answer.status
  unfolding step
  unnamed_refused call priorities e =
      choose_cases (λ (x : Outcome). IsRefusal x.answer.status) (agrees t) _ _ (λ a. perform_refused call priorities e)
      (λ a. record { not_done = λ z. omega arith; not_begun = λ z. omega arith })
