-- What a call that is not refused has checked.
use mathlib.Core.Path.{◌≡◌, sym, ◌∙◌}
use mathlib.Core.Bool.{Bool, true, false}
use mathlib.Core.Logic.{⊎_elim}
use Prim.Native.Nat.{ℕ, suc, ◌≤◌}
use native.Mathlib.Omega.{arith}
use lib.Dec.{ltb, eqb}
use lib.ListN.{length}
use borrow.Author.Tests.{eqb-true, eqb-false, ltb-false}
use Rattle.laws.specs.Choose.{choose, ◌and◌, isnt}
use Rattle.laws.proofs.Choose.{tested, if_yes, if_no, and_both, isnt_false, choose_cases}
use Rattle.rules.specs.Machine.{Tables, task_of, waits, is_live, id_of, names, slot_named}
use Rattle.rules.specs.Agreement.{sizes_fit}
use Rattle.rules.specs.declared.Wait.{Wait}
use Rattle.rules.specs.Calls.{Outcome, refused, unless, caller_refusal, task_only, any_caller, obtain_refusal}
use Rattle.rules.proofs.Invariants.Facts.{nth_slot, Facts}
use Rattle.rules.proofs.Invariants.FromTests.{named_of}
use Rattle.rules.proofs.Invariants.ToTests.{names_of}

-- a choice that is 0, where one side is a refusal
pub must : (b : Bool) (x y : ℕ) → 1 ≤ y → choose b x y ≡ 0 → (b ≡ true) × (x ≡ 0)
must b x y h e =
    ⊎_elim (λ (t : b ≡ true). (t, sym (if_yes x y t) ∙ e)) (λ (f : b ≡ false). absurd (omega (arith, if_no x y f))) (tested b)

pub mustnt : (b : Bool) (x y : ℕ) → 1 ≤ x → choose b x y ≡ 0 → (b ≡ false) × (y ≡ 0)
mustnt b x y h e =
    ⊎_elim (λ (t : b ≡ true). absurd (omega (arith, if_yes x y t))) (λ (f : b ≡ false). (f, sym (if_no x y f) ∙ e)) (tested b)

-- a refusal changes nothing
pub unless_kept : (refusal : ℕ) (t : Tables) (done : Outcome) → Facts t → (refusal ≡ 0 → Facts done.tables) → Facts (unless refusal t done).tables
unless_kept refusal t done f kept =
    choose_cases (λ (o : Outcome). Facts o.tables) (eqb refusal 0) done (refused t refusal) (λ e. kept (eqb-true refusal 0 e)) (λ e. f)

-- the caller is a ready task of the N
pub record Caller (t : Tables) (caller : ℕ) : Type 0 where
  pub first : 1 ≤ caller
  pub last : caller ≤ length t.tasks
  pub ready : waits (task_of t caller) ≡ false

pub task_only_lem : (t : Tables) (caller rest : ℕ) → task_only t caller rest ≡ 0 → Caller t caller × (rest ≡ 0)
task_only_lem t caller rest e = ⊎_elim passed failed (tested (eqb (caller_refusal t caller) 0))
  where
    checked : (eqb caller 0 ≡ false) × (choose (eqb (caller_refusal t caller) 0) rest (caller_refusal t caller) ≡ 0)
    checked = mustnt (eqb caller 0) 18 (choose (eqb (caller_refusal t caller) 0) rest (caller_refusal t caller)) (omega arith) e

    passed : eqb (caller_refusal t caller) 0 ≡ true → Caller t caller × (rest ≡ 0)
    passed p =
        let few = mustnt (ltb (length t.tasks) caller) 4 (choose (waits (task_of t caller)) 14 0) (omega arith) (eqb-true _ 0 p) in
        let awake = mustnt (waits (task_of t caller)) 14 0 (omega arith) few.1 in
        let task : caller ≡ 0 → ⊥ = eqb-false caller 0 checked.0 in
        (record { first = omega arith; last = ltb-false _ _ few.0; ready = awake.0 }, sym (if_yes _ _ p) ∙ checked.1)

    failed : eqb (caller_refusal t caller) 0 ≡ false → Caller t caller × (rest ≡ 0)
    failed p = absurd (eqb-false _ 0 p (sym (if_no _ _ p) ∙ checked.1))

pub any_caller_lem : (t : Tables) (caller rest : ℕ) → any_caller t caller rest ≡ 0 → rest ≡ 0
any_caller_lem t caller rest e =
    ⊎_elim
    (λ (p : (isnt (eqb caller 0) and isnt (eqb (caller_refusal t caller) 0)) ≡ true).
    absurd (eqb-false _ 0 (isnt_false _ (and_both _ _ p).1) (sym (if_yes _ _ p) ∙ e)))
    (λ (p : (isnt (eqb caller 0) and isnt (eqb (caller_refusal t caller) 0)) ≡ false). sym (if_no _ _ p) ∙ e)
    (tested (isnt (eqb caller 0) and isnt (eqb (caller_refusal t caller) 0)))

-- the slot that an identifier names, counted from 0
pub record Found (t : Tables) (id : ℕ) : Type 0 where
  pub place : ℕ
  pub number : slot_named t id ≡ suc place
  pub live : is_live (nth_slot t place) ≡ true
  pub is : id ≡ id_of (suc place) (nth_slot t place)

pub found : (t : Tables) → sizes_fit t ≡ true → (id : ℕ) → names t id ≡ true → Found t id
found t sizes id e =
    let n = named_of t id e in
    record { place = n.place; number = if_yes _ _ e ∙ (names_of t sizes id n).1; live = n.live; is = n.is }

-- no refusal of an obtain is 100
pub obtain_refused : (t : Tables) (caller id : ℕ) (wait : Wait) → obtain_refusal t caller id wait ≡ 100 → ⊥
unfolding obtain_refusal
obtain_refused t caller id wait =
    choose_cases P _ _ _ (λ e z. omega arith)
    (λ e. choose_cases P _ _ _
    (λ e. choose_cases P _ _ _ (λ e. choose_cases P _ _ _ (λ e z. omega arith) (λ e z. omega arith)) (λ e z. omega arith))
    (λ e. choose_cases P _ _ _ (λ e z. omega arith) (λ e. choose_cases P _ _ _ (λ e z. omega arith) (λ e z. omega arith))))
  where
    P : ℕ → Type 0
    P n = n ≡ 100 → ⊥
