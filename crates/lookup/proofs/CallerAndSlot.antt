-- What callers make of a look-up's answer.
use mathlib.Core.Path.{◌≡◌, refl, ap, sym, ◌∙◌}
use mathlib.Core.Bool.{Bool, true, false}
use mathlib.Core.Logic.{⊎_elim}
use Prim.Native.Nat.{ℕ, ◌%◌, ◌≤◌}
use native.Mathlib.Omega.{arith}
use lib.Dec.{leb, eqb}
use lib.ListN.{length}
use borrow.Author.Tests.{leb-true, eqb-true}
use Rattle.laws.specs.Choose.{choose, ◌and◌, isnt}
use Rattle.laws.proofs.Choose.{if_yes, if_no, and_both, tested}
use Rattle.rules.specs.Machine.{Tables, names, slot_named}
use Rattle.rules.specs.Calls.{task_only, any_caller, caller_refusal}

-- ---- the caller's refusal, then the rest of the checks

-- a status of 0 is no refusal
zero_or : (x : ℕ) → choose (eqb x 0) 0 x ≡ x
zero_or x = ⊎_elim (λ e. if_yes 0 x e ∙ sym (eqb-true x 0 e)) (λ e. if_no 0 x e) (tested (eqb x 0))

choose_isnt : (t : Bool) (x y : ℕ) → choose (isnt t) x y ≡ choose t y x
unfolding choose
choose_isnt true x y = refl
choose_isnt false x y = refl

first_then : (interrupt : Bool) (x rest : ℕ)
    → choose interrupt 18 (choose (eqb x 0) rest x)
    ≡ choose (eqb (choose interrupt 18 (choose (eqb x 0) 0 x)) 0) rest (choose interrupt 18 (choose (eqb x 0) 0 x))
unfolding choose
first_then true x rest = refl
first_then false x rest = ap (λ (y : ℕ). choose (eqb y 0) rest y) (sym (zero_or x))

pub task_only_then : (t : Tables) (caller rest : ℕ)
    → task_only t caller rest ≡ choose (eqb (task_only t caller 0) 0) rest (task_only t caller 0)
task_only_then t caller rest = first_then (eqb caller 0) (caller_refusal t caller) rest

any_then : (interrupt : Bool) (x rest : ℕ)
    → choose (isnt interrupt and isnt (eqb x 0)) x rest
    ≡ choose (eqb (choose (isnt interrupt and isnt (eqb x 0)) x 0) 0) rest (choose (isnt interrupt and isnt (eqb x 0)) x 0)
unfolding choose
any_then true x rest = refl
any_then false x rest =
    choose_isnt (eqb x 0) x rest ∙ ap (λ (y : ℕ). choose (eqb y 0) rest y) (sym (choose_isnt (eqb x 0) x 0 ∙ zero_or x))

pub any_caller_then : (t : Tables) (caller rest : ℕ)
    → any_caller t caller rest ≡ choose (eqb (any_caller t caller 0) 0) rest (any_caller t caller 0)
any_caller_then t caller rest = any_then (eqb caller 0) (caller_refusal t caller) rest

-- a task's refusal, where the caller is no interrupt
module _ (t : Tables) (caller : ℕ) (task : eqb caller 0 ≡ false) where
  pub task_only_task : caller_refusal t caller ≡ task_only t caller 0
  task_only_task = sym (if_no 18 _ task ∙ zero_or (caller_refusal t caller))

  pub any_caller_task : caller_refusal t caller ≡ any_caller t caller 0
  any_caller_task =
      let x = caller_refusal t caller in
      sym
      (ap (λ (b : Bool). choose (isnt b and isnt (eqb x 0)) x 0) task
      ∙ ap (λ (b : Bool). choose b x 0) (if_yes (isnt (eqb x 0)) false (if_no false true refl))
      ∙ choose_isnt (eqb x 0) x 0
      ∙ zero_or x)

-- ---- the slot that an identifier names

pub record Named (t : Tables) (id n : ℕ) : Type 0 where
  pub holds : names t id ≡ true
  pub slot : n ≡ id % 65536
  pub low : 1 ≤ n
  pub high : n ≤ length t.slots

module _ (t : Tables) (id : ℕ) where
  pub named : (n : ℕ) → slot_named t id ≡ n → (n ≡ 0 → ⊥) → Named t id n
  named n e z = ⊎_elim found (λ (f : names t id ≡ false). absurd (z (sym e ∙ if_no (id % 65536) 0 f))) (tested (names t id))
    where
      found : names t id ≡ true → Named t id n
      found h =
          let parts = and_both (leb 1 (id % 65536)) _ h in
          let rest = and_both (leb (id % 65536) (length t.slots)) _ parts.1 in
          let s : n ≡ id % 65536 = sym e ∙ if_yes (id % 65536) 0 h in
          let l : 1 ≤ id % 65536 = leb-true 1 (id % 65536) parts.0 in
          let u : id % 65536 ≤ length t.slots = leb-true (id % 65536) (length t.slots) rest.0 in
          record { holds = h; slot = s; low = omega arith; high = omega arith }

  pub not_named : slot_named t id ≡ 0 → names t id ≡ false
  not_named e = ⊎_elim none (λ (f : names t id ≡ false). f) (tested (names t id))
    where
      none : names t id ≡ true → names t id ≡ false
      none h =
          let l : 1 ≤ id % 65536 = leb-true 1 (id % 65536) (and_both (leb 1 (id % 65536)) _ h).0 in
          let z : id % 65536 ≡ 0 = sym (if_yes (id % 65536) 0 h) ∙ e in
          absurd (omega arith)
