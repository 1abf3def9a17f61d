-- What the checks of a call that is not refused have passed.
use mathlib.Core.Path.{◌≡◌, refl, sym, subst}
use mathlib.Core.Bool.{true}
use Prim.Native.Nat.{ℕ, pred, ◌<◌}
use native.Mathlib.Omega.{arith}
use lib.Dec.{eqb}
use lib.ListN.{get_or}
use borrow.Author.Tests.{eqb-false, ltb-true}
use Rattle.laws.proofs.Choose.{and_both}
use Rattle.rules.specs.Numbers.{max_generation, allowed, allowed_count}
use Rattle.rules.specs.Machine.{Tables, free_slot, slot_of, names}
use Rattle.rules.specs.Calls.{open_slot, create_refusal, delete_refusal}
use Rattle.rules.proofs.Invariants.Refusals.{must, mustnt, task_only_lem}
use Rattle.rules.proofs.Searching.{Hit, is_open, open_hit}

pub delete_passed : (t : Tables) (caller id : ℕ) → delete_refusal t caller id ≡ 0 → names t id ≡ true
unfolding delete_refusal
delete_passed t caller id e = (must (names t id) _ 4 (omega arith) (task_only_lem t caller _ e).1).0

-- a create has found a slot
pub create_passed : (t : Tables) (caller name count attributes maximum : ℕ) → create_refusal t caller name count attributes maximum ≡ 0
    → Hit is_open t.slots 0 (open_slot t)
unfolding create_refusal
create_passed t caller name count attributes maximum e =
    let named = mustnt (eqb name 0) 3 _ (omega arith) (task_only_lem t caller _ e).1 in
    let right = must (allowed attributes) _ 11 (omega arith) named.1 in
    let numbers = must (allowed_count count attributes maximum) _ 10 (omega arith) right.1 in
    open_hit t (open_slot t) refl (eqb-false _ _ (mustnt (eqb (open_slot t) 0) 5 0 (omega arith) numbers.1).0)

-- the open slot can have one more generation
pub open_young : (t : Tables) {n : ℕ} → Hit is_open t.slots 0 n → (slot_of t n).generation < max_generation
open_young t {n} h =
    let place : pred n ≡ h.place = omega (arith, h.number) in
    subst (λ (k : ℕ). (get_or t.slots k (free_slot 0)).generation < max_generation) (sym place) (ltb-true _ _ (and_both _ _ h.holds).1)
