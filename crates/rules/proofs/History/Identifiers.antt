-- Identifiers never come back: one that a delete has ended is neither given nor served ever after, no create gives one twice,
-- and a slot freed at the last generation is never used again.
use mathlib.Core.Path.{◌≡◌, sym, ap, subst, ◌∙◌}
use mathlib.Core.Bool.{true, false}
use mathlib.Core.List.{List}
use mathlib.Core.Logic.{◌⊎◌, ⊎_elim}
use Prim.Native.Nat.{ℕ, ◌+◌, ◌/◌, ◌%◌, ◌≤◌}
use native.Mathlib.Omega.{arith}
use Rattle.rules.specs.declared.Call.TheVariants.{Create, Delete}
use Rattle.rules.specs.Numbers.{max_generation}
use Rattle.rules.specs.Machine.{Slot, Tables, slot_of, is_live, names}
use Rattle.rules.specs.Calls.{Outcome, open_slot, step}
use Rattle.rules.specs.Runs.{Request, after}
use Rattle.rules.specs.Promises.{NeverAgain, Retired}
use Rattle.laws.proofs.Choose.{tested, never}
use Rattle.rules.proofs.History.CallsForward.{run_forward}
use Rattle.rules.proofs.History.Used.{Used, Ended, names_named, named_names, named_used, ended_unnamed, used_stays, ended_stays, named_or_ended}
use Rattle.rules.proofs.History.Unnamed.{unnamed_refused}
use Rattle.rules.proofs.History.Done.{Created, create_done, deleted_ended, delete_done, ident_done, id_parts}

-- what a run leaves of a used and of an ended identifier
pub used_after : (t : Tables) (id : ℕ) (requests : List Request) → Used t id → Used (after t requests) id
used_after t id requests u = used_stays (run_forward t requests (omega arith)) id u

pub ended_after : (t : Tables) (id : ℕ) (requests : List Request) → Ended t id → Ended (after t requests) id
ended_after t id requests d = ended_stays (run_forward t requests (omega arith)) id d

-- a name lasts through a run, or has ended
pub named_or_ended_after : (t : Tables) (id : ℕ) (requests : List Request) → names t id ≡ true
    → (names (after t requests) id ≡ true) ⊎ Ended (after t requests) id
named_or_ended_after t id requests n =
    let u : Used t id = named_used t id n in
    named_or_ended (run_forward t requests (omega arith)) id n

module _ (t : Tables) {m : ℕ} (o : Outcome) (c : Created t m o) where
  pub parts : (o.answer.value % 65536 ≡ open_slot t) × (o.answer.value / 65536 ≡ (slot_of t (open_slot t)).generation + 1)
  parts =
      subst (λ (v : ℕ). (v % 65536 ≡ open_slot t) × (v / 65536 ≡ (slot_of t (open_slot t)).generation + 1)) (sym c.value)
      (id_parts ((slot_of t (open_slot t)).generation + 1) (open_slot t) (omega arith))

  -- what a create gives was never used: it neither names a semaphore nor has ended
  pub created_unused : Used t o.answer.value → ⊥
  created_unused u = omega (arith, parts.1, reached)
    where
      reached : o.answer.value / 65536 ≤ (slot_of t (open_slot t)).generation
      reached = subst (λ (n : ℕ). o.answer.value / 65536 ≤ (slot_of t n).generation) parts.0 u.reached

  -- and names the new semaphore
  pub created_named : names o.tables o.answer.value ≡ true
  created_named = named_names o.tables o.answer.value (record {
    low = omega (arith, parts.0);
    high = omega (arith, parts.0);
    lives = subst (λ (n : ℕ). is_live (slot_of o.tables n) ≡ true) (sym parts.0) c.lives;
    generation = subst (λ (n : ℕ). (slot_of o.tables n).generation ≡ o.answer.value / 65536) (sym parts.0) (omega (arith, c.generation, parts.1));
  })

-- ---- over any calls between, and with any priorities beside each call

-- a deleted semaphore's identifier names nothing, whatever is called afterwards
pub deleted_never_names : (t : Tables) (caller id : ℕ) (priorities : List ℕ) (requests : List Request)
    → (step t (Delete caller id) priorities).answer.status ≡ 0 → names (after (step t (Delete caller id) priorities).tables requests) id ≡ false
deleted_never_names t caller id priorities requests e =
    ended_unnamed _ id (ended_after _ id requests (deleted_ended (delete_done t caller id priorities e)))

-- an identifier that names nothing, and that no create gives
never_again : (t : Tables) (id : ℕ) → names t id ≡ false
    → ((m : ℕ) (o : Outcome) → Created t m o → o.answer.value ≡ id → ⊥) → NeverAgain (λ call priorities. (step t call priorities).answer) id
never_again t id n fresh =
    record {
      not_created = λ caller name count attributes maximum priorities s. fresh _ _ (create_done t caller name count attributes maximum priorities s);
      not_found = λ name priorities s v. never (subst (λ (x : ℕ). names t x ≡ true) v (ident_done t name priorities s)) n;
      refused = unnamed_refused t id n;
    }

-- an identifier that was used and names nothing never comes back
used_never_again : (t : Tables) (id : ℕ) → Used t id → names t id ≡ false → NeverAgain (λ call priorities. (step t call priorities).answer) id
used_never_again t id u n = never_again t id n (λ m o c v. created_unused t o c (subst (Used t) (sym v) u))

-- a deleted identifier is given by no later create or ident, and no later call that takes it is served
pub deleted_never_again : (t : Tables) (caller id : ℕ) (priorities : List ℕ) (requests : List Request)
    → (step t (Delete caller id) priorities).answer.status ≡ 0
    → let t' = after (step t (Delete caller id) priorities).tables requests in NeverAgain (λ call priorities. (step t' call priorities).answer) id
deleted_never_again t caller id priorities requests e =
    let d = ended_after _ id requests (deleted_ended (delete_done t caller id priorities e)) in
    used_never_again _ id d.used (ended_unnamed _ id d)

-- an identifier that named a semaphore once is never given by a create again
pub created_is_new : (t : Tables) (id : ℕ) (requests : List Request) (caller name count attributes maximum : ℕ) (priorities : List ℕ) → names t id ≡ true
    → let a = (step (after t requests) (Create caller name count attributes maximum) priorities).answer in a.status ≡ 0 → a.value ≡ id → ⊥
created_is_new t id requests caller name count attributes maximum priorities n e v =
    created_unused (after t requests) _ (create_done (after t requests) caller name count attributes maximum priorities e)
    (subst (Used (after t requests)) (sym v) (used_after t id requests (named_used t id n)))

-- no two creates of a run give the same identifier
pub created_once : (t : Tables) (caller name count attributes maximum : ℕ) (priorities : List ℕ) (requests : List Request)
    (caller' name' count' attributes' maximum' : ℕ) (priorities' : List ℕ)
    → let o = step t (Create caller name count attributes maximum) priorities in o.answer.status ≡ 0
    → let a = (step (after o.tables requests) (Create caller' name' count' attributes' maximum') priorities').answer in
    a.status ≡ 0 → a.value ≡ o.answer.value → ⊥
created_once t caller name count attributes maximum priorities requests caller' name' count' attributes' maximum' priorities' e =
    created_is_new _ _ requests caller' name' count' attributes' maximum' priorities'
    (created_named t _ (create_done t caller name count attributes maximum priorities e))

-- ---- a slot that was freed at the last generation

-- a delete of a semaphore of the last generation retires its slot
pub deleted_retires : (t : Tables) (caller id : ℕ) (priorities : List ℕ) → (step t (Delete caller id) priorities).answer.status ≡ 0 → id / 65536 ≡ max_generation
    → Retired (step t (Delete caller id) priorities).tables (id % 65536)
deleted_retires t caller id priorities e g =
    let d = delete_done t caller id priorities e in
    let n = names_named t id d.named in
    record {
      low = n.low;
      high = omega (arith, n.high, d.same_size);
      free = ap is_live d.slot;
      spent = ap (λ (s : Slot). s.generation) d.slot ∙ g;
    }

pub retired_after : (t : Tables) (n : ℕ) (requests : List Request) → Retired t n → Retired (after t requests) n
retired_after t n requests r =
    let f = run_forward t requests (omega (arith, r.low, r.high)) in
    let same = (f.onward n).last (omega (arith, r.spent)) in
    record {
      low = r.low;
      high = omega (arith, r.high, f.same_size);
      free =
          ⊎_elim (λ (l : is_live (slot_of (after t requests) n) ≡ true). never ((f.onward n).lives (sym same) l) r.free)
          (λ (l : is_live (slot_of (after t requests) n) ≡ false). l) (tested (is_live (slot_of (after t requests) n)));
      spent = same ∙ r.spent;
    }

-- it is never used again: no identifier of that slot is given or taken
pub retired_never_again : (t : Tables) (n : ℕ) → Retired t n → (requests : List Request) (id : ℕ) → id % 65536 ≡ n
    → NeverAgain (λ call priorities. (step (after t requests) call priorities).answer) id
retired_never_again t n r requests id e = never_again t' id unnamed fresh
  where
    t' : Tables
    t' = after t requests

    stays : Retired t' n
    stays = retired_after t n requests r

    unnamed : names t' id ≡ false
    unnamed =
        ⊎_elim (λ (y : names t' id ≡ true). never (subst (λ (k : ℕ). is_live (slot_of t' k) ≡ true) e (names_named t' id y).lives) stays.free)
        (λ (y : names t' id ≡ false). y) (tested (names t' id))

    fresh : (m : ℕ) (o : Outcome) → Created t' m o → o.answer.value ≡ id → ⊥
    fresh m o c v =
        let at : open_slot t' ≡ n = sym (parts t' o c).0 ∙ ap (λ (x : ℕ). x % 65536) v ∙ e in
        omega (arith, c.young, stays.spent, ap (λ (k : ℕ). (slot_of t' k).generation) at)
