-- A live semaphore, where its slot is, and those who wait on it.
use mathlib.Core.Path.{◌≡◌, sym, subst, ◌∙◌}
use mathlib.Core.Bool.{true}
use mathlib.Core.Logic.{◌≢◌}
use Prim.Native.Nat.{ℕ, zero, suc, pred, ◌/◌, ◌%◌, ◌≤◌, ◌<◌}
use native.Mathlib.Omega.{arith}
use lib.ListN.{length, get_or}
use lib.Seq.{get_or-set_same, get_or-set_other}
use borrow.Author.Tests.{eqb-true}
use Rattle.laws.proofs.Choose.{if_yes, and_both}
use Rattle.rules.specs.Machine.{Slot, Tables, free_slot, task_of, slot_of, put_slot, waits, id_of, names, slot_named}
use Rattle.rules.specs.Agreement.{occurs}
use Rattle.rules.proofs.Invariants.Lists.{occurs_at}
use Rattle.rules.proofs.Invariants.Facts.{nth_task, nth_slot, Facts}
use Rattle.rules.proofs.Invariants.Links.{waits_there}
use Rattle.rules.proofs.Invariants.PartsKept.{below}
use Rattle.rules.proofs.Invariants.ToTests.{names_of}
use Rattle.rules.proofs.History.Used.{Named, names_named}

-- task q waits on the identifier
pub record Waits (t : Tables) (id q : ℕ) : Type 0 where
  pub first : 1 ≤ q
  pub waiting : waits (task_of t q) ≡ true
  pub awaited : (task_of t q).awaited ≡ id

-- the place of an identifier's slot, counted from 0
abbrev pub place_of : ℕ → ℕ
place_of id = pred (id % 65536)

suc_pred : (n : ℕ) → 1 ≤ n → suc (pred n) ≡ n
suc_pred n l = omega arith

placed : (id : ℕ) → 1 ≤ id % 65536 → suc (place_of id) ≡ id % 65536
placed id l = suc_pred (id % 65536) l

module _ (t : Tables) (id : ℕ) (named : names t id ≡ true) where
  parts : Named t id
  parts = names_named t id named

  pub named_at : slot_named t id ≡ id % 65536
  named_at = if_yes _ _ named

  pub is_id : id ≡ id_of (suc (place_of id)) (nth_slot t (place_of id))
  is_id =
      let g : (nth_slot t (place_of id)).generation ≡ id / 65536 = parts.generation in
      omega (arith, placed id parts.low, g)

  -- other identifiers are of other slots
  pub apart : (other : ℕ) → names t other ≡ true → other ≢ id → place_of id ≢ place_of other
  apart other n d e =
      let o = names_named t other n in
      let same : id % 65536 ≡ other % 65536 = omega (arith, e, placed id parts.low, placed other o.low) in
      let generations : id / 65536 ≡ other / 65536 =
      sym parts.generation ∙ subst (λ (k : ℕ). (slot_of t k).generation ≡ other / 65536) (sym same) o.generation in
      d (omega (arith, same, generations))

  -- a slot is put: the semaphore's own, or another's
  module _ (other : ℕ) (there : names t other ≡ true) (s : Slot) where
    pub put_here : other ≡ id → slot_of (put_slot t (other % 65536) s) (id % 65536) ≡ s
    put_here e =
        subst (λ (k : ℕ). slot_of (put_slot t (other % 65536) s) (k % 65536) ≡ s) e
        (get_or-set_same t.slots (place_of other) s (free_slot 0) (omega (arith, placed other (names_named t other there).low, (names_named t other there).high)))

    pub put_elsewhere : other ≢ id → slot_of (put_slot t (other % 65536) s) (id % 65536) ≡ slot_of t (id % 65536)
    put_elsewhere d = get_or-set_other t.slots (place_of other) (place_of id) s (free_slot 0) (apart other there d)

  module _ (f : Facts t) where
    -- who stands in the queue waits on the semaphore
    pub waiter : (q : ℕ) → 1 ≤ occurs q (nth_slot t (place_of id)).queue → Waits t id q
    waiter zero h = absurd (omega (arith, ((f.slots (place_of id)).when_live parts.lives).entries))
    waiter (suc i) h =
        let there = waits_there (nth_task t) (nth_slot t) (below t f) f.linked i (place_of id) parts.lives h in
        record { first = omega arith; waiting = (and_both _ _ there).0; awaited = eqb-true _ _ (and_both _ _ there).1 ∙ sym is_id }

    pub waiter_at : (k : ℕ) → k < length (nth_slot t (place_of id)).queue → Waits t id (get_or (nth_slot t (place_of id)).queue k 0)
    waiter_at k h = waiter _ (occurs_at (nth_slot t (place_of id)).queue k h)

-- the semaphore that a task waits on lives
pub awaited_lives : (t : Tables) → Facts t → (id q : ℕ) → Waits t id q → names t id ≡ true
awaited_lives t f id q w =
    subst (λ (x : ℕ). names t x ≡ true) w.awaited (names_of t f.sizes _ (f.linked.named (pred q) w.waiting)).0
