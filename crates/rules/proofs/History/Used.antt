-- Identifiers that are used, that name a semaphore, and that have ended, and how they fare as tables go forward.
use mathlib.Core.Path.{◌≡◌, sym}
use mathlib.Core.Bool.{true, false}
use mathlib.Core.Logic.{◌⊎◌, inl, inr, ⊎_elim}
use Prim.Native.Nat.{ℕ, ◌/◌, ◌%◌, ◌≤◌}
use native.Mathlib.Omega.{arith}
use lib.Dec.{leb}
use lib.ListN.{length}
use borrow.Author.Tests.{eqb-true, leb-true, le-leb, eq-eqb}
use Rattle.laws.proofs.Choose.{and_both, both_and, tested, never}
use Rattle.rules.specs.Machine.{Slot, Tables, slot_of, is_live, names}
use Rattle.rules.proofs.History.Forward.{Onward, Forward}

-- an identifier that some semaphore has or had: its slot's generation has come as far
pub record Used (t : Tables) (id : ℕ) : Type 0 where
  pub low : 1 ≤ id % 65536
  pub high : id % 65536 ≤ length t.slots
  pub reached : id / 65536 ≤ (slot_of t (id % 65536)).generation

-- its semaphore is no more: the slot is of a later generation, or free
pub record Ended (t : Tables) (id : ℕ) : Type 0 where
  pub used : Used t id
  pub gone : id / 65536 ≡ (slot_of t (id % 65536)).generation → is_live (slot_of t (id % 65536)) ≡ false

-- what it is to name a live semaphore
pub record Named (t : Tables) (id : ℕ) : Type 0 where
  pub low : 1 ≤ id % 65536
  pub high : id % 65536 ≤ length t.slots
  pub lives : is_live (slot_of t (id % 65536)) ≡ true
  pub generation : (slot_of t (id % 65536)).generation ≡ id / 65536

module _ (t : Tables) (id : ℕ) where
  abbrev slot : Slot
  slot = slot_of t (id % 65536)

  pub names_named : names t id ≡ true → Named t id
  names_named e =
      let rest = and_both (leb 1 (id % 65536)) _ e in
      let more = and_both (leb (id % 65536) (length t.slots)) _ rest.1 in
      let last = and_both (is_live slot) _ more.1 in
      record { low = leb-true _ _ rest.0; high = leb-true _ _ more.0; lives = last.0; generation = eqb-true _ _ last.1 }

  pub named_names : Named t id → names t id ≡ true
  named_names n =
      both_and (le-leb 1 (id % 65536) n.low) (both_and (le-leb _ _ n.high) (both_and n.lives (eq-eqb _ _ n.generation)))

  pub named_used : names t id ≡ true → Used t id
  named_used e = let n : Named t id = names_named e in record { low = n.low; high = n.high; reached = omega arith }

  pub ended_unnamed : Ended t id → names t id ≡ false
  ended_unnamed d =
      ⊎_elim (λ (e : names t id ≡ true). never (names_named e).lives (d.gone (sym (names_named e).generation)))
      (λ (e : names t id ≡ false). e) (tested (names t id))

module _ {t t' : Tables} (f : Forward t t') (id : ℕ) where
  pub used_stays : Used t id → Used t' id
  used_stays u =
      let o : Onward (slot_of t (id % 65536)) (slot_of t' (id % 65536)) = f.onward (id % 65536) in
      record { low = u.low; high = omega arith; reached = omega arith }

  pub ended_stays : Ended t id → Ended t' id
  ended_stays d = record { used = used_stays d.used; gone = λ e. not_live e }
    where
      o : Onward (slot_of t (id % 65536)) (slot_of t' (id % 65536))
      o = f.onward (id % 65536)

      same : id / 65536 ≡ (slot_of t' (id % 65536)).generation → (slot_of t (id % 65536)).generation ≡ (slot_of t' (id % 65536)).generation
      same e = omega (arith, o.rises, d.used.reached)

      not_live : id / 65536 ≡ (slot_of t' (id % 65536)).generation → is_live (slot_of t' (id % 65536)) ≡ false
      not_live e =
          ⊎_elim (λ (l : is_live (slot_of t' (id % 65536)) ≡ true).
          never (o.lives (same e) l) (d.gone (omega (arith, o.rises, d.used.reached))))
          (λ (l : is_live (slot_of t' (id % 65536)) ≡ false). l) (tested (is_live (slot_of t' (id % 65536))))

  -- a name lasts until it ends
  pub named_or_ended : names t id ≡ true → (names t' id ≡ true) ⊎ Ended t' id
  named_or_ended e =
      ⊎_elim (λ (y : names t' id ≡ true). inl y) (λ (y : names t' id ≡ false). inr (record { used = u; gone = λ g. gone y g })) (tested (names t' id))
    where
      u : Used t' id
      u = used_stays (named_used t id e)

      gone : names t' id ≡ false → id / 65536 ≡ (slot_of t' (id % 65536)).generation → is_live (slot_of t' (id % 65536)) ≡ false
      gone y g =
          ⊎_elim (λ (l : is_live (slot_of t' (id % 65536)) ≡ true).
          never (named_names t' id (record { low = u.low; high = u.high; lives = l; generation = sym g })) y)
          (λ (l : is_live (slot_of t' (id % 65536)) ≡ false). l) (tested (is_live (slot_of t' (id % 65536))))
