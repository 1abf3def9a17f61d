-- The slot that a search has found, and the generation that is read of it.
use mathlib.Core.Path.{◌≡◌, sym, ap, ◌∙◌}
use mathlib.Core.Bool.{Bool}
use mathlib.Core.List.{List}
use Prim.Native.Nat.{ℕ, ◌-◌, ◌≤◌}
use native.Mathlib.Numerals.{sub-one}
use native.Mathlib.Omega.{arith}
use lib.ListN.{length, get_or}
use Rattle.rules.specs.Machine.{Slot, free_slot, slot_of}
use Rattle.rules.proofs.Searching.{Hit}
use Rattle.tables.specs.Layout.{model_of, record_at}
use Rattle.tables.specs.Sizes.{Sized}
use Rattle.lookup.proofs.Model.{length_slots, slot_read}

-- the generation of the slot with number n
pub generation_read : (bs : List ℕ) (n g : ℕ) → 1 ≤ n → n ≤ length (model_of bs).slots → g ≡ (record_at bs (n - 1)).generation
    → g ≡ (slot_of (model_of bs) n).generation
generation_read bs n g low high e =
    e
    ∙ sym (ap (λ (s : Slot). s.generation) (slot_read bs (n - 1) (omega (arith, length_slots bs))))
    ∙ ap (λ (k : ℕ). (get_or (model_of bs).slots k (free_slot 0)).generation) (sub-one n)

-- what a read of a slot that a search found requires
pub record FoundSlot (bs : List ℕ) (n : ℕ) : Type 0 where
  pub low : 1 ≤ n
  pub high : n ≤ length (model_of bs).slots
  pub most : n ≤ 64

pub hit_slot : {bs : List ℕ} → Sized bs → {test : Slot → Bool} {n : ℕ} → Hit test (model_of bs).slots 0 n → FoundSlot bs n
hit_slot {bs} z h =
    record { low = omega (arith, h.number); high = omega (arith, h.number, h.within); most = omega (arith, h.number, h.within, length_slots bs, z.slots) }
