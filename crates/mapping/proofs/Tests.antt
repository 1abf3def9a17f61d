-- An identifier, by the slot that it names.
use mathlib.Core.Path.{◌≡◌, ap, sym, ◌∙◌}
use mathlib.Core.Bool.{true, false}
use mathlib.Core.List.{List}
use Prim.Native.Nat.{ℕ, ◌-◌, ◌≤◌, ◌<◌}
use native.Mathlib.Numerals.{sub-one}
use native.Mathlib.Omega.{arith}
use lib.Dec.{leb}
use lib.ListN.{get_or}
use Rattle.laws.specs.Choose.{◌and◌}
use Rattle.laws.proofs.Choose.{if_yes, if_no}
use Rattle.words.specs.Words.{word_at}
use Rattle.rules.specs.Machine.{Slot, free_slot, slot_of, slot_named}
use Rattle.semaphore.specs.Record.{slot_from}
use Rattle.tables.specs.declared.Head.{Head}
use Rattle.tables.specs.Layout.{model_of, record_at, head_of}
use Rattle.tables.specs.Sizes.{Sized}
use Rattle.lookup.proofs.Model.{length_slots, slot_read}
use Rattle.lookup.proofs.CallerAndSlot.{Named, named, not_named}
use Rattle.mapping.specs.Mapping.{greatest_count, is_counting, is_itron, is_mappable}

module _ (bs : List ℕ) (id : ℕ) where
  pub unnamed : slot_named (model_of bs) id ≡ 0 → false ≡ is_mappable (model_of bs) id
  unfolding is_mappable
  unnamed z = sym (if_no _ _ (not_named (model_of bs) id z))

  module _ (n : ℕ) (asked : n ≡ slot_named (model_of bs) id) (some : 1 ≤ n) where
    found : Named (model_of bs) id n
    found = named (model_of bs) id n (sym asked) (omega arith)

    slot_within : n - 1 < word_at bs 1
    slot_within = omega (arith, found.low, found.high, length_slots bs)

    pub slot_there : Sized bs → n - 1 < 64
    slot_there z = omega (arith, slot_within, z.slots)

    -- what is told of the slot's words is told of the identifier
    mappable : (s : Head) → s ≡ head_of (record_at bs (n - 1))
        → (is_counting s.attributes and leb s.maximum greatest_count) ≡ is_mappable (model_of bs) id
    unfolding is_mappable
    mappable s loaded =
        let slot : slot_of (model_of bs) (slot_named (model_of bs) id) ≡ slot_from (record_at bs (n - 1)) =
        ap (λ (k : ℕ). slot_of (model_of bs) k) (sym asked)
        ∙ ap (λ (k : ℕ). get_or (model_of bs).slots k (free_slot 0)) (sym (sub-one n))
        ∙ slot_read bs (n - 1) slot_within
        in
        ap (λ (s : Head). is_counting s.attributes and leb s.maximum greatest_count) loaded
        ∙ ap (λ (s : Slot). is_itron s) (sym slot)
        ∙ sym (if_yes _ _ found.holds)

    pub counting_mappable : (s : Head) → s ≡ head_of (record_at bs (n - 1)) → is_counting s.attributes ≡ true → leb s.maximum greatest_count ≡ is_mappable (model_of bs) id
    counting_mappable s loaded e = sym (if_yes _ _ e) ∙ mappable s loaded

    pub binary_unmappable : (s : Head) → s ≡ head_of (record_at bs (n - 1)) → is_counting s.attributes ≡ false → false ≡ is_mappable (model_of bs) id
    binary_unmappable s loaded e = sym (if_no _ _ e) ∙ mappable s loaded

pub ruleset mappables = (unnamed, slot_there, counting_mappable, binary_unmappable)
