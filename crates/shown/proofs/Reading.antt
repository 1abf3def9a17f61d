-- What is read to be shown is what the model has, and is within its limits.
use mathlib.Core.Path.{◌≡◌, sym, ap, subst, ◌∙◌}
use mathlib.Core.List.{List}
use Prim.Native.Nat.{ℕ, suc, pred, ◌≤◌, ◌<◌}
use native.Mathlib.Omega.{arith}
use lib.ListN.{get_or, get_or-eq_default}
use Rattle.words.specs.Words.{word_at}
use Rattle.rules.specs.Machine.{Slot, free_slot, slot_of}
use Rattle.semaphore.specs.declared.Semaphore.{Semaphore}
use Rattle.semaphore.specs.Record.{slot_from}
use Rattle.tables.specs.Layout.{model_of, record_at}
use Rattle.tables.proofs.LayoutRead.{padded_laid}
use Rattle.lookup.proofs.Model.{length_slots, slot_read}
use Rattle.calls.specs.Agreeing.{Agreeing}
use Rattle.calls.proofs.Agreeing.{sized, agrees_holds}
use Rattle.calls.proofs.Reading as calls

-- the name in a slot's place, which is counted from 0
module _ (bs : List ℕ) (n i : ℕ) (e : i ≡ pred n) where
  named : (s : Slot) → get_or (model_of bs).slots i (free_slot 0) ≡ s → s.name ≡ (slot_of (model_of bs) n).name
  named s read = ap {B = ℕ} (λ (s : Slot). s.name) (sym read) ∙ ap {B = ℕ} (λ (k : ℕ). (get_or (model_of bs).slots k (free_slot 0)).name) e

  pub name_none : word_at bs 1 ≤ i → 0 ≡ (slot_of (model_of bs) n).name
  name_none h = named (free_slot 0) (get_or-eq_default (model_of bs).slots (free_slot 0) (rw length_slots h))

  pub name_read : i < word_at bs 1 → (record_at bs i).name ≡ (slot_of (model_of bs) n).name
  name_read h = named _ (slot_read bs i h)

-- a slot that was loaded
pub slot_loaded : (bs : List ℕ) (i : ℕ) → i < word_at bs 1 → (s : Semaphore) → s ≡ record_at bs i → slot_from s ≡ slot_of (model_of bs) (suc i)
slot_loaded bs i h s e = ap slot_from e ∙ sym (slot_read bs i h)

module _ {bs : List ℕ} (g : Agreeing bs) (i : ℕ) (h : i < word_at bs 1) where
  pub generation_few : (record_at bs i).generation ≤ 65535
  generation_few = subst (λ (s : Slot). s.generation ≤ 65535) (slot_read bs i h) (calls.generation_few (model_of bs) g.agrees (suc i))

  pub waiters_few : (record_at bs i).waiters ≤ 32
  waiters_few =
      subst (λ (x : List ℕ). (record_at x i).waiters ≤ 32) (sym g.same)
      (padded_laid (model_of bs) (agrees_holds (model_of bs) g.agrees) i (omega (arith, (sized g).slots))).few
