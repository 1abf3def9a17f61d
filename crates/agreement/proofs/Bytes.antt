-- The passes over lent bytes, and the whole test: its parts in the order of the code.
use mathlib.Core.Path.{◌≡◌, ap, ap₂, sym, ◌∙◌}
use mathlib.Core.List.{List}
use mathlib.Core.Bool.{Bool, false}
use Prim.Native.Nat.{ℕ, suc, pred, ◌+◌, ◌≤◌, ◌<◌}
use native.Mathlib.Omega.{arith}
use native.Mathlib.Numerals.{add-one}
use lib.ListN.{get_or}
use Rattle.laws.specs.Choose.{◌and◌}
use Rattle.laws.proofs.Choose.{same_test}
use Rattle.laws.specs.All.{all}
use Rattle.laws.proofs.All.{all_at, all_of}
use Rattle.words.specs.Words.{word_at}
use Rattle.words.proofs.WordsInBytes.{Bytes}
use Rattle.rules.specs.declared.Task.{Task}
use Rattle.rules.specs.Numbers.{max_number}
use Rattle.rules.specs.Machine.{Slot, no_task, free_slot, task_of, slot_of}
use Rattle.rules.specs.Agreement.{counts_fit, sizes_fit}
use Rattle.rules.proofs.Invariants.Facts.{everywhere}
use Rattle.tables.specs.Layout.{task_at, model_of, is_laid}
use Rattle.tables.proofs.LayoutRead.{task_below, record_below}
use Rattle.lookup.proofs.Model.{length_tasks, length_slots, task_read, slot_read}
use Rattle.agreement.specs.Tests.{Marked, slot_agrees, task_agrees, seen_with, seen_below, SlotTested, seen_all, tasks_agree, tables_agree}
use Rattle.agreement.specs.Bytes.{agrees_bytes}
use Rattle.agreement.proofs.Passes.{Narrow, agrees_passes}

-- ---- the passes

all_same : (n : ℕ) (p q : ℕ → Bool) → ((k : ℕ) → k < n → p k ≡ q k) → all n p ≡ all n q
all_same n p q same =
    same_test _ _ (λ e. all_of n q (λ k h. sym (same k h) ∙ all_at n p e k h)) (λ e. all_of n p (λ k h. same k h ∙ all_at n q e k h))

module _ (bs : List ℕ) where
  abbrev pub slot_passes : ℕ → Bool
  slot_passes i = slot_agrees (model_of bs) (seen_below (model_of bs) i) (suc i) (slot_of (model_of bs) (suc i))

  -- what the test of slot i tells, with the marks of those before it
  pub slot_told : (i : ℕ) {seen after : List Bool} {r : Bool} → seen ≡ seen_below (model_of bs) i
      → SlotTested (model_of bs) seen (suc i) (slot_of (model_of bs) (suc i)) r after
      → Marked (slot_passes i) (seen_below (model_of bs) (i + 1)) r after
  unfolding seen_below
  slot_told i e s =
      let slot = slot_of (model_of bs) (suc i) in
      record {
        answer = s.answer ∙ ap (λ (seen : List Bool). slot_agrees (model_of bs) seen (suc i) slot) e;
        marks = λ y. s.marks y ∙ ap (λ (seen : List Bool). seen_with seen slot) e ∙ ap (seen_below (model_of bs)) (sym (add-one i));
      }

  abbrev pub task_passes : List Bool → ℕ → Bool
  task_passes seen i = task_agrees (get_or seen i false) (task_of (model_of bs) (suc i))

  -- the tests of the tasks as they are read, where all are marked
  pub tasks_tested : (seen : List Bool) → seen ≡ seen_all (model_of bs)
      → all (word_at bs 0) (λ i. task_agrees (get_or seen i false) (task_at bs i)) ≡ tasks_agree (model_of bs)
  unfolding tasks_agree
  tasks_tested seen e =
      all_same (word_at bs 0) _ (task_passes seen) (λ i h. ap (task_agrees (get_or seen i false)) (sym (task_read bs i h)))
      ∙ ap₂ (λ (n : ℕ) (seen : List Bool). all n (task_passes seen)) (sym (length_tasks bs)) e

  pub counts_read : {n s : ℕ} → n ≡ word_at bs 0 → s ≡ word_at bs 1 → counts_fit n s ≡ sizes_fit (model_of bs)
  unfolding sizes_fit
  counts_read e f = ap₂ counts_fit (e ∙ sym (length_tasks bs)) (f ∙ sym (length_slots bs))

-- ---- the whole

record NarrowTask (v : Task) : Type 0 where
  awaited : v.awaited ≤ max_number
  ticks : v.ticks ≤ max_number

record NarrowSlot (s : Slot) : Type 0 where
  name : s.name ≤ max_number
  count : s.count ≤ max_number
  nest : s.nest ≤ max_number
  maximum : s.maximum ≤ max_number

module _ (bs : List ℕ) (b : Bytes bs) where
  narrow_task : (i : ℕ) → NarrowTask (get_or (model_of bs).tasks i no_task)
  narrow_task =
      everywhere NarrowTask (model_of bs).tasks no_task (record { awaited = omega arith; ticks = omega arith })
      (λ i h.
      rw (task_read bs i (omega (arith, length_tasks bs)))
      (record { awaited = omega (arith, task_below bs b i 2); ticks = omega (arith, task_below bs b i 3) }))

  narrow_slot : (i : ℕ) → NarrowSlot (get_or (model_of bs).slots i (free_slot 0))
  narrow_slot =
      everywhere NarrowSlot (model_of bs).slots (free_slot 0) (record { name = omega arith; count = omega arith; nest = omega arith; maximum = omega arith })
      (λ i h.
      rw (slot_read bs i (omega (arith, length_slots bs)))
      (record {
        name = omega (arith, record_below bs b i 2);
        count = omega (arith, record_below bs b i 4);
        nest = omega (arith, record_below bs b i 6);
        maximum = omega (arith, record_below bs b i 7);
      }))

  narrow : Narrow (model_of bs)
  narrow =
      record {
        awaited = λ q. (narrow_task (pred q)).awaited;
        ticks = λ q. (narrow_task (pred q)).ticks;
        name = λ n. (narrow_slot (pred n)).name;
        count = λ n. (narrow_slot (pred n)).count;
        nest = λ n. (narrow_slot (pred n)).nest;
        maximum = λ n. (narrow_slot (pred n)).maximum;
      }

  pub bytes_tested : (is_laid bs and tables_agree (model_of bs)) ≡ agrees_bytes bs
  unfolding agrees_bytes tables_agree
  bytes_tested = ap (λ (a : Bool). is_laid bs and a) (agrees_passes (model_of bs) narrow)
