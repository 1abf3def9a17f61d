-- What each test on the way of a look-up says of its answer, over the model of lent bytes.
use mathlib.Core.Path.{◌≡◌, ap, ap₂, sym, ◌∙◌}
use mathlib.Core.Bool.{Bool, true, false}
use mathlib.Core.List.{List}
use mathlib.Core.Logic.{◌⊎◌, ⊎_elim}
use Prim.Native.Nat.{ℕ, pred, ◌-◌, ◌/◌, ◌%◌, ◌≤◌, ◌<◌}
use native.Mathlib.Omega.{arith}
use lib.Dec.{ltb, eqb}
use Rattle.std.specs.Prelude.{None, Some}
use lib.ListN.{length, get_or}
use borrow.Author.Tests.{eq-eqb, ne_eqb, le-leb, lt-leb}
use Rattle.laws.specs.Choose.{choose, ◌and◌, isnt}
use Rattle.laws.proofs.Choose.{if_yes, if_no, if_lt, if_not_lt, choose_same, both_and}
use Rattle.words.specs.Words.{word_at}
use Rattle.rules.specs.declared.Task.{Task}
use Rattle.rules.specs.Machine.{Slot, no_task, free_slot, task_of, slot_of, waits, names, slot_named}
use Rattle.rules.specs.Calls.{caller_refusal}
use Rattle.rules.specs.Found.{Finds}
use Rattle.tables.specs.Layout.{model_of, task_at, record_at}
use Rattle.lookup.specs.declared.looks.Look.{Look}
use Rattle.lookup.specs.Search.{is_match}
use Rattle.rules.proofs.Searching.{is_open, is_named}
use Rattle.lookup.proofs.Model.{length_tasks, length_slots, task_read, task_none, slot_read}

pub and_first : {a : Bool} (b : Bool) → a ≡ false → (a and b) ≡ false
and_first b e = if_no b false e

pub and_second : (a : Bool) {b : Bool} → b ≡ false → (a and b) ≡ false
and_second a {b} e = ap (λ (b : Bool). a and b) e ∙ choose_same a false

-- ---- a task by its number

module _ (bs : List ℕ) where
  pub task_of_lem : (q i : ℕ) (v : Task) → i ≡ pred q → i < word_at bs 0 → v ≡ task_at bs i → task_of (model_of bs) q ≡ v
  task_of_lem q i v p h e = ap (λ (k : ℕ). get_or (model_of bs).tasks k no_task) (sym p) ∙ task_read bs i h ∙ sym e

  pub own_of : (q i : ℕ) (v : Task) → i ≡ pred q → i < word_at bs 0 → v ≡ task_at bs i → v.priority ≡ (task_of (model_of bs) q).priority
  own_of q i v p h e = sym (ap (λ (v : Task). v.priority) (task_of_lem q i v p h e))

  pub own_none : (q i : ℕ) → i ≡ pred q → word_at bs 0 ≤ i → 0 ≡ (task_of (model_of bs) q).priority
  own_none q i p h =
      sym (ap (λ (k : ℕ). (get_or (model_of bs).tasks k no_task).priority) (sym p) ∙ ap (λ (v : Task). v.priority) (task_none bs i h))

  pub refused_above : (caller : ℕ) → word_at bs 0 < caller → 4 ≡ caller_refusal (model_of bs) caller
  refused_above caller h = sym (if_lt (length (model_of bs).tasks) caller 4 _ (rw length_tasks h))

  module _ (caller : ℕ) (v : Task) (low : 1 ≤ caller) (high : caller ≤ word_at bs 0) (loaded : v ≡ task_at bs (caller - 1)) where
    refused_by_lem : caller_refusal (model_of bs) caller ≡ choose (waits v) 14 0
    refused_by_lem =
        if_not_lt (length (model_of bs).tasks) caller 4 _ (rw length_tasks high)
        ∙ ap (λ (v : Task). choose (waits v) 14 0) (task_of_lem caller (caller - 1) v (omega arith) (omega arith) loaded)

    pub refused_waits : v.answer ≡ 100 → 14 ≡ caller_refusal (model_of bs) caller
    refused_waits h = sym (refused_by_lem ∙ if_yes 14 0 (eq-eqb v.answer 100 h))

    pub not_refused : (v.answer ≡ 100 → ⊥) → 0 ≡ caller_refusal (model_of bs) caller
    not_refused h = sym (refused_by_lem ∙ if_no 14 0 (ne_eqb v.answer 100 h))

pub ruleset owning = (own_of, own_none)

pub ruleset refusing = (refused_above, refused_waits, not_refused)

-- ---- a slot by its index, and the words of it that a search tests

module _ (bs : List ℕ) (i : ℕ) (h : i < word_at bs 1) where
  pub slot_live : (get_or (model_of bs).slots i (free_slot 0)).live ≡ (record_at bs i).live
  slot_live = ap (λ (s : Slot). s.live) (slot_read bs i h)

  pub slot_generation : (get_or (model_of bs).slots i (free_slot 0)).generation ≡ (record_at bs i).generation
  slot_generation = ap (λ (s : Slot). s.generation) (slot_read bs i h)

  pub slot_name : (get_or (model_of bs).slots i (free_slot 0)).name ≡ (record_at bs i).name
  slot_name = ap (λ (s : Slot). s.name) (slot_read bs i h)

  -- what a search answers of a slot's words, it answers of the slot
  pub open_test : (live generation : ℕ) (r : Bool) → live ≡ (record_at bs i).live → generation ≡ (record_at bs i).generation
      → r ≡ (isnt (eqb live 1) and ltb generation 65535) → is_open (get_or (model_of bs).slots i (free_slot 0)) ≡ r
  open_test live generation r l g e =
      ap₂ (λ (live generation : ℕ). isnt (eqb live 1) and ltb generation 65535) (slot_live ∙ sym l) (slot_generation ∙ sym g) ∙ sym e

  pub match_test : (last : Look) (name : ℕ) → last.live ≡ (record_at bs i).live → last.name ≡ (record_at bs i).name
      → is_named name (get_or (model_of bs).slots i (free_slot 0)) ≡ is_match last name
  match_test last name l f =
      ap₂ (λ (live found : ℕ). eqb live 1 and eqb found name) (slot_live ∙ sym l) (slot_name ∙ sym f)

-- ---- the slot that an identifier names

module _ (bs : List ℕ) (id : ℕ) where
  unnamed : names (model_of bs) id ≡ false → Finds None (slot_named (model_of bs) id)
  unnamed e = if_no (id % 65536) 0 e

  pub unnamed_outside : (id % 65536 ≡ 0) ⊎ (word_at bs 1 < id % 65536) → Finds None (slot_named (model_of bs) id)
  unnamed_outside =
      ⊎_elim (λ (h : id % 65536 ≡ 0). unnamed (and_first _ (lt-leb 1 (id % 65536) (omega arith))))
      (λ (h : word_at bs 1 < id % 65536). unnamed (and_second _ (and_first _ (lt-leb (id % 65536) (length (model_of bs).slots) (rw length_slots h)))))

  module _ (low : (id % 65536 ≡ 0) → ⊥) (high : id % 65536 ≤ word_at bs 1) where
    abbrev at : ℕ
    at = id % 65536 - 1

    at_pred : at ≡ pred (id % 65536)
    at_pred = omega arith

    live_word : (slot_of (model_of bs) (id % 65536)).live ≡ (record_at bs at).live
    live_word = ap (λ (k : ℕ). (get_or (model_of bs).slots k (free_slot 0)).live) (sym at_pred) ∙ slot_live bs at (omega arith)

    generation_word : (slot_of (model_of bs) (id % 65536)).generation ≡ (record_at bs at).generation
    generation_word = ap (λ (k : ℕ). (get_or (model_of bs).slots k (free_slot 0)).generation) (sym at_pred) ∙ slot_generation bs at (omega arith)

    pub unnamed_free : ((record_at bs at).live ≡ 1 → ⊥) → Finds None (slot_named (model_of bs) id)
    unnamed_free h =
        unnamed (and_second _ (and_second _ (and_first _ (ne_eqb (slot_of (model_of bs) (id % 65536)).live 1 (λ e. h (sym live_word ∙ e))))))

    pub unnamed_old : ((record_at bs at).generation ≡ id / 65536 → ⊥) → Finds None (slot_named (model_of bs) id)
    unnamed_old h =
        unnamed
        (and_second _
        (and_second _
        (and_second _ (ne_eqb (slot_of (model_of bs) (id % 65536)).generation (id / 65536) (λ e. h (sym generation_word ∙ e))))))

    pub named_live : (record_at bs at).live ≡ 1 → (record_at bs at).generation ≡ id / 65536 → Finds (Some (id % 65536)) (slot_named (model_of bs) id)
    named_live l g =
        let all : names (model_of bs) id ≡ true =
        both_and (le-leb 1 (id % 65536) (omega arith))
        (both_and (le-leb (id % 65536) (length (model_of bs).slots) (rw length_slots high))
        (both_and (eq-eqb (slot_of (model_of bs) (id % 65536)).live 1 (live_word ∙ l))
        (eq-eqb (slot_of (model_of bs) (id % 65536)).generation (id / 65536) (generation_word ∙ g))))
        in
        (sym (if_yes (id % 65536) 0 all), omega arith)

pub ruleset naming = (unnamed_outside, unnamed_free, unnamed_old, named_live)
