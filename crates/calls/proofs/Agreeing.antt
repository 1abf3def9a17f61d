-- Bytes of agreeing tables: a layout holds them, they read back, they are sized as the look-ups want them, and a call leaves such bytes again.
use mathlib.Core.Path.{◌≡◌, sym, subst, ap, ◌∙◌}
use mathlib.Core.Bool.{Bool, true, false}
use mathlib.Core.List.{List}
use mathlib.Core.Logic.{⊎_elim}
use Prim.Native.Nat.{ℕ, ◌≤◌, ◌<◌}
use native.Mathlib.Omega.{arith}
use native.Mathlib.Decide.{dec_lt}
use lib.Dec.{eqb}
use lib.ListN.{length, get_or, get_or-eq_default}
use borrow.Author.Tests.{eqb-true}
use Rattle.laws.specs.Choose.{◌or◌}
use Rattle.laws.proofs.Choose.{tested, or_either, if_yes}
use Rattle.words.specs.Words.{word_at}
use Rattle.words.proofs.WordsInBytes.{Bytes, Words}
use Rattle.rules.specs.declared.Call.{Call}
use Rattle.rules.specs.Numbers.{allowed, is_binary}
use Rattle.rules.specs.Machine.{Tables, no_task, is_live}
use Rattle.rules.specs.Agreement.{Agrees, is_ending}
use Rattle.rules.specs.Calls.{Outcome, perform, step}
use Rattle.rules.specs.Fits.{call_fits}
use Rattle.rules.proofs.Invariants.Facts.{Facts, Unheld, Held, nth_task, nth_slot, maximum_within}
use Rattle.rules.proofs.Invariants.FromTests.{agrees_facts}
use Rattle.rules.proofs.Invariants.Agreeing.{agrees_true, sizes_within}
use Rattle.rules.proofs.Invariants.Room as room
use Rattle.rules.proofs.Invariants.Kept.{kept}
use Rattle.tables.specs.Codec.{task_row, slot_row}
use Rattle.tables.specs.Layout.{ready_place, laid, model_of}
use Rattle.tables.specs.Sizes.{Sized, Holds}
use Rattle.tables.proofs.LayoutRead.{length_laid, laid_ready, model_of_laid}
use Rattle.tables.proofs.LayoutHolds.{holds_rows, laid_bytes, task_row_words, slot_row_words}
use Rattle.lookup.proofs.Model.{length_tasks, length_slots}
use Rattle.calls.specs.Agreeing.{Agreeing}

-- one of some numbers is at most the greatest
either_few : (a x m : ℕ) (b : Bool) → (eqb a x or b) ≡ true → x ≤ m → (b ≡ true → a ≤ m) → a ≤ m
either_few a x m b e h f = ⊎_elim (λ (y : eqb a x ≡ true). omega (arith, eqb-true a x y)) f (or_either (eqb a x) b e)

answer_few : (a : ℕ) → (eqb a 100 or is_ending a) ≡ true → a ≤ 100
answer_few a e =
    either_few a 100 100 _ e (omega arith) (λ e. either_few a 0 100 _ e (omega arith) (λ e. either_few a 6 100 _ e (omega arith)
    (λ e. either_few a 7 100 _ e (omega arith) (λ e. omega (arith, eqb-true a 13 e)))))

attributes_few : (a : ℕ) → allowed a ≡ true → a ≤ 84
attributes_few a e =
    either_few a 0 84 _ e (omega arith) (λ e. either_few a 4 84 _ e (omega arith) (λ e. either_few a 16 84 _ e (omega arith)
    (λ e. either_few a 20 84 _ e (omega arith) (λ e. either_few a 32 84 _ e (omega arith) (λ e. either_few a 36 84 _ e (omega arith)
    (λ e. omega (arith, eqb-true a 84 e)))))))

module _ (t : Tables) (a : Agrees t) where
  facts : Facts t
  facts = agrees_facts t a

  pub tasks_few : length t.tasks ≤ 32
  tasks_few = (sizes_within t a.sizes).tasks

  pub slots_few : length t.slots ≤ 64
  slots_few = (sizes_within t a.sizes).slots

  -- every queue is within its places
  pub queue_few : (j : ℕ) → length (nth_slot t j).queue ≤ 32
  queue_few j =
      ⊎_elim (λ (l : is_live (nth_slot t j) ≡ true). omega (arith, tasks_few, room.queue_few t facts j l))
      (λ (n : is_live (nth_slot t j) ≡ false). omega (arith, ((facts.slots j).when_free n).queue))
      (tested (is_live (nth_slot t j)))

  -- ---- every number is below 2 ^ 32

  priority_few : (i : ℕ) → (nth_task t i).priority ≤ 255
  priority_few i =
      elim (dec_lt i (length t.tasks)) [
        | yes h ↦ (facts.urgent i h).1
        | no n ↦ let h : length t.tasks ≤ i = omega arith in rw (get_or-eq_default t.tasks no_task h) (omega arith)
      ]

  owner_few : (j : ℕ) → (nth_slot t j).owner ≤ 32
  owner_few j =
      let s = nth_slot t j in
      let f = facts.slots j in
      ⊎_elim (λ (l : is_live s ≡ true).
      ⊎_elim (λ (b : is_binary s.attributes ≡ true).
      ⊎_elim (λ (z : Unheld s). omega (arith, z.owner)) (λ (z : Held (length t.tasks) s). omega (arith, z.most, tasks_few)) ((f.when_live l).owned b))
      (λ (b : is_binary s.attributes ≡ false). omega (arith, ((f.when_live l).unowned b).owner)) (tested (is_binary s.attributes)))
      (λ (n : is_live s ≡ false). omega (arith, (f.when_free n).owner)) (tested (is_live s))

  class_few : (j : ℕ) → (nth_slot t j).attributes ≤ 84
  class_few j =
      ⊎_elim (λ (l : is_live (nth_slot t j) ≡ true). attributes_few (nth_slot t j).attributes ((facts.slots j).when_live l).attributed)
      (λ (n : is_live (nth_slot t j) ≡ false). omega (arith, ((facts.slots j).when_free n).attributes)) (tested (is_live (nth_slot t j)))

  -- a queue's entries are tasks, and a free slot's queue has none
  pub entry_tasks : (j k : ℕ) → k < length (nth_slot t j).queue → (1 ≤ get_or (nth_slot t j).queue k 0) × (get_or (nth_slot t j).queue k 0 ≤ length t.tasks)
  entry_tasks j k h =
      ⊎_elim (λ (l : is_live (nth_slot t j) ≡ true). room.entry_within t facts j l k h)
      (λ (n : is_live (nth_slot t j) ≡ false). absurd (omega (arith, ((facts.slots j).when_free n).queue)))
      (tested (is_live (nth_slot t j)))

  queue_words : (j : ℕ) → Words (nth_slot t j).queue
  queue_words j k =
      let q : List ℕ = (nth_slot t j).queue in
      elim (dec_lt k (length q)) [
        | yes h ↦ omega (arith, (entry_tasks j k h).1, tasks_few)
        | no n ↦ let h : length q ≤ k = omega arith in omega (arith, get_or-eq_default q 0 h)
      ]

  task_words : (i : ℕ) → Words (task_row (nth_task t i))
  task_words i =
      let f = facts.tasks i in
      task_row_words (nth_task t i) (omega (arith, priority_few i)) (omega (arith, answer_few (nth_task t i).answer f.answer)) (omega (arith, f.awaited))
      (omega (arith, f.ticks))

  slot_words : (j : ℕ) → Words (slot_row (nth_slot t j))
  slot_words j =
      let f = facts.slots j in
      slot_row_words (nth_slot t j) (omega (arith, f.generation)) (omega (arith, f.live)) (omega (arith, f.name)) (omega (arith, class_few j))
      (omega (arith, f.count)) (omega (arith, owner_few j)) (omega (arith, f.nest))
      (omega (arith, maximum_within _ (nth_slot t j) f)) (queue_few j) (queue_words j)

  -- the sequence of ready tasks is within its places, and its entries are tasks
  pub ready_few : length t.ready ≤ 32
  ready_few = omega (arith, tasks_few, room.ready_few t facts)

  pub ready_tasks : (k : ℕ) → k < length t.ready → (1 ≤ get_or t.ready k 0) × (get_or t.ready k 0 ≤ length t.tasks)
  ready_tasks = room.ready_entry t facts

  ready_words : Words t.ready
  ready_words k =
      elim (dec_lt k (length t.ready)) [
        | yes h ↦ omega (arith, (ready_tasks k h).1, tasks_few)
        | no n ↦ let h : length t.ready ≤ k = omega arith in omega (arith, get_or-eq_default t.ready 0 h)
      ]

  pub agrees_holds : Holds t
  agrees_holds = holds_rows t tasks_few slots_few ready_few (λ j h. queue_few j) task_words slot_words ready_words

  -- so the tables read back from their layout
  pub model_of_agrees : model_of (laid t) ≡ t
  model_of_agrees = model_of_laid t agrees_holds

  pub agreeing_bytes : Bytes (laid t)
  agreeing_bytes = laid_bytes t agrees_holds

pub model_is : (t : Tables) → Agrees t → (bs : List ℕ) → bs ≡ laid t → model_of bs ≡ t
model_is t a bs e = ap model_of e ∙ model_of_agrees t a

pub agreeing_laid : (t : Tables) → Agrees t → (bs : List ℕ) → bs ≡ laid t → Agreeing bs
agreeing_laid t a bs e =
    let m : t ≡ model_of bs = sym (model_is t a bs e) in
    record { agrees = subst Agrees m a; same = e ∙ ap laid m }

pub sized : {bs : List ℕ} → Agreeing bs → Sized bs
sized {bs} g =
    record {
      long = ap length g.same ∙ length_laid (model_of bs);
      tasks = omega (arith, length_tasks bs, tasks_few (model_of bs) g.agrees);
      slots = omega (arith, length_slots bs, slots_few (model_of bs) g.agrees);
      ready = omega (arith, ready_is, ready_few (model_of bs) g.agrees);
    }
  where
    ready_is : word_at bs ready_place ≡ length (model_of bs).ready
    ready_is = ap (λ (x : List ℕ). word_at x ready_place) g.same ∙ laid_ready (model_of bs) (agrees_holds (model_of bs) g.agrees)

-- a call keeps agreement, so that the next one needs no test
pub agrees_after : {bs : List ℕ} → Agreeing bs → (call : Call) (priorities : List ℕ) → call_fits call ≡ true
    → Agrees (perform (model_of bs) call priorities).tables
unfolding step
agrees_after {bs} g call priorities fits =
    let t = model_of bs in
    subst (λ (o : Outcome). Agrees o.tables) (if_yes _ _ (agrees_true t g.agrees)) (kept t call priorities fits g.agrees)

pub agreeing_after : {bs : List ℕ} → Agreeing bs → (call : Call) (priorities : List ℕ) → call_fits call ≡ true
    → (after : List ℕ) → after ≡ laid (perform (model_of bs) call priorities).tables → Agreeing after
agreeing_after {bs} g call priorities fits = agreeing_laid (perform (model_of bs) call priorities).tables (agrees_after g call priorities fits)
