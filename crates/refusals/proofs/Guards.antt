-- What the tests read of the tables: whether an identifier guards, and whether a task is ready.
use mathlib.Core.Path.{◌≡◌, refl, sym, ap, ap₂, ◌∙◌}
use mathlib.Core.Bool.{Bool, true, false}
use mathlib.Core.List.{List}
use mathlib.Core.Logic.{⊎_elim}
use Prim.Native.Nat.{ℕ, zero, suc, pred, ◌-◌, ◌%◌, ◌≤◌}
use native.Mathlib.Omega.{arith}
use lib.Dec.{leb, ltb, eqb}
use lib.ListN.{length, get_or}
use borrow.Author.Tests.{ne_eqb, eqb-true, eqb-false, leb-true, leb-false, le-leb, lt-leb, lt-ltb, le-ltb}
use Rattle.laws.specs.Choose.{choose, ◌and◌, isnt}
use Rattle.laws.proofs.Choose.{if_yes, if_no, tested}
use Rattle.words.specs.Words.{word_at}
use Rattle.std.specs.Prelude.{Result, Ok, Err, is_ok}
use Rattle.rules.specs.declared.refusal.Refusal.{Refusal}
use Rattle.rules.specs.Status.{status_of, status}
use Rattle.rules.proofs.Refused.{refused}
use Rattle.rules.specs.Numbers.{is_binary}
use Rattle.rules.specs.Machine.{Tables, Slot, task_of, slot_of, free_slot, waits, slot_named}
use Rattle.rules.specs.Calls.{task_only}
use Rattle.semaphore.specs.declared.Semaphore.{Semaphore}
use Rattle.semaphore.specs.Record.{slot_from}
use Rattle.tables.specs.Layout.{model_of, record_at}
use Rattle.lookup.proofs.CallerAndSlot.{Named, named, not_named}
use Rattle.lookup.proofs.Model.{length_slots, slot_read}
use Rattle.sections.specs.Refusals.{is_guard, is_ready}

sub_pred : (n : ℕ) → pred n ≡ n - 1
sub_pred zero = refl
sub_pred (suc n) = omega arith

-- ---- an identifier

module _ (bs : List ℕ) (id n : ℕ) (e : n ≡ slot_named (model_of bs) id) where
  pub guard_none : n ≡ 0 → false ≡ is_guard (model_of bs) id
  guard_none z = sym (if_no _ false (not_named (model_of bs) id (sym e ∙ z)))

  module _ (nz : n ≡ 0 → ⊥) where
    is_named_lem : Named (model_of bs) id n
    is_named_lem = named (model_of bs) id n (sym e) nz

    pub slot_within : (1 ≤ n) × (n ≤ word_at bs 1)
    slot_within = (is_named_lem.low, omega (arith, is_named_lem.high, length_slots bs))

    pub guard_slot : (s : Semaphore) → s ≡ record_at bs (n - 1) → is_guard (model_of bs) id ≡ (is_binary s.attributes and eqb s.owner 0)
    guard_slot s r =
        if_yes _ false is_named_lem.holds
        ∙ ap (λ (x : Slot). is_binary x.attributes and eqb x.owner 0) there
      where
        at : pred (id % 65536) ≡ n - 1
        at = ap pred (sym is_named_lem.slot) ∙ sub_pred n

        there : slot_of (model_of bs) (id % 65536) ≡ slot_from s
        there =
            ap (λ (i : ℕ). get_or (model_of bs).slots i (free_slot 0)) at
            ∙ slot_read bs (n - 1) (omega (arith, slot_within.0, slot_within.1))
            ∙ ap slot_from (sym r)

-- ---- a task

pub ok_status : (r : Result (Unit {0}) Refusal) → is_ok r ≡ eqb (status r) 0
ok_status (Ok x) = refl
ok_status (Err e) = sym (ne_eqb (status_of e) 0 (λ z. omega (arith, refused e)))

ready_cases : (a b w : Bool) → eqb (choose a 18 (choose (eqb (choose b 4 (choose w 14 0)) 0) 0 (choose b 4 (choose w 14 0)))) 0 ≡ ((isnt a and isnt b) and isnt
    w)
unfolding choose
ready_cases true b w = refl
ready_cases false true w = refl
ready_cases false false true = refl
ready_cases false false false = refl

some : (q : ℕ) → isnt (eqb q 0) ≡ leb 1 q
some q =
    ⊎_elim (λ (t : eqb q 0 ≡ true). if_yes false true t ∙ sym (lt-leb 1 q (omega (arith, eqb-true q 0 t))))
    (λ (f : eqb q 0 ≡ false). let n = eqb-false q 0 f in if_no false true f ∙ sym (le-leb 1 q (positive q n)))
    (tested (eqb q 0))
  where
    positive : (q : ℕ) → (q ≡ 0 → ⊥) → 1 ≤ q
    positive q n = omega arith

few : (n q : ℕ) → isnt (ltb n q) ≡ leb q n
few n q =
    ⊎_elim (λ (t : leb q n ≡ true). if_no false true (le-ltb n q (leb-true q n t)) ∙ sym t)
    (λ (f : leb q n ≡ false). if_yes false true (lt-ltb n q (leb-false q n f)) ∙ sym f)
    (tested (leb q n))

pub ready_task : (t : Tables) (q : ℕ) → eqb (task_only t q 0) 0 ≡ is_ready t q
ready_task t q =
    ready_cases (eqb q 0) (ltb (length t.tasks) q) (waits (task_of t q))
    ∙ ap₂ (λ (a b : Bool). (a and b) and isnt (waits (task_of t q))) (some q) (few (length t.tasks) q)
