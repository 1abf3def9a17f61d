-- obtain keeps the facts.
use mathlib.Core.Path.{◌≡◌, refl, sym, subst}
use mathlib.Core.Bool.{true, false}
use Prim.Native.Nat.{ℕ, zero, suc, ◌≤◌}
use native.Mathlib.Omega.{arith}
use lib.Dec.{leb, eqb}
use lib.ListN.{length}
use borrow.Author.Tests.{eqb-true, eqb-false, leb-true, leb-false}
use Rattle.laws.specs.Choose.{choose, ◌and◌}
use Rattle.laws.proofs.Choose.{never, if_yes, if_no, and_both, or_first, choose_cases}
use Rattle.rules.specs.declared.Task.{Task}
use Rattle.rules.specs.declared.Wait.{Wait}
use Rattle.rules.specs.declared.Wait.TheVariants.{Poll, Forever, Ticks}
use Rattle.rules.specs.Numbers.{max_number, is_binary}
use Rattle.rules.specs.Machine.{Slot, Tables, task_of, slot_of, put_slot, is_live, id_of, names, slot_named}
use Rattle.rules.specs.Semaphore.{ticks_of, polls, owned_by, Taken, take_step}
use Rattle.rules.specs.Calls.{Outcome, answered, begin_wait, blocked, obtain_refusal, obtain}
use Rattle.rules.specs.Fits.{wait_fits}
use Rattle.rules.proofs.Invariants.Lists.{occurs_rear}
use Rattle.rules.proofs.Invariants.Facts.{nth_task, nth_slot, TaskFits, SlotFits, Facts}
use Rattle.rules.proofs.Invariants.PartsKept.{replaced, waited}
use Rattle.rules.proofs.Invariants.Slots.{take_fits, nest_fits, join_fits}
use Rattle.rules.proofs.Invariants.Refusals.{must, mustnt, unless_kept, Caller, task_only_lem, found}

ticks_fit : (wait : Wait) → wait_fits wait ≡ true → ticks_of wait ≤ max_number
ticks_fit Poll e = omega arith
ticks_fit Forever e = omega arith
ticks_fit (Ticks n) e = leb-true _ _ e

blocked_fits : (v : Task) (id : ℕ) (wait : Wait) → id ≤ max_number → ticks_of wait ≤ max_number → TaskFits (blocked v id wait)
blocked_fits v id wait i n = record { answer = or_first _ _ refl; awaited = i; ticks = n; at_rest = λ w. never refl w }

-- what a step of the semaphore leads to
abbrev outcome : Tables → ℕ → ℕ → ℕ → Wait → Taken → Outcome
outcome t n caller id wait taken =
    choose (eqb taken.status 100) (answered 100 0 (begin_wait (put_slot t n taken.slot) caller (blocked (task_of t caller) id wait)))
    (answered 0 0 (put_slot t n taken.slot))

module _ (t : Tables) (f : Facts t) (c j id : ℕ) (wait : Wait) (who : Caller t (suc c)) (l : is_live (nth_slot t j) ≡ true) (is : id ≡ id_of (suc j) (nth_slot t j))
    (i : id ≤ max_number) (n : ticks_of wait ≤ max_number) where
  -- unless it is refused, a step keeps the facts
  abbrev Keeps : Taken → Type 0
  Keeps taken = eqb taken.status 13 ≡ false → Facts (outcome t (suc j) (suc c) id wait taken).tables

  got : (s : Slot) → Facts (put_slot t (suc j) s) → Keeps (record { status = 0; slot = s })
  got s kept e = subst (λ (o : Outcome). Facts o.tables) (sym (if_no _ _ refl)) kept

  refused : (s : Slot) → Keeps (record { status = 13; slot = s })
  refused s e = never refl e

  waits_now : (s : Slot) → Facts (begin_wait (put_slot t (suc j) s) (suc c) (blocked (nth_task t c) id wait)) → Keeps (record { status = 100; slot = s })
  waits_now s kept e = subst (λ (o : Outcome). Facts o.tables) (sym (if_yes _ _ refl)) kept

  pub take_kept : Keeps (take_step (nth_slot t j) (suc c) wait)
  unfolding take_step
  take_kept =
      choose_cases Keeps (leb 1 (nth_slot t j).count) _ _
      (λ e. got _ (replaced t f j _ l (take_fits N s fits l (suc c) who.first who.last (leb-true _ _ e)) refl refl l))
      (λ none. choose_cases Keeps (is_binary (nth_slot t j).attributes and owned_by (nth_slot t j) (suc c)) _ _
      (λ own. choose_cases Keeps (eqb (nth_slot t j).nest max_number) _ _ (λ e. refused _)
      (λ e. got _ (replaced t f j _ l
      (nest_fits N s fits l (suc c) who.first who.last (and_both _ _ own).0 (eqb-true _ _ (and_both _ _ (and_both _ _ own).1).0)
      (eqb-false _ _ e)) refl refl l)))
      (λ other. choose_cases Keeps (polls wait) _ _ (λ e. refused _)
      (λ e. waits_now _
      (waited t f c j (blocked (nth_task t c) id wait) _ who.last who.ready l refl is refl (blocked_fits (nth_task t c) id wait i n)
      (join_fits N s fits l (suc c) who.first who.last (leb-false _ _ none) other) l refl
      (λ k. occurs_rear (suc k) (suc c) (nth_slot t j).queue)))))
    where
      N : ℕ
      N = length t.tasks

      s : Slot
      s = nth_slot t j

      fits : SlotFits N s
      fits = f.slots j

pub obtain_kept : (t : Tables) (caller id : ℕ) (wait : Wait) → id ≤ max_number → wait_fits wait ≡ true → Facts t → Facts (obtain t caller id wait).tables
unfolding obtain obtain_refusal
obtain_kept t caller id wait i n f =
    unless_kept (obtain_refusal t caller id wait) t (outcome t (slot_named t id) caller id wait (taken (slot_named t id) caller)) f
    (λ e.
    let who = task_only_lem t caller (refusal (slot_named t id)) e in
    let named = must (names t id) (choose (eqb (taken (slot_named t id) caller).status 13) 13 0) 4 (omega arith) who.1 in
    let granted = mustnt (eqb (taken (slot_named t id) caller).status 13) 13 0 (omega arith) named.1 in
    let s = found t f.sizes id named.0 in
    subst (λ (m : ℕ). eqb (taken m caller).status 13 ≡ false → Facts (outcome t m caller id wait (taken m caller)).tables) (sym s.number)
    (at caller who.0 s.place s.live s.is) granted.0)
  where
    taken : ℕ → ℕ → Taken
    taken m caller = take_step (slot_of t m) caller wait

    refusal : ℕ → ℕ
    refusal m = choose (names t id) (choose (eqb (taken m caller).status 13) 13 0) 4

    at : (caller : ℕ) → Caller t caller → (j : ℕ) → is_live (nth_slot t j) ≡ true → id ≡ id_of (suc j) (nth_slot t j)
        → eqb (taken (suc j) caller).status 13 ≡ false → Facts (outcome t (suc j) caller id wait (taken (suc j) caller)).tables
    at zero who j l is = absurd (omega (arith, who.first))
    at (suc c) who j l is = take_kept t f c j id wait who l is i (ticks_fit wait n)
