-- One step accounts for the count (request 7). Of a semaphore without an owner: an obtain that is done takes one; a release that is done adds one, or hands it
-- to the waiter served, who leaves the queue; who waits joins the queue and takes nothing. A flush grants nothing.
use mathlib.Core.Path.{◌≡◌, refl, sym, subst, ◌∙◌}
use mathlib.Core.Bool.{false}
use mathlib.Core.List.{[], ◌∷◌, ◌++◌}
use Prim.Native.Nat.{ℕ, ◌+◌, ◌≤◌, ◌<◌}
use native.Mathlib.Omega.{arith}
use lib.Dec.{leb, eqb}
use lib.ListN.{length, get_or}
use borrow.Author.Tests.{leb-true}
use Rattle.laws.specs.Choose.{choose, bit}
use Rattle.laws.proofs.Choose.{if_yes, if_no, if_le, if_not_le, never, and_both, choose_cases}
use Rattle.rules.specs.declared.Task.{Task}
use Rattle.rules.specs.declared.Wait.{Wait}
use Rattle.rules.specs.Numbers.{is_binary}
use Rattle.rules.specs.Machine.{Slot, Tables}
use Rattle.rules.specs.Semaphore.{remove_at, Taken, take_step, Given, give_step, pass_step}
use Rattle.rules.specs.Calls.{Outcome, flush_refusal, flush}
use Rattle.rules.proofs.Invariants.Facts.{nth_task}
use Rattle.rules.proofs.Invariants.Waking.{wake_all_keeps}

-- what a status counts as
done : bit (eqb 0 0) ≡ 1
done = if_yes 1 0 refl

not_done : bit (eqb 13 0) ≡ 0
not_done = if_no 1 0 refl

begun : bit (eqb 100 0) ≡ 0
begun = if_no 1 0 refl

module _ (s : Slot) (unowned : is_binary s.attributes ≡ false) where
  -- the count goes down by one exactly where the obtain is done
  pub take_accounts : (caller : ℕ) (wait : Wait) → let taken = take_step s caller wait in
      taken.slot.count + bit (eqb taken.status 0) ≡ s.count
  unfolding take_step
  take_accounts caller wait =
      choose_cases P _ _ _ (λ e. let some : 1 ≤ s.count = leb-true 1 s.count e in omega (arith, done))
      (λ e. choose_cases P _ _ _ (λ own. never (and_both _ _ own).0 unowned)
      (λ e. choose_cases P _ _ _ (λ e. omega (arith, not_done)) (λ e. omega (arith, begun))))
    where
      P : Taken → Type 0
      P taken = taken.slot.count + bit (eqb taken.status 0) ≡ s.count

  pub take_queue : (caller : ℕ) (wait : Wait) → let taken = take_step s caller wait in
      taken.slot.queue ≡ choose (eqb taken.status 100) (s.queue ++ caller ∷ []) s.queue
  unfolding take_step
  take_queue caller wait =
      choose_cases P _ _ _ (λ e. sym (if_no _ _ refl))
      (λ e. choose_cases P _ _ _ (λ own. never (and_both _ _ own).0 unowned)
      (λ e. choose_cases P _ _ _ (λ e. sym (if_no _ _ refl)) (λ e. sym (if_yes _ _ refl))))
    where
      P : Taken → Type 0
      P taken = taken.slot.queue ≡ choose (eqb taken.status 100) (s.queue ++ caller ∷ []) s.queue

  module _ (caller place : ℕ) where
    -- a release goes as that of a semaphore without an owner
    gives : give_step s caller place ≡ pass_step s place
    unfolding give_step
    gives = if_no _ _ (if_no _ _ unowned) ∙ if_no _ _ (if_no _ _ unowned)

    pass_accounts : let given = pass_step s place in given.slot.count + bit (leb 1 (length s.queue)) ≡ s.count + bit (eqb given.status 0)
    unfolding pass_step
    pass_accounts =
        choose_cases P _ _ _ (λ e. let one : bit (leb 1 (length s.queue)) ≡ 1 = if_yes 1 0 e in omega (arith, done))
        (λ e. let none : bit (leb 1 (length s.queue)) ≡ 0 = if_no 1 0 e in
        choose_cases P _ _ _ (λ m. omega (arith, none, not_done)) (λ m. omega (arith, none, done)))
      where
        P : Given → Type 0
        P given = given.slot.count + bit (leb 1 (length s.queue)) ≡ s.count + bit (eqb given.status 0)

    -- a done release adds one, or a waiter has it
    pub give_accounts : let given = give_step s caller place in
        given.slot.count + bit (leb 1 (length s.queue)) ≡ s.count + bit (eqb given.status 0)
    give_accounts = rw gives pass_accounts

    -- where somebody waits the waiter at that place is woken and leaves the queue
    pub give_serves : 1 ≤ length s.queue → let given = give_step s caller place in
        (given.status ≡ 0) × (given.woken ≡ get_or s.queue place 0) × (given.slot.queue ≡ remove_at place s.queue)
    unfolding pass_step
    give_serves h =
        subst (λ (given : Given). (given.status ≡ 0) × (given.woken ≡ get_or s.queue place 0) × (given.slot.queue ≡ remove_at place s.queue))
        (sym (gives ∙ if_le 1 (length s.queue) _ _ h)) (refl, refl, refl)

    -- where nobody waits nobody is woken
    pub give_alone : length s.queue < 1 → let given = give_step s caller place in (given.woken ≡ 0) × (given.slot.queue ≡ s.queue)
    unfolding pass_step
    give_alone h =
        subst P (sym (gives ∙ if_not_le 1 (length s.queue) _ _ h)) (choose_cases P _ _ _ (λ m. (refl, refl)) (λ m. (refl, refl)))
      where
        P : Given → Type 0
        P given = (given.woken ≡ 0) × (given.slot.queue ≡ s.queue)

-- who has 0 after a flush had it before
pub flush_grants_none : (t : Tables) (caller id i : ℕ) → (nth_task (flush t caller id).tables i).answer ≡ 0 → (nth_task t i).answer ≡ 0
unfolding flush
flush_grants_none t caller id i =
    choose_cases (λ (o : Outcome). P (nth_task o.tables i)) (eqb (flush_refusal t caller id) 0) _ _
    (λ e. wake_all_keeps P i _ _ _ (λ v z. absurd (omega arith)) (λ z. z)) (λ e z. z)
  where
    P : Task → Type 0
    P v = v.answer ≡ 0 → (nth_task t i).answer ≡ 0
