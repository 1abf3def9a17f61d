-- What obtain answers and leaves.
use mathlib.Core.Path.{◌≡◌, refl, sym, subst, ap, ◌∙◌}
use mathlib.Core.Bool.{Bool, true, false}
use mathlib.Core.List.{List}
use Prim.Native.Nat.{ℕ, ◌-◌, ◌≤◌}
use native.Mathlib.Omega.{arith}
use Rattle.std.specs.Prelude.{Result, Ok, Err, if◌then◌else◌}
use lib.Dec.{leb, eqb}
use lib.ListN.{length}
use borrow.Author.Tests.{le-leb}
use Rattle.laws.specs.Choose.{choose, ◌and◌}
use Rattle.laws.proofs.Choose.{both_and, false_isnt, if_yes, if_eq, if_ne, choose_cases}
use Rattle.words.specs.Words.{word_at}
use Rattle.words.proofs.WordsInBytes.{Bytes}
use Rattle.rules.specs.declared.Task.{Task}
use Rattle.rules.specs.declared.Wait.{Wait}
use Rattle.rules.specs.declared.refusal.Refusal.{Refusal}
use Rattle.rules.specs.declared.refusal.Refusal.TheVariants.{InvalidName, InvalidId, TooMany, InvalidSize, InvalidNumber, NotDefined, ResourceInUse}
use Rattle.rules.specs.declared.refusal.Refusal.TheVariants.{Unsatisfied, IncorrectState, CalledFromIsr, InvalidPriority, NotOwnerOfResource, InternalError}
use Rattle.rules.specs.Status.{status_of}
use Rattle.rules.specs.Machine.{Slot, Tables, names, task_of, slot_of, put_slot}
use Rattle.rules.specs.Agreement.{Agrees, occurs}
use Rattle.rules.specs.Numbers.{max_number, is_binary}
use Rattle.rules.specs.Semaphore.{owned_by, polls, Taken, take_step}
use Rattle.rules.specs.Calls.{Outcome, answered, unless, task_only, begin_wait, blocked, obtain_refusal, obtain}
use Rattle.rules.proofs.Refused.{refused as refused_lem}
use Rattle.rules.proofs.Invariants.Lists.{bit_yes}
use Rattle.rules.proofs.Invariants.FromTests.{agrees_facts}
use Rattle.rules.proofs.Invariants.Refusals.{Caller, task_only_lem}
use Rattle.semaphore.specs.declared.Semaphore.{Semaphore}
use Rattle.semaphore.specs.declared.Taken.{Taken as TakenRecord}
use Rattle.semaphore.specs.Record.{slot_from, Stands, TakenIs, take_status}
use Rattle.tables.specs.Layout.{ready_place, laid, model_of, task_at}
use Rattle.tables.proofs.LayoutRead.{laid_words, ready_laid, task_numbered}
use Rattle.calls.specs.declared.Done.TheVariants.{Value, Waits}
use Rattle.calls.specs.Agreeing.{Agreeing}
use Rattle.calls.specs.Entered.{Found}
use Rattle.calls.specs.Reply.{Does}
use Rattle.calls.proofs.Agreeing.{tasks_few, ready_few}
use Rattle.calls.proofs.Doing.{unless_refused_lem, unless_done, has_done, has_begun, refuses}
use Rattle.calls.proofs.Entering.{task_first, refused_caller, refused_name, entry_passed}

-- one semaphore's step of the call
abbrev pub taking : Tables → ℕ → ℕ → Wait → Taken
taking t n caller wait = take_step (slot_of t n) caller wait

-- the tables with the slot as it is after that step, and with the caller blocked on it
abbrev pub took : Tables → ℕ → ℕ → Wait → Tables
took t n caller wait = put_slot t n (taking t n caller wait).slot

abbrev pub queued : Tables → ℕ → ℕ → ℕ → Wait → Tables
queued t n caller id wait = begin_wait (took t n caller wait) caller (blocked (task_of t caller) id wait)

-- no refusal has the number of a wait
refusal_few : (e : Refusal) → status_of e ≤ 25
refusal_few InvalidName = omega arith
refusal_few InvalidId = omega arith
refusal_few TooMany = omega arith
refusal_few InvalidSize = omega arith
refusal_few InvalidNumber = omega arith
refusal_few NotDefined = omega arith
refusal_few ResourceInUse = omega arith
refusal_few Unsatisfied = omega arith
refusal_few IncorrectState = omega arith
refusal_few CalledFromIsr = omega arith
refusal_few InvalidPriority = omega arith
refusal_few NotOwnerOfResource = omega arith
refusal_few InternalError = omega arith

-- a take that is refused is refused with 13
unsatisfied : (s : Slot) (caller : ℕ) (wait : Wait) (e : Refusal) → status_of e ≡ (take_step s caller wait).status
    → choose (eqb (take_step s caller wait).status 13) 13 0 ≡ status_of e
unfolding take_step
unsatisfied s caller wait e =
    choose_cases P (leb 1 s.count) _ _ (λ t. done)
    (λ t. choose_cases P (is_binary s.attributes and owned_by s caller) _ _ (λ t. choose_cases P (eqb s.nest max_number) _ _ (λ t. full) (λ t. done))
    (λ t. choose_cases P (polls wait) _ _ (λ t. full) (λ t h. absurd (omega (arith, h, refusal_few e)))))
  where
    P : Taken → Type 0
    P taken = status_of e ≡ taken.status → choose (eqb taken.status 13) 13 0 ≡ status_of e

    done : status_of e ≡ 0 → choose (eqb 0 13) 13 0 ≡ status_of e
    done h = absurd (omega (arith, h, refused_lem e))

    full : status_of e ≡ 13 → choose (eqb 13 13) 13 0 ≡ status_of e
    full h = if_yes 13 0 refl ∙ sym h

-- a caller, who is ready, stands in the sequence once
ready_once : (t : Tables) → Agrees t → (caller : ℕ) → Caller t caller → occurs caller t.ready ≡ 1
ready_once t a caller who =
    (agrees_facts t a).ready caller
    ∙ bit_yes _ (both_and (both_and (le-leb 1 caller who.first) (le-leb caller (length t.tasks) who.last)) (false_isnt _ who.ready))

-- the caller as it is loaded after the slot is stored, and stored with its wait
pub queued_laid : (t : Tables) (n caller id : ℕ) (wait : Wait) → Agrees t → Caller t caller → {bs₁ bs₂ : List ℕ} → Bytes bs₁ → bs₁ ≡ laid (took t n caller wait)
    → (v waiter : Task) → v ≡ task_at bs₁ (caller - 1) → waiter ≡ blocked v id wait
    → ((t : Tables) → bs₁ ≡ laid t → caller ≤ length t.tasks → occurs caller t.ready ≡ 1 → bs₂ ≡ laid (begin_wait t caller waiter))
    → bs₂ ≡ laid (queued t n caller id wait)
queued_laid t n caller id wait a who {bs₁} b stored v waiter read made put =
    let task : v ≡ task_of t caller = read ∙ task_numbered bs₁ (took t n caller wait) caller b stored who.first (omega (arith, who.last, tasks_few t a)) in
    put (took t n caller wait) stored who.last (ready_once t a caller who)
    ∙ ap (λ (y : Task). laid (begin_wait (took t n caller wait) caller y)) (made ∙ ap {B = Task} (λ (y : Task). blocked y id wait) task)

module _ {bs : List ℕ} (a : Agreeing bs) (caller id : ℕ) (wait : Wait) where
  pub obtain_refused : (e : Refusal) → status_of e ≡ task_only (model_of bs) caller 0 → Does bs bs (Err e) (λ t. obtain t caller id wait)
  unfolding obtain obtain_refusal
  obtain_refused e is = refuses a e (refused_caller (task_first (model_of bs) caller) (model_of bs) id _ _ e is)

  module _ (passed : 0 ≡ task_only (model_of bs) caller 0) where
    pub obtain_unnamed : names (model_of bs) id ≡ false → Does bs bs (Err InvalidId) (λ t. obtain t caller id wait)
    unfolding obtain obtain_refusal
    obtain_unnamed n = refuses a InvalidId (refused_name (task_first (model_of bs) caller) (model_of bs) id _ _ passed n)

    -- the caller is a ready task
    pub ready_task : Caller (model_of bs) caller
    ready_task = (task_only_lem (model_of bs) caller 0 (sym passed)).0

    module _ {n : ℕ} {s : Semaphore} (f : Found (model_of bs) id n s) where
      module _ {r : Result TakenRecord Refusal} (step : TakenIs s r (take_step (slot_from s) caller wait)) where
        -- a step on the record is that on the slot
        pub taken_slot : TakenIs s r (taking (model_of bs) n caller wait)
        taken_slot = subst (λ (y : Slot). TakenIs s r (take_step y caller wait)) f.stands.same step

        abbrev done : ℕ → Outcome
        done n =
            choose (eqb (taking (model_of bs) n caller wait).status 100) (answered 100 0 (queued (model_of bs) n caller id wait))
            (answered 0 0 (took (model_of bs) n caller wait))

        -- where the semaphore is found, its own step decides
        decided : obtain (model_of bs) caller id wait ≡ unless (choose (eqb (taking (model_of bs) n caller wait).status 13) 13 0) (model_of bs) (done n)
        unfolding obtain obtain_refusal
        decided =
            entry_passed (task_first (model_of bs) caller) (model_of bs) id _ _ passed f.holds
            ∙ ap {B = Outcome} (λ (n : ℕ). unless (choose (eqb (taking (model_of bs) n caller wait).status 13) 13 0) (model_of bs) (done n)) f.number

        granted : (take_status r ≡ 13 → ⊥) → obtain (model_of bs) caller id wait ≡ done n
        granted h = decided ∙ unless_done (model_of bs) _ (if_ne (taking (model_of bs) n caller wait).status 13 13 0 (λ w. h (taken_slot.status ∙ w)))

      pub obtain_unsatisfied : (e : Refusal) → TakenIs s (Err e) (take_step (slot_from s) caller wait) → Does bs bs (Err e) (λ t. obtain t caller id wait)
      obtain_unsatisfied e step =
          refuses a e
          (decided step ∙ unless_refused_lem (model_of bs) _ e (unsatisfied (slot_of (model_of bs) n) caller wait e (taken_slot step).status))

      module _ {taken : TakenRecord} (step : TakenIs s (Ok taken) (take_step (slot_from s) caller wait)) {stored : List ℕ}
          (put : (t : Tables) (slot : Slot) → bs ≡ laid t → Stands taken.semaphore slot → n ≤ length t.slots → stored ≡ laid (put_slot t n slot)) where
        -- the bytes with the slot as it was taken
        pub stored_is : stored ≡ laid (took (model_of bs) n caller wait)
        stored_is = put _ _ a.same (taken_slot step).semaphore f.high

        pub obtain_took : taken.waits ≡ false → Does bs stored (Ok (Value 0)) (λ t. obtain t caller id wait)
        obtain_took at_once =
            let is : take_status (Ok taken) ≡ 0 = ap (λ (b : Bool). if b then 100 else 0) at_once in
            has_done 0 _
            (granted step (λ w. omega (arith, is, w)) ∙ if_ne (taking (model_of bs) n caller wait).status 100 _ _ (λ w. omega (arith, (taken_slot step).status, is, w)))
            stored_is

        module _ (waits : taken.waits ≡ true) where
          obtain_queued : obtain (model_of bs) caller id wait ≡ answered 100 0 (queued (model_of bs) n caller id wait)
          obtain_queued =
              let is : take_status (Ok taken) ≡ 100 = ap (λ (b : Bool). if b then 100 else 0) waits in
              granted step (λ w. omega (arith, is, w)) ∙ if_eq (taking (model_of bs) n caller wait).status 100 _ _ (sym (taken_slot step).status ∙ is)

          pub obtain_begun : {after : List ℕ} → Bytes stored → (v waiter : Task) → v ≡ task_at stored (caller - 1) → waiter ≡ blocked v id wait
              → ((t : Tables) → stored ≡ laid t → caller ≤ length t.tasks → occurs caller t.ready ≡ 1 → after ≡ laid (begin_wait t caller waiter))
              → Does bs after (Ok Waits) (λ t. obtain t caller id wait)
          obtain_begun b v waiter read made put =
              has_begun _ obtain_queued (queued_laid (model_of bs) n caller id wait a.agrees ready_task b stored_is v waiter read made put)

          -- the sequence is within its places, with the slot stored too
          pub sequence_few : Bytes stored → word_at stored ready_place ≤ 32
          sequence_few b =
              let u : Tables = took (model_of bs) n caller wait in
              omega (arith, ap (λ (x : List ℕ). word_at x ready_place) stored_is, ready_laid u (laid_words u (rw stored_is at b)), ready_few (model_of bs) a.agrees)

pub ruleset obtaining = (obtain_refused, obtain_unnamed, obtain_unsatisfied, obtain_took)
