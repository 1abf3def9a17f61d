-- Once started, every call and every run goes forward.
use mathlib.Core.Path.{◌≡◌, refl}
use mathlib.Core.Bool.{true}
use mathlib.Core.List.{List, [], ◌∷◌}
use Prim.Native.Nat.{ℕ, ◌≤◌, ◌<◌}
use native.Mathlib.Omega.{arith}
use lib.Dec.{eqb}
use lib.ListN.{length, length-map}
use borrow.Author.Tests.{eqb-true, le-leb}
use Rattle.laws.specs.Choose.{choose, ◌or◌}
use Rattle.laws.proofs.Choose.{choose_cases, if_yes}
use Rattle.rules.specs.declared.Call.{Call}
use Rattle.rules.specs.declared.Call.TheVariants.{Start, Create, Ident, Delete, Obtain, Release, Flush, Tick}
use Rattle.rules.specs.declared.Wait.{Wait}
use Rattle.rules.specs.Numbers.{max_slots, max_generation}
use Rattle.rules.specs.Machine.{Slot, Tables, slot_of, put_slot, slot_named}
use Rattle.rules.specs.Agreement.{agrees}
use Rattle.rules.specs.Semaphore.{Taken, Given, take_step, give_step, pass_step, flush_step}
use Rattle.rules.specs.Calls.{Outcome, unless, wake_all, open_slot, start_refusal, start, create_refusal, new_semaphore, create, first_named, ident}
use Rattle.rules.specs.Calls.{delete_refusal, delete, obtain_refusal, obtain, give_of, release_refusal, release, flush_refusal, flush, ticked_slot, tick}
use Rattle.rules.specs.Calls.{perform, step}
use Rattle.rules.specs.Runs.{Request, step_of, after}
use Rattle.rules.proofs.Invariants.Agreeing.{sizes_within, true_agrees}
use Rattle.rules.proofs.History.Passed.{create_passed, open_young}
use Rattle.rules.proofs.History.Forward.{Onward, Forward, onward_same, onward_new, onward_freed, forward_refl, forward_trans, forward_slots}
use Rattle.rules.proofs.History.Forward.{forward_put, woken_slots, ticked_slot_lem}

-- a machine that is started, with no more slots than there may be
pub record Started (t : Tables) : Type 0 where
  pub tasks : 1 ≤ length t.tasks
  pub slots : length t.slots ≤ max_slots

pub agreeing_started : (t : Tables) → agrees t ≡ true → 1 ≤ length t.slots → Started t
agreeing_started t a s =
    let sizes = sizes_within t (true_agrees t a).sizes in
    record { tasks = omega (arith, sizes.none); slots = sizes.slots }

-- one semaphore's steps keep its generation, and it lives on
same_taken : (s : Slot) (caller : ℕ) (wait : Wait) → Onward s (take_step s caller wait).slot
unfolding take_step
same_taken s caller wait =
    choose_cases P _ _ _ (λ e. onward_same s _ refl refl refl refl)
    (λ e. choose_cases P _ _ _
    (λ e. choose_cases P _ _ _ (λ e. onward_same s _ refl refl refl refl) (λ e. onward_same s _ refl refl refl refl))
    (λ e. choose_cases P _ _ _ (λ e. onward_same s _ refl refl refl refl) (λ e. onward_same s _ refl refl refl refl)))
  where
    P : Taken → Type 0
    P x = Onward s x.slot

same_given : (s : Slot) (caller place : ℕ) → Onward s (give_step s caller place).slot
unfolding give_step pass_step
same_given s caller place =
    choose_cases P _ _ _ (λ e. onward_same s _ refl refl refl refl)
    (λ e. choose_cases P _ _ _ (λ e. onward_same s _ refl refl refl refl)
    (λ e. choose_cases P _ _ _ (λ e. onward_same s _ refl refl refl refl)
    (λ e. choose_cases P _ _ _ (λ e. onward_same s _ refl refl refl refl) (λ e. onward_same s _ refl refl refl refl))))
  where
    P : Given → Type 0
    P x = Onward s x.slot

newer : (s : Slot) (caller name count attributes maximum : ℕ) → s.generation < max_generation
    → Onward s (new_semaphore s.generation caller name count attributes maximum)
unfolding new_semaphore
newer s caller name count attributes maximum h = onward_new s _ (omega arith) h

-- the outcome's tables are forward of these
pub record Went (t : Tables) (o : Outcome) : Type 0 where
  pub forward : Forward t o.tables

module _ (t : Tables) where
  -- a refusal keeps the tables
  unless_went : (refusal : ℕ) (o : Outcome) → (refusal ≡ 0 → Went t o) → Went t (unless refusal t o)
  unless_went refusal o f =
      choose_cases (Went t) (eqb refusal 0) o _ (λ e. f (eqb-true refusal 0 e)) (λ e. record { forward = forward_refl t })

  -- a slot is put, and then tasks are woken
  woken_forward : (n : ℕ) (s : Slot) (qs : List ℕ) (answer : ℕ) → Onward (slot_of t n) s → Forward t (wake_all (put_slot t n s) qs answer)
  woken_forward n s qs answer o =
      forward_slots (wake_all (put_slot t n s) qs answer) (woken_slots (put_slot t n s) qs answer) (forward_put t n s o)

  start_refused : (slots : ℕ) (priorities : List ℕ) → 1 ≤ length t.tasks → start_refusal t slots priorities ≡ 14
  unfolding start_refusal
  start_refused slots priorities h = if_yes _ _ (le-leb 1 (length t.tasks) h)

  start_went : (slots : ℕ) (priorities : List ℕ) → 1 ≤ length t.tasks → Went t (start t slots priorities)
  unfolding start
  start_went slots priorities h =
      unless_went (start_refusal t slots priorities) _ (λ e. absurd (omega (arith, start_refused slots priorities h)))

  create_went : (caller name count attributes maximum : ℕ) → Went t (create t caller name count attributes maximum)
  unfolding create
  create_went caller name count attributes maximum =
      unless_went (create_refusal t caller name count attributes maximum) _
      (λ e. record {
        forward = forward_put t (open_slot t) _
            (newer (slot_of t (open_slot t)) caller name count attributes maximum (open_young t (create_passed t caller name count attributes maximum e)));
      })

  ident_went : (name : ℕ) → Went t (ident t name)
  unfolding ident
  ident_went name =
      unless_went (choose (eqb name 0 or eqb (first_named name t.slots 1) 0) 3 0) _ (λ e. record { forward = forward_refl t })

  delete_went : (caller id : ℕ) → Went t (delete t caller id)
  unfolding delete
  delete_went caller id =
      unless_went (delete_refusal t caller id) _ (λ e. record { forward = woken_forward (slot_named t id) _ _ _ (onward_freed (slot_of t (slot_named t id))) })

  obtain_went : (caller id : ℕ) (wait : Wait) → Went t (obtain t caller id wait)
  unfolding obtain
  obtain_went caller id wait =
      unless_went (obtain_refusal t caller id wait) _ (λ e. choose_cases (Went t) _ _ _
      (λ f. record { forward = forward_slots _ refl put }) (λ f. record { forward = put }))
    where
      put : Forward t (put_slot t (slot_named t id) (take_step (slot_of t (slot_named t id)) caller wait).slot)
      put = forward_put t (slot_named t id) _ (same_taken (slot_of t (slot_named t id)) caller wait)

  release_went : (caller id : ℕ) → Went t (release t caller id)
  unfolding release
  release_went caller id =
      unless_went (release_refusal t caller id) _ (λ e. record { forward = choose_cases (Forward t) _ _ _ (λ f. put) (λ f. forward_slots _ refl put) })
    where
      put : Forward t (put_slot t (slot_named t id) (give_of t (slot_of t (slot_named t id)) caller).slot)
      put = forward_put t (slot_named t id) _ (same_given (slot_of t (slot_named t id)) caller _)

  flush_went : (caller id : ℕ) → Went t (flush t caller id)
  unfolding flush flush_step
  flush_went caller id =
      unless_went (flush_refusal t caller id) _
      (λ e. record { forward = woken_forward (slot_named t id) _ _ _ (onward_same (slot_of t (slot_named t id)) _ refl refl refl refl) })

  tick_went : Went t (tick t)
  unfolding tick ticked_slot
  tick_went = record {
    forward = record {
      same_size = length-map t.slots (ticked_slot t);
      onward = λ n. rw (ticked_slot_lem t n) (onward_same (slot_of t n) _ refl refl refl refl);
    };
  }

perform_went : (t : Tables) (call : Call) (priorities : List ℕ) → 1 ≤ length t.tasks → Went t (perform t call priorities)
unfolding perform
perform_went t (Start slots) priorities h = start_went t slots priorities h
perform_went t (Create caller name count attributes maximum) priorities h = create_went t caller name count attributes maximum
perform_went t (Ident name) priorities h = ident_went t name
perform_went t (Delete caller id) priorities h = delete_went t caller id
perform_went t (Obtain caller id wait) priorities h = obtain_went t caller id wait
perform_went t (Release caller id) priorities h = release_went t caller id
perform_went t (Flush caller id) priorities h = flush_went t caller id
perform_went t Tick priorities h = tick_went t

step_went : (t : Tables) (call : Call) (priorities : List ℕ) → 1 ≤ length t.slots → Went t (step t call priorities)
unfolding step
step_went t call priorities h =
    choose_cases (Went t) (agrees t) _ _ (λ a. perform_went t call priorities (agreeing_started t a h).tasks)
    (λ a. record { forward = forward_refl t })

pub step_forward : (t : Tables) (call : Call) (priorities : List ℕ) → 1 ≤ length t.slots → Forward t (step t call priorities).tables
step_forward t call priorities h = (step_went t call priorities h).forward

pub run_forward : (t : Tables) (requests : List Request) → 1 ≤ length t.slots → Forward t (after t requests)
unfolding after
run_forward t [] h = forward_refl t
run_forward t (r ∷ rs) h =
    let f : Forward t (step_of t r).tables = step_forward t r.call r.priorities h in
    forward_trans f (run_forward (step_of t r).tables rs (omega arith))
