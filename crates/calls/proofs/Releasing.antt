-- What release answers and leaves.
use mathlib.Core.Path.{◌≡◌, refl, sym, subst, ap, ◌∙◌}
use mathlib.Core.Bool.{false}
use mathlib.Core.List.{List}
use Prim.Native.Nat.{ℕ, pred, ◌≤◌, ◌<◌}
use native.Mathlib.Omega.{arith}
use Rattle.std.specs.Prelude.{Result, Ok, Err, Option, Some, None, IfSome}
use Rattle.std.specs.Option.{unwrap_or}
use lib.Dec.{eqb}
use lib.ListN.{length, get_or}
use Rattle.laws.specs.Choose.{choose}
use Rattle.laws.proofs.Choose.{if_eq, if_ne}
use Rattle.rules.specs.declared.refusal.Refusal.{Refusal}
use Rattle.rules.specs.declared.refusal.Refusal.TheVariants.{InvalidId}
use Rattle.rules.specs.Status.{status_of}
use Rattle.rules.specs.Machine.{Slot, Tables, names, slot_of, put_slot, urgency}
use Rattle.rules.specs.Semaphore.{served_place, give_step}
use Rattle.rules.specs.Calls.{Outcome, answered, unless, any_caller, wake, give_of, release_refusal, release}
use Rattle.rules.proofs.Serving.{served_within}
use Rattle.semaphore.specs.declared.Semaphore.{Semaphore}
use Rattle.semaphore.specs.declared.Given.{Given}
use Rattle.semaphore.specs.Record.{slot_from, Padded, Stands, Waits, GivenIs}
use Rattle.semaphore.proofs.TakeGive.{waiters_of, length_queue}
use Rattle.tables.specs.Layout.{laid, model_of}
use Rattle.calls.specs.declared.Done.TheVariants.{Value}
use Rattle.calls.specs.Agreeing.{Agreeing}
use Rattle.calls.specs.Entered.{Found}
use Rattle.calls.specs.Reply.{Does}
use Rattle.calls.proofs.Agreeing.{entry_tasks}
use Rattle.calls.proofs.Doing.{unless_refused_lem, unless_done, has_done, refuses}
use Rattle.calls.proofs.Entering.{any_first, refused_caller, refused_name, entry_passed, waiters_are, ready_room, count_within}

only_none : (o : Option ℕ) → ((q : ℕ) → o ≡ Some q → ⊥) → o ≡ None
only_none None h = refl
only_none (Some q) h = absurd (h q refl)

-- the tables after a release from slot n that woke nobody, and after one that woke a task
abbrev pub returned : Tables → ℕ → ℕ → Tables
returned t n caller = put_slot t n (give_of t (slot_of t n) caller).slot

abbrev pub handed_on : Tables → ℕ → ℕ → Tables
handed_on t n caller = wake (returned t n caller) (give_of t (slot_of t n) caller).woken 0

module _ {bs : List ℕ} (a : Agreeing bs) (caller id : ℕ) where
  pub release_refused : (e : Refusal) → status_of e ≡ any_caller (model_of bs) caller 0 → Does bs bs (Err e) (λ t. release t caller id)
  unfolding release release_refusal
  release_refused e is = refuses a e (refused_caller (any_first (model_of bs) caller) (model_of bs) id _ _ e is)

  module _ (passed : 0 ≡ any_caller (model_of bs) caller 0) where
    pub release_unnamed : names (model_of bs) id ≡ false → Does bs bs (Err InvalidId) (λ t. release t caller id)
    unfolding release release_refusal
    release_unnamed n = refuses a InvalidId (refused_name (any_first (model_of bs) caller) (model_of bs) id _ _ passed n)

    module _ {n : ℕ} {s : Semaphore} (f : Found (model_of bs) id n s) (place : ℕ) (at : place ≡ served_place (urgency (model_of bs)) (slot_from s)) where
      -- the place of the waiter served is one of the queue
      pub place_within : 1 ≤ s.waiters → place < s.waiters
      place_within some =
          let is : place ≡ served_place (urgency (model_of bs)) (slot_of (model_of bs) n) = at ∙ ap (served_place (urgency (model_of bs))) f.stands.same in
          let long = waiters_are f.stands in
          omega (arith, is, long, served_within (urgency (model_of bs)) (slot_of (model_of bs) n) (omega (arith, long)))

      pub givable : Padded s × (s.count ≤ s.maximum) × (1 ≤ s.waiters → place < s.waiters)
      givable = (f.stands.padded, count_within a.agrees f, place_within)

      module _ {r : Result Given Refusal} (step : GivenIs s r (give_step (slot_from s) caller place)) where
        -- a step on the record is that on the slot
        given_slot : GivenIs s r (give_of (model_of bs) (slot_of (model_of bs) n) caller)
        given_slot =
            subst (λ (y : Slot). GivenIs s r (give_of (model_of bs) y caller)) f.stands.same
            (subst (λ (k : ℕ). GivenIs s r (give_step (slot_from s) caller k)) at step)

        abbrev done : ℕ → Outcome
        done n =
            answered 0 0
            (choose (eqb (give_of (model_of bs) (slot_of (model_of bs) n) caller).woken 0) (returned (model_of bs) n caller) (handed_on (model_of bs) n caller))

        -- where the semaphore is found, its own step decides
        decided : release (model_of bs) caller id ≡ unless (give_of (model_of bs) (slot_of (model_of bs) n) caller).status (model_of bs) (done n)
        unfolding release release_refusal
        decided =
            entry_passed (any_first (model_of bs) caller) (model_of bs) id _ _ passed f.holds
            ∙ ap {B = Outcome} (λ (n : ℕ). unless (give_of (model_of bs) (slot_of (model_of bs) n) caller).status (model_of bs) (done n)) f.number

      pub release_ungiven : (e : Refusal) → GivenIs s (Err e) (give_step (slot_from s) caller place) → Does bs bs (Err e) (λ t. release t caller id)
      release_ungiven e step = refuses a e (decided step ∙ unless_refused_lem (model_of bs) _ e (sym (given_slot step).status))

      module _ {given : Given} (step : GivenIs s (Ok given) (give_step (slot_from s) caller place)) {stored : List ℕ}
          (put : (t : Tables) (slot : Slot) → bs ≡ laid t → Stands given.semaphore slot → n ≤ length t.slots → stored ≡ laid (put_slot t n slot)) where
        gives : GivenIs s (Ok given) (give_of (model_of bs) (slot_of (model_of bs) n) caller)
        gives = given_slot step

        -- the bytes with the slot as it was given
        stored_is : stored ≡ laid (returned (model_of bs) n caller)
        stored_is = put _ _ a.same gives.semaphore f.high

        granted : release (model_of bs) caller id ≡ done step n
        granted = decided step ∙ unless_done (model_of bs) _ (sym gives.status)

        pub release_returned : ((q : ℕ) → given.woken ≡ Some q → ⊥) → Does bs stored (Ok (Value 0)) (λ t. release t caller id)
        release_returned nobody =
            let none : given.woken ≡ None = only_none given.woken nobody in
            has_done 0 _
            (granted
            ∙ ap {B = Outcome} (λ (t : Tables). answered 0 0 t)
            (if_eq (give_of (model_of bs) (slot_of (model_of bs) n) caller).woken 0 _ _ (sym gives.woken ∙ ap (λ (o : Option ℕ). unwrap_or o 0) none)))
            stored_is

        module _ (q : ℕ) (some : given.woken ≡ Some q) where
          woken : q ≡ (give_of (model_of bs) (slot_of (model_of bs) n) caller).woken
          woken = sym (ap (λ (o : Option ℕ). unwrap_or o 0) some) ∙ gives.woken

          waiting : Waits (waiters_of s) q
          waiting = subst (λ (o : Option ℕ). IfSome o (Waits (waiters_of s))) some gives.waiter

          -- the task that is woken waits in the queue, and there is room in the sequence for it
          pub woken_task : (1 ≤ q) × (q ≤ length (model_of bs).tasks)
          woken_task =
              let long = waiters_are f.stands in
              let is : q ≡ get_or (slot_of (model_of bs) n).queue waiting.place 0 =
              waiting.is ∙ ap (λ (x : Slot). get_or x.queue waiting.place 0) f.stands.same in
              let w = entry_tasks (model_of bs) a.agrees (pred n) waiting.place (omega (arith, waiting.within, long, length_queue s f.stands.padded)) in
              (omega (arith, is, w.0), omega (arith, is, w.1))

          woken_room : length (model_of bs).ready < 32
          woken_room = omega (arith, ready_room a.agrees f, waiting.within, length_queue s f.stands.padded)

          pub release_handed : {after : List ℕ}
              → ((t : Tables) → stored ≡ laid t → q ≤ length t.tasks → length t.ready < 32 → after ≡ laid (wake t q 0))
              → Does bs after (Ok (Value 0)) (λ t. release t caller id)
          release_handed woke =
              let to = returned (model_of bs) n caller in
              has_done 0 (handed_on (model_of bs) n caller)
              (granted
              ∙ ap {B = Outcome} (λ (t : Tables). answered 0 0 t)
              (if_ne (give_of (model_of bs) (slot_of (model_of bs) n) caller).woken 0 _ _ (λ z. omega (arith, woken, z, woken_task))))
              (woke to stored_is woken_task.1 woken_room ∙ ap (λ (k : ℕ). laid (wake to k 0)) woken)

pub ruleset releasing = (release_refused, release_unnamed, release_ungiven, release_returned, release_handed, givable)
