-- What delete and flush do: a slot without its waiters is stored, and then they are woken.
use mathlib.Core.Path.{◌≡◌, refl, sym, subst, ap, ◌∙◌}
use mathlib.Core.Bool.{Bool, true, false}
use mathlib.Core.List.{List}
use Prim.Native.Nat.{ℕ, pred, ◌+◌, ◌≤◌, ◌<◌}
use native.Mathlib.Omega.{arith}
use Rattle.std.specs.Prelude.{Ok, Err}
use lib.Dec.{eqb}
use lib.ListN.{length, get_or, take}
use Rattle.laws.specs.Choose.{◌and◌, isnt}
use Rattle.laws.specs.Rows.{fit}
use Rattle.laws.proofs.Fit.{get_d_fit}
use Rattle.laws.proofs.Choose.{if_yes, if_no}
use Rattle.rules.specs.declared.refusal.Refusal.{Refusal}
use Rattle.rules.specs.declared.refusal.Refusal.TheVariants.{InvalidId, ResourceInUse}
use Rattle.rules.specs.Status.{status_of}
use Rattle.rules.specs.Numbers.{is_binary}
use Rattle.rules.specs.Machine.{Slot, Tables, free_slot, slot_of, put_slot, urgency, names, slot_named}
use Rattle.rules.specs.Agreement.{Agrees, occurs}
use Rattle.rules.specs.Semaphore.{serving_order, flush_step}
use Rattle.rules.specs.Calls.{Outcome, answered, task_only, any_caller, wake_all, delete_refusal, delete, flush_refusal, flush}
use Rattle.rules.proofs.Serving.{serving_length, serving_occurs}
use Rattle.rules.proofs.Invariants.Lists.{occurs_at}
use Rattle.rules.proofs.Invariants.FromTests.{agrees_facts}
use Rattle.rules.proofs.Invariants.Room.{waiter_within}
use Rattle.semaphore.specs.declared.Semaphore.{Semaphore}
use Rattle.semaphore.specs.Record.{slot_from}
use Rattle.semaphore.proofs.Queue.{held}
use Rattle.tables.specs.Layout.{laid, model_of}
use Rattle.calls.specs.declared.Done.TheVariants.{Value}
use Rattle.calls.specs.Agreeing.{Agreeing}
use Rattle.calls.specs.Entered.{Found}
use Rattle.calls.specs.Reply.{Does}
use Rattle.calls.proofs.Agreeing.{tasks_few}
use Rattle.calls.proofs.Doing.{unless_refused_lem, unless_done, has_done, refuses}
use Rattle.calls.proofs.Entering.{task_first, any_first, refused_caller, refused_name, entry_passed, waiters_are, ready_room}

-- slot n as it is without waiters, and then they are woken with that answer
abbrev pub emptied : Tables → ℕ → Slot → ℕ → Tables
emptied t n slot answer = wake_all (put_slot t n slot) (serving_order (urgency t) (slot_of t n)) answer

-- the order in which they are woken, in 32 places
module _ {t : Tables} (a : Agrees t) {id n : ℕ} {s : Semaphore} (f : Found t id n s) (order : List ℕ)
    (is : order ≡ fit 32 0 (serving_order (urgency t) (slot_from s))) where
  in_order : order ≡ fit 32 0 (serving_order (urgency t) (slot_of t n))
  in_order = is ∙ ap (λ (y : Slot). fit 32 0 (serving_order (urgency t) y)) f.stands.same

  long : length (serving_order (urgency t) (slot_of t n)) ≡ s.waiters
  long = serving_length (urgency t) (slot_of t n) ∙ sym (waiters_are f.stands)

  -- each is a task
  pub ordered_tasks : (k : ℕ) → k < s.waiters → (1 ≤ get_or order k 0) × (get_or order k 0 ≤ length t.tasks)
  ordered_tasks k h =
      let there : get_or order k 0 ≡ get_or (serving_order (urgency t) (slot_of t n)) k 0 =
      ap (λ (xs : List ℕ). get_or xs k 0) in_order ∙ get_d_fit 32 0 (serving_order (urgency t) (slot_of t n)) k (omega (arith, f.stands.padded.few))
      in
      let stands : 1 ≤ occurs (get_or (serving_order (urgency t) (slot_of t n)) k 0) (slot_of t n).queue =
      subst (λ (c : ℕ). 1 ≤ c) (serving_occurs (urgency t) (slot_of t n) _) (occurs_at (serving_order (urgency t) (slot_of t n)) k (omega (arith, long)))
      in
      let w = waiter_within t (agrees_facts t a) (pred n) f.live _ stands in
      (omega (arith, there, w.0), omega (arith, there, w.1))

  pub ordered_few : (k : ℕ) → k < s.waiters → get_or order k 0 ≤ 32
  ordered_few k h = omega (arith, (ordered_tasks k h).1, tasks_few t a)

  pub emptied_laid : (slot : Slot) (answer : ℕ) {bs₁ bs₂ : List ℕ} → bs₁ ≡ laid (put_slot t n slot)
      → ((t : Tables) → bs₁ ≡ laid t → ((k : ℕ) → k < s.waiters → get_or order k 0 ≤ length t.tasks) → length t.ready + s.waiters ≤ 32
      → bs₂ ≡ laid (wake_all t (take s.waiters order) answer))
      → bs₂ ≡ laid (emptied t n slot answer)
  emptied_laid slot answer stored woken =
      woken (put_slot t n slot) stored (λ k h. (ordered_tasks k h).1) (ready_room a f)
      ∙ ap (λ (xs : List ℕ). laid (wake_all (put_slot t n slot) xs answer))
      (ap (take s.waiters) in_order ∙ held 32 0 (serving_order (urgency t) (slot_of t n)) s.waiters (sym long) (omega (arith, long, f.stands.padded.few)))

abbrev pub owned : Slot → Bool
owned s = is_binary s.attributes and isnt (eqb s.owner 0)

module _ {bs : List ℕ} (a : Agreeing bs) (caller id : ℕ) where
  pub delete_refused : (e : Refusal) → status_of e ≡ task_only (model_of bs) caller 0 → Does bs bs (Err e) (λ t. delete t caller id)
  unfolding delete delete_refusal
  delete_refused e is = refuses a e (refused_caller (task_first (model_of bs) caller) (model_of bs) id _ _ e is)

  pub flush_refused : (e : Refusal) → status_of e ≡ any_caller (model_of bs) caller 0 → Does bs bs (Err e) (λ t. flush t caller id)
  unfolding flush flush_refusal
  flush_refused e is = refuses a e (refused_caller (any_first (model_of bs) caller) (model_of bs) id 0 _ e is)

  module _ (passed : 0 ≡ task_only (model_of bs) caller 0) where
    pub delete_unnamed : names (model_of bs) id ≡ false → Does bs bs (Err InvalidId) (λ t. delete t caller id)
    unfolding delete delete_refusal
    delete_unnamed n = refuses a InvalidId (refused_name (task_first (model_of bs) caller) (model_of bs) id _ _ passed n)

    module _ {n : ℕ} {s : Semaphore} (f : Found (model_of bs) id n s) where
      -- the record's class and owner are the slot's
      owned_same : owned (slot_of (model_of bs) (slot_named (model_of bs) id)) ≡ owned (slot_from s)
      owned_same = ap {B = Bool} (λ (k : ℕ). owned (slot_of (model_of bs) k)) f.number ∙ sym (ap {B = Bool} (λ (y : Slot). owned y) f.stands.same)

      pub delete_owned : owned (slot_from s) ≡ true → Does bs bs (Err ResourceInUse) (λ t. delete t caller id)
      unfolding delete delete_refusal
      delete_owned o =
          refuses a ResourceInUse
          (entry_passed (task_first (model_of bs) caller) (model_of bs) id _ _ passed f.holds ∙ unless_refused_lem (model_of bs) _ ResourceInUse (if_yes 12 0 (owned_same ∙ o)))

      pub delete_done : owned (slot_from s) ≡ false → {after : List ℕ} → after ≡ laid (emptied (model_of bs) n (free_slot s.generation) 7)
          → Does bs after (Ok (Value 0)) (λ t. delete t caller id)
      unfolding delete delete_refusal
      delete_done o is =
          has_done 0 _
          (entry_passed (task_first (model_of bs) caller) (model_of bs) id _ _ passed f.holds
          ∙ unless_done (model_of bs) _ (if_no 12 0 (owned_same ∙ o))
          ∙ ap {B = Outcome} (λ (k : ℕ). answered 0 0 (emptied (model_of bs) k (free_slot (slot_of (model_of bs) k).generation) 7)) f.number
          ∙ ap {B = Outcome} (λ (y : Slot). answered 0 0 (emptied (model_of bs) n (free_slot y.generation) 7)) (sym f.stands.same))
          is

  module _ (passed : 0 ≡ any_caller (model_of bs) caller 0) where
    pub flush_unnamed : names (model_of bs) id ≡ false → Does bs bs (Err InvalidId) (λ t. flush t caller id)
    unfolding flush flush_refusal
    flush_unnamed n = refuses a InvalidId (refused_name (any_first (model_of bs) caller) (model_of bs) id 0 _ passed n)

    pub flush_done : {n : ℕ} {s : Semaphore} → Found (model_of bs) id n s → {after : List ℕ}
        → after ≡ laid (emptied (model_of bs) n (flush_step (slot_from s)) 13) → Does bs after (Ok (Value 0)) (λ t. flush t caller id)
    unfolding flush flush_refusal
    flush_done {n} f is =
        has_done 0 _
        (entry_passed (any_first (model_of bs) caller) (model_of bs) id 0 _ passed f.holds
        ∙ unless_done (model_of bs) _ refl
        ∙ ap {B = Outcome} (λ (k : ℕ). answered 0 0 (emptied (model_of bs) k (flush_step (slot_of (model_of bs) k)) 13)) f.number
        ∙ ap {B = Outcome} (λ (y : Slot). answered 0 0 (emptied (model_of bs) n (flush_step y) 13)) (sym f.stands.same))
        is

pub ruleset deleting = (delete_refused, delete_unnamed, delete_owned, delete_done)

pub ruleset flushing = (flush_refused, flush_unnamed, flush_done)
