-- What start and create answer and leave.
use mathlib.Core.Path.{◌≡◌, refl, sym, ap, ◌∙◌}
use mathlib.Core.Bool.{true}
use mathlib.Core.List.{List, [], ◌∷◌}
use mathlib.Core.Logic.{⊎_elim}
use Prim.Native.Nat.{ℕ, ◌+◌, ◌-◌, ◌*◌, ◌≤◌}
use Rattle.std.specs.Prelude.{Ok, Err, Some}
use native.Mathlib.Omega.{arith}
use lib.Dec.{leb, eqb}
use lib.ListN.{length}
use borrow.Author.Tests.{eqb-true, leb-true, leb-false}
use Rattle.laws.specs.Choose.{◌and◌}
use Rattle.laws.proofs.Choose.{and_both, or_either}
use Rattle.rules.specs.Numbers.{within}
use Rattle.rules.specs.declared.refusal.Refusal.{Refusal}
use Rattle.rules.specs.Status.{status_of}
use Rattle.rules.specs.Found.{Finds}
use Rattle.rules.specs.Machine.{Slot, Tables, unstarted, slot_of, put_slot}
use Rattle.rules.specs.Agreement.{Agrees, sizes_fit}
use Rattle.rules.specs.Calls.{Outcome, answered, start_refusal, started, start, open_slot, create_refusal, new_semaphore, create}
use Rattle.rules.proofs.Invariants.FromTests.{agrees_facts}
use Rattle.rules.proofs.Invariants.Room.{ready_few}
use Rattle.rules.proofs.Invariants.Refusals.{must, mustnt}
use Rattle.rules.proofs.Searching.{Hit, is_open, open_hit}
use Rattle.rules.proofs.History.Passed.{open_young}
use Rattle.semaphore.specs.declared.Semaphore.{Semaphore}
use Rattle.semaphore.specs.Record.{Stands}
use Rattle.tables.specs.Layout.{laid, model_of, record_at}
use Rattle.calls.specs.declared.Done.TheVariants.{Value}
use Rattle.tables.specs.Sizes.{Sized}
use Rattle.calls.specs.declared.create.Open.{Open}
use Rattle.calls.specs.Open.{Opens}
use Rattle.calls.specs.Agreeing.{Agreeing}
use Rattle.calls.specs.Reply.{Does}
use Rattle.calls.proofs.Searching.{FoundSlot, hit_slot, generation_read}
use Rattle.calls.proofs.Doing.{unless_refused_lem, unless_done, has_done, refuses}

-- ---- start

length_none : {A : Type 0} (xs : List A) → length xs ≡ 0 → xs ≡ []
length_none [] e = refl
length_none (x ∷ xs) e = absurd (omega arith)

-- agreeing tables without tasks have no slots and no ready tasks either
pub not_started : (t : Tables) → Agrees t → length t.tasks ≡ 0 → t ≡ unstarted
unfolding sizes_fit
not_started t a z =
    let none : length t.slots ≡ 0 = ⊎_elim
    (λ (e : (eqb (length t.tasks) 0 and eqb (length t.slots) 0) ≡ true). eqb-true _ _ (and_both _ _ e).1)
    (λ e. absurd (omega (arith, leb-true 1 (length t.tasks) (and_both _ _ (and_both _ _ e).0).0)))
    (or_either _ _ a.sizes)
    in
    let idle : length t.ready ≡ 0 = omega (arith, ready_few t (agrees_facts t a)) in
    λ k. record { tasks = length_none t.tasks z k; slots = length_none t.slots none k; ready = length_none t.ready idle k }

-- what a start that is not refused has checked
pub record Startable (t : Tables) (slots : ℕ) (priorities : List ℕ) : Type 0 where
  pub fresh : length t.tasks ≡ 0
  pub few : length priorities ≤ 32
  pub room : slots ≤ 64

pub startable : (t : Tables) (slots : ℕ) (priorities : List ℕ) → start_refusal t slots priorities ≡ 0 → Startable t slots priorities
unfolding start_refusal
startable t slots priorities e =
    let fresh = mustnt (leb 1 (length t.tasks)) 14 _ (omega arith) e in
    let sizes = must (within 1 32 (length priorities) and within 1 64 slots) _ 10 (omega arith) fresh.1 in
    let both = and_both _ _ sizes.0 in
    record {
      fresh = omega (arith, leb-false 1 (length t.tasks) fresh.0);
      few = leb-true _ _ (and_both _ _ both.0).1;
      room = leb-true _ _ (and_both _ _ both.1).1;
    }

module _ {bs : List ℕ} (g : Agreeing bs) (slots : ℕ) (priorities : List ℕ) where
  pub start_refused : (e : Refusal) → status_of e ≡ start_refusal (model_of bs) slots priorities → Does bs bs (Err e) (λ t. start t slots priorities)
  unfolding start
  start_refused e is = refuses g e (unless_refused_lem (model_of bs) _ e (sym is))

  module _ (may : 0 ≡ start_refusal (model_of bs) slots priorities) where
    pub may_start : Startable (model_of bs) slots priorities
    may_start = startable (model_of bs) slots priorities (sym may)

    pub start_done : {after : List ℕ} → (bs ≡ laid unstarted → after ≡ laid (started slots priorities))
        → Does bs after (Ok (Value 0)) (λ t. start t slots priorities)
    unfolding start
    start_done started = has_done 0 _ (unless_done (model_of bs) _ (sym may)) (started (g.same ∙ ap laid (not_started (model_of bs) g.agrees may_start.fresh)))

-- ---- create

module _ {bs : List ℕ} (z : Sized bs) (n : ℕ) (found : Finds (Some n) (open_slot (model_of bs))) where
  hit : Hit is_open (model_of bs).slots 0 n
  hit = open_hit (model_of bs) n found.0 (λ e. omega (arith, e, found.1))

  pub open_found : FoundSlot bs n
  open_found = hit_slot z hit

  pub opens : (g : ℕ) → g ≡ (record_at bs (n - 1)).generation → Opens (model_of bs) (record { slot = n; generation = g })
  opens g read =
      let is : g ≡ (slot_of (model_of bs) n).generation = generation_read bs n g open_found.low open_found.high read in
      record {
        number = found.0;
        low = open_found.low;
        high = open_found.high;
        most = open_found.most;
        generation = is;
        young = omega (arith, is, open_young (model_of bs) hit);
      }

module _ {bs : List ℕ} (a : Agreeing bs) (caller name count attributes maximum : ℕ) where
  pub create_refused : (e : Refusal) → status_of e ≡ create_refusal (model_of bs) caller name count attributes maximum
      → Does bs bs (Err e) (λ t. create t caller name count attributes maximum)
  unfolding create
  create_refused e is = refuses a e (unless_refused_lem (model_of bs) _ e (sym is))

  module _ (may : 0 ≡ create_refusal (model_of bs) caller name count attributes maximum) (o : Open) (there : Opens (model_of bs) o) where
    made : create (model_of bs) caller name count attributes maximum
        ≡ answered 0 ((o.generation + 1) * 65536 + o.slot)
        (put_slot (model_of bs) o.slot (new_semaphore o.generation caller name count attributes maximum))
    unfolding create new_semaphore
    made =
        unless_done (model_of bs) _ (sym may)
        ∙ ap {B = Outcome} (λ (k : ℕ). answered 0 (((slot_of (model_of bs) k).generation + 1) * 65536 + k)
        (put_slot (model_of bs) k (new_semaphore (slot_of (model_of bs) k).generation caller name count attributes maximum))) (sym there.number)
        ∙ ap {B = Outcome} (λ (h : ℕ). answered 0 ((h + 1) * 65536 + o.slot)
        (put_slot (model_of bs) o.slot (new_semaphore h caller name count attributes maximum))) (sym there.generation)

    pub create_done : {after : List ℕ} {s : Semaphore} → Stands s (new_semaphore o.generation caller name count attributes maximum)
        → ((t : Tables) (slot : Slot) → bs ≡ laid t → Stands s slot → o.slot ≤ length t.slots → after ≡ laid (put_slot t o.slot slot))
        → Does bs after (Ok (Value ((o.generation + 1) * 65536 + o.slot))) (λ t. create t caller name count attributes maximum)
    create_done stands put = has_done _ _ made (put (model_of bs) _ a.same stands there.high)

pub ruleset starting = (start_refused, start_done)

pub ruleset creating = (create_refused, create_done)
