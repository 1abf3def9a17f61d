-- How a call on a semaphore begins: what `enter` says of the call's whole chain of checks, and of the semaphore that it found.
use mathlib.Core.Path.{◌≡◌, refl, sym, subst, ap, ◌∙◌}
use mathlib.Core.Bool.{true, false}
use mathlib.Core.List.{List}
use Prim.Native.Nat.{ℕ, pred, ◌+◌, ◌-◌, ◌≤◌, ◌<◌}
use native.Mathlib.Numerals.{sub-one}
use native.Mathlib.Omega.{arith}
use Rattle.std.specs.Prelude.{Some, None}
use lib.Dec.{eqb}
use lib.ListN.{length}
use borrow.Author.Tests.{eq-eqb, ne_eqb}
use Rattle.laws.specs.Choose.{choose}
use Rattle.laws.proofs.Choose.{if_yes, if_no}
use Rattle.rules.specs.declared.refusal.Refusal.{Refusal}
use Rattle.rules.specs.declared.refusal.Refusal.TheVariants.{InvalidId}
use Rattle.rules.specs.Status.{status_of}
use Rattle.rules.specs.Found.{Finds}
use Rattle.rules.proofs.Refused.{refused as refused_lem}
use Rattle.rules.specs.Machine.{Slot, Tables, slot_of, is_live, names, slot_named}
use Rattle.rules.specs.Agreement.{Agrees}
use Rattle.rules.specs.Calls.{Outcome, refused, unless, task_only, any_caller}
use Rattle.rules.proofs.Invariants.FromTests.{agrees_facts}
use Rattle.rules.proofs.Invariants.Room.{queue_room, queue_joins}
use Rattle.rules.proofs.Invariants.Refusals.{Caller, found}
use Rattle.semaphore.specs.declared.Semaphore.{Semaphore}
use Rattle.semaphore.specs.Record.{slot_from, Padded, Stands}
use Rattle.semaphore.proofs.TakeGive.{length_queue}
use Rattle.tables.specs.Layout.{tables_length, model_of, record_at}
use Rattle.tables.proofs.LayoutRead.{padded_laid}
use Rattle.lookup.proofs.Model.{length_slots, slot_read}
use Rattle.lookup.proofs.CallerAndSlot.{task_only_then, any_caller_then, named, not_named}
use Rattle.calls.specs.Agreeing.{Agreeing}
use Rattle.calls.specs.Entered.{Found}
use Rattle.calls.proofs.Agreeing.{sized, tasks_few, slots_few, agrees_holds}
use Rattle.calls.proofs.Doing.{unless_refused_lem}

-- ---- the checks of the caller, and then the rest

-- `first` takes the checks that follow, which count where the caller passes
pub record CallerFirst (first : ℕ → ℕ) : Type 0 where
  pub then : (rest : ℕ) → first rest ≡ choose (eqb (first 0) 0) rest (first 0)

pub task_first : (t : Tables) (caller : ℕ) → CallerFirst (λ rest. task_only t caller rest)
task_first t caller = record { then = task_only_then t caller }

pub any_first : (t : Tables) (caller : ℕ) → CallerFirst (λ rest. any_caller t caller rest)
any_first t caller = record { then = any_caller_then t caller }

module _ {first : ℕ → ℕ} (f : CallerFirst first) where
  pub caller_refused : (rest : ℕ) (e : Refusal) → status_of e ≡ first 0 → first rest ≡ status_of e
  caller_refused rest e is = f.then rest ∙ if_no rest (first 0) (ne_eqb (first 0) 0 (λ z. omega (arith, is, refused_lem e))) ∙ sym is

  pub caller_passed : (rest : ℕ) → 0 ≡ first 0 → first rest ≡ rest
  caller_passed rest z = f.then rest ∙ if_yes rest (first 0) (eq-eqb (first 0) 0 (sym z))

  -- ---- the caller and the identifier, and then the rest

  module _ (t : Tables) (id rest : ℕ) (done : Outcome) where
    abbrev checks : ℕ
    checks = first (choose (names t id) rest 4)

    pub refused_caller : (e : Refusal) → status_of e ≡ first 0 → unless checks t done ≡ refused t (status_of e)
    refused_caller e is = unless_refused_lem t done e (caller_refused (choose (names t id) rest 4) e is)

    module _ (passed : 0 ≡ first 0) where
      pub refused_name : names t id ≡ false → unless checks t done ≡ refused t 4
      refused_name n = unless_refused_lem t done InvalidId (caller_passed (choose (names t id) rest 4) passed ∙ if_no rest 4 n)

      pub entry_passed : names t id ≡ true → unless checks t done ≡ unless rest t done
      entry_passed h = ap {B = Outcome} (λ (k : ℕ). unless k t done) (caller_passed (choose (names t id) rest 4) passed ∙ if_yes rest 4 h)

-- ---- the semaphore that was found

-- a record that stands for a slot has as many waiters
pub waiters_are : {s : Semaphore} {slot : Slot} → Stands s slot → s.waiters ≡ length slot.queue
waiters_are {s} st = sym (length_queue s st.padded) ∙ ap (λ (x : Slot). length x.queue) st.same

module _ {t : Tables} (a : Agrees t) {id n : ℕ} {s : Semaphore} (f : Found t id n s) where
  pub slot_few : n ≤ 64
  slot_few = omega (arith, f.high, slots_few t a)

  -- there is room for a caller that does not wait
  pub room : {caller : ℕ} → Caller t caller → s.waiters < 32
  room {caller} who =
      omega (
        arith,
        waiters_are f.stands,
        tasks_few t a,
        queue_room t (agrees_facts t a) (pred n) f.live (pred caller)
            (omega (arith, who.first, who.last)) who.ready,
      )

  -- and in the sequence of ready tasks for all who wait
  pub ready_room : length t.ready + s.waiters ≤ 32
  ready_room = omega (arith, waiters_are f.stands, tasks_few t a, queue_joins t (agrees_facts t a) (pred n) f.live)

  pub count_within : s.count ≤ s.maximum
  count_within =
      subst (λ (x : Slot). x.count ≤ x.maximum) (sym f.stands.same) (((agrees_facts t a).slots (pred n)).when_live f.live).maximum.count

-- ---- what the steps ask of it

module _ {bs : List ℕ} (g : Agreeing bs) {id n : ℕ} {s : Semaphore} (f : Found (model_of bs) id n s) where
  pub storable : (length bs ≡ tables_length) × (1 ≤ n) × (n ≤ 64)
  storable = ((sized g).long, f.low, slot_few g.agrees f)

  pub takable : {caller : ℕ} → Caller (model_of bs) caller → Padded s × (s.waiters < 32)
  takable who = (f.stands.padded, room g.agrees f who)

-- ---- what `enter` shows

module _ {bs : List ℕ} (g : Agreeing bs) (id n : ℕ) (asked : n ≡ slot_named (model_of bs) id) where
  pub unnamed : n ≡ 0 → names (model_of bs) id ≡ false
  unnamed z = not_named (model_of bs) id (sym asked ∙ z)

  module _ (some : n ≡ 0 → ⊥) where
    pub slot_within : (1 ≤ n) × (n ≤ 64)
    slot_within = let h = named (model_of bs) id n (sym asked) some in (h.low, omega (arith, h.high, slots_few (model_of bs) g.agrees))

    pub found_loaded : (s : Semaphore) → s ≡ record_at bs (n - 1) → Found (model_of bs) id n s
    found_loaded s p =
        let t = model_of bs in
        let h = named t id n (sym asked) some in
        let w = found t g.agrees.sizes id h.holds in
        let i : pred n < 64 = omega (arith, slot_within) in
        let at : s ≡ record_at bs (pred n) = p ∙ ap (λ (k : ℕ). record_at bs k) (sub-one n) in
        record {
          holds = h.holds;
          number = sym asked;
          low = h.low;
          high = h.high;
          live = subst (λ (k : ℕ). is_live (slot_of t k) ≡ true) (sym w.number ∙ sym asked) w.live;
          stands = record {
            same = ap {B = Slot} slot_from at ∙ sym (slot_read bs (pred n) (omega (arith, h.low, h.high, length_slots bs)));
            padded = rw (at ∙ ap (λ (b : List ℕ). record_at b (pred n)) g.same) (padded_laid t (agrees_holds t g.agrees) (pred n) i);
          };
        }

-- of what the search for its slot answers
module _ {bs : List ℕ} (g : Agreeing bs) (id : ℕ) where
  pub enters_none : Finds None (slot_named (model_of bs) id) → names (model_of bs) id ≡ false
  enters_none none = unnamed g id 0 (sym none) refl

  module _ (n : ℕ) (some : Finds (Some n) (slot_named (model_of bs) id)) where
    pub enters_within : (1 ≤ n) × (n ≤ 64)
    enters_within = slot_within g id n some.0 (λ z. omega (arith, z, some.1))

    pub enters_found : (s : Semaphore) → s ≡ record_at bs (n - 1) → Found (model_of bs) id n s
    enters_found = found_loaded g id n some.0 (λ z. omega (arith, z, some.1))

pub ruleset entering = (enters_none, enters_within, enters_found)
