-- Over any run of calls: a waiter with k tasks ahead is granted at the latest by the (k + 1)th successful release, unless its wait ends otherwise first.
use mathlib.Core.Path.{◌≡◌, refl, sym, subst, ap, ◌∙◌}
use mathlib.Core.Bool.{true, false}
use mathlib.Core.List.{List, [], ◌∷◌, ◌++◌}
use mathlib.Core.Logic.{◌⊎◌, inl, inr, ⊎_elim}
use Prim.Native.Nat.{ℕ, suc, pred, ◌+◌, ◌%◌, ◌≤◌, ◌<◌}
use native.Mathlib.Omega.{arith}
use lib.Dec.{eqb}
use lib.ListN.{length, get_or}
use lib.Seq.{get_or-set_same}
use borrow.Author.Tests.{eqb-true, eq-eqb}
use Rattle.laws.specs.Choose.{choose}
use Rattle.laws.proofs.Choose.{if_yes, and_both, both_and, choose_cases}
use Rattle.rules.specs.Numbers.{by_priority, is_binary}
use Rattle.rules.specs.declared.Task.{Task}
use Rattle.rules.specs.declared.Wait.{Wait}
use Rattle.rules.specs.declared.Call.TheVariants.{Obtain}
use Rattle.rules.specs.Machine.{Slot, Tables, no_task, task_of, slot_of, put_slot, waits, names}
use Rattle.rules.specs.Agreement.{Agrees}
use Rattle.rules.specs.Semaphore.{Taken, take_step}
use Rattle.rules.specs.Calls.{Outcome, answered, begin_wait, blocked, obtain_refusal, obtain, perform, step}
use Rattle.rules.specs.Runs.{Request, step_of}
use Rattle.rules.specs.Fits.{call_fits, calls_fit}
use Rattle.rules.proofs.Accounting.{take_queue}
use Rattle.rules.proofs.Invariants.FromTests.{agrees_facts}
use Rattle.rules.proofs.Invariants.Kept.{performs, kept}
use Rattle.rules.proofs.Invariants.Refusals.{must, Caller, task_only_lem, obtain_refused}
use Rattle.accounts.specs.History.{Event, seen, history_of}
use Rattle.accounts.specs.Accounts.{released_at, releases_in}
use Rattle.accounts.specs.Turns.{ending_of, goes_on, Ends, EndsInTurn, ServedInTurn}
use Rattle.accounts.proofs.Waiters.{Waits, named_at, put_here, awaited_lives}
use Rattle.accounts.proofs.Accounting.{answered_agrees, attributes_stay}
use Rattle.accounts.proofs.Queues.{rear_last}
use Rattle.accounts.proofs.Serving.{Goes, Fares, ending, fares}

-- a live counting or simple binary semaphore, served by arrival
pub record ByArrival (t : Tables) (id : ℕ) : Type 0 where
  pub named : names t id ≡ true
  pub unowned : is_binary (slot_of t (id % 65536)).attributes ≡ false
  pub fifo : by_priority (slot_of t (id % 65536)).attributes ≡ false

-- the wait has ended in turn, or it goes on, and fewer than k + 1 releases have been successful
abbrev Turn : ℕ → ℕ → ℕ → List Event → Type 0
Turn id q k history = EndsInTurn id q k history ⊎ ((goes_on q history ≡ true) × (releases_in id history < suc k))

-- so it is served in turn
in_turn_lem : (id q k : ℕ) (h : List Event) → Turn id q k h → ServedInTurn id q k h
in_turn_lem id q k h t =
    record {
      by_then = λ enough.
          ⊎_elim (λ (x : EndsInTurn id q k h). x) (λ (x : (goes_on q h ≡ true) × (releases_in id h < suc k)). absurd (omega (arith, enough, x.1))) t;
      so_far = ⊎_elim (λ (x : EndsInTurn id q k h). inl x) (λ (x : (goes_on q h ≡ true) × (releases_in id h < suc k)). inr x.0) t;
    }

module _ (id q : ℕ) where
  -- the wait ends at the first event
  turn_ends : (k : ℕ) (e : Event) (es : List Event) → Ends id q e → Turn id q k (e ∷ es)
  unfolding goes_on releases_in
  turn_ends k e es ends =
      inl (record { before = []; event = e; later = es; parts = refl; waited = refl; in_time = omega arith; ends = ends })

  -- or goes on, with no more ahead than k less the releases
  turn_goes : (k j : ℕ) (e : Event) (es : List Event) → ending_of q e.endings ≡ 100 → j + released_at id e ≤ k → Turn id q j es → Turn id q k (e ∷ es)
  unfolding goes_on releases_in
  turn_goes k j e es on fewer =
      ⊎_elim
      (λ (x : EndsInTurn id q j es).
      inl (record {
        before = e ∷ x.before;
        event = x.event;
        later = x.later;
        parts = ap (λ (l : List Event). e ∷ l) x.parts;
        waited = both_and (eq-eqb (ending_of q e.endings) 100 on) x.waited;
        in_time = omega (arith, x.in_time);
        ends = x.ends;
      }))
      (λ (x : (goes_on q es ≡ true) × (releases_in id es < suc j)). inr (both_and (eq-eqb (ending_of q e.endings) 100 on) x.0, omega (arith, x.1)))

-- one call, and then the rest of a run, of which it is known
module _ (t : Tables) (a : Agrees t) (id : ℕ) (p : ByArrival t id) (k : ℕ) (inside : k < length (slot_of t (id % 65536)).queue) (r : Request) where
  abbrev left : Tables
  left = (step_of t r).tables

  abbrev q : ℕ
  q = get_or (slot_of t (id % 65536)).queue k 0

  abbrev event : Event
  event = seen t r (step_of t r).answer left

  one : Fares t (agrees_facts t a) id p.named p.unowned p.fifo k inside r r.call (step_of t r)
  one =
      subst (Fares t (agrees_facts t a) id p.named p.unowned p.fifo k inside r r.call) (sym (performs t r.call r.priorities a))
      (fares t (agrees_facts t a) id p.named p.unowned p.fifo k inside r)

  turn_step : call_fits r.call ≡ true → (es : List Event)
      → (Agrees left → ByArrival left id → (j : ℕ) → j < length (slot_of left (id % 65536)).queue → Turn id (get_or (slot_of left (id % 65536)).queue j 0) j es)
      → Turn id q k (event ∷ es)
  turn_step fits es rest = ⊎_elim (λ e. turn_ends id q k event es e) on one
    where
      a' : Agrees left
      a' = kept t r.call r.priorities fits a

      plain : names left id ≡ true → ByArrival left id
      plain lives =
          let same = attributes_stay t id p.named r lives in
          record {
            named = lives;
            unowned = subst (λ (x : ℕ). is_binary x ≡ false) (sym same) p.unowned;
            fifo = subst (λ (x : ℕ). by_priority x ≡ false) (sym same) p.fifo;
          }

      on : Goes t (agrees_facts t a) id p.named p.unowned p.fifo k inside r.call (step_of t r) → Turn id q k (event ∷ es)
      on g =
          turn_goes id q k g.place event es
          (ending t (agrees_facts t a) id p.named p.unowned p.fifo k inside r (step_of t r) ∙ eqb-true _ 100 g.waits'.waiting) g.fewer
          (subst (λ (x : ℕ). Turn id x g.place es) g.here
          (rest a' (plain (awaited_lives left (agrees_facts left a') id q g.waits')) g.place g.within))

-- from any tables that agree: who stands in the queue has its place in it as k
turn : (t : Tables) → Agrees t → (id : ℕ) → ByArrival t id → (k : ℕ) → k < length (slot_of t (id % 65536)).queue
    → (requests : List Request) → calls_fit requests ≡ true → Turn id (get_or (slot_of t (id % 65536)).queue k 0) k (history_of t requests)
unfolding history_of calls_fit goes_on releases_in
turn t a id p k inside [] f = inr (refl, omega arith)
turn t a id p k inside (r ∷ rs) f =
    let fits = and_both _ _ f in
    turn_step t a id p k inside r fits.0 (history_of (step_of t r).tables rs)
    (λ a' p' j within. turn (step_of t r).tables a' id p' j within rs fits.1)

pub served : (t : Tables) → Agrees t → (id : ℕ) → ByArrival t id → (k : ℕ) → k < length (slot_of t (id % 65536)).queue
    → (requests : List Request) → calls_fit requests ≡ true → ServedInTurn id (get_or (slot_of t (id % 65536)).queue k 0) k (history_of t requests)
served t a id p k inside requests f = in_turn_lem id _ k _ (turn t a id p k inside requests f)

-- ---- a task that joins

module _ (t : Tables) (q id : ℕ) (wait : Wait) (priorities : List ℕ) (unowned : is_binary (slot_of t (id % 65536)).attributes ≡ false)
    (fifo : by_priority (slot_of t (id % 65536)).attributes ≡ false) where
  abbrev queue : List ℕ
  queue = (slot_of t (id % 65536)).queue

  -- it waits, behind all who waited
  record Joins (u : Tables) : Type 0 where
    named : names t id ≡ true
    waits' : Waits u id q
    rear : (slot_of u (id % 65536)).queue ≡ queue ++ q ∷ []

  abbrev taken_of : ℕ → Taken
  taken_of m = take_step (slot_of t m) q wait

  abbrev waiting : ℕ → Tables
  waiting m = begin_wait (put_slot t m (taken_of m).slot) q (blocked (task_of t q) id wait)

  abbrev Begins : Outcome → Type 0
  Begins o = o.answer.status ≡ 100 → Joins o.tables

  joins : Caller t q → names t id ≡ true → eqb (taken_of (id % 65536)).status 100 ≡ true → Joins (waiting (id % 65536))
  joins who there w =
      let inside : pred q < length t.tasks = omega (arith, who.first, who.last) in
      let is = get_or-set_same t.tasks (pred q) (blocked (task_of t q) id wait) no_task inside in
      record {
        named = there;
        waits' = record {
          first = who.first;
          waiting = ap (λ (v : Task). waits v) is;
          awaited = ap (λ (v : Task). v.awaited) is;
        };
        rear =
            ap (λ (s : Slot). s.queue) (put_here t id there id there (taken_of (id % 65536)).slot refl)
            ∙ take_queue (slot_of t (id % 65536)) unowned q wait
            ∙ if_yes _ _ w;
      }

  obtain_joins : Begins (obtain t q id wait)
  unfolding obtain obtain_refusal
  obtain_joins =
      choose_cases Begins (eqb (obtain_refusal t q id wait) 0) _ _
      (λ e.
      let who = task_only_lem t q _ (eqb-true _ 0 e) in
      let there = (must (names t id) _ 4 (omega arith) who.1).0 in
      subst (λ (m : ℕ). Begins (choose (eqb (taken_of m).status 100) (answered 100 0 (waiting m)) (answered 0 0 (put_slot t m (taken_of m).slot))))
      (sym (named_at t id there))
      (choose_cases Begins _ _ _ (λ w s. joins who.0 there w) (λ w s. absurd (omega arith))))
      (λ e s. absurd (obtain_refused t q id wait s))

  abbrev outcome : Outcome
  outcome = step t (Obtain q id wait) priorities

  -- as many are ahead as waited before
  pub joined : call_fits (Obtain q id wait) ≡ true → outcome.answer.status ≡ 100 → (requests : List Request) → calls_fit requests ≡ true
      → ServedInTurn id q (length queue) (history_of outcome.tables requests)
  unfolding perform
  joined fits s requests f =
      let a = answered_agrees t (Obtain q id wait) priorities (λ z. omega (arith, s)) in
      let j : Joins outcome.tables = subst Begins (sym (performs t (Obtain q id wait) priorities a)) obtain_joins s in
      let a' = kept t (Obtain q id wait) priorities fits a in
      let lives = awaited_lives outcome.tables (agrees_facts outcome.tables a') id q j.waits' in
      let same = attributes_stay t id j.named (record { call = Obtain q id wait; priorities = priorities }) lives in
      let r = rear_last q queue in
      let inside : length queue < length (slot_of outcome.tables (id % 65536)).queue = subst (λ (qs : List ℕ). length queue < length qs) (sym j.rear) r.0 in
      subst (λ (x : ℕ). ServedInTurn id x (length queue) (history_of outcome.tables requests)) (ap (λ (qs : List ℕ). get_or qs (length queue) 0) j.rear ∙ r.1)
      (served outcome.tables a' id
      (record {
        named = lives;
        unowned = subst (λ (x : ℕ). is_binary x ≡ false) (sym same) unowned;
        fifo = subst (λ (x : ℕ). by_priority x ≡ false) (sym same) fifo;
      })
      (length queue) inside requests f)
