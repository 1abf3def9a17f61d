-- How long a wait goes on, of tables (request 6). An obtain that is answered 100 leaves its caller waiting with the ticks of its wait. No call but a tick
-- takes of them; a tick takes one, and the last ends the wait.
use mathlib.Core.Path.{◌≡◌, refl, sym, subst, ap, ◌∙◌}
use mathlib.Core.Bool.{Bool, true, false}
use mathlib.Core.List.{List, [], ◌∷◌, ◌++◌, map}
use mathlib.Core.Logic.{⊎_elim, ◌≢◌}
use Prim.Native.Nat.{ℕ, suc, pred, ◌+◌, ◌≤◌, ◌<◌}
use native.Mathlib.Omega.{arith}
use native.Mathlib.Decide.{dec_le}
use lib.Dec.{leb, eqb}
use lib.ListN.{length, get_or, replicate}
use lib.Seq.{get_or-set_same}
use borrow.Author.Tests.{eqb-true, eqb-false, eq-eqb, leb-true, leb-false}
use Rattle.laws.specs.Choose.{choose, bit, ◌and◌, ◌or◌}
use Rattle.laws.proofs.Choose.{tested, never, if_yes, if_no, and_both, same_test, choose_cases}
use Rattle.laws.proofs.Fit.{set_cases}
use Rattle.rules.specs.declared.Task.{Task}
use Rattle.rules.specs.declared.Wait.{Wait}
use Rattle.rules.specs.declared.Call.{Call}
use Rattle.rules.specs.declared.Call.TheVariants.{Start, Create, Ident, Delete, Obtain, Release, Flush, Tick}
use Rattle.rules.specs.Machine.{Slot, Tables, no_task, task_of, slot_of, put_slot, waits, slot_named}
use Rattle.rules.specs.Agreement.{Agrees, agrees}
use Rattle.rules.specs.Semaphore.{polls, ticks_of, Taken, take_step, Given}
use Rattle.rules.specs.Calls.{Outcome, refused, unless, start_refusal, start, create_refusal, create, first_named, ident}
use Rattle.rules.specs.Calls.{delete_refusal, delete, begin_wait, blocked, obtain_refusal, obtain, give_of, release_refusal, release, flush_refusal, flush}
use Rattle.rules.specs.Calls.{expires, ticked, ticked_tables, tick, perform, step}
use Rattle.rules.specs.Runs.{Request, step_of, after}
use Rattle.rules.specs.Promises.{kind_of, ticks_among, waits_through}
use Rattle.rules.specs.Fits.{calls_fit}
use Rattle.rules.proofs.Asking.{ask, start_with, obtains, answers_of, tables_of}
use Rattle.rules.proofs.Invariants.Lists.{get_d_map}
use Rattle.rules.proofs.Invariants.Facts.{waits_within}
use Rattle.rules.proofs.Invariants.Refusals.{mustnt, Caller, task_only_lem, obtain_refused}
use Rattle.rules.proofs.Invariants.Kept.{performs, kept, run_kept}
use Rattle.rules.proofs.Invariants.Tick.{ticked_none, ticked_woken, ticked_answer}
use Rattle.rules.proofs.Invariants.Waking.{wake_keeps, wake_all_keeps}

-- ---- a wait begins

-- who does not wait at all is never told to
take_waits : (s : Slot) (caller : ℕ) (wait : Wait) → eqb (take_step s caller wait).status 100 ≡ true → polls wait ≡ false
unfolding take_step
take_waits s caller wait =
    choose_cases P _ _ _ (λ e z. never z refl)
    (λ e. choose_cases P _ _ _ (λ e. choose_cases P _ _ _ (λ e z. never z refl) (λ e z. never z refl))
    (λ e. choose_cases P _ _ _ (λ e z. never z refl) (λ e z. e)))
  where
    P : Taken → Type 0
    P taken = eqb taken.status 100 ≡ true → polls wait ≡ false

-- the caller waits, and the tables keep the ticks of its wait, 0 for ever
pub record Begun (caller : ℕ) (wait : Wait) (u : Tables) : Type 0 where
  pub may : polls wait ≡ false
  pub answer : (task_of u caller).answer ≡ 100
  pub ticks : (task_of u caller).ticks ≡ ticks_of wait

module _ (t : Tables) (caller id : ℕ) (wait : Wait) where
  taken : Taken
  taken = take_step (slot_of t (slot_named t id)) caller wait

  begun_there : Caller t caller → eqb taken.status 100 ≡ true
      → Begun caller wait (begin_wait (put_slot t (slot_named t id) taken.slot) caller (blocked (task_of t caller) id wait))
  unfolding taken
  begun_there who w =
      let inside : pred caller < length t.tasks = omega (arith, who.first, who.last) in
      let is = get_or-set_same t.tasks (pred caller) (blocked (task_of t caller) id wait) no_task inside in
      record {
        may = take_waits (slot_of t (slot_named t id)) caller wait w;
        answer = ap (λ (v : Task). v.answer) is;
        ticks = ap (λ (v : Task). v.ticks) is;
      }

  obtain_begins : (obtain t caller id wait).answer.status ≡ 100 → Begun caller wait (obtain t caller id wait).tables
  unfolding obtain obtain_refusal taken
  obtain_begins =
      choose_cases P _ _ _
      (λ e. choose_cases P _ _ _ (λ w z. begun_there (task_only_lem t caller _ (eqb-true _ 0 e)).0 w) (λ w z. absurd (omega arith)))
      (λ e z. absurd (obtain_refused t caller id wait z))
    where
      P : Outcome → Type 0
      P o = o.answer.status ≡ 100 → Begun caller wait o.tables

  pub begins : (priorities : List ℕ) → let o = step t (Obtain caller id wait) priorities in o.answer.status ≡ 100 → Begun caller wait o.tables
  unfolding step perform
  begins priorities =
      choose_cases (λ (o : Outcome). o.answer.status ≡ 100 → Begun caller wait o.tables) (agrees t) _ _
      (λ y. obtain_begins) (λ n z. absurd (omega arith))

-- ---- a wait goes on through a call

-- from n ticks left to m by k ticks: none stay none, and of some each tick took one and left some
pub record Left (n k m : ℕ) : Type 0 where
  pub endless : n ≡ 0 → m ≡ 0
  pub fewer : 1 ≤ n → m + k ≡ n
  pub some : 1 ≤ n → 1 ≤ m

-- a tick takes one of any wait that it does not end
ticked_left : (v : Task) → waits v ≡ true → waits (ticked v) ≡ true → Left v.ticks 1 (ticked v).ticks
unfolding ticked
ticked_left v w still =
    ⊎_elim (λ (e : expires v ≡ true). never still (ticked_woken v e))
    (λ (e : expires v ≡ false).
    let more : v.ticks ≢ 1 = eqb-false v.ticks 1 (sym (if_yes _ _ w) ∙ e) in
    subst (λ (z : Task). Left v.ticks 1 z.ticks) (sym (if_no _ _ e))
    (choose_cases (λ (z : Task). Left v.ticks 1 z.ticks) (waits v and leb 2 v.ticks) _ _
    (λ y. let two = leb-true 2 v.ticks (and_both _ _ y).1 in record { endless = λ z. omega arith; fewer = λ h. omega arith; some = λ h. omega arith })
    (λ y. let few = leb-false 2 v.ticks (sym (if_yes _ _ w) ∙ y) in
    record { endless = λ z. z; fewer = λ h. absurd (more (omega arith)); some = λ h. h })))
    (tested (expires v))

-- a task that waits is as v
abbrev As : Task → Task → Type 0
As v w = waits w ≡ true → w ≡ v

module _ (t : Tables) (q : ℕ) (waiting : waits (task_of t q) ≡ true) where
  -- if task q still waits, its record is as it was
  abbrev Same : Outcome → Type 0
  Same o = As (task_of t q) (task_of o.tables q)

  unless_same : (refusal : ℕ) (done : Outcome) → (refusal ≡ 0 → Same done) → Same (unless refusal t done)
  unless_same refusal done f = choose_cases Same (eqb refusal 0) done (refused t refusal) (λ e. f (eqb-true refusal 0 e)) (λ e w. refl)

  -- a task that waits is one of the N, so the machine is started
  start_same : (slots : ℕ) (priorities : List ℕ) → Same (start t slots priorities)
  unfolding start start_refusal
  start_same slots priorities =
      unless_same (start_refusal t slots priorities) _
      (λ e. let fresh = mustnt (leb 1 (length t.tasks)) 14 _ (omega arith) e in
      absurd (omega (arith, waits_within t (pred q) waiting, leb-false 1 (length t.tasks) fresh.0)))

  create_same : (caller name count attributes maximum : ℕ) → Same (create t caller name count attributes maximum)
  unfolding create
  create_same caller name count attributes maximum = unless_same (create_refusal t caller name count attributes maximum) _ (λ e w. refl)

  ident_same : (name : ℕ) → Same (ident t name)
  unfolding ident
  ident_same name = unless_same (choose (eqb name 0 or eqb (first_named name t.slots 1) 0) 3 0) _ (λ e w. refl)

  delete_same : (caller id : ℕ) → Same (delete t caller id)
  unfolding delete
  delete_same caller id = unless_same (delete_refusal t caller id) _ (λ e. wake_all_keeps (As (task_of t q)) (pred q) _ _ 7 (λ v w. never w refl) (λ w. refl))

  flush_same : (caller id : ℕ) → Same (flush t caller id)
  unfolding flush
  flush_same caller id = unless_same (flush_refusal t caller id) _ (λ e. wake_all_keeps (As (task_of t q)) (pred q) _ _ 13 (λ v w. never w refl) (λ w. refl))

  release_same : (caller id : ℕ) → Same (release t caller id)
  unfolding release
  release_same caller id =
      unless_same (release_refusal t caller id) _
      (λ e. choose_cases (λ (u : Tables). As (task_of t q) (task_of u q)) (eqb given.woken 0) _ _ (λ none w. refl)
      (λ some. wake_keeps (As (task_of t q)) (pred q) (put_slot t (slot_named t id) given.slot) given.woken 0 (λ w. never w refl) (λ w. refl)))
    where
      given : Given
      given = give_of t (slot_of t (slot_named t id)) caller

  -- the caller was ready, so it is another task
  obtain_same : (caller id : ℕ) (wait : Wait) → Same (obtain t caller id wait)
  unfolding obtain obtain_refusal
  obtain_same caller id wait =
      unless_same (obtain_refusal t caller id wait) _
      (λ e. choose_cases Same _ _ _
      (λ w. set_cases (As (task_of t q)) t.tasks (pred caller) (pred q) (blocked (task_of t caller) id wait) no_task
      (λ same. never waiting (subst (λ (i : ℕ). waits (get_or t.tasks i no_task) ≡ false) (sym same) (task_only_lem t caller _ e).0.ready))
      (λ w. refl))
      (λ n w. refl))

  ticked_task : task_of (ticked_tables t) q ≡ ticked (task_of t q)
  ticked_task = get_d_map ticked t.tasks (pred q) no_task ticked_none

  abbrev left_before : ℕ
  left_before = (task_of t q).ticks

  tick_answers : (task_of (tick t).tables q).answer ≡ choose (eqb left_before 1) 6 100
  unfolding tick
  tick_answers = ap (λ (v : Task). v.answer) ticked_task ∙ ticked_answer (task_of t q) waiting

  tick_left : waits (task_of (tick t).tables q) ≡ true → Left left_before 1 (task_of (tick t).tables q).ticks
  unfolding tick
  tick_left still =
      subst (λ (v : Task). Left left_before 1 v.ticks) (sym ticked_task)
      (ticked_left (task_of t q) waiting (subst (λ (v : Task). waits v ≡ true) ticked_task still))

  quiet : {w : Task} → w ≡ task_of t q → Left left_before 0 w.ticks
  quiet {w} e = subst (λ (v : Task). Left left_before 0 v.ticks) (sym e) (record { endless = λ z. z; fewer = λ h. omega arith; some = λ h. h })

  perform_left : (call : Call) (priorities : List ℕ) → let u = (perform t call priorities).tables in
      waits (task_of u q) ≡ true → Left left_before (bit (eqb (kind_of call) (kind_of Tick))) (task_of u q).ticks
  unfolding perform kind_of choose
  perform_left (Start slots) priorities w = quiet (start_same slots priorities w)
  perform_left (Create caller name count attributes maximum) priorities w = quiet (create_same caller name count attributes maximum w)
  perform_left (Ident name) priorities w = quiet (ident_same name w)
  perform_left (Delete caller id) priorities w = quiet (delete_same caller id w)
  perform_left (Obtain caller id wait) priorities w = quiet (obtain_same caller id wait w)
  perform_left (Release caller id) priorities w = quiet (release_same caller id w)
  perform_left (Flush caller id) priorities w = quiet (flush_same caller id w)
  perform_left Tick priorities w = tick_left w

-- ---- and through a run

waits_first : (t : Tables) (q : ℕ) (requests : List Request) → waits_through t q requests ≡ true → waits (task_of t q) ≡ true
unfolding waits_through
waits_first t q [] w = w
waits_first t q (r ∷ rs) w = (and_both _ _ w).0

waits_last : (t : Tables) (q : ℕ) (requests : List Request) → waits_through t q requests ≡ true → waits (task_of (after t requests) q) ≡ true
unfolding waits_through after
waits_last t q [] w = w
waits_last t q (r ∷ rs) w = waits_last (step_of t r).tables q rs (and_both _ _ w).1

pub run_left : (t : Tables) → Agrees t → (q : ℕ) (requests : List Request) → calls_fit requests ≡ true → waits_through t q requests ≡ true
    → Left (task_of t q).ticks (ticks_among requests) (task_of (after t requests) q).ticks
unfolding after calls_fit waits_through ticks_among
run_left t a q [] f w = record { endless = λ z. z; fewer = λ h. omega arith; some = λ h. h }
run_left t a q (r ∷ rs) f w =
    let u : Tables = (step_of t r).tables in
    let fits = and_both _ _ f in
    let going = and_both _ _ w in
    let one : Left (task_of t q).ticks (bit (eqb (kind_of r.call) (kind_of Tick))) (task_of u q).ticks =
    subst (λ (o : Outcome). waits (task_of o.tables q) ≡ true
    → Left (task_of t q).ticks (bit (eqb (kind_of r.call) (kind_of Tick))) (task_of o.tables q).ticks)
    (sym (performs t r.call r.priorities a)) (perform_left t q going.0 r.call r.priorities) (waits_first u q rs going.1) in
    let rest = run_left u (kept t r.call r.priorities fits.0 a) q rs fits.1 going.1 in
    record {
      endless = λ z. rest.endless (one.endless z);
      fewer = λ h. omega (arith, one.fewer h, rest.fewer (one.some h));
      some = λ h. rest.some (one.some h);
    }

-- a tick after a run that the wait went on through ends it, with 6, exactly if that is the last of its ticks
pub tick_after : (t : Tables) → Agrees t → (q : ℕ) (requests : List Request) → calls_fit requests ≡ true → waits_through t q requests ≡ true
    → (priorities : List ℕ) → (task_of (step (after t requests) Tick priorities).tables q).answer
    ≡ choose (eqb (suc (ticks_among requests)) (task_of t q).ticks) 6 100
unfolding perform
tick_after t a q requests f w priorities =
    ap (λ (o : Outcome). (task_of o.tables q).answer) (performs u Tick priorities (run_kept t requests f a))
    ∙ tick_answers u q (waits_last t q requests w)
    ∙ ap (λ (b : Bool). choose b 6 100) (same_test (eqb m 1) (eqb (suc k) n) last first)
  where
    u : Tables
    u = after t requests

    n : ℕ
    n = (task_of t q).ticks

    m : ℕ
    m = (task_of u q).ticks

    k : ℕ
    k = ticks_among requests

    left : Left n k m
    left = run_left t a q requests f w

    last : eqb m 1 ≡ true → eqb (suc k) n ≡ true
    last e =
        let one = eqb-true m 1 e in
        elim (dec_le 1 n) [
          | yes h ↦ eq-eqb (suc k) n (omega (arith, left.fewer h, one))
          | no z ↦ absurd (omega (arith, left.endless (omega arith), one))
        ]

    first : eqb (suc k) n ≡ true → eqb m 1 ≡ true
    first e =
        let is = eqb-true (suc k) n e in
        let some : 1 ≤ n = omega (arith, is) in
        eq-eqb m 1 (omega (arith, left.fewer some, is))

-- ---- computed

-- tasks 1 and 2 wait on one semaphore, with timeout 0 and with 4294967295
abbrev pub waiters : List Request
waiters = start_with 1 (10 ∷ 20 ∷ []) ∷ ask (Create 1 77 0 0 4294967295) ∷ obtains 1 65537 0 0 ∷ obtains 2 65537 0 4294967295 ∷ []

pub waiters_kept : map (λ v. v.ticks) (tables_of waiters).tasks ≡ 500 ∷ 0 ∷ []
unfolding answers_of
waiters_kept = refl

-- the tasks' answers before a run and after each of its calls
unfoldable pub answers_along : Tables → List Request → List (List ℕ)
answers_along t [] = map (λ v. v.answer) t.tasks ∷ []
answers_along t (r ∷ rs) = map (λ v. v.answer) t.tasks ∷ answers_along (step_of t r).tables rs

-- 600 ticks: the first still waits after 499 and ends with 6 at the 500th, the second never ends
pub standard_limit_lem : answers_along (tables_of waiters) (replicate 600 (ask Tick)) ≡ replicate 500 (100 ∷ 100 ∷ []) ++ replicate 101 (6 ∷ 100 ∷ [])
unfolding answers_of answers_along
standard_limit_lem = refl
