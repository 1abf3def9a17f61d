-- An obtain and a release account for the count, and so does every call.
use mathlib.Core.Path.{◌≡◌, refl, sym, subst, ap, ◌∙◌}
use mathlib.Core.Bool.{Bool, true, false}
use mathlib.Core.List.{List}
use mathlib.Core.Logic.{⊎_elim, ◌≢◌}
use Prim.Native.Nat.{ℕ, suc, pred, ◌+◌, ◌%◌, ◌≤◌}
use native.Mathlib.Omega.{arith}
use native.Mathlib.Decide.{ℕ_discrete}
use lib.Dec.{leb, eqb}
use lib.ListN.{length, get_or, set}
use lib.Seq.{get_or-set_same, get_or-set_other}
use borrow.Author.Tests.{eqb-true, eqb-false, eq-eqb, ne_eqb, leb-true, leb-false}
use Rattle.laws.specs.Choose.{choose, bit, ◌and◌}
use Rattle.laws.proofs.Choose.{tested, never, if_yes, if_no, choose_cases}
use Rattle.laws.proofs.Fit.{set_cases}
use Rattle.rules.specs.declared.Task.{Task}
use Rattle.rules.specs.declared.Wait.{Wait}
use Rattle.rules.specs.declared.Call.{Call}
use Rattle.rules.specs.declared.Call.TheVariants.{Start, Create, Ident, Delete, Obtain, Release, Flush, Tick}
use Rattle.rules.specs.Numbers.{max_tasks, is_binary}
use Rattle.rules.specs.Machine.{Slot, Tables, no_task, task_of, slot_of, put_slot, waits, names, slot_named, urgency}
use Rattle.rules.specs.Semaphore.{served_place, Taken, take_step, Given}
use Rattle.rules.specs.Calls.{Outcome, answered, readied, wake, begin_wait, blocked, obtain_refusal, obtain, give_of, release_refusal, release, perform}
use Rattle.rules.proofs.Accounting.{take_accounts, give_accounts, give_serves, give_alone}
use Rattle.rules.proofs.Sequence.{wakes_served}
use Rattle.rules.proofs.Serving.{served_within}
use Rattle.rules.proofs.Invariants.Lists.{bit_yes, bit_no}
use Rattle.rules.proofs.Invariants.Agreeing.{sizes_within}
use Rattle.rules.proofs.Invariants.Facts.{nth_task, Facts, waits_within}
use Rattle.rules.proofs.Invariants.Refusals.{must, mustnt, Caller, task_only_lem, any_caller_lem, obtain_refused}
use Rattle.rules.proofs.Invariants.Waking.{wake_keeps}
use Rattle.accounts.specs.History.{endings, answer_of}
use Rattle.accounts.specs.Accounts.{obtains, releases, begun, granted}
use Rattle.accounts.proofs.Endings.{granted_one}
use Rattle.accounts.proofs.Waiters.{Waits, named_at, put_here, put_elsewhere, waiter_at}
use Rattle.accounts.proofs.Balance.{Known, waits_not, goes_same, Right, ungranted, known_on, unless_right, start_right, create_right, ident_right}
use Rattle.accounts.proofs.Balance.{delete_right, flush_right, tick_right}

-- a test whose second part holds
and_true : (a b : Bool) → b ≡ true → (a and b) ≡ a
and_true a b y = choose_cases (λ (z : Bool). z ≡ a) a b false (λ e. y ∙ sym e) (λ e. sym e)

-- an obtain's step is done, refuses with 13, or begins a wait
take_status : (s : Slot) (caller : ℕ) (wait : Wait) → let status = (take_step s caller wait).status in
    eqb status 13 ≡ false → eqb status 100 ≡ false → status ≡ 0
unfolding take_step
take_status s caller wait =
    choose_cases P _ _ _ (λ e a b. refl)
    (λ e. choose_cases P _ _ _ (λ e. choose_cases P _ _ _ (λ e a b. never refl a) (λ e a b. refl))
    (λ e. choose_cases P _ _ _ (λ e a b. never refl a) (λ e a b. never refl b)))
  where
    P : Taken → Type 0
    P taken = eqb taken.status 13 ≡ false → eqb taken.status 100 ≡ false → taken.status ≡ 0

module _ (t : Tables) (f : Facts t) (id : ℕ) (named : names t id ≡ true) (unowned : is_binary (slot_of t (id % 65536)).attributes ≡ false)
    (on : ℕ → ℕ) (known : Known id t on) where
  abbrev Accounts : Call → Outcome → Type 0
  Accounts = Right t f id named unowned on known

  abbrev count_in : Tables → ℕ
  count_in u = (slot_of u (id % 65536)).count

  abbrev granted_by : Tables → ℕ
  granted_by u = granted id on (endings (answer_of t) (answer_of u))

  -- ---- obtain

  abbrev taken_of : ℕ → Wait → ℕ → Taken
  taken_of caller wait m = take_step (slot_of t m) caller wait

  -- one less in the count of the semaphore obtained, if that is done
  taken_count : (caller : ℕ) (wait : Wait) (other : ℕ) → names t other ≡ true → let taken = taken_of caller wait (other % 65536) in
      count_in (put_slot t (other % 65536) taken.slot) + bit (eqb other id and eqb taken.status 0) ≡ count_in t
  taken_count caller wait other there =
      elim (ℕ_discrete other id) [
        | yes e ↦ subst (λ (x : ℕ). names t x ≡ true → P x) (sym e) own there
        | no d ↦
            omega (
              arith,
              ap (λ (s : Slot). s.count) (put_elsewhere t id named other there (taken_of caller wait (other % 65536)).slot d),
              bit_no (eqb other id and eqb (taken_of caller wait (other % 65536)).status 0) (if_no _ _ (ne_eqb other id d)),
            )
      ]
    where
      P : ℕ → Type 0
      P x = let taken = taken_of caller wait (x % 65536) in
          count_in (put_slot t (x % 65536) taken.slot) + bit (eqb x id and eqb taken.status 0) ≡ count_in t

      own : names t id ≡ true → P id
      own n =
          omega (
            arith,
            ap (λ (s : Slot). s.count) (put_here t id named id n (taken_of caller wait (id % 65536)).slot refl),
            ap {B = ℕ} (λ (b : Bool). bit b) (if_yes (eqb (taken_of caller wait (id % 65536)).status 0) false (eq-eqb id id refl)),
            take_accounts (slot_of t (id % 65536)) unowned caller wait,
          )

  -- the caller waits now, on the identifier that it obtains
  known_begun : (caller other : ℕ) (wait : Wait) (held : Tables) → held.tasks ≡ t.tasks → Caller t caller
      → Known id (begin_wait held caller (blocked (task_of t caller) other wait)) (begun on (Obtain caller other wait))
  unfolding begun
  known_begun caller other wait held e who i =
      subst (λ (vs : List Task). P (get_or (set vs (pred caller) new) i no_task)) (sym e)
      (elim (ℕ_discrete i (pred caller)) [
        | yes z ↦
            let is : suc i ≡ caller = omega (arith, who.first) in
            let there : get_or (set t.tasks (pred caller) new) i no_task ≡ new =
            subst (λ (k : ℕ). get_or (set t.tasks (pred caller) new) k no_task ≡ new) (sym z)
            (get_or-set_same t.tasks (pred caller) new no_task (omega (arith, who.first, who.last))) in
            subst P (sym there) (λ w. ap (λ (x : ℕ). eqb x id) (if_yes other (on (suc i)) (eq-eqb (suc i) caller is)))
        | no d ↦
            let apart : suc i ≢ caller = λ (z : suc i ≡ caller). d (omega arith) in
            subst P (sym (get_or-set_other t.tasks (pred caller) i new no_task d))
            (λ w. ap (λ (x : ℕ). eqb x id) (if_no other (on (suc i)) (ne_eqb (suc i) caller apart)) ∙ known i w)
      ])
    where
      new : Task
      new = blocked (task_of t caller) other wait

      P : Task → Type 0
      P v = waits v ≡ true → eqb (choose (eqb (suc i) caller) other (on (suc i))) id ≡ eqb v.awaited id

  obtain_right : (caller other : ℕ) (wait : Wait) → Accounts (Obtain caller other wait) (obtain t caller other wait)
  unfolding obtain obtain_refusal obtains releases
  obtain_right caller other wait =
      unless_right t f id named unowned on known (Obtain caller other wait) (obtain_refusal t caller other wait) _ (λ e. absurd (obtain_refused t caller other wait (eqb-true _ 100 e)))
      (λ e.
      let who = task_only_lem t caller _ e in
      let there = must (names t other) _ 4 (omega arith) who.1 in
      let served = mustnt (eqb (taken_of caller wait (slot_named t other)).status 13) 13 0 (omega arith) there.1 in
      subst (λ (m : ℕ). eqb (taken_of caller wait m).status 13 ≡ false → Accounts (Obtain caller other wait) (outcome m)) (sym (named_at t other there.0))
      (done who.0 there.0) served.0)
    where
      held : ℕ → Tables
      held m = put_slot t m (taken_of caller wait m).slot

      waiting : ℕ → Tables
      waiting m = begin_wait (held m) caller (blocked (task_of t caller) other wait)

      outcome : ℕ → Outcome
      outcome m = choose (eqb (taken_of caller wait m).status 100) (answered 100 0 (waiting m)) (answered 0 0 (held m))

      nobody : (m i : ℕ) → waits (nth_task t i) ≡ true → (nth_task (waiting m) i).answer ≡ 0 → ⊥
      nobody m i w =
          set_cases (λ (v : Task). v.answer ≡ 0 → ⊥) t.tasks (pred caller) i (blocked (task_of t caller) other wait) no_task (λ e z. omega arith)
          (waits_not (nth_task t i) w)

      done : Caller t caller → names t other ≡ true → eqb (taken_of caller wait (other % 65536)).status 13 ≡ false
          → Accounts (Obtain caller other wait) (outcome (other % 65536))
      done who there served =
          choose_cases (Accounts (Obtain caller other wait)) (eqb (taken_of caller wait m).status 100) (answered 100 0 (waiting m)) (answered 0 0 (held m))
          (λ e. record {
            balance = λ n. omega (arith, counts 100 (eqb-true _ 100 e), ungranted t f id named unowned on known (waiting m) (nobody m), bit_no (false and eqb 100 0) (if_no _ _ refl));
            known' = subst (Known id (waiting m)) (sym (if_yes _ _ refl)) (known_begun caller other wait (held m) refl who);
          })
          (λ e. record {
            balance = λ n. omega (
              arith,
              counts 0 (take_status (slot_of t m) caller wait served e),
              ungranted t f id named unowned on known (held m) (λ i. waits_not (nth_task t i)),
              bit_no (false and eqb 0 0) (if_no _ _ refl),
            );
            known' = subst (Known id (held m)) (sym (if_no _ _ refl)) (known_on t f id named unowned on known (held m) (λ i. (goes_same (nth_task t i)).still));
          })
        where
          m : ℕ
          m = other % 65536

          counts : (status : ℕ) → (taken_of caller wait m).status ≡ status → count_in (held m) + bit (eqb other id and eqb status 0) ≡ count_in t
          counts status is =
              subst (λ (x : ℕ). count_in (held m) + bit (eqb other id and eqb x 0) ≡ count_in t) is (taken_count caller wait other there)

  -- ---- release

  abbrev given_of : ℕ → ℕ → Given
  given_of caller m = give_of t (slot_of t m) caller

  abbrev held : ℕ → ℕ → Tables
  held caller m = put_slot t m (given_of caller m).slot

  abbrev left : ℕ → ℕ → Tables
  left caller m = choose (eqb (given_of caller m).woken 0) (held caller m) (wake (held caller m) (given_of caller m).woken 0)

  -- whoever is woken, the slots are the same
  left_count : (caller m : ℕ) → count_in (left caller m) ≡ count_in (held caller m)
  left_count caller m =
      choose_cases (λ (u : Tables). count_in u ≡ count_in (held caller m)) (eqb (given_of caller m).woken 0) _ _ (λ e. refl) (λ e. refl)

  module _ (caller other : ℕ) (there : names t other ≡ true) (given : (given_of caller (other % 65536)).status ≡ 0) where
    abbrev queue : List ℕ
    queue = (slot_of t (other % 65536)).queue

    abbrev woken : ℕ
    woken = (given_of caller (other % 65536)).woken

    -- who is woken waited on the semaphore that is released
    served_waits : woken ≢ 0 → Waits t other woken
    served_waits some =
        let w = wakes_served (slot_of t (other % 65536)) caller _ some in
        subst (Waits t other) (sym w.1) (waiter_at t other there f _ (served_within (urgency t) (slot_of t (other % 65536)) w.0))

    -- it alone is granted something
    granted_served : (some : woken ≢ 0) → granted_by (wake (held caller (other % 65536)) woken 0) ≡ bit (eqb other id)
    granted_served some =
        granted_one (answer_of t) (answer_of u) id on woken max_tasks 1 w.first
        (omega (arith, waits_within t (pred woken) w.waiting, w.first, (sizes_within t f.sizes).tasks))
        (eqb-true _ 100 w.waiting) (ap (λ (v : Task). v.answer) (get_or-set_same t.tasks (pred woken) _ no_task (waits_within t (pred woken) w.waiting)))
        (λ x l b. set_cases (λ (v : Task). v.answer ≡ 0 → x ≡ woken) t.tasks (pred woken) (pred x) (readied (task_of t woken) 0) no_task
        (λ e z. omega (arith, w.first)) (λ z. omega (arith, b)))
        ∙ ap (λ (b : Bool). bit b) (on_served ∙ ap (λ (x : ℕ). eqb x id) w.awaited)
      where
        w : Waits t other woken
        w = served_waits some

        u : Tables
        u = wake (held caller (other % 65536)) woken 0

        on_served : eqb (on woken) id ≡ eqb (task_of t woken).awaited id
        on_served = subst (λ (x : ℕ). eqb (on x) id ≡ eqb (task_of t woken).awaited id) (omega (arith, w.first)) (known (pred woken) w.waiting)

    -- somebody waits exactly where somebody is woken
    granted_left : id ≡ other → granted_by (left caller (other % 65536)) ≡ bit (leb 1 (length queue))
    granted_left e = ⊎_elim waited alone (tested (leb 1 (length queue)))
      where
        free : is_binary (slot_of t (other % 65536)).attributes ≡ false
        free = subst (λ (x : ℕ). is_binary (slot_of t (x % 65536)).attributes ≡ false) e unowned

        waited : leb 1 (length queue) ≡ true → granted_by (left caller (other % 65536)) ≡ bit (leb 1 (length queue))
        waited y =
            let some : 1 ≤ length queue = leb-true 1 (length queue) y in
            let served = (give_serves (slot_of t (other % 65536)) free caller (served_place (urgency t) (slot_of t (other % 65536))) some).1 in
            let w = waiter_at t other there f _ (served_within (urgency t) (slot_of t (other % 65536)) some) in
            let is : woken ≢ 0 = λ (z : woken ≡ 0). omega (arith, served, w.first) in
            ap granted_by (if_no _ _ (ne_eqb woken 0 is)) ∙ granted_served is ∙ bit_yes _ (eq-eqb other id (sym e)) ∙ sym (bit_yes _ y)

        alone : leb 1 (length queue) ≡ false → granted_by (left caller (other % 65536)) ≡ bit (leb 1 (length queue))
        alone n =
            let none = (give_alone (slot_of t (other % 65536)) free caller _ (leb-false 1 (length queue) n)).0 in
            ap granted_by (if_yes _ _ (eq-eqb woken 0 none)) ∙ ungranted t f id named unowned on known (held caller (other % 65536)) (λ i. waits_not (nth_task t i))
            ∙ sym (bit_no _ n)

    granted_elsewhere : other ≢ id → granted_by (left caller (other % 65536)) ≡ 0
    granted_elsewhere d =
        choose_cases (λ (u : Tables). granted_by u ≡ 0) (eqb woken 0) _ _
        (λ e. ungranted t f id named unowned on known (held caller (other % 65536)) (λ i. waits_not (nth_task t i)))
        (λ e. granted_served (eqb-false woken 0 e) ∙ bit_no _ (ne_eqb other id d))

    given_balance : count_in (left caller (other % 65536)) + granted_by (left caller (other % 65536)) ≡ count_in t + bit (eqb other id)
    given_balance =
        elim (ℕ_discrete other id) [
          | yes e ↦
              let free = subst (λ (x : ℕ). is_binary (slot_of t (x % 65536)).attributes ≡ false) (sym e) unowned in
              let same : count_in t ≡ (slot_of t (other % 65536)).count = ap (λ (x : ℕ). (slot_of t (x % 65536)).count) (sym e) in
              omega (
                arith,
                left_count caller (other % 65536),
                ap (λ (s : Slot). s.count) (put_here t id named other there (given_of caller (other % 65536)).slot e),
                granted_left (sym e),
                give_accounts (slot_of t (other % 65536)) free caller (served_place (urgency t) (slot_of t (other % 65536))),
                same,
                bit_yes (eqb other id) (eq-eqb other id e),
                bit_yes (eqb (given_of caller (other % 65536)).status 0) (eq-eqb _ 0 given),
              )
          | no d ↦
              omega (
                arith,
                left_count caller (other % 65536),
                ap (λ (s : Slot). s.count) (put_elsewhere t id named other there (given_of caller (other % 65536)).slot d),
                granted_elsewhere d,
                bit_no (eqb other id) (ne_eqb other id d),
              )
        ]

  release_right : (caller other : ℕ) → Accounts (Release caller other) (release t caller other)
  unfolding release release_refusal begun obtains releases
  release_right caller other =
      unless_right t f id named unowned on known (Release caller other) (release_refusal t caller other) _ (λ e. known)
      (λ e.
      let there = must (names t other) (given_of caller (slot_named t other)).status 4 (omega arith) (any_caller_lem t caller _ e) in
      subst (λ (m : ℕ). (given_of caller m).status ≡ 0 → Accounts (Release caller other) (answered 0 0 (left caller m))) (sym (named_at t other there.0))
      (done there.0) there.1)
    where
      done : names t other ≡ true → (given_of caller (other % 65536)).status ≡ 0 → Accounts (Release caller other) (answered 0 0 (left caller (other % 65536)))
      done there given =
          record {
            balance = λ n. omega (
              arith,
              given_balance caller other there given,
              bit_no (false and eqb 0 0) (if_no _ _ refl),
              ap (λ (b : Bool). bit b) (and_true (eqb other id) (eqb 0 0) refl),
            );
            known' = subst (Known id (left caller (other % 65536))) (sym (if_no _ _ refl))
                (known_on t f id named unowned on known (left caller (other % 65536)) still);
          }
        where
          still : (i : ℕ) → waits (nth_task (left caller (other % 65536)) i) ≡ true
              → (waits (nth_task t i) ≡ true) × ((nth_task (left caller (other % 65536)) i).awaited ≡ (nth_task t i).awaited)
          still i =
              choose_cases (λ (u : Tables). waits (nth_task u i) ≡ true → (waits (nth_task t i) ≡ true) × ((nth_task u i).awaited ≡ (nth_task t i).awaited))
              (eqb (given_of caller (other % 65536)).woken 0) _ _ (λ e w. (w, refl))
              (λ e. wake_keeps (λ (v : Task). waits v ≡ true → (waits (nth_task t i) ≡ true) × (v.awaited ≡ (nth_task t i).awaited)) i
              (held caller (other % 65536)) (given_of caller (other % 65536)).woken 0 (λ w. never w refl) (λ w. (w, refl)))

  -- ---- every call

  pub accounts : (call : Call) (priorities : List ℕ) → Accounts call (perform t call priorities)
  unfolding perform
  accounts (Start slots) priorities = start_right t f id named unowned on known slots priorities
  accounts (Create caller name count attributes maximum) priorities = create_right t f id named unowned on known caller name count attributes maximum
  accounts (Ident name) priorities = ident_right t f id named unowned on known name
  accounts (Delete caller other) priorities = delete_right t f id named unowned on known caller other
  accounts (Obtain caller other wait) priorities = obtain_right caller other wait
  accounts (Release caller other) priorities = release_right caller other
  accounts (Flush caller other) priorities = flush_right t f id named unowned on known caller other
  accounts Tick priorities = tick_right t f id named unowned on known
