-- What each call does to a waiter of a semaphore without an owner, served first come, first served: it ends the wait, or lets it go on with no more tasks ahead,
-- and with one less if it is a release that is done.
use mathlib.Core.Path.{◌≡◌, refl, sym, subst, ap, ◌∙◌}
use mathlib.Core.Bool.{true, false}
use mathlib.Core.List.{List}
use mathlib.Core.Logic.{◌⊎◌, inl, inr, ⊎_elim, ◌≢◌}
use Prim.Native.Nat.{ℕ, suc, pred, ◌+◌, ◌%◌, ◌≤◌, ◌<◌}
use native.Mathlib.Omega.{arith}
use native.Mathlib.Decide.{ℕ_discrete}
use lib.Dec.{leb, eqb}
use lib.ListN.{length, get_or, drop}
use lib.Seq.{get_or-set_same}
use borrow.Author.Tests.{eqb-true, eqb-false, ne_eqb, leb-true, leb-false}
use Rattle.laws.specs.Choose.{choose, bit, ◌and◌, ◌or◌}
use Rattle.laws.proofs.Choose.{tested, never, if_yes, if_no, if_le, and_both, isnt_false, choose_cases}
use Rattle.laws.proofs.Fit.{set_cases}
use Rattle.rules.specs.declared.Task.{Task}
use Rattle.rules.specs.declared.Wait.{Wait}
use Rattle.rules.specs.declared.Call.{Call}
use Rattle.rules.specs.declared.Call.TheVariants.{Start, Create, Ident, Delete, Obtain, Release, Flush, Tick}
use Rattle.rules.specs.Numbers.{max_tasks, by_priority, is_binary}
use Rattle.rules.specs.Machine.{Slot, Tables, no_task, free_slot, task_of, slot_of, put_slot, waits, is_live, names, slot_named, urgency}
use Rattle.rules.specs.Agreement.{occurs}
use Rattle.rules.specs.Semaphore.{serving_order, Taken, take_step, Given, give_step, flush_step}
use Rattle.rules.specs.Calls.{Outcome, answered, refused, unless, wake, wake_all, start_refusal, start, create_refusal, open_slot, create, first_named, ident}
use Rattle.rules.specs.Calls.{delete_refusal, delete, begin_wait, blocked, obtain_refusal, obtain, give_of, release_refusal, release, flush_refusal, flush}
use Rattle.rules.specs.Calls.{expires, ticked, ticked_slot, tick, perform}
use Rattle.rules.specs.Runs.{Request}
use Rattle.rules.proofs.Accounting.{take_queue, give_serves}
use Rattle.rules.proofs.Sequence.{wakes_served}
use Rattle.rules.proofs.Serving.{served_within, served_first, serving_occurs}
use Rattle.rules.proofs.Invariants.Lists.{bit_most, bit_no, occurs_at, get_d_map}
use Rattle.rules.proofs.Invariants.Agreeing.{sizes_within}
use Rattle.rules.proofs.Invariants.Facts.{nth_task, Facts, waits_within}
use Rattle.rules.proofs.Invariants.Refusals.{must, mustnt, Caller, task_only_lem, any_caller_lem}
use Rattle.rules.proofs.Invariants.Waking.{woken_of, wake_all_slots, wake_all_task}
use Rattle.rules.proofs.Invariants.Tick.{ticked_none, ticked_same}
use Rattle.rules.proofs.History.Forward.{ticked_slot_lem}
use Rattle.rules.proofs.History.Passed.{create_passed, delete_passed}
use Rattle.rules.proofs.History.Used.{names_named}
use Rattle.accounts.specs.History.{answer_of, seen}
use Rattle.accounts.specs.Accounts.{releases}
use Rattle.accounts.specs.Turns.{ending_of, Ends}
use Rattle.accounts.specs.Turns.Ends.{by_release, by_tick, by_flush, by_delete}
use Rattle.accounts.proofs.Endings.{second_no, ending_is}
use Rattle.accounts.proofs.Waiters.{Waits, place_of, named_at, put_here, put_elsewhere, waiter, waiter_at}
use Rattle.accounts.proofs.Queues.{Stands, stands_still, rear_others, first_left}

module _ (t : Tables) (f : Facts t) (id : ℕ) (named : names t id ≡ true) (unowned : is_binary (slot_of t (id % 65536)).attributes ≡ false)
    (fifo : by_priority (slot_of t (id % 65536)).attributes ≡ false) (k : ℕ) (inside : k < length (slot_of t (id % 65536)).queue) where
  abbrev queue_in : Tables → List ℕ
  queue_in u = (slot_of u (id % 65536)).queue

  -- the waiter with k ahead
  abbrev q : ℕ
  q = get_or (queue_in t) k 0

  waiting : Waits t id q
  waiting = waiter_at t id named f k inside

  -- its wait goes on, with no more ahead than before, and one less after a release
  pub record Goes (call : Call) (o : Outcome) : Type 0 where
    pub waits' : Waits o.tables id q
    pub place : ℕ
    pub fewer : place + bit (releases call id and eqb o.answer.status 0) ≤ k
    pub within : place < length (queue_in o.tables)
    pub here : get_or (queue_in o.tables) place 0 ≡ q

  abbrev pub Fares : Request → Call → Outcome → Type 0
  Fares r call o = Ends id q (seen t r o.answer o.tables) ⊎ Goes call o

  -- its ending is its answer
  pub ending : (r : Request) (o : Outcome) → ending_of q (seen t r o.answer o.tables).endings ≡ answer_of o.tables q
  ending r o =
      ending_is (answer_of t) (answer_of o.tables) q max_tasks 1 waiting.first
      (omega (arith, waits_within t (pred q) waiting.waiting, waiting.first, (sizes_within t f.sizes).tasks))
      ∙ if_yes _ _ waiting.waiting

  -- a task that waits as q did
  abbrev Still : Task → Type 0
  Still v = (waits v ≡ true) × (v.awaited ≡ id)

  as_before : Still (nth_task t (pred q))
  as_before = (waiting.waiting, waiting.awaited)

  still_waits : (u : Tables) → Still (nth_task u (pred q)) → Waits u id q
  still_waits u s = record { first = waiting.first; waiting = s.0; awaited = s.1 }

  stays : (call : Call) (o : Outcome) → (releases call id and eqb o.answer.status 0) ≡ false → Still (nth_task o.tables (pred q))
      → queue_in o.tables ≡ queue_in t → Goes call o
  stays call o n s e =
      record {
        waits' = still_waits o.tables s;
        place = k;
        fewer = omega (arith, bit_no _ n);
        within = subst (λ (qs : List ℕ). k < length qs) (sym e) inside;
        here = ap (λ (qs : List ℕ). get_or qs k 0) e;
      }

  refused_fares : (r : Request) (call : Call) (refusal : ℕ) → refusal ≢ 0 → Fares r call (refused t refusal)
  refused_fares r call refusal d = inr (stays call (refused t refusal) (second_no (releases call id) _ (ne_eqb refusal 0 d)) as_before refl)

  unless_fares : (r : Request) (call : Call) (refusal : ℕ) (done : Outcome) → (refusal ≡ 0 → Fares r call done) → Fares r call (unless refusal t done)
  unless_fares r call refusal done g =
      choose_cases (Fares r call) (eqb refusal 0) done (refused t refusal) (λ e. g (eqb-true refusal 0 e))
      (λ e. refused_fares r call refusal (eqb-false refusal 0 e))

  -- ---- start, create and ident

  start_fares : (r : Request) (slots : ℕ) (priorities : List ℕ) → Fares r (Start slots) (start t slots priorities)
  unfolding start start_refusal
  start_fares r slots priorities =
      unless_fares r (Start slots) (start_refusal t slots priorities) _
      (λ e. let fresh = mustnt (leb 1 (length t.tasks)) 14 _ (omega arith) e in
      absurd (omega (arith, waits_within t (pred q) waiting.waiting, leb-false 1 (length t.tasks) fresh.0)))

  create_fares : (r : Request) (caller name count attributes maximum : ℕ)
      → Fares r (Create caller name count attributes maximum) (create t caller name count attributes maximum)
  unfolding create releases
  create_fares r caller name count attributes maximum =
      unless_fares r (Create caller name count attributes maximum) (create_refusal t caller name count attributes maximum) _
      (λ e.
      let hit = create_passed t caller name count attributes maximum e in
      let place : pred (open_slot t) ≡ hit.place = omega (arith, hit.number) in
      let free = isnt_false _ (and_both _ _ hit.holds).0 in
      inr (stays (Create caller name count attributes maximum) _ (if_no _ _ refl) as_before
      (set_cases (λ (s : Slot). s.queue ≡ queue_in t) t.slots (pred (open_slot t)) (place_of id) _ (free_slot 0)
      (λ z. never (subst (λ (j : ℕ). is_live (get_or t.slots j (free_slot 0)) ≡ true) (z ∙ place) (names_named t id named).lives) free) refl)))

  ident_fares : (r : Request) (name : ℕ) → Fares r (Ident name) (ident t name)
  unfolding ident releases
  ident_fares r name =
      unless_fares r (Ident name) (choose (eqb name 0 or eqb (first_named name t.slots 1) 0) 3 0) _
      (λ e. inr (stays (Ident name) _ (if_no _ _ refl) as_before refl))

  -- ---- delete and flush: everybody in a queue is woken

  module _ (other : ℕ) (there : names t other ≡ true) (s : Slot) (a : ℕ) where
    abbrev others : List ℕ
    others = serving_order (urgency t) (slot_of t (other % 65536))

    queued : (x : ℕ) → occurs x others ≡ occurs x (slot_of t (other % 65536)).queue
    queued = serving_occurs (urgency t) (slot_of t (other % 65536))

    abbrev emptied : Tables
    emptied = wake_all (put_slot t (other % 65536) s) others a

    task_after : nth_task emptied (pred q) ≡ woken_of others a (pred q) (nth_task t (pred q))
    task_after =
        wake_all_task others (put_slot t (other % 65536) s) a (pred q) (queued 0 ∙ ((f.slots (place_of other)).when_live (names_named t other there).lives).entries)
        (λ i h. waits_within t i (waiter t other there f (suc i) (rw (queued (suc i)) at h)).waiting)

    number : suc (pred q) ≡ q
    number = omega (arith, waiting.first)

    woken_own : other ≡ id → answer_of emptied q ≡ a
    woken_own e =
        let in_queue : 1 ≤ occurs (suc (pred q)) others = rw (queued (suc (pred q)))
        (subst (λ (x : ℕ). 1 ≤ occurs (suc (pred q)) (slot_of t (x % 65536)).queue) (sym e)
        (subst (λ (x : ℕ). 1 ≤ occurs x (queue_in t)) (sym number) (occurs_at (queue_in t) k inside))) in
        ap (λ (v : Task). v.answer) (task_after ∙ if_le 1 (occurs (suc (pred q)) others) _ _ in_queue)

    woken_elsewhere : other ≢ id → nth_task emptied (pred q) ≡ nth_task t (pred q)
    woken_elsewhere d =
        task_after
        ∙ ⊎_elim
        (λ (y : leb 1 (occurs (suc (pred q)) others) ≡ true).
        absurd (d (sym (waiter t other there f (suc (pred q)) (subst (λ (c : ℕ). 1 ≤ c) (queued (suc (pred q))) (leb-true 1 _ y))).awaited ∙ waiting.awaited)))
        (λ (n : leb 1 (occurs (suc (pred q)) others) ≡ false). if_no _ _ n) (tested (leb 1 (occurs (suc (pred q)) others)))

    queue_elsewhere : other ≢ id → queue_in emptied ≡ queue_in t
    queue_elsewhere d =
        ap (λ (ss : List Slot). (get_or ss (place_of id) (free_slot 0)).queue) (wake_all_slots others (put_slot t (other % 65536) s) a)
        ∙ ap (λ (z : Slot). z.queue) (put_elsewhere t id named other there s d)

    -- q with the others, or not at all
    emptied_fares : (r : Request) (call : Call) → releases call id ≡ false
        → (other ≡ id → ending_of q (seen t r (answered 0 0 emptied).answer emptied).endings ≡ a → Ends id q (seen t r (answered 0 0 emptied).answer emptied))
        → Fares r call (answered 0 0 emptied)
    emptied_fares r call n over =
        elim (ℕ_discrete other id) [
          | yes e ↦ inl (over e (ending r (answered 0 0 emptied) ∙ woken_own e))
          | no d ↦ inr (stays call (answered 0 0 emptied) (if_no _ _ n) (subst Still (sym (woken_elsewhere d)) as_before) (queue_elsewhere d))
        ]

  delete_fares : (r : Request) (caller other : ℕ) → r.call ≡ Delete caller other → Fares r (Delete caller other) (delete t caller other)
  unfolding delete releases
  delete_fares r caller other c =
      unless_fares r (Delete caller other) (delete_refusal t caller other) _
      (λ e.
      let there = delete_passed t caller other e in
      subst (λ (m : ℕ). Fares r (Delete caller other) (answered 0 0 (wake_all (put_slot t m (free_slot (slot_of t m).generation)) (serving_order (urgency t) (slot_of t m)) 7)))
      (sym (named_at t other there))
      (emptied_fares other there (free_slot (slot_of t (other % 65536)).generation) 7 r (Delete caller other) refl
      (λ e z. by_delete caller (c ∙ ap (λ (x : ℕ). Delete caller x) e) refl z)))

  flush_fares : (r : Request) (caller other : ℕ) → r.call ≡ Flush caller other → Fares r (Flush caller other) (flush t caller other)
  unfolding flush flush_refusal releases
  flush_fares r caller other c =
      unless_fares r (Flush caller other) (flush_refusal t caller other) _
      (λ e.
      let there = (must (names t other) 0 4 (omega arith) (any_caller_lem t caller _ e)).0 in
      subst (λ (m : ℕ). Fares r (Flush caller other) (answered 0 0 (wake_all (put_slot t m (flush_step (slot_of t m))) (serving_order (urgency t) (slot_of t m)) 13)))
      (sym (named_at t other there))
      (emptied_fares other there (flush_step (slot_of t (other % 65536))) 13 r (Flush caller other) refl
      (λ e z. by_flush caller (c ∙ ap (λ (x : ℕ). Flush caller x) e) refl z)))

  -- ---- tick

  tick_fares : (r : Request) → r.call ≡ Tick → Fares r Tick (tick t)
  unfolding tick ticked ticked_slot releases
  tick_fares r c =
      ⊎_elim (λ (e : expires (nth_task t (pred q)) ≡ true). inl (by_tick c refl (ending r (tick t) ∙ ap (λ (v : Task). v.answer) (after ∙ if_yes _ _ e))))
      (λ (e : expires (nth_task t (pred q)) ≡ false).
      let same = ticked_same (nth_task t (pred q)) e in
      let stands : Stands k q (queue_in (tick t).tables) =
      subst (Stands k q) (sym (ap (λ (s : Slot). s.queue) (ticked_slot_lem t (id % 65536)))) (stands_still t (queue_in t) k q inside refl e) in
      inr (record {
        waits' = still_waits (tick t).tables
            (subst Still (sym after) (subst (λ (a : ℕ). eqb a 100 ≡ true) (sym same.answer) waiting.waiting, same.awaited ∙ waiting.awaited));
        place = stands.place;
        fewer = omega (arith, stands.most, bit_no (false and eqb 0 0) (if_no _ _ refl));
        within = stands.inside;
        here = stands.here;
      }))
      (tested (expires (nth_task t (pred q))))
    where
      after : nth_task (tick t).tables (pred q) ≡ ticked (nth_task t (pred q))
      after = get_d_map ticked t.tasks (pred q) no_task ticked_none

  -- ---- obtain: who joins does so at the rear

  module _ (caller : ℕ) (wait : Wait) where
    abbrev taken_of : ℕ → Taken
    taken_of m = take_step (slot_of t m) caller wait

    -- q stands where it stood
    pub taken_stands : (other : ℕ) → names t other ≡ true
        → let qs = queue_in (put_slot t (other % 65536) (taken_of (other % 65536)).slot) in (k < length qs) × (get_or qs k 0 ≡ q)
    taken_stands other there =
        elim (ℕ_discrete other id) [
          | yes e ↦
              subst (λ (s : Slot). (k < length s.queue) × (get_or s.queue k 0 ≡ q))
              (sym (put_here t id named other there (taken_of (other % 65536)).slot e ∙ ap (λ (x : ℕ). (taken_of (x % 65536)).slot) e))
              (subst (λ (qs : List ℕ). (k < length qs) × (get_or qs k 0 ≡ q))
              (sym (take_queue (slot_of t (id % 65536)) unowned caller wait))
              (choose_cases (λ (qs : List ℕ). (k < length qs) × (get_or qs k 0 ≡ q)) (eqb (taken_of (id % 65536)).status 100) _ _
              (λ w. rear_others caller (queue_in t) k inside)
              (λ w. (inside, refl))))
          | no d ↦
              subst (λ (s : Slot). (k < length s.queue) × (get_or s.queue k 0 ≡ q))
              (sym (put_elsewhere t id named other there (taken_of (other % 65536)).slot d)) (inside, refl)
        ]

  obtain_fares : (r : Request) (caller other : ℕ) (wait : Wait) → Fares r (Obtain caller other wait) (obtain t caller other wait)
  unfolding obtain obtain_refusal releases
  obtain_fares r caller other wait =
      unless_fares r (Obtain caller other wait) (obtain_refusal t caller other wait) _
      (λ e.
      let who = task_only_lem t caller _ e in
      let there = (must (names t other) _ 4 (omega arith) who.1).0 in
      subst (λ (m : ℕ). Fares r (Obtain caller other wait) (outcome m)) (sym (named_at t other there)) (inr (done who.0 there)))
    where
      held : ℕ → Tables
      held m = put_slot t m (taken_of caller wait m).slot

      outcome : ℕ → Outcome
      outcome m =
          choose (eqb (taken_of caller wait m).status 100) (answered 100 0 (begin_wait (held m) caller (blocked (task_of t caller) other wait)))
          (answered 0 0 (held m))

      goes : (status : ℕ) (u : Tables) → u.slots ≡ (held (other % 65536)).slots → names t other ≡ true → Still (nth_task u (pred q))
          → Goes (Obtain caller other wait) (answered status 0 u)
      goes status u e there s =
          let p : (k < length (queue_in u)) × (get_or (queue_in u) k 0 ≡ q) =
          subst (λ (ss : List Slot). (k < length (get_or ss (place_of id) (free_slot 0)).queue) × (get_or (get_or ss (place_of id) (free_slot 0)).queue k 0 ≡ q)) (sym e)
          (taken_stands caller wait other there) in
          record {
            waits' = still_waits u s;
            place = k;
            fewer = omega (arith, bit_no (false and eqb status 0) (if_no _ _ refl));
            within = p.0;
            here = p.1;
          }

      -- the caller was ready, so it is another task
      done : Caller t caller → names t other ≡ true → Goes (Obtain caller other wait) (outcome (other % 65536))
      done who there =
          choose_cases (Goes (Obtain caller other wait)) (eqb (taken_of caller wait (other % 65536)).status 100) _ _
          (λ w. goes 100 _ refl there
          (set_cases Still t.tasks (pred caller) (pred q) (blocked (task_of t caller) other wait) no_task
          (λ z. never waiting.waiting (subst (λ (i : ℕ). waits (nth_task t i) ≡ false) (sym z) who.ready)) as_before))
          (λ w. goes 0 (held (other % 65536)) refl there as_before)

  -- ---- release: the first is served

  abbrev given_of : ℕ → ℕ → Given
  given_of caller m = give_of t (slot_of t m) caller

  abbrev left : ℕ → ℕ → Tables
  left caller m =
      choose (eqb (given_of caller m).woken 0) (put_slot t m (given_of caller m).slot) (wake (put_slot t m (given_of caller m).slot) (given_of caller m).woken 0)

  -- whoever is woken, the queue is that of the step
  left_queue : (caller m : ℕ) → queue_in (left caller m) ≡ queue_in (put_slot t m (given_of caller m).slot)
  left_queue caller m =
      choose_cases (λ (u : Tables). queue_in u ≡ queue_in (put_slot t m (given_of caller m).slot)) (eqb (given_of caller m).woken 0) _ _ (λ e. refl) (λ e. refl)

  -- who is not woken waits on
  not_woken : (caller m : ℕ) → ((given_of caller m).woken ≢ 0 → pred q ≢ pred (given_of caller m).woken) → Still (nth_task (left caller m) (pred q))
  not_woken caller m d =
      choose_cases (λ (u : Tables). Still (nth_task u (pred q))) (eqb (given_of caller m).woken 0) _ _ (λ e. as_before)
      (λ e. set_cases Still t.tasks (pred (given_of caller m).woken) (pred q) _ no_task (λ z. absurd (d (eqb-false _ 0 e) z)) as_before)

  -- a release of another semaphore wakes one that waits on that
  other_release : (caller other : ℕ) → names t other ≡ true → other ≢ id → Goes (Release caller other) (answered 0 0 (left caller (other % 65536)))
  unfolding releases
  other_release caller other there d =
      stays (Release caller other) (answered 0 0 (left caller (other % 65536))) (if_no _ _ (ne_eqb other id d))
      (not_woken caller (other % 65536) (λ some z.
      let w = wakes_served (slot_of t (other % 65536)) caller _ some in
      let on = subst (Waits t other) (sym w.1) (waiter_at t other there f _ (served_within (urgency t) (slot_of t (other % 65536)) w.0)) in
      d (sym on.awaited ∙ subst (λ (i : ℕ). (nth_task t i).awaited ≡ id) z waiting.awaited)))
      (left_queue caller (other % 65536) ∙ ap (λ (s : Slot). s.queue) (put_elsewhere t id named other there (given_of caller (other % 65536)).slot d))

  -- a release of its own semaphore serves the first: q itself, or one ahead of it
  own_release : (r : Request) (caller : ℕ) → r.call ≡ Release caller id → Fares r (Release caller id) (answered 0 0 (left caller (id % 65536)))
  unfolding releases
  own_release r caller c = elim (ℕ_discrete woken q) [ yes e ↦ inl (mine e) | no d ↦ inr (ahead d) ]
    where
      woken : ℕ
      woken = (given_of caller (id % 65536)).woken

      serves : ((given_of caller (id % 65536)).status ≡ 0) × (woken ≡ get_or (queue_in t) 0 0) × ((given_of caller (id % 65536)).slot.queue ≡ drop 1 (queue_in t))
      serves =
          subst (λ (place : ℕ). let given = give_step (slot_of t (id % 65536)) caller place in
          (given.status ≡ 0) × (given.woken ≡ get_or (queue_in t) 0 0) × (given.slot.queue ≡ drop 1 (queue_in t)))
          (sym (served_first (urgency t) (slot_of t (id % 65536)) fifo)) (give_serves (slot_of t (id % 65536)) unowned caller 0 (omega (arith, inside)))

      first : Waits t id woken
      first = subst (Waits t id) (sym serves.1) (waiter_at t id named f 0 (omega (arith, inside)))

      is : eqb woken 0 ≡ false
      is = ne_eqb woken 0 (λ (z : woken ≡ 0). omega (arith, first.first))

      mine : woken ≡ q → Ends id q (seen t r (answered 0 0 (left caller (id % 65536))).answer (left caller (id % 65536)))
      mine e =
          let served : answer_of (left caller (id % 65536)) woken ≡ 0 =
          ap (λ (u : Tables). answer_of u woken) (if_no _ _ is)
          ∙ ap (λ (v : Task). v.answer) (get_or-set_same t.tasks (pred woken) _ no_task (waits_within t (pred woken) first.waiting)) in
          by_release caller c refl
          (ending r (answered 0 0 (left caller (id % 65536))) ∙ subst (λ (x : ℕ). answer_of (left caller (id % 65536)) x ≡ 0) e served)

      ahead : woken ≢ q → Goes (Release caller id) (answered 0 0 (left caller (id % 65536)))
      ahead d =
          let some : 1 ≤ k = not_first (λ z. d (serves.1 ∙ ap (λ (j : ℕ). get_or (queue_in t) j 0) (sym z))) in
          let queue : queue_in (left caller (id % 65536)) ≡ drop 1 (queue_in t) =
          left_queue caller (id % 65536) ∙ ap (λ (s : Slot). s.queue) (put_here t id named id named (given_of caller (id % 65536)).slot refl) ∙ serves.2 in
          let p = first_left (queue_in t) k some inside in
          record {
            waits' = still_waits (left caller (id % 65536)) (not_woken caller (id % 65536) (λ s z. d (omega (arith, first.first, waiting.first, z))));
            place = pred k;
            fewer = omega (arith, some, bit_most (eqb id id and eqb 0 0));
            within = subst (λ (qs : List ℕ). pred k < length qs) (sym queue) p.0;
            here = ap (λ (qs : List ℕ). get_or qs (pred k) 0) queue ∙ p.1;
          }
        where
          not_first : k ≢ 0 → 1 ≤ k
          not_first z = omega arith

  release_fares : (r : Request) (caller other : ℕ) → r.call ≡ Release caller other → Fares r (Release caller other) (release t caller other)
  unfolding release release_refusal
  release_fares r caller other c =
      unless_fares r (Release caller other) (release_refusal t caller other) _
      (λ e.
      let there = (must (names t other) (given_of caller (slot_named t other)).status 4 (omega arith) (any_caller_lem t caller _ e)).0 in
      subst (λ (m : ℕ). Fares r (Release caller other) (answered 0 0 (left caller m))) (sym (named_at t other there))
      (elim (ℕ_discrete other id) [
        | yes e ↦ subst (λ (x : ℕ). r.call ≡ Release caller x → Fares r (Release caller x) (answered 0 0 (left caller (x % 65536)))) (sym e) (own_release r caller) c
        | no d ↦ inr (other_release caller other there d)
      ]))

  -- ---- every call

  fares_by : (r : Request) (call : Call) → r.call ≡ call → (priorities : List ℕ) → Fares r call (perform t call priorities)
  unfolding perform
  fares_by r (Start slots) c priorities = start_fares r slots priorities
  fares_by r (Create caller name count attributes maximum) c priorities = create_fares r caller name count attributes maximum
  fares_by r (Ident name) c priorities = ident_fares r name
  fares_by r (Delete caller other) c priorities = delete_fares r caller other c
  fares_by r (Obtain caller other wait) c priorities = obtain_fares r caller other wait
  fares_by r (Release caller other) c priorities = release_fares r caller other c
  fares_by r (Flush caller other) c priorities = flush_fares r caller other c
  fares_by r Tick c priorities = tick_fares r c

  pub fares : (r : Request) → Fares r r.call (perform t r.call r.priorities)
  fares r = fares_by r r.call refl r.priorities
