-- The sequence of ready tasks after every call: who was ready and still is, in the old order, and then who became ready, in the order that request 1 says.
use mathlib.Core.Path.{◌≡◌, refl, sym, subst, fun_ext, ap, ap₂, ◌∙◌}
use mathlib.Core.Bool.{Bool, true, false}
use mathlib.Core.List.{List, [], ◌∷◌, ◌++◌, append-nil}
use mathlib.Core.Logic.{⊎_elim}
use Prim.Native.Nat.{ℕ, zero, suc, ◌+◌, ◌≤◌, ◌<◌}
use native.Mathlib.Omega.{arith}
use lib.Dec.{leb, eqb}
use lib.ListN.{length, get_or, length-set, length-map}
use lib.Seq.{get_or-set_same, get_or-set_other}
use borrow.Author.Tests.{eqb-true, eqb-false, eq-eqb, leb-true, leb-false, le-leb, lt-leb}
use Rattle.laws.specs.Choose.{choose, bit, ◌and◌, ◌or◌, isnt}
use Rattle.laws.specs.Rows.{tabulate}
use Rattle.laws.specs.All.{those}
use Rattle.laws.proofs.Choose.{tested, never, if_yes, if_no, and_both, both_and, false_isnt, isnt_false, same_test, choose_cases}
use Rattle.rules.specs.declared.Task.{Task}
use Rattle.rules.specs.declared.Wait.{Wait}
use Rattle.rules.specs.declared.Call.{Call}
use Rattle.rules.specs.declared.Call.TheVariants.{Start, Create, Ident, Delete, Obtain, Release, Flush, Tick}
use Rattle.rules.specs.Machine.{Slot, Tables, no_task, slot_of, put_slot, task_of, waits, slot_named}
use Rattle.rules.specs.Agreement.{Agrees, agrees, is_ready_task, occurs}
use Rattle.rules.specs.Semaphore.{Taken, take_step, Given, give_step, pass_step}
use Rattle.rules.specs.Calls.{Outcome, answered, refused, unless, wake, wake_all, up_to, start_refusal, started, start, create_refusal, create}
use Rattle.rules.specs.Calls.{first_named, ident, delete_refusal, delete, without, begin_wait, blocked, obtain_refusal, obtain, give_of, release_refusal, release}
use Rattle.rules.specs.Calls.{flush_refusal, flush, expires, timed_out, tick, perform, step}
use Rattle.rules.specs.Promises.{joining, becomes_ready, sequence_after}
use Rattle.rules.proofs.Invariants.Lists.{bit_yes, bit_no, bit_most, bit_true, bit_same, occurs_none, occurs_cons, occurs_append, timed_at}
use Rattle.rules.proofs.Invariants.Facts.{nth_task, Facts}
use Rattle.rules.proofs.Invariants.FromTests.{agrees_facts}
use Rattle.rules.proofs.Invariants.Waking.{wake_all_ready}
use Rattle.rules.proofs.Invariants.PartsKept.{ready_none, ready_no, ready_same, none_outside}
use Rattle.rules.proofs.Invariants.Refusals.{mustnt, Caller, task_only_lem}
use Rattle.rules.proofs.Invariants.Making.{start_kept}
use Rattle.rules.proofs.Invariants.Ending.{delete_kept, flush_kept}
use Rattle.rules.proofs.Invariants.Releasing.{release_kept}
use Rattle.rules.proofs.Invariants.Tick.{tick_kept}

-- ---- those of a list that pass a test

head_occurs : (x : ℕ) (xs : List ℕ) → 1 ≤ occurs x (x ∷ xs)
head_occurs x xs = omega (arith, occurs_cons x x xs, bit_same x)

-- what holds of each that occurs holds of the others
tail_of : {P : ℕ → Type 0} (x : ℕ) (xs : List ℕ) → ((y : ℕ) → 1 ≤ occurs y (x ∷ xs) → P y) → (y : ℕ) → 1 ≤ occurs y xs → P y
tail_of x xs f y h = f y (omega (arith, occurs_cons y x xs))

module _ (p : ℕ → Bool) where
  those_all : (xs : List ℕ) → ((x : ℕ) → 1 ≤ occurs x xs → p x ≡ true) → those p xs ≡ xs
  unfolding those
  those_all [] f = refl
  those_all (x ∷ xs) f = if_yes _ _ (f x (head_occurs x xs)) ∙ ap (λ (l : List ℕ). x ∷ l) (those_all xs (tail_of x xs f))

  those_none : (xs : List ℕ) → ((x : ℕ) → 1 ≤ occurs x xs → p x ≡ false) → those p xs ≡ []
  unfolding those
  those_none [] f = refl
  those_none (x ∷ xs) f = if_no _ _ (f x (head_occurs x xs)) ∙ those_none xs (tail_of x xs f)

  -- all but one number
  those_without : (c : ℕ) (xs : List ℕ) → p c ≡ false → ((x : ℕ) → 1 ≤ occurs x xs → eqb c x ≡ false → p x ≡ true) → those p xs ≡ without c xs
  unfolding those without
  those_without c [] n f = refl
  those_without c (x ∷ xs) n f =
      let rest = those_without c xs n (tail_of x xs f) in
      ⊎_elim (λ (e : eqb c x ≡ true). if_no _ _ (rw (eqb-true c x e) at n) ∙ rest ∙ sym (if_yes _ _ e))
      (λ (e : eqb c x ≡ false). if_yes _ _ (f x (head_occurs x xs) e) ∙ ap (λ (l : List ℕ). x ∷ l) rest ∙ sym (if_no _ _ e)) (tested (eqb c x))

  -- of the numbers from m on, those of the tasks whose wait a tick ends
  those_timed : (vs : List Task) (m : ℕ) (number : ℕ → ℕ) → ((i : ℕ) → number i ≡ m + i)
      → ((i : ℕ) → p (number i) ≡ expires (get_or vs i no_task)) → those p (tabulate (length vs) number) ≡ timed_out vs m
  unfolding those timed_out tabulate
  those_timed [] m number is f = refl
  those_timed (v ∷ vs) m number is f =
      let first : number 0 ≡ m = omega (arith, is 0) in
      let test : p (number 0) ≡ expires v = f 0 in
      let rest = those_timed vs (suc m) (λ i. number (suc i)) (λ i. omega (arith, is (suc i))) (λ i. f (suc i)) in
      cc

-- all of those that join
those_joining : (js : List ℕ) → those (λ q. leb 1 (occurs q js)) js ≡ js
those_joining js = those_all (λ q. leb 1 (occurs q js)) js (λ x h. le-leb 1 (occurs x js) h)

-- a test that holds only where another does
none_new : (a b : Bool) → (a ≡ true → b ≡ true) → (a and isnt b) ≡ false
unfolding choose
none_new true b f = if_yes _ _ (f refl)
none_new false b f = refl

test_of_bit : (b : Bool) → leb 1 (bit b) ≡ b
unfolding choose
test_of_bit true = refl
test_of_bit false = refl

-- nothing occurs in an empty list alone
empty_of : (xs : List ℕ) → ((q : ℕ) → occurs q xs ≡ 0) → xs ≡ []
empty_of [] f = refl
empty_of (x ∷ xs) f = absurd (omega (arith, head_occurs x xs, f x))

-- ---- who joins

-- a task stands in the sequence once if it is ready, else not at all
abbrev Sequenced : Tables → Type 0
Sequenced t = (q : ℕ) → occurs q t.ready ≡ bit (is_ready_task t q)

-- a call on t has left u, with the sequence that it should
abbrev Ordered : Tables → Call → Tables → Type 0
Ordered t call u = u.ready ≡ sequence_after t call u

module _ (t u : Tables) (before : Sequenced t) (after : Sequenced u) (call : Call) where
  module _ (js : List ℕ) (is : u.ready ≡ t.ready ++ js) where
    counts : (q : ℕ) → occurs q u.ready ≡ occurs q t.ready + occurs q js
    counts q = ap (occurs q) is ∙ occurs_append q t.ready js

    -- those who became ready are those that were put behind the sequence
    becomes : (q : ℕ) → becomes_ready t u q ≡ leb 1 (occurs q js)
    becomes q = same_test _ _ there new
      where
        there : becomes_ready t u q ≡ true → leb 1 (occurs q js) ≡ true
        there e =
            let w = and_both _ _ e in
            le-leb 1 (occurs q js) (omega (arith, counts q, after q, before q, bit_yes _ w.0, bit_no _ (isnt_false _ w.1)))

        new : leb 1 (occurs q js) ≡ true → becomes_ready t u q ≡ true
        new e =
            let some : 1 ≤ occurs q js = leb-true 1 (occurs q js) e in
            both_and (bit_true (is_ready_task u q) (omega (arith, counts q, after q)))
            (⊎_elim (λ (r : is_ready_task t q ≡ true). absurd (omega (arith, counts q, after q, before q, bit_yes _ r, bit_most (is_ready_task u q))))
            (λ (r : is_ready_task t q ≡ false). false_isnt _ r) (tested (is_ready_task t q)))

    joins : those (λ q. leb 1 (occurs q js)) (joining t call u) ≡ js → Ordered t call u
    unfolding sequence_after
    joins new =
        is
        ∙ ap₂ ◌++◌
        (sym (those_all (is_ready_task u) t.ready (λ x h. bit_true (is_ready_task u x) (omega (arith, counts x, after x)))))
        (sym (ap (λ (p : ℕ → Bool). those p (joining t call u)) (fun_ext becomes) ∙ new))

  -- a call that begins and ends no wait
  unmoved : u.ready ≡ t.ready → Ordered t call u
  unmoved e =
      joins [] (e ∙ sym (append-nil t.ready))
      (those_none (λ q. leb 1 (occurs q [])) (joining t call u) (λ x h. lt-leb 1 (occurs x []) (omega (arith, occurs_none x))))

-- a release wakes nobody, or the waiter at that place
pub wakes_served : (s : Slot) (caller place : ℕ) → let q = (give_step s caller place).woken in
    (q ≡ 0 → ⊥) → (1 ≤ length s.queue) × (q ≡ get_or s.queue place 0)
unfolding give_step pass_step
wakes_served s caller place =
    choose_cases P _ _ _ (λ e n. absurd (n refl))
    (λ e. choose_cases P _ _ _ (λ e n. absurd (n refl))
    (λ e. choose_cases P _ _ _ (λ e n. (leb-true 1 _ e, refl))
    (λ e. choose_cases P _ _ _ (λ e n. absurd (n refl)) (λ e n. absurd (n refl)))))
  where
    P : Given → Type 0
    P given = (given.woken ≡ 0 → ⊥) → (1 ≤ length s.queue) × (given.woken ≡ get_or s.queue place 0)

-- ---- the calls

-- an outcome has the sequence that it should
record Right (t : Tables) (call : Call) (o : Outcome) : Type 0 where
  ordered : Ordered t call o.tables

module _ (t : Tables) (f : Facts t) where
  -- a call that begins and ends no wait
  unmoved_right : (call : Call) (o : Outcome) → Sequenced o.tables → o.tables.ready ≡ t.ready → Right t call o
  unmoved_right call o z e = record { ordered = unmoved t o.tables f.ready z call e }

  unless_right : (call : Call) (refusal : ℕ) (done : Outcome) → (refusal ≡ 0 → Right t call done) → Right t call (unless refusal t done)
  unless_right call refusal done g =
      choose_cases (Right t call) (eqb refusal 0) done (refused t refusal) (λ e. g (eqb-true refusal 0 e)) (λ e. unmoved_right call _ f.ready refl)

  -- what agreement kept says of a call that is not refused
  passed : (refusal : ℕ) (done : Outcome) → refusal ≡ 0 → Facts (unless refusal t done).tables → Sequenced done.tables
  passed refusal done e kept = subst (λ (o : Outcome). Sequenced o.tables) (if_yes done (refused t refusal) (eq-eqb refusal 0 e)) kept.ready

  -- before the start nobody is ready
  none_before : length t.tasks < 1 → t.ready ≡ []
  none_before h =
      empty_of t.ready (λ q. f.ready q ∙ bit_no _ (⊎_elim (λ (r : is_ready_task t q ≡ true).
      let task = and_both _ _ (and_both _ _ r).0 in
      absurd (omega (arith, leb-true 1 q task.0, leb-true q (length t.tasks) task.1)))
      (λ (r : is_ready_task t q ≡ false). r) (tested (is_ready_task t q))))

  start_right : (slots : ℕ) (priorities : List ℕ) → Right t (Start slots) (start t slots priorities)
  unfolding start start_refusal started joining
  start_right slots priorities =
      unless_right (Start slots) (start_refusal t slots priorities) _ (λ e.
      let fresh = mustnt (leb 1 (length t.tasks)) 14 _ (omega arith) e in
      record {
        ordered = joins t (started slots priorities) f.ready (passed _ _ e (start_kept t slots priorities f)) (Start slots) (up_to (length priorities))
            (ap (λ (l : List ℕ). l ++ up_to (length priorities)) (sym (none_before (leb-false 1 (length t.tasks) fresh.0))))
            (rw length-map (those_joining (up_to (length priorities))));
      })

  create_right : (caller name count attributes maximum : ℕ)
      → Right t (Create caller name count attributes maximum) (create t caller name count attributes maximum)
  unfolding create
  create_right caller name count attributes maximum =
      unless_right (Create caller name count attributes maximum) (create_refusal t caller name count attributes maximum) _
      (λ e. unmoved_right _ _ f.ready refl)

  ident_right : (name : ℕ) → Right t (Ident name) (ident t name)
  unfolding ident
  ident_right name =
      unless_right (Ident name) (choose (eqb name 0 or eqb (first_named name t.slots 1) 0) 3 0) _ (λ e. unmoved_right _ _ f.ready refl)

  -- all of a queue are woken
  woken_right : (call : Call) (n : ℕ) (s : Slot) (qs : List ℕ) (a : ℕ) → let u = wake_all (put_slot t n s) qs a in
      joining t call u ≡ qs → Sequenced u → Right t call (answered 0 0 u)
  woken_right call n s qs a e z = record {
    ordered = joins t (wake_all (put_slot t n s) qs a) f.ready z call qs (wake_all_ready qs (put_slot t n s) a)
        (ap (λ (l : List ℕ). those (λ q. leb 1 (occurs q qs)) l) e ∙ those_joining qs);
  }

  delete_right : (caller id : ℕ) → Right t (Delete caller id) (delete t caller id)
  unfolding delete joining
  delete_right caller id =
      unless_right (Delete caller id) (delete_refusal t caller id) _
      (λ e. woken_right (Delete caller id) (slot_named t id) _ _ _ refl (passed _ _ e (delete_kept t caller id f)))

  flush_right : (caller id : ℕ) → Right t (Flush caller id) (flush t caller id)
  unfolding flush joining
  flush_right caller id =
      unless_right (Flush caller id) (flush_refusal t caller id) _
      (λ e. woken_right (Flush caller id) (slot_named t id) _ _ _ refl (passed _ _ e (flush_kept t caller id f)))

  tick_right : Right t Tick (tick t)
  unfolding tick joining
  tick_right = record {
    ordered = joins t (tick t).tables f.ready (tick_kept t f).ready Tick (timed_out t.tasks 1) refl
        (rw length-map (those_timed _ t.tasks 1 suc (λ i. omega arith)
        (λ i. ap (leb 1) (timed_at t.tasks 1 i (suc i) (omega arith)) ∙ test_of_bit (expires (nth_task t i)))));
  }

  release_right : (caller id : ℕ) → Right t (Release caller id) (release t caller id)
  unfolding release joining
  release_right caller id =
      unless_right (Release caller id) (release_refusal t caller id) _
      (λ e. choose_cases P (eqb given.woken 0) held (wake held given.woken 0) (λ none z. unmoved_right _ _ f.ready refl)
      (λ some z.
      let served = wakes_served (slot_of t (slot_named t id)) caller _ (eqb-false given.woken 0 some) in
      record {
        ordered = joins t (wake held given.woken 0) f.ready z (Release caller id) (given.woken ∷ []) refl
            (rw served.1 (those_joining _));
      }) (passed _ _ e (release_kept t caller id f)))
    where
      P : Tables → Type 0
      P u = Sequenced u → Right t (Release caller id) (answered 0 0 u)

      given : Given
      given = give_of t (slot_of t (slot_named t id)) caller

      held : Tables
      held = put_slot t (slot_named t id) given.slot

  -- the caller, who was ready, leaves the sequence
  module _ (c n : ℕ) (s : Slot) (v : Task) (h : c < length t.tasks) (w : waits v ≡ true) where
    abbrev left : Tables
    left = begin_wait (put_slot t n s) (suc c) v

    unready : is_ready_task left (suc c) ≡ false
    unready = ready_no left c (subst (λ (z : Task). waits z ≡ true) (sym (get_or-set_same t.tasks c v no_task h)) w)

    others : (i : ℕ) → eqb (suc c) (suc i) ≡ false → is_ready_task left (suc i) ≡ is_ready_task t (suc i)
    others i e =
        ready_same t left i (length-set t.tasks c v)
        (ap (λ (z : Task). waits z) (get_or-set_other t.tasks c i v no_task (λ (m : i ≡ c). eqb-false (suc c) (suc i) e (ap suc (sym m)))))

    stays : (q : ℕ) → 1 ≤ occurs q t.ready → eqb (suc c) q ≡ false → is_ready_task left q ≡ true
    stays zero o e = absurd (omega (arith, none_outside t f))
    stays (suc i) o e = others i e ∙ bit_true _ (omega (arith, f.ready (suc i)))

    was : (q : ℕ) → is_ready_task left q ≡ true → is_ready_task t q ≡ true
    was zero r = never r (ready_none left)
    was (suc i) r =
        ⊎_elim (λ (e : eqb (suc c) (suc i) ≡ true). never r (subst (λ (k : ℕ). is_ready_task left k ≡ false) (eqb-true (suc c) (suc i) e) unready))
        (λ (e : eqb (suc c) (suc i) ≡ false). sym (others i e) ∙ r) (tested (eqb (suc c) (suc i)))

    leaves : (call : Call) → Ordered t call left
    unfolding sequence_after
    leaves call =
        sym (append-nil _)
        ∙ ap₂ ◌++◌ (sym (those_without (is_ready_task left) (suc c) t.ready unready stays))
        (sym (those_none (becomes_ready t left) (joining t call left) (λ q o. none_new (is_ready_task left q) (is_ready_task t q) (was q))))

  obtain_right : (caller id : ℕ) (wait : Wait) → Right t (Obtain caller id wait) (obtain t caller id wait)
  unfolding obtain obtain_refusal
  obtain_right caller id wait =
      unless_right (Obtain caller id wait) (obtain_refusal t caller id wait) _
      (λ e. choose_cases (Right t (Obtain caller id wait)) (eqb taken.status 100) _ _ (λ w. waiting caller (task_only_lem t caller _ e).0)
      (λ w. unmoved_right _ _ f.ready refl))
    where
      taken : Taken
      taken = take_step (slot_of t (slot_named t id)) caller wait

      waiting : (c : ℕ) → Caller t c
          → Right t (Obtain caller id wait) (answered 100 0 (begin_wait (put_slot t (slot_named t id) taken.slot) c (blocked (task_of t c) id wait)))
      waiting zero who = absurd (omega (arith, who.first))
      waiting (suc c) who = record {
        ordered = leaves c (slot_named t id) taken.slot (blocked (nth_task t c) id wait) who.last refl (Obtain caller id wait);
      }

  perform_right : (call : Call) (priorities : List ℕ) → Right t call (perform t call priorities)
  unfolding perform
  perform_right (Start slots) priorities = start_right slots priorities
  perform_right (Create caller name count attributes maximum) priorities = create_right caller name count attributes maximum
  perform_right (Ident name) priorities = ident_right name
  perform_right (Delete caller id) priorities = delete_right caller id
  perform_right (Obtain caller id wait) priorities = obtain_right caller id wait
  perform_right (Release caller id) priorities = release_right caller id
  perform_right (Flush caller id) priorities = flush_right caller id
  perform_right Tick priorities = tick_right

-- the sequence after a call is those that were ready before and still are, in their old order, and then those that it made ready: at a delete and a
-- flush in the order of serving, at a release the waiter served, at a start and a tick by task number
pub ready_order : (t : Tables) (call : Call) (priorities : List ℕ) → Agrees t → let u = (step t call priorities).tables in u.ready ≡ sequence_after t call u
unfolding step
ready_order t call priorities a =
    let f = agrees_facts t a in
    (choose_cases (Right t call) (agrees t) (perform t call priorities) _ (λ y. perform_right t f call priorities)
    (λ n. unmoved_right t f call _ f.ready refl)).ordered
