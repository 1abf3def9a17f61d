-- What a task's own obtain and release do to its wait and to what it owns.
use mathlib.Core.Path.{◌≡◌, refl, sym, subst, ap, ◌∙◌}
use mathlib.Core.Bool.{true, false}
use mathlib.Core.Logic.{⊎_elim, ◌≢◌}
use Prim.Native.Nat.{ℕ, zero, suc, ◌≤◌, ◌<◌}
use native.Mathlib.Omega.{arith}
use native.Mathlib.Decide.{ℕ_discrete}
use lib.Dec.{leb, eqb}
use lib.ListN.{length, get_or, set}
use lib.Seq.{get_or-set_same, get_or-set_other}
use borrow.Author.Tests.{eqb-true, eqb-false, eq-eqb, ne_eqb, leb-true, le-ltb}
use Rattle.laws.specs.Choose.{choose, ◌and◌, isnt}
use Rattle.laws.proofs.Choose.{choose_cases, and_both, both_and, never, if_yes, if_no, false_isnt, isnt_false}
use Rattle.rules.specs.declared.Task.{Task}
use Rattle.rules.specs.declared.Wait.{Wait}
use Rattle.rules.specs.Numbers.{is_binary, max_number}
use Rattle.rules.specs.Machine.{Slot, Tables, no_task, free_slot, slot_of, put_slot, waits, is_live, id_of, names, slot_named, urgency}
use Rattle.rules.specs.Agreement.{occurs}
use Rattle.rules.specs.Semaphore.{handed, owned_by, polls, served_place, Taken, take_step, Given, give_step, pass_step}
use Rattle.rules.specs.Calls.{Outcome, answered, refused, readied, begin_wait, blocked, wake, caller_refusal, any_caller, task_only}
use Rattle.rules.specs.Calls.{obtain_refusal, obtain, give_of, release_refusal, release}
use Rattle.rules.proofs.Invariants.Lists.{occurs_at, Updated, set_updated, updated_cases}
use Rattle.rules.proofs.Serving.{served_within}
use Rattle.rules.proofs.Invariants.Facts.{nth_task, nth_slot, Unheld, Held, Facts, live_within}
use Rattle.rules.proofs.Invariants.Links.{nowhere, place_of_id}
use Rattle.rules.proofs.Invariants.PartsKept.{below}
use Rattle.rules.proofs.Invariants.Refusals.{must, mustnt, Caller, task_only_lem, Found, found}

-- a task has a semaphore of slot j, once
pub record Holds (t : Tables) (q j : ℕ) : Type 0 where
  pub owner : (nth_slot t j).owner ≡ q
  pub nest : (nth_slot t j).nest ≡ 1

-- the task's obtain of x: refused, granted, or a wait begun
pub data Obtained (t : Tables) (c x : ℕ) (o : Outcome) : Type 0 where
  refusing : o.tables ≡ t → o.answer.status ≢ 0 → o.answer.status ≢ 100 → Obtained t c x o
  taking : (j : ℕ) → o.answer.status ≡ 0 → is_live (nth_slot t j) ≡ true → x ≡ id_of (suc j) (nth_slot t j) → nth_task o.tables c ≡ nth_task t c
      → is_live (nth_slot o.tables j) ≡ true → (nth_slot o.tables j).generation ≡ (nth_slot t j).generation
      → (is_binary (nth_slot t j).attributes ≡ true → (nth_slot t j).owner ≢ suc c → Holds o.tables (suc c) j)
      → ((k : ℕ) → k ≢ j → nth_slot o.tables k ≡ nth_slot t k) → Obtained t c x o
  waiting : o.answer.status ≡ 100 → waits (nth_task o.tables c) ≡ true → (nth_task o.tables c).awaited ≡ x
      → ((k : ℕ) → (nth_slot o.tables k).owner ≡ (nth_slot t k).owner) → Obtained t c x o

module _ (t : Tables) (c x : ℕ) (wait : Wait) where
  -- what a step of the semaphore in slot j leads to
  abbrev outcome : ℕ → Taken → Outcome
  outcome n taken =
      choose (eqb taken.status 100) (answered 100 0 (begin_wait (put_slot t n taken.slot) (suc c) (blocked (nth_task t c) x wait)))
      (answered 0 0 (put_slot t n taken.slot))

  module _ (who : Caller t (suc c)) (j : ℕ) (l : is_live (nth_slot t j) ≡ true) (is : x ≡ id_of (suc j) (nth_slot t j)) where
    put : (s : Slot) → Updated (nth_slot t) (nth_slot (put_slot t (suc j) s)) j s
    put s = set_updated t.slots j s (free_slot 0) (live_within t j l)

    abbrev Leads : Taken → Type 0
    Leads taken = eqb taken.status 13 ≡ false → Obtained t c x (outcome (suc j) taken)

    took : (s : Slot) → s.live ≡ (nth_slot t j).live → s.generation ≡ (nth_slot t j).generation
        → (is_binary (nth_slot t j).attributes ≡ true → (nth_slot t j).owner ≢ suc c → (s.owner ≡ suc c) × (s.nest ≡ 1))
        → Leads (record { status = 0; slot = s })
    took s live g holds e =
        subst (Obtained t c x) (sym (if_no _ _ refl))
        (taking j refl l is refl
        (ap (λ (z : Slot). eqb z.live 1) (put s).same ∙ ap (λ (n : ℕ). eqb n 1) live ∙ l)
        (ap (λ (z : Slot). z.generation) (put s).same ∙ g)
        (λ b n. record { owner = ap (λ (z : Slot). z.owner) (put s).same ∙ (holds b n).0; nest = ap (λ (z : Slot). z.nest) (put s).same ∙ (holds b n).1 })
        (put s).other)

    took_nothing : (s : Slot) → Leads (record { status = 13; slot = s })
    took_nothing s e = never refl e

    began : (s : Slot) → s.owner ≡ (nth_slot t j).owner → Leads (record { status = 100; slot = s })
    began s o e =
        subst (Obtained t c x) (sym (if_yes _ _ refl))
        (waiting refl (ap (λ (v : Task). waits v) now) (ap (λ (v : Task). v.awaited) now)
        (λ k. updated_cases (λ k z. z.owner ≡ (nth_slot t k).owner) (put s) k o (λ n. refl)))
      where
        now : get_or (set t.tasks c (blocked (nth_task t c) x wait)) c no_task ≡ blocked (nth_task t c) x wait
        now = get_or-set_same t.tasks c (blocked (nth_task t c) x wait) no_task who.last

    take_leads : Leads (take_step (nth_slot t j) (suc c) wait)
    unfolding take_step
    take_leads =
        choose_cases Leads (leb 1 (nth_slot t j).count) _ _ (λ e. took _ refl refl (λ b n. (if_yes _ _ b, if_yes _ _ b)))
        (λ none. choose_cases Leads (is_binary (nth_slot t j).attributes and owned_by (nth_slot t j) (suc c)) _ _
        (λ own. choose_cases Leads (eqb (nth_slot t j).nest max_number) _ _ (λ e. took_nothing _)
        (λ e. took _ refl refl (λ b n. absurd (n (eqb-true _ _ (and_both _ _ (and_both _ _ own).1).0)))))
        (λ other. choose_cases Leads (polls wait) _ _ (λ e. took_nothing _) (λ e. began _ refl)))

  pub obtained : Facts t → Obtained t c x (obtain t (suc c) x wait)
  unfolding obtain obtain_refusal
  obtained f =
      choose_cases (Obtained t c x) (eqb refusal 0) (outcome (slot_named t x) (taken (slot_named t x))) _
      (λ z.
      let who = task_only_lem t (suc c) (rest (slot_named t x)) (eqb-true refusal 0 z) in
      let named = must (names t x) (choose (eqb (taken (slot_named t x)).status 13) 13 0) 4 (omega arith) who.1 in
      let granted = mustnt (eqb (taken (slot_named t x)).status 13) 13 0 (omega arith) named.1 in
      let s = found t f.sizes x named.0 in
      subst (λ (n : ℕ). eqb (taken n).status 13 ≡ false → Obtained t c x (outcome n (taken n))) (sym s.number)
      (take_leads who.0 s.place s.live s.is) granted.0)
      (λ z. refusing refl (eqb-false refusal 0 z) unlike)
    where
      taken : ℕ → Taken
      taken n = take_step (slot_of t n) (suc c) wait

      rest : ℕ → ℕ
      rest n = choose (names t x) (choose (eqb (taken n).status 13) 13 0) 4

      refusal : ℕ
      refusal = task_only t (suc c) (rest (slot_named t x))

      -- 100 is no refusal
      unlike : refusal ≢ 100
      unlike =
          choose_cases P _ 18 _ (λ e. omega arith)
          (λ e. choose_cases P _ (rest (slot_named t x)) (caller_refusal t (suc c))
          (λ e. choose_cases P _ _ _ (λ e. choose_cases P _ 13 0 (λ e. omega arith) (λ e. omega arith)) (λ e. omega arith))
          (λ e. choose_cases P _ 4 _ (λ e. omega arith) (λ e. choose_cases P _ 14 0 (λ e. omega arith) (λ e. omega arith))))
        where
          P : ℕ → Type 0
          P n = n ≢ 100

-- the task is ready, and of what it owned it has all but slot j
pub record Released (t t' : Tables) (c j : ℕ) : Type 0 where
  pub ready : waits (nth_task t' c) ≡ false
  pub left : (k : ℕ) → (nth_slot t' k).owner ≡ suc c → (k ≢ j) × ((nth_slot t k).owner ≡ suc c)

module _ (t : Tables) (f : Facts t) (c j : ℕ) (l : is_live (nth_slot t j) ≡ true) (b : is_binary (nth_slot t j).attributes ≡ true) (holds : Holds t (suc c) j)
    (ready : waits (nth_task t c) ≡ false) where
  held : Held (length t.tasks) (nth_slot t j)
  held = ⊎_elim (λ (u : Unheld (nth_slot t j)). absurd (omega (arith, u.owner, holds.owner))) (λ (h : Held (length t.tasks) (nth_slot t j)). h)
      (((f.slots j).when_live l).owned b)

  abbrev given_to : Given → Tables
  given_to g = choose (eqb g.woken 0) (put_slot t (suc j) g.slot) (wake (put_slot t (suc j) g.slot) g.woken 0)

  abbrev Gives : Given → Type 0
  Gives g = (g.status ≡ 0) × Released t (given_to g) c j

  -- another owner, or none
  owner_left : (s : Slot) → s.owner ≢ suc c → (k : ℕ) → (nth_slot (put_slot t (suc j) s) k).owner ≡ suc c → (k ≢ j) × ((nth_slot t k).owner ≡ suc c)
  owner_left s n k =
      elim (ℕ_discrete k j) [
        | yes e ↦ (λ o. absurd (n (sym
            (ap (λ (z : Slot). z.owner) (subst (λ (m : ℕ). get_or (set t.slots j s) m (free_slot 0) ≡ s) (sym e)
            (get_or-set_same t.slots j s (free_slot 0) (live_within t j l)))) ∙ o)))
        | no d ↦ (λ o. (d, sym (ap (λ (z : Slot). z.owner) (get_or-set_other t.slots j k s (free_slot 0) d)) ∙ o))
      ]

  -- to the waiter at a place of the queue, who is a task
  handed_on_lem : (place : ℕ) → place < length (nth_slot t j).queue → (q : ℕ) → get_or (nth_slot t j).queue place 0 ≡ q
      → Gives (record { status = 0; slot = handed (nth_slot t j) place; woken = q })
  handed_on_lem place h zero is =
      absurd (omega (
        arith,
        ((f.slots j).when_live l).entries,
        subst (λ (q : ℕ). 1 ≤ occurs q (nth_slot t j).queue) is (occurs_at (nth_slot t j).queue place h),
      ))
  handed_on_lem place h (suc w) is = (
    refl,
    subst (λ (z : Tables). Released t z c j) (sym (if_no _ _ (ne_eqb (suc w) 0 (omega arith))))
        (record {
          ready = subst (λ (v : Task). waits v ≡ false) (sym (get_or-set_other t.tasks w c (readied (nth_task t w) 0) no_task apart)) ready;
          left = owner_left (handed (nth_slot t j) place) (λ e. let s : suc w ≡ suc c = sym (if_yes _ _ b ∙ is) ∙ e in apart (omega arith));
        }),
  )
    where
      -- the owner does not stand in the queue
      apart : c ≢ w
      apart e =
          let there : 1 ≤ occurs (suc w) (nth_slot t j).queue = subst (λ (q : ℕ). 1 ≤ occurs q (nth_slot t j).queue) is
          (occurs_at (nth_slot t j).queue place h) in
          omega (arith, subst (λ (k : ℕ). occurs (suc k) (nth_slot t j).queue ≡ 0) e (nowhere (nth_task t) (nth_slot t) (below t f) f.linked c j ready l))

  give_gives : Gives (give_of t (nth_slot t j) (suc c))
  unfolding give_step pass_step
  give_gives =
      choose_cases Gives (is_binary (nth_slot t j).attributes and isnt (owned_by (nth_slot t j) (suc c))) _ _
      (λ e. never own (isnt_own (and_both _ _ e).1))
      (λ e. choose_cases Gives (is_binary (nth_slot t j).attributes and leb 2 (nth_slot t j).nest) _ _
      (λ n. let two : 2 ≤ (nth_slot t j).nest = leb-true _ _ (and_both _ _ n).1 in absurd (omega (arith, holds.nest)))
      (λ n. choose_cases Gives (leb 1 (length (nth_slot t j).queue)) _ _
      (λ q. handed_on_lem (served_place (urgency t) (nth_slot t j)) (served_within (urgency t) (nth_slot t j) (leb-true _ _ q)) _ refl)
      (λ q. choose_cases Gives (eqb (nth_slot t j).count (nth_slot t j).maximum) _ _
      (λ m. let full : (nth_slot t j).count ≡ (nth_slot t j).maximum = eqb-true _ _ m in absurd
      (omega (arith, held.count, ((f.slots j).when_live l).maximum.least)))
      (λ m. (refl, subst (λ (z : Tables). Released t z c j) (sym (if_yes _ _ refl)) (record { ready = ready; left = owner_left _ (λ o. omega arith) }))))))
    where
      own : owned_by (nth_slot t j) (suc c) ≡ true
      own = both_and (eq-eqb _ _ holds.owner) (false_isnt _ (ne_eqb (suc c) 0 (omega arith)))

      isnt_own : isnt (owned_by (nth_slot t j) (suc c)) ≡ true → owned_by (nth_slot t j) (suc c) ≡ false
      isnt_own = isnt_false _

  pub released : (x : ℕ) → names t x ≡ true → x ≡ id_of (suc j) (nth_slot t j) → Released t (release t (suc c) x).tables c j
  unfolding release release_refusal
  released x n is =
      subst (λ (o : Outcome). Released t o.tables c j) (sym (if_yes (answered 0 0 (after (slot_named t x))) (refused t refusal) (eq-eqb refusal 0 passes)))
      (subst (λ (m : ℕ). Released t (after m) c j) (sym number) give_gives.1)
    where
      after : ℕ → Tables
      after m =
          let given = give_of t (slot_of t m) (suc c) in
          choose (eqb given.woken 0) (put_slot t m given.slot) (wake (put_slot t m given.slot) given.woken 0)

      rest : ℕ
      rest = choose (names t x) (give_of t (slot_of t (slot_named t x)) (suc c)).status 4

      refusal : ℕ
      refusal = any_caller t (suc c) rest

      number : slot_named t x ≡ suc j
      number =
          let s : Found t x = found t f.sizes x n in
          s.number ∙ ap suc (place_of_id (nth_task t) (nth_slot t) (below t f) f.linked s.place j s.live l
          (sym s.is ∙ is))

      allowed : caller_refusal t (suc c) ≡ 0
      allowed = if_no _ _ (le-ltb (length t.tasks) (suc c) (subst (λ (q : ℕ). q ≤ length t.tasks) holds.owner held.most)) ∙ if_no _ _ ready

      passes : refusal ≡ 0
      passes =
          if_no (caller_refusal t (suc c)) rest (if_yes _ _ (false_isnt _ (ne_eqb (suc c) 0 (omega arith))) ∙ if_yes _ _ (eq-eqb _ _ allowed))
          ∙ if_yes _ _ n
          ∙ subst (λ (m : ℕ). (give_of t (slot_of t m) (suc c)).status ≡ 0) (sym number) give_gives.0
