-- Over any run of calls: the count of a live counting or simple binary semaphore, and what was granted, are what the history began with and what was released.
use mathlib.Core.Path.{◌≡◌, refl, sym, subst, ap, ◌∙◌}
use mathlib.Core.Bool.{true, false}
use mathlib.Core.List.{List, [], ◌∷◌}
use mathlib.Core.Logic.{⊎_elim, ◌≢◌}
use Prim.Native.Nat.{ℕ, suc, pred, ◌+◌, ◌%◌, ◌≤◌}
use native.Mathlib.Omega.{arith}
use lib.Dec.{eqb}
use lib.ListN.{length}
use lib.Seq.{get_or-set_same}
use borrow.Author.Tests.{eqb-false, ne_eqb}
use Rattle.laws.proofs.Choose.{tested, never, and_both, both_and, choose_cases}
use Rattle.rules.specs.declared.Call.{Call}
use Rattle.rules.specs.declared.Call.TheVariants.{Create}
use Rattle.rules.specs.Numbers.{is_binary}
use Rattle.rules.specs.Machine.{Slot, Tables, free_slot, slot_of, names, id_of}
use Rattle.rules.specs.Agreement.{Agrees, agrees, occurs}
use Rattle.rules.specs.Calls.{Outcome, open_slot, create_refusal, new_semaphore, create, perform, step}
use Rattle.rules.specs.Runs.{Request, step_of, after}
use Rattle.rules.specs.Fits.{call_fits, calls_fit}
use Rattle.rules.proofs.Invariants.Lists.{bit_yes, occurs_none}
use Rattle.rules.proofs.Invariants.Facts.{nth_task, nth_slot, waits_on}
use Rattle.rules.proofs.Invariants.Agreeing.{true_agrees}
use Rattle.rules.proofs.Invariants.FromTests.{agrees_facts}
use Rattle.rules.proofs.Invariants.Kept.{performs, kept}
use Rattle.rules.proofs.History.Forward.{Forward}
use Rattle.rules.proofs.History.CallsForward.{step_forward}
use Rattle.rules.proofs.History.Used.{Ended, names_named, named_or_ended, ended_unnamed}
use Rattle.rules.proofs.History.Identifiers.{ended_after, parts, created_named}
use Rattle.rules.proofs.History.Done.{Created, create_done}
use Rattle.accounts.specs.History.{seen, history_of}
use Rattle.accounts.specs.Accounts.{waiters_found, none_found, waits_after, grants_in, releases_in}
use Rattle.accounts.proofs.Waiters.{is_id}
use Rattle.accounts.proofs.Balance.{Known, Right}
use Rattle.accounts.proofs.Granting.{accounts}

-- tables that did not get 25 agree
pub answered_agrees : (t : Tables) (call : Call) (priorities : List ℕ) → ((step t call priorities).answer.status ≡ 25 → ⊥) → Agrees t
unfolding step
answered_agrees t call priorities =
    choose_cases (λ (o : Outcome). (o.answer.status ≡ 25 → ⊥) → Agrees t) (agrees t) _ _ (λ y d. true_agrees t y) (λ n d. absurd (d refl))

-- ---- a call of a run

module _ (t : Tables) (id : ℕ) (named : names t id ≡ true) (r : Request) where
  forward : Forward t (step_of t r).tables
  forward = let n = names_named t id named in step_forward t r.call r.priorities (omega (arith, n.low, n.high))

  -- a semaphore that lives after a run lived after its first call, since an identifier never comes back
  pub lived : (rs : List Request) → names (after (step_of t r).tables rs) id ≡ true → names (step_of t r).tables id ≡ true
  lived rs n =
      ⊎_elim (λ (y : names (step_of t r).tables id ≡ true). y)
      (λ (e : Ended (step_of t r).tables id). never n (ended_unnamed _ id (ended_after _ id rs e))) (named_or_ended forward id named)

  -- and it keeps its attributes
  pub attributes_stay : names (step_of t r).tables id ≡ true → (slot_of (step_of t r).tables (id % 65536)).attributes ≡ (slot_of t (id % 65536)).attributes
  attributes_stay n =
      let now = names_named (step_of t r).tables id n in
      (forward.onward (id % 65536)).attributed ((names_named t id named).generation ∙ sym now.generation) now.lives

-- ---- a run

module _ (id : ℕ) where
  abbrev count_in : Tables → ℕ
  count_in t = (slot_of t (id % 65536)).count

  abbrev Unowned : Tables → Type 0
  Unowned t = is_binary (slot_of t (id % 65536)).attributes ≡ false

  run_accounts : (t : Tables) → Agrees t → names t id ≡ true → Unowned t → (on : ℕ → ℕ) → Known id t on → (requests : List Request)
      → calls_fit requests ≡ true → names (after t requests) id ≡ true
      → count_in (after t requests) + grants_in id on (history_of t requests) ≡ count_in t + releases_in id (history_of t requests)
  unfolding after history_of grants_in releases_in calls_fit waits_after
  run_accounts t a named unowned on known [] f n = refl
  run_accounts t a named unowned on known (r ∷ rs) f n =
      let u : Tables = (step_of t r).tables in
      let o : Outcome = step_of t r in
      let fits = and_both _ _ f in
      let lives : names u id ≡ true = lived t id named r rs n in
      let one : Right t (agrees_facts t a) id named unowned on known r.call o =
      subst (Right t (agrees_facts t a) id named unowned on known r.call) (sym (performs t r.call r.priorities a))
      (accounts t (agrees_facts t a) id named unowned on known r.call r.priorities) in
      let rest =
      run_accounts u (kept t r.call r.priorities fits.0 a) lives (subst (λ (x : ℕ). is_binary x ≡ false) (sym (attributes_stay t id named r lives)) unowned)
      (waits_after on (seen t r o.answer u)) one.known' rs fits.1 n in
      omega (arith, one.balance lives, rest)

  -- from any tables that agree: the history begins with the count and the waiters found
  pub accounting : (t : Tables) → Agrees t → names t id ≡ true → Unowned t → (requests : List Request) → calls_fit requests ≡ true
      → names (after t requests) id ≡ true
      → count_in (after t requests) + grants_in id (waiters_found t) (history_of t requests) ≡ count_in t + releases_in id (history_of t requests)
  accounting t a named unowned = run_accounts t a named unowned (waiters_found t) (λ i w. refl)

-- ---- from a create on

module _ (t : Tables) (caller name count attributes maximum : ℕ) (priorities : List ℕ) where
  abbrev outcome : Outcome
  outcome = step t (Create caller name count attributes maximum) priorities

  abbrev new : Slot
  new = new_semaphore (slot_of t (open_slot t)).generation caller name count attributes maximum

  made_slot : 1 ≤ open_slot t → open_slot t ≤ length t.slots → outcome.answer.status ≡ 0 → slot_of outcome.tables (open_slot t) ≡ new
  unfolding step perform create
  made_slot low high =
      choose_cases P (agrees t) _ _
      (λ a. choose_cases P (eqb (create_refusal t caller name count attributes maximum) 0) _ _
      (λ e s. get_or-set_same t.slots (pred (open_slot t)) new (free_slot 0) (omega arith)) (λ e s. absurd (eqb-false _ 0 e s)))
      (λ a s. absurd (omega arith))
    where
      P : Outcome → Type 0
      P o = o.answer.status ≡ 0 → slot_of o.tables (open_slot t) ≡ new

  module _ (done : outcome.answer.status ≡ 0) where
    abbrev id : ℕ
    id = outcome.answer.value

    created : Created t maximum outcome
    created = create_done t caller name count attributes maximum priorities done

    pub new_named : names outcome.tables id ≡ true
    new_named = created_named t outcome created

    pub new_slot_lem : slot_of outcome.tables (id % 65536) ≡ new
    new_slot_lem =
        ap (λ (k : ℕ). slot_of outcome.tables k) (parts t outcome created).0 ∙ made_slot created.low created.high done

    -- nobody waits on it
    unknown : Agrees outcome.tables → Known id outcome.tables none_found
    unfolding new_semaphore
    unknown a i w =
        let f = agrees_facts outcome.tables a in
        let n = names_named outcome.tables id new_named in
        let some : 0 ≢ id = λ (z : 0 ≡ id). omega (arith, n.low) in
        ne_eqb 0 id some
        ∙ sym (⊎_elim
        (λ (y : eqb (nth_task outcome.tables i).awaited id ≡ true).
        absurd (omega (
          arith,
          f.linked.counted i (pred (id % 65536)) n.lives,
          ap (λ (s : Slot). occurs (suc i) s.queue) new_slot_lem,
          occurs_none (suc i),
          bit_yes (waits_on (nth_task outcome.tables i) (id_of (suc (pred (id % 65536))) (nth_slot outcome.tables (pred (id % 65536)))))
              (both_and w (subst (λ (x : ℕ). eqb (nth_task outcome.tables i).awaited x ≡ true) (is_id outcome.tables id new_named) y)),
        )))
        (λ (y : eqb (nth_task outcome.tables i).awaited id ≡ false). y) (tested (eqb (nth_task outcome.tables i).awaited id)))

    -- count and grants are the initial count and the releases
    pub since_create : call_fits (Create caller name count attributes maximum) ≡ true → is_binary attributes ≡ false
        → (requests : List Request) → calls_fit requests ≡ true → names (after outcome.tables requests) id ≡ true
        → (slot_of (after outcome.tables requests) (id % 65536)).count + grants_in id none_found (history_of outcome.tables requests)
        ≡ count + releases_in id (history_of outcome.tables requests)
    unfolding new_semaphore
    since_create fits unowned requests f n =
        let a = answered_agrees t (Create caller name count attributes maximum) priorities (λ z. omega (arith, done)) in
        let a' = kept t (Create caller name count attributes maximum) priorities fits a in
        let begins : (slot_of outcome.tables (id % 65536)).count ≡ count = ap (λ (s : Slot). s.count) new_slot_lem in
        let free : is_binary (slot_of outcome.tables (id % 65536)).attributes ≡ false =
        subst (λ (s : Slot). is_binary s.attributes ≡ false) (sym new_slot_lem) unowned in
        omega (arith, begins, run_accounts id outcome.tables a' new_named free none_found (unknown a') requests f n)
