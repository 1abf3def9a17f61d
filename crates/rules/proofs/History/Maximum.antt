-- A semaphore's maximum: it stays what create was given, no run takes the count above it, and a release is 13 exactly there.
use mathlib.Core.Path.{◌≡◌, sym, ap, ◌∙◌}
use mathlib.Core.Bool.{Bool, true, false}
use mathlib.Core.List.{List}
use mathlib.Core.Logic.{⊎_elim, ◌↔◌}
use Prim.Native.Nat.{ℕ, pred, ◌%◌, ◌≤◌, ◌<◌}
use native.Mathlib.Omega.{arith}
use native.Mathlib.Decide.{dec_le}
use lib.Dec.{eqb}
use lib.ListN.{length}
use borrow.Author.Tests.{eq-eqb, ne_eqb, eqb-true, eqb-false, lt-leb}
use Rattle.laws.specs.Choose.{◌and◌, isnt}
use Rattle.laws.proofs.Choose.{if_yes, if_no, tested, never, and_both, isnt_false, false_isnt, choose_cases}
use Rattle.rules.specs.declared.Call.TheVariants.{Create, Release}
use Rattle.rules.specs.Numbers.{is_binary, invalid_id, unsatisfied}
use Rattle.rules.specs.Machine.{Slot, Tables, slot_of, is_live, names}
use Rattle.rules.specs.Agreement.{Agrees}
use Rattle.rules.specs.Semaphore.{Given, owned_by, give_step, pass_step}
use Rattle.rules.specs.Calls.{Outcome, caller_refusal, any_caller, give_of, release_refusal, release, perform, step}
use Rattle.rules.specs.Runs.{Request, after}
use Rattle.rules.specs.Fits.{calls_fit}
use Rattle.rules.proofs.Invariants.Agreeing.{agrees_true}
use Rattle.rules.proofs.Invariants.Facts.{Unheld, Held, SlotFits}
use Rattle.rules.proofs.Invariants.FromTests.{agrees_facts}
use Rattle.rules.proofs.Invariants.Kept.{run_kept}
use Rattle.rules.proofs.History.CallsForward.{run_forward}
use Rattle.rules.proofs.History.Used.{names_named}
use Rattle.rules.proofs.History.Done.{create_done}
use Rattle.rules.proofs.History.Identifiers.{parts, created_named}

-- the maximum of the semaphore that an identifier names
abbrev pub maximum_of : Tables → ℕ → ℕ
maximum_of t id = (slot_of t (id % 65536)).maximum

pub maximum_stays : (t : Tables) (id : ℕ) (requests : List Request) → names t id ≡ true → names (after t requests) id ≡ true
    → maximum_of (after t requests) id ≡ maximum_of t id
maximum_stays t id requests n m =
    let before = names_named t id n in
    let now = names_named (after t requests) id m in
    ((run_forward t requests (omega (arith, before.low, before.high))).onward (id % 65536)).keeps (before.generation ∙ sym now.generation) now.lives

-- a count is at most its semaphore's maximum
pub count_most : (t : Tables) → Agrees t → (id : ℕ) → names t id ≡ true → (slot_of t (id % 65536)).count ≤ maximum_of t id
count_most t a id n = (((agrees_facts t a).slots (pred (id % 65536))).when_live (names_named t id n).lives).maximum.count

-- and so after any run
pub count_stays : (t : Tables) → Agrees t → (requests : List Request) → calls_fit requests ≡ true → (id : ℕ) → names (after t requests) id ≡ true
    → (slot_of (after t requests) (id % 65536)).count ≤ maximum_of (after t requests) id
count_stays t a requests fit = count_most (after t requests) (run_kept t requests fit a)

-- over any run from a create on, while its identifier names the semaphore, the maximum is the one given
pub created_maximum : (t : Tables) (caller name count attributes maximum : ℕ) (priorities : List ℕ) (requests : List Request)
    → let o = step t (Create caller name count attributes maximum) priorities in o.answer.status ≡ 0
    → names (after o.tables requests) o.answer.value ≡ true → maximum_of (after o.tables requests) o.answer.value ≡ maximum
created_maximum t caller name count attributes maximum priorities requests e n =
    let o = step t (Create caller name count attributes maximum) priorities in
    let c = create_done t caller name count attributes maximum priorities e in
    let p = parts t o c in
    maximum_stays o.tables o.answer.value requests (created_named t o c) n
    ∙ ap (λ (k : ℕ). (slot_of o.tables k).maximum) p.0
    ∙ c.given

-- one semaphore's step there
give_full : (s : Slot) (caller place : ℕ) → is_binary s.attributes ≡ false → length s.queue < 1 → s.count ≡ s.maximum
    → (give_step s caller place).status ≡ unsatisfied
unfolding give_step pass_step
give_full s caller place b none top =
    ap (λ (g : Given). g.status)
    (if_no _ _ (if_no _ _ b) ∙ if_no _ _ (if_no _ _ b) ∙ if_no _ _ (lt-leb 1 (length s.queue) none) ∙ if_yes _ _ (eq-eqb s.count s.maximum top))

-- a caller that may call leaves the rest of the checks
may_call : (t : Tables) (caller rest : ℕ) → any_caller t caller 0 ≡ 0 → any_caller t caller rest ≡ rest
may_call t caller rest e =
    ⊎_elim
    (λ (y : stopped ≡ true). never (eq-eqb (caller_refusal t caller) 0 (sym (if_yes _ _ y) ∙ e)) (isnt_false _ (and_both _ _ y).1))
    (λ (n : stopped ≡ false). if_no _ _ n)
    (tested stopped)
  where
    stopped : Bool
    stopped = isnt (eqb caller 0) and isnt (eqb (caller_refusal t caller) 0)

-- and what has led to 13
give_unsatisfied : (N : ℕ) (s : Slot) → SlotFits N s → is_live s ≡ true → (caller place : ℕ) → (give_step s caller place).status ≡ unsatisfied
    → (is_binary s.attributes ≡ false) × (s.count ≡ s.maximum)
unfolding give_step pass_step
give_unsatisfied N s fits l caller place =
    choose_cases P _ _ _ (λ e z. absurd (omega arith))
    (λ owned. choose_cases P _ _ _ (λ e z. absurd (omega arith))
    (λ e. choose_cases P _ _ _ (λ q z. absurd (omega arith))
    (λ q. choose_cases P _ _ _
    (λ m z. (other owned (eqb-true s.count s.maximum m), eqb-true s.count s.maximum m)) (λ m z. absurd (omega arith)))))
  where
    P : Given → Type 0
    P g = g.status ≡ unsatisfied → (is_binary s.attributes ≡ false) × (s.count ≡ s.maximum)

    -- the owner of a binary semaphore releases it at count 0, below its maximum
    other : (is_binary s.attributes and isnt (owned_by s caller)) ≡ false → s.count ≡ s.maximum → is_binary s.attributes ≡ false
    other e top =
        ⊎_elim
        (λ (b : is_binary s.attributes ≡ true).
        let held : owned_by s caller ≡ true =
        ⊎_elim (λ y. y) (λ n. never (false_isnt (owned_by s caller) n) (sym (if_yes _ _ b) ∙ e)) (tested (owned_by s caller)) in
        let own = and_both _ _ held in
        let is : s.owner ≡ caller = eqb-true _ _ own.0 in
        let some : caller ≡ 0 → ⊥ = eqb-false _ _ (isnt_false _ own.1) in
        ⊎_elim (λ (z : Unheld s). absurd (some (sym is ∙ z.owner)))
        (λ (z : Held N s). absurd (omega (arith, z.count, (fits.when_live l).maximum.least)))
        ((fits.when_live l).owned b))
        (λ (b : is_binary s.attributes ≡ false). b)
        (tested (is_binary s.attributes))

-- a caller's own refusal is never 13
caller_stopped : (t : Tables) (caller rest : ℕ) → any_caller t caller rest ≡ unsatisfied → (any_caller t caller 0 ≡ 0) × (rest ≡ unsatisfied)
caller_stopped t caller rest e =
    ⊎_elim
    (λ (y : stopped ≡ true). absurd (other (sym (if_yes _ _ y) ∙ e)))
    (λ (n : stopped ≡ false). (if_no _ _ n, sym (if_no _ _ n) ∙ e))
    (tested stopped)
  where
    stopped : Bool
    stopped = isnt (eqb caller 0) and isnt (eqb (caller_refusal t caller) 0)

    other : caller_refusal t caller ≡ unsatisfied → ⊥
    other =
        choose_cases (λ (n : ℕ). n ≡ unsatisfied → ⊥) _ _ _ (λ y z. omega arith)
        (λ y. choose_cases (λ (n : ℕ). n ≡ unsatisfied → ⊥) _ _ _ (λ y z. omega arith) (λ y z. omega arith))

-- a release is 13 exactly where the caller may call and the identifier is that of a semaphore, not of the binary class, at its maximum
abbrev pub AtMaximum : Tables → ℕ → ℕ → Type 0
AtMaximum t caller id =
    (any_caller t caller 0 ≡ 0) × (names t id ≡ true) × (is_binary (slot_of t (id % 65536)).attributes ≡ false)
    × ((slot_of t (id % 65536)).count ≡ (slot_of t (id % 65536)).maximum)

module _ (t : Tables) (a : Agrees t) (caller id : ℕ) where
  -- nobody waits where there are units left
  nobody : (n : names t id ≡ true) → (slot_of t (id % 65536)).count ≡ (slot_of t (id % 65536)).maximum → length (slot_of t (id % 65536)).queue < 1
  nobody n top =
      let fits = ((agrees_facts t a).slots (pred (id % 65536))).when_live (names_named t id n).lives in
      elim (dec_le 1 (length (slot_of t (id % 65536)).queue)) [
        | yes q ↦ absurd (omega (arith, fits.at_zero q, fits.maximum.least, top))
        | no q ↦ omega arith
      ]

  refused_there : AtMaximum t caller id → release_refusal t caller id ≡ unsatisfied
  unfolding release_refusal
  refused_there (may, n, b, top) =
      may_call t caller _ may
      ∙ if_yes _ _ n
      ∙ ap (λ (k : ℕ). (give_of t (slot_of t k) caller).status) (if_yes _ _ n)
      ∙ give_full (slot_of t (id % 65536)) caller _ b (nobody n top) top

  there_refused : release_refusal t caller id ≡ unsatisfied → AtMaximum t caller id
  unfolding release_refusal
  there_refused e =
      let p = caller_stopped t caller _ e in
      ⊎_elim
      (λ (n : names t id ≡ true).
      let given : (give_of t (slot_of t (id % 65536)) caller).status ≡ unsatisfied =
      ap (λ (k : ℕ). (give_of t (slot_of t k) caller).status) (sym (if_yes _ _ n)) ∙ sym (if_yes _ _ n) ∙ p.1
      in
      let full = give_unsatisfied _ (slot_of t (id % 65536)) ((agrees_facts t a).slots (pred (id % 65536))) (names_named t id n).lives caller _ given in
      (p.0, n, full.0, full.1))
      (λ (n : names t id ≡ false). absurd (other (sym (if_no _ _ n) ∙ p.1)))
      (tested (names t id))
    where
      other : invalid_id ≡ unsatisfied → ⊥
      other z = omega arith

  pub release_at_maximum : (priorities : List ℕ) → ((step t (Release caller id) priorities).answer.status ≡ unsatisfied) ↔ AtMaximum t caller id
  unfolding step perform release
  release_at_maximum priorities = (
    λ e. there_refused (back (sym (ap (λ (o : Outcome). o.answer.status) agreed) ∙ e)),
    λ m.
        let full = refused_there m in
        ap (λ (o : Outcome). o.answer.status) (agreed ∙ if_no _ _ (ne_eqb (release_refusal t caller id) 0 (λ z. omega (arith, full)))) ∙ full,
  )
    where
      agreed : step t (Release caller id) priorities ≡ release t caller id
      agreed = if_yes _ _ (agrees_true t a)

      back : (release t caller id).answer.status ≡ unsatisfied → release_refusal t caller id ≡ unsatisfied
      back =
          choose_cases (λ (o : Outcome). o.answer.status ≡ unsatisfied → release_refusal t caller id ≡ unsatisfied) _ _ _ (λ y z. absurd (omega arith))
          (λ y z. z)
