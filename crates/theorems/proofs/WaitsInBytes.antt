-- How long a wait goes on over lent bytes, through any run of entry points (request 6).
use mathlib.Core.Path.{◌≡◌, refl, sym, ap, subst, ◌∙◌}
use mathlib.Core.Bool.{true, false}
use mathlib.Core.List.{List}
use mathlib.Core.Logic.{⊎_elim, ◌≢◌}
use Prim.Native.Nat.{ℕ, suc, ◌%◌, ◌≤◌, ◌<◌}
use native.Mathlib.Omega.{arith}
use lib.Dec.{eqb}
use borrow.Author.Tests.{eq-eqb, ne_eqb, eqb-false}
use Rattle.laws.specs.Choose.{choose}
use Rattle.laws.proofs.Choose.{if_yes, if_no, never, choose_cases}
use Rattle.laws.proofs.Choose as choices
use Rattle.words.proofs.WordsInBytes.{Bytes}
use Rattle.rules.specs.declared.Wait.{Wait}
use Rattle.rules.specs.declared.Wait.TheVariants.{Poll, Forever, Ticks}
use Rattle.rules.specs.declared.Call.{Call}
use Rattle.rules.specs.declared.Call.TheVariants.{Obtain, Tick}
use Rattle.rules.specs.Machine.{Tables, task_of}
use Rattle.rules.specs.Semaphore.{wait_of, polls, ticks_of}
use Rattle.rules.specs.Calls.{step}
use Rattle.rules.specs.Runs.{Request}
use Rattle.rules.specs.Promises.{ticks_among, waits_through}
use Rattle.rules.specs.Fits.{call_fits, calls_fit}
use Rattle.tables.specs.Layout.{model_of}
use Rattle.agreement.specs.Bytes.{agrees_bytes}
use Rattle.calls.specs.Agreeing.{Agreeing}
use Rattle.manager.specs.Entry.{Reply, reply_to}
use Rattle.manager.specs.Runs.{replies}
use Rattle.manager.proofs.Tested as test
use Rattle.manager.proofs.Runs.{reply_is, internal_error_bytes, left_agreeing, left_model, Runs, runs}
use Rattle.theorems.proofs.Waits.{Begun, begins, run_left, tick_after}

-- ---- options and timeout

pub no_wait : (options : ℕ) → options % 2 ≡ 1 → (timeout : ℕ) → wait_of options timeout ≡ Poll
unfolding wait_of
no_wait options odd timeout = if_yes _ _ (eq-eqb (options % 2) 1 odd)

module _ (options : ℕ) (even : options % 2 ≡ 0) where
  may_wait : eqb (options % 2) 1 ≡ false
  may_wait = ne_eqb (options % 2) 1 (λ z. omega (arith, even))

  pub standard_wait : wait_of options 0 ≡ Ticks 500
  unfolding wait_of
  standard_wait = if_no _ _ may_wait ∙ if_yes _ _ refl

  pub endless_wait : wait_of options 4294967295 ≡ Forever
  unfolding wait_of
  endless_wait = if_no _ _ may_wait ∙ if_no _ _ refl ∙ if_yes _ _ refl

  pub timed_wait : (timeout : ℕ) → timeout ≢ 0 → timeout ≢ 4294967295 → wait_of options timeout ≡ Ticks timeout
  unfolding wait_of
  timed_wait timeout some ends = if_no _ _ may_wait ∙ if_no _ _ (ne_eqb timeout 0 some) ∙ if_no _ _ (ne_eqb timeout 4294967295 ends)

-- only even options wait
waits_even : (options timeout : ℕ) → polls (wait_of options timeout) ≡ false → options % 2 ≡ 0
waits_even options timeout may =
    ⊎_elim (λ (e : eqb (options % 2) 1 ≡ true). never (ap (λ (w : Wait). polls w) (odd e)) may)
    (λ (e : eqb (options % 2) 1 ≡ false). let n : options % 2 ≢ 1 = eqb-false (options % 2) 1 e in omega (arith, n))
    (choices.tested (eqb (options % 2) 1))
  where
    odd : eqb (options % 2) 1 ≡ true → wait_of options timeout ≡ Poll
    odd e = unfold wait_of in if_yes _ _ e

-- the ticks that the tables keep of a wait that has begun
abbrev pub kept_ticks : ℕ → ℕ
kept_ticks timeout = choose (eqb timeout 0) 500 (choose (eqb timeout 4294967295) 0 timeout)

kept_ticks_lem : (options timeout : ℕ) → polls (wait_of options timeout) ≡ false → ticks_of (wait_of options timeout) ≡ kept_ticks timeout
unfolding wait_of
kept_ticks_lem options timeout =
    choose_cases P _ _ _ (λ e z. never refl z)
    (λ e. choose_cases P _ _ _ (λ e z. sym (if_yes _ _ e))
    (λ e. choose_cases P _ _ _ (λ f z. sym (if_no _ _ e ∙ if_yes _ _ f)) (λ f z. sym (if_no _ _ e ∙ if_no _ _ f))))
  where
    P : Wait → Type 0
    P w = polls w ≡ false → ticks_of w ≡ kept_ticks timeout

-- ---- a wait in agreeing bytes, however it began

module _ {bs : List ℕ} (g : Agreeing bs) (q : ℕ) (requests : List Request) (fit : calls_fit requests ≡ true)
    (through : waits_through (model_of bs) q requests ≡ true) where
  run : Runs bs requests
  run = runs g requests fit

  -- the next tick ends it, with 6, exactly if that is the last of its ticks
  pub tick_ends : (priorities : List ℕ) → (task_of (model_of (reply_to (replies bs requests).bytes Tick priorities).bytes) q).answer
      ≡ choose (eqb (suc (ticks_among requests)) (task_of (model_of bs) q).ticks) 6 100
  tick_ends priorities =
      ap (λ (t : Tables). (task_of t q).answer)
      (left_model run.agreeing Tick priorities refl ∙ ap (λ (t : Tables). (step t Tick priorities).tables) run.model)
      ∙ tick_after (model_of bs) g.agrees q requests fit through priorities

  -- a wait of so many ticks has not seen them all
  ticks_within : 1 ≤ (task_of (model_of bs) q).ticks → ticks_among requests < (task_of (model_of bs) q).ticks
  ticks_within some =
      let l = run_left (model_of bs) g.agrees q requests fit through in
      omega (arith, l.fewer some, l.some some)

-- ---- a wait that an obtain began

module _ (bs : List ℕ) (b : Bytes bs) (caller id options timeout : ℕ) (priorities : List ℕ)
    (fits : call_fits (Obtain caller id (wait_of options timeout)) ≡ true)
    (said : (reply_to bs (Obtain caller id (wait_of options timeout)) priorities).answer.status ≡ 100) where
  abbrev call : Call
  call = Obtain caller id (wait_of options timeout)

  -- the bytes that the obtain left
  abbrev left : List ℕ
  left = (reply_to bs call priorities).bytes

  agreed : agrees_bytes bs ≡ true
  agreed =
      ⊎_elim (λ (e : agrees_bytes bs ≡ true). e)
      (λ (e : agrees_bytes bs ≡ false). absurd (omega (arith, said, (internal_error_bytes bs call priorities).1 e)))
      (choices.tested (agrees_bytes bs))

  going : Agreeing left
  going = left_agreeing (test.tested b agreed) call priorities fits

  begun : Begun caller (wait_of options timeout) (model_of left)
  begun =
      subst (Begun caller (wait_of options timeout)) (sym (left_model (test.tested b agreed) call priorities fits))
      (begins (model_of bs) caller id (wait_of options timeout) priorities
      (sym (ap (λ (x : Reply). x.answer.status) (reply_is bs call priorities agreed)) ∙ said))

  kept : (task_of (model_of left) caller).ticks ≡ kept_ticks timeout
  kept = begun.ticks ∙ kept_ticks_lem options timeout begun.may

  pub wait_begun : (options % 2 ≡ 0) × (agrees_bytes left ≡ true) × ((task_of (model_of left) caller).answer ≡ 100)
      × ((task_of (model_of left) caller).ticks ≡ kept_ticks timeout)
  wait_begun = (
    waits_even options timeout begun.may,
    test.passes going,
    begun.answer,
    kept,
  )

  -- while it goes on it has seen fewer ticks than it was given
  pub bounded : timeout ≢ 4294967295 → (requests : List Request) → calls_fit requests ≡ true → waits_through (model_of left) caller requests ≡ true
      → ticks_among requests < choose (eqb timeout 0) 500 timeout
  bounded ends requests fit through =
      subst (λ (n : ℕ). ticks_among requests < n) same (ticks_within going caller requests fit through (subst (λ (n : ℕ). 1 ≤ n) (sym same) some))
    where
      same : (task_of (model_of left) caller).ticks ≡ choose (eqb timeout 0) 500 timeout
      same = kept ∙ ap (λ (n : ℕ). choose (eqb timeout 0) 500 n) (if_no _ _ (ne_eqb timeout 4294967295 ends))

      some : 1 ≤ choose (eqb timeout 0) 500 timeout
      some = choose_cases (λ (n : ℕ). 1 ≤ n) (eqb timeout 0) 500 timeout (λ e. omega arith) (λ e. let n = eqb-false timeout 0 e in omega arith)
