-- On tables and a list that agree a call gives the codes that are listed for it, and no others.
use mathlib.Core.Path.{◌≡◌, refl, sym, subst, ◌∙◌}
use mathlib.Core.Bool.{Bool, true, false}
use mathlib.Core.List.{List}
use mathlib.Core.Logic.{◌≢◌, ⊎_elim}
use Prim.Native.Nat.{ℕ, pred, ◌%◌, ◌≤◌}
use native.Mathlib.Omega.{arith}
use lib.Dec.{eqb}
use lib.IntN.{ℤ, pos, negsuc, nat_abs}
use lib.Signed.{non_neg}
use borrow.Author.Tests.{ne_eqb, eqb-true, leb-true, le-leb}
use Rattle.laws.specs.Choose.{choose}
use Rattle.laws.proofs.Choose.{choose_cases, if_yes, if_no, and_both, both_and, or_either, never}
use Rattle.rules.specs.declared.Wait.{Wait}
use Rattle.rules.specs.declared.Wait.TheVariants.{Poll, Forever}
use Rattle.rules.specs.Numbers.{allowed, is_binary, class_maximum, allowed_count}
use Rattle.rules.specs.Machine.{Slot, Tables, task_of, slot_of, slot_named}
use Rattle.rules.specs.Agreement.{agrees}
use Rattle.rules.specs.Semaphore.{Taken, Given, polls, take_step, give_step, pass_step}
use Rattle.rules.specs.Calls.{Outcome, open_slot, create_refusal, create, obtain_refusal, obtain, release_refusal, release, perform}
use Rattle.rules.proofs.Invariants.Agreeing.{true_agrees}
use Rattle.rules.proofs.Invariants.FromTests.{agrees_facts}
use Rattle.rules.proofs.Invariants.Refusals.{Caller}
use Rattle.rules.proofs.History.Used.{named_names}
use Rattle.mapping.specs.Mapping.{entry_of, list_agrees, ListFits}
use Rattle.mapping.proofs.Agreeing.{list_fits}
use Rattle.itron.specs.declared.Coded.{Coded}
use Rattle.itron.specs.declared.Reference.{Reference}
use Rattle.itron.specs.Codes.{code_of, status_code}
use Rattle.itron.specs.Calls.{Listed, counts_allowed, attributes_of, wait_for, cre_refusal, del_refusal, sig_refusal, twai_refusal, ref_sem}
use Rattle.family.specs.Family.{Itron, called, codes, ref_codes, is_signed, itron_fits}
use Rattle.family.specs.Family.Itron.{CreSem, DelSem, SigSem, WaiSem, PreqSem, TwaiSem}
use Rattle.family.specs.Promises.{is_code, wait_codes}
use Rattle.family.proofs.Standing.{refusal_of, classic_of, code_by, outcome_of, called_is}
use Rattle.family.proofs.Passing.{Anyone, maxsem_signed, task_may, any_may, cre_passed, del_passed, sig_passed, twai_passed}
use Rattle.family.proofs.Entries.{Mappable, mappable_is}
use Rattle.family.proofs.Ending.{counting_unowned, delete_allowed_done}

-- ---- the checks

choose_in : (list : List ℤ) (test : Bool) (a b : ℤ) → is_code a list ≡ true → is_code b list ≡ true → is_code (choose test a b) list ≡ true
choose_in list test a b f g = choose_cases (λ z. is_code z list ≡ true) test a b (λ e. f) (λ e. g)

-- -1 passes its check, so that wai_sem's are those of del_sem
wai_listed : (t : Tables) (list : List ℕ) (caller semid : ℕ) → is_code (del_refusal t list caller semid) (codes (WaiSem caller semid)) ≡ true
unfolding choose is_code codes del_refusal
wai_listed t list caller semid = search choose_in depth 14

preq_listed : (t : Tables) (list : List ℕ) (caller semid : ℕ) → is_code (del_refusal t list caller semid) (codes (PreqSem caller semid)) ≡ true
unfolding choose is_code codes del_refusal
preq_listed t list caller semid = search choose_in depth 14

refusal_listed : (call : Itron) (t : Tables) (list : List ℕ) → is_code (refusal_of call t list) (codes call) ≡ true
unfolding choose is_code codes refusal_of cre_refusal del_refusal sig_refusal twai_refusal
refusal_listed (CreSem caller semid sematr isemcnt maxsem) t list = search choose_in depth 14
refusal_listed (DelSem caller semid) t list = search choose_in depth 14
refusal_listed (SigSem caller semid) t list = search choose_in depth 14
refusal_listed (WaiSem caller semid) t list = wai_listed t list caller semid
refusal_listed (PreqSem caller semid) t list = preq_listed t list caller semid
refusal_listed (TwaiSem caller semid tmout) t list = search choose_in depth 14

-- ---- a Classic call that its checks let through

-- one semaphore's step, of a semaphore without an owner: a poll is refused, and another wait begins
module _ (s : Slot) (unowned : is_binary s.attributes ≡ false) (caller : ℕ) (wait : Wait) where
  take_begins : (take_step s caller wait).status ≡ 100 → polls wait ≡ false
  unfolding take_step
  take_begins =
      choose_cases P _ _ _ (λ e z. absurd (omega arith))
      (λ e. choose_cases P _ _ _ (λ e z. never (and_both _ _ e).0 unowned)
      (λ e. choose_cases P _ _ _ (λ y z. absurd (omega arith)) (λ n z. n)))
    where
      P : Taken → Type 0
      P x = x.status ≡ 100 → polls wait ≡ false

  take_refused : (take_step s caller wait).status ≡ 13 → polls wait ≡ true
  unfolding take_step
  take_refused =
      choose_cases P _ _ _ (λ e z. absurd (omega arith))
      (λ e. choose_cases P _ _ _ (λ e z. never (and_both _ _ e).0 unowned)
      (λ e. choose_cases P _ _ _ (λ y z. y) (λ n z. absurd (omega arith))))
    where
      P : Taken → Type 0
      P x = x.status ≡ 13 → polls wait ≡ true

-- of a create that is let through up to its slot, that decides
pub create_status : (t : Tables) (caller name count attributes maximum : ℕ) → Caller t caller → (name ≡ 0 → ⊥) → allowed attributes ≡ true
    → allowed_count count attributes maximum ≡ true → (create t caller name count attributes maximum).answer.status ≡ choose (eqb (open_slot t) 0) 5 0
unfolding create create_refusal
create_status t caller name count attributes maximum c n a k =
    choose_cases (λ (o : Outcome). o.answer.status ≡ refusal) (eqb refusal 0) _ _ (λ e. sym (eqb-true refusal 0 e)) (λ e. refl)
    ∙ task_may t caller c _ ∙ if_no _ _ (ne_eqb name 0 n) ∙ if_yes _ _ a ∙ if_yes _ _ k
  where
    refusal : ℕ
    refusal = create_refusal t caller name count attributes maximum

module _ (t : Tables) (caller : ℕ) (P : ℕ → Type 0) (done : P 0) where
  abbrev Gives : Outcome → Type 0
  Gives o = P o.answer.status

  -- a create is done, or the slots have run out
  create_gives : (name count attributes maximum : ℕ) → Caller t caller → (name ≡ 0 → ⊥) → allowed attributes ≡ true
      → allowed_count count attributes maximum ≡ true → P 5 → Gives (create t caller name count attributes maximum)
  create_gives name count attributes maximum c n a k full =
      subst P (sym (create_status t caller name count attributes maximum c n a k)) (choose_cases P (eqb (open_slot t) 0) 5 0 (λ e. full) (λ e. done))

  module _ (id : ℕ) (m : Mappable t id) where
    abbrev slot : Slot
    slot = slot_of t (slot_named t id)

    unowned : is_binary slot.attributes ≡ false
    unowned =
        let at : slot_named t id ≡ id % 65536 = if_yes _ _ (named_names t id m.named) in
        subst (λ (n : ℕ). is_binary (slot_of t n).attributes ≡ false) (sym at) (counting_unowned (slot_of t (id % 65536)).attributes m.counting)

    -- a release is done, or the count is at the maximum
    release_step : (place : ℕ) → P 13 → P (give_step slot caller place).status
    unfolding give_step pass_step
    release_step place full =
        choose_cases Q _ _ _ (λ e. never (and_both _ _ e).0 unowned)
        (λ e. choose_cases Q _ _ _ (λ e. done)
        (λ e. choose_cases Q _ _ _ (λ e. done) (λ e. choose_cases Q _ _ _ (λ e. full) (λ e. done))))
      where
        Q : Given → Type 0
        Q g = P g.status

    release_gives : Anyone t caller → P 13 → Gives (release t caller id)
    unfolding release release_refusal
    release_gives c full =
        choose_cases Gives (eqb (release_refusal t caller id) 0) _ _ (λ y. done)
        (λ y. subst P (sym (any_may t caller c _ ∙ if_yes _ _ (named_names t id m.named))) (release_step _ full))

    -- an obtain is done, or refused where it polls, or else begins a wait
    obtain_gives : (wait : Wait) → Caller t caller → (polls wait ≡ true → P 13) → (polls wait ≡ false → P 100) → Gives (obtain t caller id wait)
    unfolding obtain obtain_refusal
    obtain_gives wait c none begun =
        choose_cases Gives (eqb (obtain_refusal t caller id wait) 0) _ _
        (λ y. choose_cases Gives (eqb status 100) _ _ (λ z. begun (take_begins slot unowned caller wait (eqb-true _ _ z))) (λ z. done))
        (λ y.
        subst P (sym (task_may t caller c _ ∙ if_yes _ _ (named_names t id m.named)))
        (choose_cases P (eqb status 13) 13 0 (λ z. none (take_refused slot unowned caller wait (eqb-true _ _ z))) (λ z. done)))
      where
        status : ℕ
        status = (take_step slot caller wait).status

-- ---- the numbers of cre_sem

pub attributes_allowed_lem : (sematr : ℕ) → allowed (attributes_of sematr) ≡ true
unfolding choose
attributes_allowed_lem sematr = choose_cases (λ (a : ℕ). allowed a ≡ true) (eqb sematr 0) 0 4 (λ e. refl) (λ e. refl)

counting_maximum : (sematr : ℕ) → class_maximum (attributes_of sematr) ≡ 4294967295
unfolding choose
counting_maximum sematr = choose_cases (λ (a : ℕ). class_maximum a ≡ 4294967295) (eqb sematr 0) 0 4 (λ e. refl) (λ e. refl)

pub counts_allowed_lem : (sematr : ℕ) (isemcnt maxsem : ℤ) → counts_allowed isemcnt maxsem ≡ true → is_signed maxsem ≡ true
    → allowed_count (nat_abs isemcnt) (attributes_of sematr) (nat_abs maxsem) ≡ true
counts_allowed_lem sematr (pos i) (pos m) c s =
    let counts = and_both _ _ (and_both _ _ c).1 in
    let few : m ≤ class_maximum (attributes_of sematr) = omega (arith, counting_maximum sematr, leb-true m 2147483647 (and_both _ _ s).1) in
    both_and (both_and counts.0 (le-leb m _ few)) counts.1
counts_allowed_lem sematr (pos i) (negsuc m) c s = never (and_both _ _ (and_both _ _ c).1).0 refl
counts_allowed_lem sematr (negsuc i) maxsem c s = never (and_both _ _ c).0 refl

-- ---- the theorems

module _ (t : Tables) (list : List ℕ) (a : agrees t ≡ true) (l : list_agrees t list ≡ true) where
  mappable : (semid : ℕ) → entry_of list semid ≢ 0 → Mappable t (entry_of list semid)
  mappable semid n = let f : ListFits t list = list_fits l in mappable_is t _ (f.mappable _ n)

  done_listed : (call : Itron) → itron_fits call ≡ true → non_neg (refusal_of call t list) ≡ true
      → is_code (code_by call (outcome_of call t list).answer.status) (codes call) ≡ true
  unfolding choose code_of status_code is_code codes code_by classic_of refusal_of perform
  done_listed (CreSem caller semid sematr isemcnt maxsem) e y =
      let u = cre_passed t list caller semid sematr isemcnt maxsem y in
      create_gives t caller (λ n. is_code (code_by (CreSem caller semid sematr isemcnt maxsem) n) (codes (CreSem caller semid sematr isemcnt maxsem)) ≡ true) refl
      semid (nat_abs isemcnt) (attributes_of sematr) (nat_abs maxsem) u.task (λ z. omega (arith, u.range.low)) (attributes_allowed_lem sematr)
      (counts_allowed_lem sematr isemcnt maxsem u.counts (maxsem_signed caller semid sematr isemcnt maxsem e)) refl
  done_listed (DelSem caller semid) e y =
      let u = del_passed t list caller semid y in
      subst (λ n. is_code (code_of n) (codes (DelSem caller semid)) ≡ true) (sym (delete_allowed_done t caller _ u.task (mappable semid u.something))) refl
  done_listed (SigSem caller semid) e y =
      let u = sig_passed t list caller semid y in
      release_gives t caller (λ n. is_code (code_by (SigSem caller semid) n) (codes (SigSem caller semid)) ≡ true) refl
      _ (mappable semid u.something) u.anyone refl
  done_listed (WaiSem caller semid) e y =
      let u = twai_passed t list caller semid _ y in
      obtain_gives t caller (λ n. is_code (code_by (WaiSem caller semid) n) (codes (WaiSem caller semid)) ≡ true) refl
      _ (mappable semid u.something) Forever u.task (λ z. never z refl) (λ z. refl)
  done_listed (PreqSem caller semid) e y =
      let u = twai_passed t list caller semid _ y in
      obtain_gives t caller (λ n. is_code (code_by (PreqSem caller semid) n) (codes (PreqSem caller semid)) ≡ true) refl
      _ (mappable semid u.something) Poll u.task (λ z. refl) (λ z. never refl z)
  done_listed (TwaiSem caller semid tmout) e y =
      let u = twai_passed t list caller semid tmout y in
      obtain_gives t caller (λ n. is_code (code_by (TwaiSem caller semid tmout) n) (codes (TwaiSem caller semid tmout)) ≡ true) refl
      _ (mappable semid u.something) (wait_for tmout) u.task (λ z. refl) (λ z. refl)

  pub codes_listed : (call : Itron) → itron_fits call ≡ true → is_code (called call t list).answer.code (codes call) ≡ true
  codes_listed call e =
      subst (λ (x : Listed Coded). is_code x.answer.code (codes call) ≡ true) (sym (called_is call t list))
      (choose_cases (λ (x : Listed Coded). is_code x.answer.code (codes call) ≡ true) (non_neg (refusal_of call t list)) _ _
      (λ y. done_listed call e y) (λ n. refusal_listed call t list))

-- ref_sem's, on any tables and list
sig_listed : (t : Tables) (list : List ℕ) (caller semid : ℕ) → is_code (sig_refusal t list caller semid) ref_codes ≡ true
unfolding choose is_code sig_refusal
sig_listed t list caller semid = search choose_in depth 14

pub ref_codes_listed : (t : Tables) (list : List ℕ) (caller semid : ℕ) → is_code (ref_sem t list caller semid).code ref_codes ≡ true
unfolding ref_sem choose is_code
ref_codes_listed t list caller semid =
    choose_cases (λ (x : Reference). is_code x.code ref_codes ≡ true) (non_neg (sig_refusal t list caller semid)) _ _ (λ y. refl)
    (λ n. sig_listed t list caller semid)

-- ---- a task's answer

-- on tables that agree a task's answer is one of those, and so its code is not E_SYS
pub answers_known : (t : Tables) → agrees t ≡ true → (q : ℕ) → is_code (code_of (task_of t q).answer) wait_codes ≡ true
unfolding choose code_of is_code
answers_known t a q =
    ⊎_elim (is 100 refl)
    (λ e. ⊎_elim (is 0 refl) (λ e. ⊎_elim (is 6 refl) (λ e. ⊎_elim (is 7 refl) (is 13 refl) (or_either _ _ e)) (or_either _ _ e)) (or_either _ _ e))
    (or_either _ _ ((agrees_facts t (true_agrees t a)).tasks (pred q)).answer)
  where
    is : (n : ℕ) → is_code (code_of n) wait_codes ≡ true → eqb (task_of t q).answer n ≡ true → is_code (code_of (task_of t q).answer) wait_codes ≡ true
    is n k e = subst (λ (x : ℕ). is_code (code_of x) wait_codes ≡ true) (sym (eqb-true (task_of t q).answer n e)) k
