-- Runs: a semid may come back, an identifier does not, and a Classic delete without the list ends the list for good.
use mathlib.Core.Path.{◌≡◌, refl, sym, ap, subst, ◌∙◌}
use mathlib.Core.Bool.{Bool, true, false}
use mathlib.Core.List.{List, [], ◌∷◌, ◌++◌}
use mathlib.Core.Logic.{◌≢◌, ⊎_elim}
use Prim.Native.Nat.{ℕ, pred, ◌%◌}
use native.Mathlib.Omega.{arith}
use lib.Dec.{eqb}
use lib.IntN.{ℤ, nat_abs}
use lib.Seq.{get_or-set_same}
use lib.Signed.{non_neg}
use borrow.Author.Tests.{eqb-true, eq-eqb}
use Rattle.laws.specs.Choose.{◌and◌}
use Rattle.laws.proofs.Choose.{choose_cases, choose_same, if_yes, if_no, and_both, tested, never}
use Rattle.rules.specs.declared.Call.{Call}
use Rattle.rules.specs.declared.Call.TheVariants.{Create, Delete}
use Rattle.rules.specs.Machine.{Tables, slot_of, is_live, names}
use Rattle.rules.specs.Agreement.{agrees}
use Rattle.rules.specs.Calls.{Outcome, delete, perform, step}
use Rattle.rules.specs.Runs.{Request, step_of, after}
use Rattle.rules.proofs.Invariants.Agreeing.{true_agrees, sizes_within}
use Rattle.rules.proofs.History.Used.{Used, Ended, named_names, named_used, ended_unnamed}
use Rattle.rules.proofs.History.Done.{Created, create_done, deleted_ended, delete_done}
use Rattle.rules.proofs.History.Identifiers.{used_after, ended_after, created_unused, created_named}
use Rattle.mapping.specs.Mapping.{entry_of, map_to, list_agrees, ListFits}
use Rattle.mapping.proofs.Agreeing.{list_fits}
use Rattle.itron.specs.declared.Coded.{Coded}
use Rattle.itron.specs.Codes.{e_ok, code_of, status_code}
use Rattle.itron.specs.Calls.{Listed, over, attributes_of, delete_mapped}
use Rattle.family.specs.Family.{Itron, called, Event}
use Rattle.family.specs.Family.Itron.{CreSem, DelSem}
use Rattle.family.specs.Family.Event.{Family, DeleteMapped, Classic}
use Rattle.family.proofs.Standing.{refusal_of, classic_of, code_by, list_by, outcome_of, called_is}
use Rattle.family.proofs.Runs.{Both, agree_together, both_after, both_after_all, both_code}
use Rattle.family.proofs.Passing.{Ranged, cre_passed, del_passed}
use Rattle.family.proofs.Entries.{mappable_is}
use Rattle.family.proofs.Ending.{step_is, delete_valueless}

-- ---- a run among Classic requests

-- the tables are those after some requests of the manager
abbrev AsRequests : Tables → Tables → Type 0
AsRequests t u = (requests : List Request) × (u ≡ after t requests)

module _ (t : Tables) where
  as_none : AsRequests t t
  unfolding after
  as_none = ([], refl)

  as_one : agrees t ≡ true → (call : Call) → AsRequests t (perform t call []).tables
  unfolding after
  as_one a call = (record { call = call; priorities = [] } ∷ [], ap (λ (o : Outcome). o.tables) (sym (step_is t call [] a)))

after_join : (t : Tables) (rs qs : List Request) → after t (rs ++ qs) ≡ after (after t rs) qs
unfolding after
after_join t [] qs = refl
after_join t (r ∷ rs) qs = after_join (step_of t r).tables rs qs

event_as_requests : (b : Both) (e : Event) → AsRequests b.tables (both_after b e).tables
unfolding both_after after delete_mapped perform
event_as_requests b (Family call) =
    choose_cases (λ (x : Both). AsRequests b.tables x.tables) (agree_together b) _ b
    (λ y.
    subst (λ (x : Listed Coded). AsRequests b.tables x.tables) (sym (called_is call b.tables b.list))
    (choose_cases (λ (x : Listed Coded). AsRequests b.tables x.tables) (non_neg (refusal_of call b.tables b.list)) _ _
    (λ d. as_one b.tables (and_both _ _ y).0 (classic_of call b.list)) (λ d. as_none b.tables)))
    (λ n. as_none b.tables)
event_as_requests b (DeleteMapped caller id) =
    choose_cases (λ (x : Both). AsRequests b.tables x.tables) (agree_together b) _ b
    (λ y. as_one b.tables (and_both _ _ y).0 (Delete caller id)) (λ n. as_none b.tables)
event_as_requests b (Classic r) = (r ∷ [], refl)

pub run_as_requests : (b : Both) (events : List Event) → (requests : List Request) × ((both_after_all b events).tables ≡ after b.tables requests)
unfolding both_after_all
run_as_requests b [] = as_none b.tables
run_as_requests b (e ∷ es) =
    let one = event_as_requests b e in
    let rest = run_as_requests (both_after b e) es in
    (one.0 ++ rest.0, rest.1 ∙ ap (λ (t : Tables). after t rest.0) one.1 ∙ sym (after_join b.tables one.0 rest.0))

-- so what was used or has ended stays so
used_later : (b : Both) (events : List Event) (id : ℕ) → Used b.tables id → Used (both_after_all b events).tables id
used_later b events id u =
    let r = run_as_requests b events in
    subst (λ (t : Tables). Used t id) (sym r.1) (used_after b.tables id r.0 u)

ended_later : (b : Both) (events : List Event) (id : ℕ) → Ended b.tables id → Ended (both_after_all b events).tables id
ended_later b events id d =
    let r = run_as_requests b events in
    subst (λ (t : Tables). Ended t id) (sym r.1) (ended_after b.tables id r.0 d)

-- what named a semaphore and names none any more has ended
unnamed_ended : (t : Tables) (id : ℕ) → Used t id → names t id ≡ false → Ended t id
unnamed_ended t id u n = record {
  used = u;
  gone = λ e.
      ⊎_elim
      (λ (l : is_live (slot_of t (id % 65536)) ≡ true). never (named_names t id (record { low = u.low; high = u.high; lives = l; generation = sym e })) n)
      (λ (l : is_live (slot_of t (id % 65536)) ≡ false). l) (tested (is_live (slot_of t (id % 65536))));
}

-- so whatever event ended it, it never names one again
pub unnamed_stays : (b : Both) (id : ℕ) → names b.tables id ≡ true → (event : Event) → names (both_after b event).tables id ≡ false
    → (events : List Event) → names (both_after_all (both_after b event) events).tables id ≡ false
unfolding both_after_all
unnamed_stays b id y event n events =
    ended_unnamed _ id (ended_later (both_after b event) events id
    (unnamed_ended (both_after b event).tables id (used_later b (event ∷ []) id (named_used b.tables id y)) n))

-- ---- E_OK

pub ok_is : {z : ℤ} → z ≡ e_ok → (non_neg z ≡ true) × (nat_abs z ≡ 0)
ok_is e = (ap non_neg e, ap nat_abs e)

task_ok : (status : ℕ) → code_of status ≡ e_ok → status ≡ 0
unfolding code_of
task_ok status =
    choose_cases P (eqb status 0) _ _ (λ y e. eqb-true _ _ y)
    (λ n. choose_cases P (eqb status 100) _ _ (λ y e. absurd (omega (arith, (ok_is e).1)))
    (λ n. choose_cases P (eqb status 6) _ _ (λ y e. never (ok_is e).0 refl)
    (λ n. choose_cases P (eqb status 7) _ _ (λ y e. never (ok_is e).0 refl)
    (λ n. choose_cases P (eqb status 13) _ _ (λ y e. never (ok_is e).0 refl) (λ y e. never (ok_is e).0 refl)))))
  where
    P : ℤ → Type 0
    P z = z ≡ e_ok → status ≡ 0

status_ok : (refusal : ℕ) (code : ℤ) → non_neg code ≡ false → (status : ℕ) → status_code refusal code status ≡ e_ok → status ≡ 0
unfolding status_code
status_ok refusal code n status =
    choose_cases (λ (z : ℤ). z ≡ e_ok → status ≡ 0) (eqb status refusal) code (code_of status) (λ y e. never (ok_is e).0 n) (λ y. task_ok status)

-- a call that gave E_OK has passed its checks, on tables and a list that agree
record Done (b : Both) (call : Itron) : Type 0 where
  agree : agree_together b ≡ true
  passed : non_neg (refusal_of call b.tables b.list) ≡ true
  code : code_by call (outcome_of call b.tables b.list).answer.status ≡ e_ok
  list : (both_after b (Family call)).list ≡ list_by call b.list (outcome_of call b.tables b.list)
  tables : (both_after b (Family call)).tables ≡ (outcome_of call b.tables b.list).tables

module _ (b : Both) (call : Itron) where
  ok_done : both_code b call ≡ e_ok → Done b call
  unfolding both_after
  ok_done e = ⊎_elim agreed (λ n. never (ok_is (sym (if_no _ _ n) ∙ e)).0 refl) (tested (agree_together b))
    where
      done : Outcome
      done = outcome_of call b.tables b.list

      refusal : ℤ
      refusal = refusal_of call b.tables b.list

      both : Listed Coded → Both
      both x = record { tables = x.tables; list = x.list }

      passed_is : non_neg refusal ≡ true → called call b.tables b.list ≡ over (code_by call) (list_by call b.list done) done
      passed_is p = called_is call b.tables b.list ∙ if_yes _ _ p

      agreed : agree_together b ≡ true → Done b call
      agreed y =
          ⊎_elim
          (λ (p : non_neg refusal ≡ true).
          let left = if_yes _ _ y ∙ ap {B = Both} both (passed_is p) in
          record {
            agree = y;
            passed = p;
            code = sym (ap (λ (x : Listed Coded). x.answer.code) (passed_is p)) ∙ told;
            list = ap (λ (x : Both). x.list) left;
            tables = ap (λ (x : Both). x.tables) left;
          })
          (λ (n : non_neg refusal ≡ false).
          never (ok_is (sym (ap (λ (x : Listed Coded). x.answer.code) (called_is call b.tables b.list ∙ if_no _ _ n)) ∙ told)).0 n)
          (tested (non_neg refusal))
        where
          told : (called call b.tables b.list).answer.code ≡ e_ok
          told = sym (if_yes _ _ y) ∙ e

  -- the entry of a semid of 1..S, as it is set
  entry_set : (semid id : ℕ) → agree_together b ≡ true → Ranged b.tables semid → entry_of (map_to b.list semid id) semid ≡ id
  entry_set semid id y r =
      let a = and_both _ _ y in
      let f : ListFits b.tables b.list = list_fits a.1 in
      get_or-set_same b.list (pred semid) id 0 (omega (arith, r.low, r.high, (sizes_within _ (true_agrees _ a.0).sizes).slots, f.long))

-- ---- cre_sem and del_sem

-- a semaphore with an identifier that no semaphore had before
pub record Made (b : Both) (left : Both) (semid : ℕ) : Type 0 where
  pub named : names left.tables (entry_of left.list semid) ≡ true
  pub new : Used b.tables (entry_of left.list semid) → ⊥

module _ (b : Both) (caller semid sematr : ℕ) (isemcnt maxsem : ℤ) where
  abbrev cre : Itron
  cre = CreSem caller semid sematr isemcnt maxsem

  pub cre_made : both_code b cre ≡ e_ok → Made b (both_after b (Family cre)) semid
  unfolding refusal_of classic_of code_by list_by
  cre_made e =
      let d = ok_done b cre e in
      let a = (and_both _ _ d.agree).0 in
      let done = status_ok 5 _ refl _ d.code in
      let s = step_is b.tables (Create caller semid (nat_abs isemcnt) (attributes_of sematr) (nat_abs maxsem)) [] a in
      let c = subst (Created b.tables (nat_abs maxsem)) s
      (create_done b.tables caller semid (nat_abs isemcnt) (attributes_of sematr) (nat_abs maxsem) [] (ap (λ (o : Outcome). o.answer.status) s ∙ done)) in
      let id : entry_of (both_after b (Family cre)).list semid ≡ (outcome_of cre b.tables b.list).answer.value =
      ap (λ (l : List ℕ). entry_of l semid) (d.list ∙ if_yes _ _ (eq-eqb _ _ done))
      ∙ entry_set b cre semid _ d.agree (cre_passed b.tables b.list caller semid sematr isemcnt maxsem d.passed).range
      in
      record {
        named = rw (id, d.tables) (created_named b.tables _ c);
        new = λ u. created_unused b.tables _ c (subst (Used b.tables) id u);
      }

module _ (b : Both) (caller semid sematr : ℕ) (isemcnt maxsem : ℤ) (e : both_code b (CreSem caller semid sematr isemcnt maxsem) ≡ e_ok) where
  abbrev made : Both
  made = both_after b (Family (CreSem caller semid sematr isemcnt maxsem))

  -- two creates that give E_OK leave different identifiers, whatever is called between them and at whatever semids
  pub created_entries_differ : (events : List Event) (caller' semid' sematr' : ℕ) (isemcnt' maxsem' : ℤ) → let u = both_after_all made events in
      let again = CreSem caller' semid' sematr' isemcnt' maxsem' in
      both_code u again ≡ e_ok → entry_of made.list semid ≢ entry_of (both_after u (Family again)).list semid'
  created_entries_differ events caller' semid' sematr' isemcnt' maxsem' e' same =
      let used = used_later made events _ (named_used made.tables _ (cre_made b caller semid sematr isemcnt maxsem e).named) in
      (cre_made (both_after_all made events) caller' semid' sematr' isemcnt' maxsem' e').new (subst (Used (both_after_all made events).tables) same used)

-- del_sem leaves nothing at its semid, and the identifier that stood there has ended
module _ (b : Both) (caller semid : ℕ) (e : both_code b (DelSem caller semid) ≡ e_ok) where
  abbrev deleted : Both
  deleted = both_after b (Family (DelSem caller semid))

  abbrev gone : ℕ
  gone = entry_of b.list semid

  del_done_lem : Done b (DelSem caller semid)
  del_done_lem = ok_done b (DelSem caller semid) e

  del_status : (delete b.tables caller gone).answer.status ≡ 0
  unfolding classic_of code_by perform
  del_status = task_ok _ del_done_lem.code

  pub del_range : Ranged b.tables semid
  unfolding refusal_of
  del_range = (del_passed b.tables b.list caller semid del_done_lem.passed).range

  pub deleted_is_nothing : entry_of deleted.list semid ≡ 0
  unfolding classic_of list_by perform
  deleted_is_nothing =
      ap (λ (l : List ℕ). entry_of l semid) (del_done_lem.list ∙ if_yes _ _ (eq-eqb _ _ del_status))
      ∙ entry_set b (DelSem caller semid) semid _ del_done_lem.agree del_range
      ∙ delete_valueless b.tables caller gone

  pub del_tables : deleted.tables ≡ (delete b.tables caller gone).tables
  unfolding classic_of perform
  del_tables = del_done_lem.tables

  del_ended : Ended deleted.tables gone
  unfolding classic_of perform
  del_ended =
      let s = step_is b.tables (Delete caller gone) [] (and_both _ _ del_done_lem.agree).0 in
      let d = delete_done b.tables caller gone [] (ap (λ (o : Outcome). o.answer.status) s ∙ del_status) in
      subst (λ (t : Tables). Ended t gone) (ap (λ (o : Outcome). o.tables) s ∙ sym del_done_lem.tables) (deleted_ended d)

  -- a semaphore that a later cre_sem makes, at this or another semid, has another identifier
  pub deleted_never_given : (events : List Event) (caller' semid' sematr' : ℕ) (isemcnt' maxsem' : ℤ) → let u = both_after_all deleted events in
      let again = CreSem caller' semid' sematr' isemcnt' maxsem' in both_code u again ≡ e_ok → gone ≢ entry_of (both_after u (Family again)).list semid'
  deleted_never_given events caller' semid' sematr' isemcnt' maxsem' e' same =
      (cre_made (both_after_all deleted events) caller' semid' sematr' isemcnt' maxsem' e').new
      (subst (Used (both_after_all deleted events).tables) same (used_later deleted events gone del_ended.used))

-- ---- Classic delete without the list

-- a list with an entry that has ended disagrees, and no event alters it
module _ (list : List ℕ) (semid : ℕ) (some : entry_of list semid ≢ 0) where
  ended_disagrees : (t : Tables) → Ended t (entry_of list semid) → list_agrees t list ≡ false
  ended_disagrees t d =
      ⊎_elim
      (λ (y : list_agrees t list ≡ true).
      let f : ListFits t list = list_fits y in
      never (named_names t _ (mappable_is t _ (f.mappable (pred semid) some)).named) (ended_unnamed t _ d))
      (λ (n : list_agrees t list ≡ false). n) (tested (list_agrees t list))

  both_disagree : (t : Tables) → Ended t (entry_of list semid) → agree_together (record { tables = t; list = list }) ≡ false
  both_disagree t d = ap (λ (x : Bool). agrees t and x) (ended_disagrees t d) ∙ choose_same (agrees t) false

  unaltered : (t : Tables) (event : Event) → Ended t (entry_of list semid) → (both_after (record { tables = t; list = list }) event).list ≡ list
  unfolding both_after
  unaltered t (Family call) d = ap (λ (x : Both). x.list) (if_no _ _ (both_disagree t d))
  unaltered t (DeleteMapped caller id) d = ap (λ (x : Both). x.list) (if_no _ _ (both_disagree t d))
  unaltered t (Classic r) d = refl

  stays_ended : (t : Tables) (events : List Event) → Ended t (entry_of list semid) → let b = both_after_all (record { tables = t; list = list }) events in
      (list_agrees b.tables b.list ≡ false) × (b.list ≡ list)
  unfolding both_after_all
  stays_ended t [] d = (ended_disagrees t d, refl)
  stays_ended t (event ∷ events) d =
      let b = both_after (record { tables = t; list = list }) event in
      let same = unaltered t event d in
      let ended : Ended b.tables (entry_of list semid) = ended_later (record { tables = t; list = list }) (event ∷ []) _ d in
      subst
      (λ (l : List ℕ). let x = both_after_all (record { tables = b.tables; list = l }) events in (list_agrees x.tables x.list ≡ false) × (x.list ≡ list))
      (sym same) (stays_ended b.tables events ended)

  -- once done without the list on a mapped semaphore, the list never agrees again, whatever is called, and stays as it is
  pub plain_delete_ends_the_list : (t : Tables) (caller : ℕ) (priorities : List ℕ) → let o = step t (Delete caller (entry_of list semid)) priorities in
      o.answer.status ≡ 0 → (events : List Event) → let b = both_after_all (record { tables = o.tables; list = list }) events in
      (list_agrees b.tables b.list ≡ false) × (b.list ≡ list)
  plain_delete_ends_the_list t caller priorities z events =
      stays_ended _ events (deleted_ended (delete_done t caller (entry_of list semid) priorities z))
