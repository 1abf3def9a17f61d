-- A semid is free after its delete: nothing stands there, and a create of it is refused for its caller, its arguments or want of a slot alone.
use mathlib.Core.Path.{◌≡◌, refl, sym, ap, subst, ◌∙◌}
use mathlib.Core.Bool.{true, false}
use mathlib.Core.List.{List, [], ◌∷◌}
use mathlib.Core.Logic.{◌≢◌, ⊎_elim}
use Prim.Native.Nat.{ℕ, pred, ◌%◌}
use native.Mathlib.Omega.{arith}
use lib.Dec.{eqb}
use lib.IntN.{ℤ, nat_abs}
use borrow.Author.Tests.{eqb-false, eq-eqb, ne_eqb, leb-true, le-leb}
use Rattle.laws.specs.Choose.{choose, ◌or◌}
use Rattle.laws.proofs.Choose.{choose_cases, if_yes, if_no, and_both, both_and, isnt_false, tested}
use Rattle.rules.specs.declared.Answer.{Answer}
use Rattle.rules.specs.declared.Call.TheVariants.{Delete}
use Rattle.rules.specs.Machine.{Tables}
use Rattle.rules.specs.Calls.{open_slot, delete, perform}
use Rattle.rules.specs.Promises.{is_in}
use Rattle.rules.proofs.Invariants.Agreeing.{true_agrees}
use Rattle.rules.proofs.Invariants.Refusals.{Caller}
use Rattle.rules.proofs.History.Used.{names_named}
use Rattle.tables.specs.Layout.{model_of}
use Rattle.calls.proofs.Agreeing.{model_of_agrees}
use Rattle.mapping.specs.Mapping.{entry_of, forgotten, ListFits}
use Rattle.mapping.proofs.Agreeing.{list_fits}
use Rattle.mapping.proofs.Forgotten.{get_d_forgotten}
use Rattle.itron.specs.declared.Coded.{Coded}
use Rattle.itron.specs.Codes.{e_ok, e_nomem, code_of, status_code}
use Rattle.itron.specs.Calls.{Listed, counts_allowed, attributes_of, cre_refusal, delete_mapped}
use Rattle.itron_calls.specs.Reply.{both_agree, ListReply, reply_with, code_reply, delete_reply}
use Rattle.itron_calls.proofs.Replying.{list_agrees_lem}
use Rattle.family.specs.Family.{Itron, called, is_signed, itron_fits}
use Rattle.family.specs.Family.Itron.{CreSem, DelSem}
use Rattle.family.specs.Family.Event.{Family}
use Rattle.family.specs.Promises.{SemidFree}
use Rattle.family.proofs.Standing.{refusal_of, classic_of, code_by, called_is}
use Rattle.family.proofs.Runs.{Both, agree_together, both_after, both_code}
use Rattle.family.proofs.Passing.{Ranged, maxsem_signed, task_let_in}
use Rattle.family.proofs.Ending.{delete_done_named}
use Rattle.family.proofs.Kept.{family_kept, mapped_delete_kept, stays}
use Rattle.family.proofs.Equations.{reply_called, disagreed_deletes_nothing}
use Rattle.family.proofs.Replies.{tables_agree, family_reply_kept, mapped_delete_reply_kept, ok_agree}
use Rattle.family.proofs.Codes.{create_status, attributes_allowed_lem, counts_allowed_lem}
use Rattle.family.proofs.Identifiers.{ok_is, deleted_is_nothing, del_range, del_tables}

-- ---- a create at a semid of 1..S that stands for nothing

module _ (t : Tables) (list : List ℕ) (caller semid sematr : ℕ) (isemcnt maxsem : ℤ) (c : Caller t caller) (r : Ranged t semid) (free : entry_of list semid ≡ 0)
    (a : (eqb sematr 0 or eqb sematr 1) ≡ true) (n : counts_allowed isemcnt maxsem ≡ true) (signed : is_signed maxsem ≡ true) where
  not_refused : cre_refusal t list caller semid sematr isemcnt maxsem ≡ e_ok
  unfolding cre_refusal
  not_refused =
      task_let_in t caller c _ ∙ if_yes _ _ (both_and (le-leb _ _ r.low) (le-leb _ _ r.high)) ∙ if_yes _ _ (eq-eqb _ _ free) ∙ if_yes _ _ a ∙ if_yes _ _ n

  status_code_lem : (slot : ℕ) → status_code 5 e_nomem (choose (eqb slot 0) 5 0) ≡ choose (eqb slot 0) e_nomem e_ok
  unfolding status_code code_of choose
  status_code_lem slot =
      ⊎_elim (λ (y : eqb slot 0 ≡ true). ap (λ (x : ℕ). status_code 5 e_nomem x) (if_yes 5 0 y) ∙ sym (if_yes e_nomem e_ok y))
      (λ (y : eqb slot 0 ≡ false). ap (λ (x : ℕ). status_code 5 e_nomem x) (if_no 5 0 y) ∙ sym (if_no e_nomem e_ok y)) (tested (eqb slot 0))

  free_creates : (called (CreSem caller semid sematr isemcnt maxsem) t list).answer.code ≡ choose (eqb (open_slot t) 0) e_nomem e_ok
  unfolding perform refusal_of classic_of code_by
  free_creates =
      ap (λ (x : Listed Coded). x.answer.code) (called_is (CreSem caller semid sematr isemcnt maxsem) t list ∙ if_yes _ _ (ok_is not_refused).0)
      ∙ ap (λ (s : ℕ). status_code 5 e_nomem s)
      (create_status t caller semid (nat_abs isemcnt) (attributes_of sematr) (nat_abs maxsem) c (λ z. omega (arith, r.low)) (attributes_allowed_lem sematr)
      (counts_allowed_lem sematr isemcnt maxsem n signed))
      ∙ status_code_lem (open_slot t)

-- so such a semid is free
free_semid : (bs list : List ℕ) (semid : ℕ) → both_agree bs list ≡ true → Ranged (model_of bs) semid → entry_of list semid ≡ 0 → SemidFree bs list semid
free_semid bs list semid agree r free = record {
  nothing = free;
  created = λ caller sematr isemcnt maxsem f ready a n.
      let p = and_both _ _ ready in
      let w = and_both _ _ p.0 in
      let c : Caller (model_of bs) caller = record { first = leb-true _ _ w.0; last = leb-true _ _ w.1; ready = isnt_false _ p.1 } in
      ap (λ (x : ListReply Coded). x.answer.code) (reply_called bs list agree (called (CreSem caller semid sematr isemcnt maxsem)))
      ∙ free_creates (model_of bs) list caller semid sematr isemcnt maxsem c r free a n (maxsem_signed caller semid sematr isemcnt maxsem f);
}

-- and S stays as it is at a delete
still_ranged : (bs list : List ℕ) (caller id semid : ℕ) → both_agree bs list ≡ true → Ranged (model_of bs) semid
    → Ranged (delete (model_of bs) caller id).tables semid
unfolding perform
still_ranged bs list caller id semid agree r =
    let s = stays (model_of bs) list (tables_agree bs list agree) (list_agrees_lem bs list agree) (Delete caller id) [] (omega (arith, r.low, r.high)) in
    record { low = r.low; high = omega (arith, r.high, s.same_size) }

-- ---- after del_sem

module _ (bs list : List ℕ) (caller semid : ℕ) (fits : itron_fits (DelSem caller semid) ≡ true)
    (e : (code_reply bs list (called (DelSem caller semid))).answer.code ≡ e_ok) where
  abbrev del : Itron
  del = DelSem caller semid

  abbrev before : Both
  before = record { tables = model_of bs; list = list }

  abbrev left : ListReply Coded
  left = code_reply bs list (called del)

  agree : both_agree bs list ≡ true
  agree = ok_agree bs list del e

  both : agree_together before ≡ true
  both = both_and (tables_agree bs list agree) (list_agrees_lem bs list agree)

  model_ok : both_code before del ≡ e_ok
  model_ok = if_yes _ _ both ∙ sym (ap (λ (r : ListReply Coded). r.answer.code) (reply_called bs list agree (called del))) ∙ e

  same_list : left.list ≡ (both_after before (Family del)).list
  unfolding both_after
  same_list =
      ap (λ (r : ListReply Coded). r.list) (reply_called bs list agree (called del)) ∙ sym (ap (λ (b : Both). b.list) (if_yes _ _ both))

  same_tables : model_of left.bytes ≡ (delete (model_of bs) caller (entry_of list semid)).tables
  unfolding both_after
  same_tables =
      ap (λ (r : ListReply Coded). model_of r.bytes) (reply_called bs list agree (called del))
      ∙ model_of_agrees _ (true_agrees _ (family_kept (model_of bs) list (tables_agree bs list agree) (list_agrees_lem bs list agree) del fits).0)
      ∙ sym (ap (λ (b : Both). b.tables) (if_yes _ _ both)) ∙ del_tables before caller semid model_ok

  pub free_after_del : SemidFree left.bytes left.list semid
  free_after_del =
      free_semid left.bytes left.list semid (family_reply_kept bs list agree del fits)
      (subst (λ (t : Tables). Ranged t semid) (sym same_tables) (still_ranged bs list caller _ semid agree (del_range before caller semid model_ok)))
      (ap (λ (l : List ℕ). entry_of l semid) same_list ∙ deleted_is_nothing before caller semid model_ok)

-- ---- after Classic delete with the list

-- no entry is an identifier that was forgotten
forgotten_unlisted : (id : ℕ) → id ≢ 0 → (list : List ℕ) → is_in id (forgotten id list) ≡ false
unfolding is_in forgotten
forgotten_unlisted id some [] = refl
forgotten_unlisted id some (x ∷ xs) = if_no _ _ (ne_eqb id _ other) ∙ forgotten_unlisted id some xs
  where
    other : id ≢ choose (eqb x id) 0 x
    other = choose_cases (λ (y : ℕ). id ≢ y) (eqb x id) 0 x (λ y. some) (λ n s. eqb-false x id n (sym s))

module _ (bs list : List ℕ) (caller id : ℕ) (done : (delete_reply bs list caller id).answer.status ≡ 0) where
  abbrev rest : ListReply Answer
  rest = delete_reply bs list caller id

  delete_agree : both_agree bs list ≡ true
  delete_agree =
      ⊎_elim (λ (y : both_agree bs list ≡ true). y)
      (λ (n : both_agree bs list ≡ false).
      absurd (omega (arith, done, ap (λ (r : ListReply Answer). r.answer.status) (disagreed_deletes_nothing bs list n caller id))))
      (tested (both_agree bs list))

  status_is : (delete (model_of bs) caller id).answer.status ≡ 0
  unfolding reply_with delete_mapped
  status_is = sym (ap (λ (r : ListReply Answer). r.answer.status) (if_yes _ _ delete_agree)) ∙ done

  rest_list : rest.list ≡ forgotten id list
  unfolding reply_with delete_mapped
  rest_list = ap (λ (r : ListReply Answer). r.list) (if_yes _ _ delete_agree) ∙ if_yes _ _ (eq-eqb _ 0 status_is)

  rest_tables : model_of rest.bytes ≡ (delete (model_of bs) caller id).tables
  unfolding reply_with delete_mapped
  rest_tables =
      let k = mapped_delete_kept (model_of bs) list (tables_agree bs list delete_agree) (list_agrees_lem bs list delete_agree) caller id in
      ap (λ (r : ListReply Answer). model_of r.bytes) (if_yes _ _ delete_agree) ∙ model_of_agrees _ (true_agrees _ k.0)

  identifier : id ≢ 0
  identifier z =
      let n = names_named (model_of bs) id (delete_done_named (model_of bs) caller id status_is) in omega (arith, n.low, ap (λ (x : ℕ). x % 65536) z)

  pub unlisted_after_delete : is_in id rest.list ≡ false
  unlisted_after_delete = ap (λ (l : List ℕ). is_in id l) rest_list ∙ forgotten_unlisted id identifier list

  -- and a semid that stood for it is free
  pub free_after_delete : (semid : ℕ) → semid ≢ 0 → entry_of list semid ≡ id → SemidFree rest.bytes rest.list semid
  free_after_delete semid some stood =
      let f : ListFits (model_of bs) list = list_fits (list_agrees_lem bs list delete_agree) in
      let below = f.within (pred semid) (λ z. identifier (sym stood ∙ z)) in
      let r : Ranged (model_of bs) semid = record { low = omega arith; high = omega (arith, below) } in
      free_semid rest.bytes rest.list semid (mapped_delete_reply_kept bs list delete_agree caller id)
      (subst (λ (t : Tables). Ranged t semid) (sym rest_tables) (still_ranged bs list caller id semid delete_agree r))
      (ap (λ (l : List ℕ). entry_of l semid) rest_list ∙ get_d_forgotten id list (pred semid) ∙ if_yes _ _ (eq-eqb _ _ stood))
