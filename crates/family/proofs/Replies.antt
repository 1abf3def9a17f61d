-- The same over lent bytes: agreement is kept, a refusal leaves every byte and entry, E_SYS says exactly that tables or list do not agree.
use mathlib.Core.Path.{◌≡◌, refl, sym, ap, subst, ◌∙◌}
use mathlib.Core.Bool.{true, false}
use mathlib.Core.List.{List, []}
use mathlib.Core.Logic.{◌↔◌, ⊎_elim}
use Prim.Native.Nat.{ℕ}
use native.Mathlib.Omega.{arith}
use native.Mathlib.Decide.{ℕ_discrete}
use lib.IntN.{ℤ}
use lib.ListN.{length, get_or, replicate}
use lib.Signed.{non_neg}
use Rattle.laws.specs.Choose.{choose}
use Rattle.laws.proofs.Choose.{choose_cases, if_yes, if_no, and_both, both_and, never}
use Rattle.laws.proofs.Choose as choices
use Rattle.laws.proofs.Fit.{fit_take, fit_none}
use Rattle.words.proofs.WordsInBytes.{Bytes}
use Rattle.rules.specs.declared.Answer.{Answer}
use Rattle.rules.specs.declared.Call.{Call}
use Rattle.rules.specs.declared.Call.TheVariants.{Delete}
use Rattle.rules.specs.Numbers.{within, internal_error}
use Rattle.rules.specs.Machine.{Tables, unstarted, next}
use Rattle.rules.specs.Agreement.{agrees}
use Rattle.rules.specs.Calls.{Outcome, perform}
use Rattle.rules.specs.Fits.{call_fits}
use Rattle.rules.specs.Promises.{IsRefusal}
use Rattle.rules.proofs.Invariants.Agreeing.{true_agrees, agrees_true, unstarted_agrees}
use Rattle.rules.proofs.Invariants.Kept.{kept}
use Rattle.rules.proofs.Refusals.{internal_error_lem}
use Rattle.tables.specs.Layout.{laid, model_of}
use Rattle.agreement.specs.Bytes.{agrees_bytes}
use Rattle.calls.specs.Task.{task_answer}
use Rattle.calls.proofs.Agreeing.{model_of_agrees, agreeing_laid}
use Rattle.manager.specs.Entry.{Reply, no_next, reply_to, task_reply}
use Rattle.manager.proofs.Tested.{tested, passes}
use Rattle.manager.proofs.Runs.{reply_is}
use Rattle.mapping.specs.Mapping.{list_length, list_agrees, ListFits}
use Rattle.mapping.proofs.Agreeing.{list_fits, empty_agrees}
use Rattle.itron.specs.declared.Coded.{Coded}
use Rattle.itron.specs.declared.Reference.{Reference}
use Rattle.itron.specs.Codes.{e_ok, e_sys, code_of}
use Rattle.itron.specs.Calls.{delete_mapped}
use Rattle.itron_calls.specs.Reply.{both_agree, ListReply, reply_with, code_reply, ref_reply, delete_reply}
use Rattle.itron_calls.proofs.Replying.{bytes_agree, list_agrees_lem}
use Rattle.family.specs.Family.{Itron, called, codes, ref_codes, itron_fits}
use Rattle.family.specs.Family.Itron.{CreSem, DelSem, SigSem, WaiSem, PreqSem, TwaiSem}
use Rattle.family.specs.Promises.{is_code, wait_codes, unmaps}
use Rattle.family.proofs.Refused.{next_told, refusal_keeps, mapped_delete_refusal_keeps}
use Rattle.family.proofs.Equations.{disagreed_is_sys, disagreed_tells_nothing, disagreed_deletes_nothing, reply_called}
use Rattle.family.proofs.Ending.{step_is}
use Rattle.family.proofs.Kept.{family_kept, mapped_delete_kept, classic_kept}
use Rattle.family.proofs.Codes.{codes_listed, ref_codes_listed, answers_known}

-- tables that agree, laid, agree with the same lists
pub both_laid : (t : Tables) (list : List ℕ) → (agrees t ≡ true) × (list_agrees t list ≡ true) → both_agree (laid t) list ≡ true
unfolding both_agree
both_laid t list (a, l) =
    let g = true_agrees t a in
    both_and (passes (agreeing_laid t g (laid t) refl)) (subst (λ (u : Tables). list_agrees u list ≡ true) (sym (model_of_agrees t g)) l)

-- ---- a list of nothing

pub empty_reply_agrees : (bs : List ℕ) → agrees_bytes bs ≡ true → both_agree bs (replicate list_length 0) ≡ true
unfolding both_agree
empty_reply_agrees bs a = both_and a (empty_agrees (model_of bs))

-- it is the one list that agrees before start
pub unstarted_list_exactly : (list : List ℕ) → (both_agree (laid unstarted) list ≡ true) ↔ (list ≡ replicate list_length 0)
unfolding both_agree
unstarted_list_exactly list = (
  λ e.
      let l = subst (λ (t : Tables). list_agrees t list ≡ true) (model_of_agrees unstarted unstarted_agrees) (and_both _ _ e).1 in
      all_nothing list (list_fits l),
  λ e.
      subst (λ (l : List ℕ). both_agree (laid unstarted) l ≡ true) (sym e)
      (empty_reply_agrees _ (passes (agreeing_laid unstarted unstarted_agrees _ refl))),
)
  where
    all_nothing : (list : List ℕ) → ListFits unstarted list → list ≡ replicate list_length 0
    all_nothing list f =
        fit_take list_length 0 0 list f.long
        (λ k l h. elim (ℕ_discrete (get_or list k 0) 0) [ yes z ↦ z | no n ↦ absurd (omega (arith, f.within k n)) ])
        ∙ fit_none list_length 0

module _ (bs list : List ℕ) (agree : both_agree bs list ≡ true) where
  pub tables_agree : agrees (model_of bs) ≡ true
  unfolding agrees_bytes
  tables_agree = (and_both _ _ (bytes_agree bs list agree)).1

  -- ---- agreement is kept

  pub family_reply_kept : (call : Itron) → itron_fits call ≡ true → let r = code_reply bs list (called call) in both_agree r.bytes r.list ≡ true
  family_reply_kept call fits =
      subst (λ (r : ListReply Coded). both_agree r.bytes r.list ≡ true) (sym (reply_called bs list agree (called call)))
      (both_laid _ _ (family_kept (model_of bs) list tables_agree (list_agrees_lem bs list agree) call fits))

  pub mapped_delete_reply_kept : (caller id : ℕ) → let r = delete_reply bs list caller id in both_agree r.bytes r.list ≡ true
  unfolding reply_with
  mapped_delete_reply_kept caller id =
      subst (λ (r : ListReply Answer). both_agree r.bytes r.list ≡ true) (sym (if_yes _ _ agree))
      (both_laid _ _ (mapped_delete_kept (model_of bs) list tables_agree (list_agrees_lem bs list agree) caller id))

  -- by the manager's own calls, but for a delete that was done of an identifier in the list
  pub classic_reply_kept : (call : Call) (priorities : List ℕ) → call_fits call ≡ true → let r = reply_to bs call priorities in
      (r.answer.status ≡ 0 → unmaps call list ≡ false) → both_agree r.bytes list ≡ true
  classic_reply_kept call priorities fits other =
      let is = reply_is bs call priorities (bytes_agree bs list agree) in
      let t = model_of bs in
      subst (λ (r : Reply). both_agree r.bytes list ≡ true) (sym is)
      (both_laid _ list (
        agrees_true _ (kept t call priorities fits (true_agrees t tables_agree)),
        classic_kept t list tables_agree (list_agrees_lem bs list agree) (record { call = call; priorities = priorities })
            (λ z. other (ap (λ (r : Reply). r.answer.status) is ∙ z)),
      ))

  -- the next task is that of the bytes that are left
  pub reply_next : (call : Itron) → itron_fits call ≡ true → let r = code_reply bs list (called call) in r.answer.next ≡ next (model_of r.bytes)
  reply_next call fits =
      let t = model_of bs in
      let g = true_agrees _ (family_kept t list tables_agree (list_agrees_lem bs list agree) call fits).0 in
      subst (λ (r : ListReply Coded). r.answer.next ≡ next (model_of r.bytes)) (sym (reply_called bs list agree (called call)))
      (next_told call t list ∙ ap next (sym (model_of_agrees _ g)))

  -- ---- codes

  pub reply_listed : (call : Itron) → itron_fits call ≡ true → is_code (code_reply bs list (called call)).answer.code (codes call) ≡ true
  reply_listed call fits =
      subst (λ (r : ListReply Coded). is_code r.answer.code (codes call) ≡ true) (sym (reply_called bs list agree (called call)))
      (codes_listed (model_of bs) list tables_agree (list_agrees_lem bs list agree) call fits)

  pub ref_reply_listed : (caller semid : ℕ) → is_code (ref_reply bs list caller semid).code ref_codes ≡ true
  unfolding ref_reply
  ref_reply_listed caller semid =
      subst (λ (r : Reference). is_code r.code ref_codes ≡ true) (sym (if_yes _ _ agree)) (ref_codes_listed (model_of bs) list caller semid)

-- a task's answer as a code is never E_SYS
pub task_reply_known : (bs : List ℕ) (q : ℕ) → let a = task_reply bs q in a.status ≡ 0 → is_code (code_of a.value) wait_codes ≡ true
unfolding task_reply task_answer agrees_bytes
task_reply_known bs q =
    choose_cases P (agrees_bytes bs) (task_answer (model_of bs) q) no_next
    (λ y. choose_cases (λ (o : Outcome). P o.answer) (within 1 (length (model_of bs).tasks) q) _ _
    (λ w z. answers_known (model_of bs) (and_both _ _ y).1 q) (λ w z. absurd (omega (arith, z))))
    (λ n z. absurd (omega (arith, z)))
  where
    P : Answer → Type 0
    P a = a.status ≡ 0 → is_code (code_of a.value) wait_codes ≡ true

-- E_SYS is among none of them
sys_unlisted : (call : Itron) → is_code e_sys (codes call) ≡ false
unfolding choose is_code codes
sys_unlisted (CreSem caller semid sematr isemcnt maxsem) = refl
sys_unlisted (DelSem caller semid) = refl
sys_unlisted (SigSem caller semid) = refl
sys_unlisted (WaiSem caller semid) = refl
sys_unlisted (PreqSem caller semid) = refl
sys_unlisted (TwaiSem caller semid tmout) = refl

module _ (bs list : List ℕ) where
  pub sys_exactly : (call : Itron) → itron_fits call ≡ true → ((code_reply bs list (called call)).answer.code ≡ e_sys) ↔ (both_agree bs list ≡ false)
  sys_exactly call fits = (
    λ e. ⊎_elim
        (λ (y : both_agree bs list ≡ true).
        never (subst (λ (z : ℤ). is_code z (codes call) ≡ true) e (reply_listed bs list y call fits)) (sys_unlisted call))
        (λ (n : both_agree bs list ≡ false). n) (choices.tested (both_agree bs list)),
    λ n. ap (λ (r : ListReply Coded). r.answer.code) (disagreed_is_sys bs list n (called call)),
  )

  pub ref_sys_exactly : (caller semid : ℕ) → ((ref_reply bs list caller semid).code ≡ e_sys) ↔ (both_agree bs list ≡ false)
  unfolding choose is_code
  ref_sys_exactly caller semid = (
    λ e. ⊎_elim
        (λ (y : both_agree bs list ≡ true). never (subst (λ (z : ℤ). is_code z ref_codes ≡ true) e (ref_reply_listed bs list y caller semid)) refl)
        (λ (n : both_agree bs list ≡ false). n) (choices.tested (both_agree bs list)),
    λ n. ap (λ (r : Reference). r.code) (disagreed_tells_nothing bs list n caller semid),
  )

  -- so E_OK says that they do
  pub ok_agree : (call : Itron) → (code_reply bs list (called call)).answer.code ≡ e_ok → both_agree bs list ≡ true
  ok_agree call e =
      ⊎_elim (λ (y : both_agree bs list ≡ true). y)
      (λ (n : both_agree bs list ≡ false).
      never (ap non_neg (sym (ap (λ (r : ListReply Coded). r.answer.code) (disagreed_is_sys bs list n (called call))) ∙ e)) refl)
      (choices.tested (both_agree bs list))

  -- and so does Classic delete with the list, but with 25
  pub internal_error_exactly : (caller id : ℕ) → ((delete_reply bs list caller id).answer.status ≡ internal_error) ↔ (both_agree bs list ≡ false)
  unfolding reply_with delete_mapped perform
  internal_error_exactly caller id = (
    λ e. ⊎_elim
        (λ (y : both_agree bs list ≡ true).
        let t = model_of bs in
        let a = tables_agree bs list y in
        let s = ap (λ (o : Outcome). o.answer.status) (step_is t (Delete caller id) [] a) in
        let told = sym (ap (λ (r : ListReply Answer). r.answer.status) (if_yes _ _ y)) ∙ e in
        never a ((internal_error_lem t (Delete caller id) []).0 (s ∙ told)))
        (λ (n : both_agree bs list ≡ false). n) (choices.tested (both_agree bs list)),
    λ n. ap (λ (r : ListReply Answer). r.answer.status) (disagreed_deletes_nothing bs list n caller id),
  )

  -- ---- a refusal leaves every byte and every entry; the next task is as it is, with E_SYS none

  pub refusal_leaves : (call : Itron) → Bytes bs → let r = code_reply bs list (called call) in non_neg r.answer.code ≡ false
      → (r.bytes ≡ bs) × (r.list ≡ list) × (r.answer.next ≡ choose (both_agree bs list) (next (model_of bs)) 0)
  refusal_leaves call b = ⊎_elim agreed disagreed (choices.tested (both_agree bs list))
    where
      Left : ListReply Coded → Type 0
      Left r = non_neg r.answer.code ≡ false → (r.bytes ≡ bs) × (r.list ≡ list) × (r.answer.next ≡ choose (both_agree bs list) (next (model_of bs)) 0)

      agreed : both_agree bs list ≡ true → Left (code_reply bs list (called call))
      agreed y =
          subst Left (sym (reply_called bs list y (called call)))
          (λ n.
          let k = refusal_keeps call (model_of bs) list n in
          (ap laid k.tables ∙ sym (tested b (bytes_agree bs list y)).same, k.list, k.next_task ∙ sym (if_yes _ _ y)))

      disagreed : both_agree bs list ≡ false → Left (code_reply bs list (called call))
      disagreed y = subst Left (sym (disagreed_is_sys bs list y (called call))) (λ n. (refl, refl, sym (if_no _ _ y)))

  pub mapped_delete_refusal_leaves : (caller id : ℕ) → Bytes bs → let r = delete_reply bs list caller id in IsRefusal r.answer.status
      → (r.bytes ≡ bs) × (r.list ≡ list) × (r.answer.next ≡ choose (both_agree bs list) (next (model_of bs)) 0)
  unfolding reply_with
  mapped_delete_refusal_leaves caller id b = ⊎_elim agreed disagreed (choices.tested (both_agree bs list))
    where
      Left : ListReply Answer → Type 0
      Left r = IsRefusal r.answer.status → (r.bytes ≡ bs) × (r.list ≡ list) × (r.answer.next ≡ choose (both_agree bs list) (next (model_of bs)) 0)

      agreed : both_agree bs list ≡ true → Left (delete_reply bs list caller id)
      agreed y =
          subst Left (sym (if_yes _ _ y))
          (λ n.
          let k = mapped_delete_refusal_keeps (model_of bs) list caller id n in
          (ap laid k.tables ∙ sym (tested b (bytes_agree bs list y)).same, k.list, k.next_task ∙ sym (if_yes _ _ y)))

      disagreed : both_agree bs list ≡ false → Left (delete_reply bs list caller id)
      disagreed y = subst Left (sym (if_no _ _ y)) (λ n. (refl, refl, sym (if_no _ _ y)))
