-- A refusal changes neither the tables nor the list.
use mathlib.Core.Path.{◌≡◌, refl, sym, subst}
use mathlib.Core.Bool.{true, false}
use mathlib.Core.List.{List, []}
use Prim.Native.Nat.{ℕ}
use native.Mathlib.Omega.{arith}
use lib.Dec.{eqb}
use lib.IntN.{ℤ}
use lib.Signed.{non_neg}
use borrow.Author.Tests.{eqb-true, ne_eqb}
use Rattle.laws.specs.Choose.{choose}
use Rattle.laws.proofs.Choose.{choose_cases, if_no, never}
use Rattle.rules.specs.declared.Call.{Call}
use Rattle.rules.specs.declared.Call.TheVariants.{Delete}
use Rattle.rules.specs.Machine.{Tables, next}
use Rattle.rules.specs.Calls.{Outcome, delete, perform}
use Rattle.rules.specs.Promises.{IsRefusal}
use Rattle.rules.proofs.Performed.{Performed, performed}
use Rattle.rules.proofs.Performed.Performed.{refusing, done, began}
use Rattle.itron.specs.declared.Coded.{Coded}
use Rattle.itron.specs.Codes.{code_of, status_code}
use Rattle.itron.specs.Calls.{Listed, delete_mapped}
use Rattle.family.specs.Family.{Itron, called}
use Rattle.family.specs.Family.Itron.{CreSem, DelSem, SigSem, WaiSem, PreqSem, TwaiSem}
use Rattle.family.proofs.Standing.{refusal_of, classic_of, code_by, list_by, outcome_of, called_is}

-- a Classic call that is neither done nor begun has changed nothing
pub record Left (t : Tables) (o : Outcome) : Type 0 where
  pub tables : o.tables ≡ t
  pub next_task : o.answer.next ≡ next t

left_by : (t : Tables) (call : Call) (o : Outcome) → Performed t call o → IsRefusal o.answer.status → Left t o
left_by t call o (refusing status d i) r = record { tables = refl; next_task = refl }
left_by t call o (done value after i v) r = absurd (r.not_done refl)
left_by t call o (began after i) r = absurd (r.not_begun refl)

pub classic_left : (t : Tables) (call : Call) (priorities : List ℕ) → IsRefusal (perform t call priorities).answer.status → Left t (perform t call priorities)
classic_left t call priorities = left_by t call (perform t call priorities) (performed t call priorities)

-- ---- a negative code is of a Classic refusal

task_code : (status : ℕ) → non_neg (code_of status) ≡ false → IsRefusal status
unfolding code_of choose
task_code status e = record {
  not_done = λ z. never (subst (λ (n : ℕ). non_neg (code_of n) ≡ true) (sym z) refl) e;
  not_begun = λ z. never (subst (λ (n : ℕ). non_neg (code_of n) ≡ true) (sym z) refl) e;
}

status_code_lem : (refusal : ℕ) (code : ℤ) → IsRefusal refusal → (status : ℕ) → non_neg (status_code refusal code status) ≡ false → IsRefusal status
unfolding status_code
status_code_lem refusal code r status =
    choose_cases (λ (z : ℤ). non_neg z ≡ false → IsRefusal status) (eqb status refusal) code (code_of status)
    (λ e n. subst IsRefusal (sym (eqb-true status refusal e)) r) (λ e n. task_code status n)

pub code_refuses : (call : Itron) (status : ℕ) → non_neg (code_by call status) ≡ false → IsRefusal status
unfolding code_by
code_refuses (CreSem caller semid sematr isemcnt maxsem) = status_code_lem 5 _ (record { not_done = λ z. omega arith; not_begun = λ z. omega arith })
code_refuses (DelSem caller semid) = task_code
code_refuses (SigSem caller semid) = status_code_lem 13 _ (record { not_done = λ z. omega arith; not_begun = λ z. omega arith })
code_refuses (WaiSem caller semid) = status_code_lem 13 _ (record { not_done = λ z. omega arith; not_begun = λ z. omega arith })
code_refuses (PreqSem caller semid) = status_code_lem 13 _ (record { not_done = λ z. omega arith; not_begun = λ z. omega arith })
code_refuses (TwaiSem caller semid tmout) = status_code_lem 13 _ (record { not_done = λ z. omega arith; not_begun = λ z. omega arith })

-- and the list is mapped by one that was done alone
pub list_left : (call : Itron) (list : List ℕ) (o : Outcome) → (o.answer.status ≡ 0 → ⊥) → list_by call list o ≡ list
unfolding list_by
list_left (CreSem caller semid sematr isemcnt maxsem) list o n = if_no _ _ (ne_eqb o.answer.status 0 n)
list_left (DelSem caller semid) list o n = if_no _ _ (ne_eqb o.answer.status 0 n)
list_left (SigSem caller semid) list o n = refl
list_left (WaiSem caller semid) list o n = refl
list_left (PreqSem caller semid) list o n = refl
list_left (TwaiSem caller semid tmout) list o n = refl

-- ---- the theorems

-- tables, list and next task are as they were
pub record Unchanged (t : Tables) (ls : List ℕ) (after : Tables) (later : List ℕ) (told : ℕ) : Type 0 where
  pub tables : after ≡ t
  pub list : later ≡ ls
  pub next_task : told ≡ next t

classic_next : (t : Tables) (call : Call) (o : Outcome) → Performed t call o → o.answer.next ≡ next o.tables
classic_next t call o (refusing status d i) = refl
classic_next t call o (done value after i v) = refl
classic_next t call o (began after i) = refl

-- the next task that a call tells is that of the tables it leaves
pub next_told : (call : Itron) (t : Tables) (list : List ℕ) → let o = called call t list in o.answer.next ≡ next o.tables
next_told call t list =
    subst P (sym (called_is call t list))
    (choose_cases P (non_neg (refusal_of call t list)) _ _ (λ y. classic_next t _ _ (performed t (classic_of call list) [])) (λ n. refl))
  where
    P : Listed Coded → Type 0
    P x = x.answer.next ≡ next x.tables

pub refusal_keeps : (call : Itron) (t : Tables) (list : List ℕ) → let o = called call t list in non_neg o.answer.code ≡ false
    → Unchanged t list o.tables o.list o.answer.next
refusal_keeps call t list =
    subst P (sym (called_is call t list))
    (choose_cases P (non_neg (refusal_of call t list)) _ _
    (λ y n.
    let r = code_refuses call o.answer.status n in
    let k = classic_left t _ _ r in
    record { tables = k.tables; list = list_left call list o r.not_done; next_task = k.next_task })
    (λ y n. record { tables = refl; list = refl; next_task = refl }))
  where
    P : Listed Coded → Type 0
    P x = non_neg x.answer.code ≡ false → Unchanged t list x.tables x.list x.answer.next

    o : Outcome
    o = outcome_of call t list

pub mapped_delete_refusal_keeps : (t : Tables) (list : List ℕ) (caller id : ℕ) → let o = delete_mapped t list caller id in IsRefusal o.answer.status
    → Unchanged t list o.tables o.list o.answer.next
unfolding delete_mapped perform
mapped_delete_refusal_keeps t list caller id r =
    let k = classic_left t (Delete caller id) list r in
    record { tables = k.tables; list = if_no _ _ (ne_eqb (delete t caller id).answer.status 0 r.not_done); next_task = k.next_task }
