-- Request 5: the seven calls over the manager's, on tables and list that agree, and Classic delete with the list.
-- Checks give a code, or E_OK for no refusal.
use Rattle.std.specs.Prelude.{Bool, List, ℕ, zero, suc, leb, ltb, eqb, ℤ, pos, negsuc, nat_abs, length}
use Rattle.std.specs.Int.Signed.{le_z, non_neg}
use Rattle.laws.specs.Choose.{choose, ◌and◌, ◌or◌, bit}
use Rattle.rules.specs.declared.Answer.{Answer}
use Rattle.rules.specs.declared.Wait.{Wait}
use Rattle.rules.specs.declared.Wait.TheVariants.{Poll, Forever, Ticks}
use Rattle.rules.specs.Numbers.{within, successful, invalid_id, too_many, unsatisfied}
use Rattle.rules.specs.Machine.{Tables, task_of, slot_of, slot_named, waits, next}
use Rattle.rules.specs.Calls.{Outcome, create, delete, obtain, release}
use Rattle.mapping.specs.Mapping.{entry_of, map_to, forgotten}
use Rattle.itron.specs.declared.Coded.{Coded}
use Rattle.itron.specs.declared.Reference.{Reference}
use Rattle.itron.specs.Codes.{minus, e_ok, e_sys, e_nomem, e_rsatr, e_par, e_id, e_noexs, e_obj, e_ctx, e_qovr, e_tmout, code_of, status_code}

-- an answer, with the tables and the list that the call leaves
pub record Listed (A : Type 0) : Type 0 where
  pub answer : A
  pub tables : Tables
  pub list : List ℕ

-- what tables or a list that do not agree are answered: E_SYS and no next task
abbrev pub no_code : Coded
no_code = record { code = e_sys; next = 0 }

-- a refusal changes nothing, and the next task is as it is
abbrev pub refused_by : ℤ → Tables → List ℕ → Listed Coded
refused_by code t list = record { answer = record { code = code; next = next t }; tables = t; list = list }

-- done, unless the checks before gave a refusal, which is a negative number
abbrev pub unless_refused : ℤ → Tables → List ℕ → Listed Coded → Listed Coded
unless_refused refusal t list done = choose (non_neg refusal) done (refused_by refusal t list)

-- what a Classic call gives, its status as a code
abbrev pub over : (ℕ → ℤ) → List ℕ → Outcome → Listed Coded
over code list o = record { answer = record { code = code o.answer.status; next = o.answer.next }; tables = o.tables; list = list }

-- where a Classic call is done, semid stands for its value from then on: a create's identifier, a delete's 0
abbrev pub mapped : List ℕ → ℕ → Outcome → List ℕ
mapped list semid o = choose (eqb o.answer.status successful) (map_to list semid o.answer.value) list

-- ---- the checks, each before `rest`

-- a caller above N is E_ID, a waiting one E_CTX; 0, an interrupt, is allowed
abbrev pub any_caller : Tables → ℕ → ℤ → ℤ
any_caller t caller rest =
    choose (eqb caller 0) rest (choose (ltb (length t.tasks) caller) e_id (choose (waits (task_of t caller)) e_ctx rest))

-- and here it is not
abbrev pub task_only : Tables → ℕ → ℤ → ℤ
task_only t caller rest = choose (eqb caller 0) e_ctx (any_caller t caller rest)

-- semid is one of 1..S
abbrev pub in_range : Tables → ℕ → ℤ → ℤ
in_range t semid rest = choose (within 1 (length t.slots) semid) rest e_id

-- semid stands for a semaphore
abbrev pub exists : List ℕ → ℕ → ℤ → ℤ
exists list semid rest = choose (eqb (entry_of list semid) 0) e_noexs rest

-- ---- cre_sem: E_OBJ, E_RSATR, E_PAR, E_NOMEM

-- semid stands for nothing yet
abbrev pub is_free : List ℕ → ℕ → ℤ → ℤ
is_free list semid rest = choose (eqb (entry_of list semid) 0) rest e_obj

-- sematr is 0 or 1
abbrev pub sematr_allowed : ℕ → ℤ → ℤ
sematr_allowed sematr rest = choose (eqb sematr 0 or eqb sematr 1) rest e_rsatr

-- a negative isemcnt, a maxsem below 1 or isemcnt above maxsem is E_PAR
abbrev pub counts_allowed : ℤ → ℤ → Bool
counts_allowed isemcnt maxsem = le_z (pos 0) isemcnt and le_z (pos 1) maxsem and le_z isemcnt maxsem

abbrev pub counts_right : ℤ → ℤ → ℤ → ℤ
counts_right isemcnt maxsem rest = choose (counts_allowed isemcnt maxsem) rest e_par

unfoldable pub cre_refusal : Tables → List ℕ → ℕ → ℕ → ℕ → ℤ → ℤ → ℤ
cre_refusal t list caller semid sematr isemcnt maxsem =
    task_only t caller (in_range t semid (is_free list semid (sematr_allowed sematr (counts_right isemcnt maxsem e_ok))))

-- sematr 0 is FIFO, 1 is PRIORITY
abbrev pub attributes_of : ℕ → ℕ
attributes_of sematr = choose (eqb sematr 0) 0 4

-- the Classic create of a counting semaphore whose name is its semid; E_NOMEM where the slots have run out
unfoldable pub cre_sem : Tables → List ℕ → ℕ → ℕ → ℕ → ℤ → ℤ → Listed Coded
cre_sem t list caller semid sematr isemcnt maxsem =
    let o = create t caller semid (nat_abs isemcnt) (attributes_of sematr) (nat_abs maxsem) in
    unless_refused (cre_refusal t list caller semid sematr isemcnt maxsem) t list
    (over (status_code too_many e_nomem) (mapped list semid o) o)

-- ---- del_sem: E_NOEXS

unfoldable pub del_refusal : Tables → List ℕ → ℕ → ℕ → ℤ
del_refusal t list caller semid = task_only t caller (in_range t semid (exists list semid e_ok))

unfoldable pub del_sem : Tables → List ℕ → ℕ → ℕ → Listed Coded
del_sem t list caller semid =
    let o = delete t caller (entry_of list semid) in
    unless_refused (del_refusal t list caller semid) t list (over code_of (mapped list semid o) o)

-- ---- sig_sem: E_NOEXS, E_QOVR

unfoldable pub sig_refusal : Tables → List ℕ → ℕ → ℕ → ℤ
sig_refusal t list caller semid = any_caller t caller (in_range t semid (exists list semid e_ok))

-- 13 at signal is E_QOVR
unfoldable pub sig_sem : Tables → List ℕ → ℕ → ℕ → Listed Coded
sig_sem t list caller semid =
    unless_refused (sig_refusal t list caller semid) t list
    (over (status_code unsatisfied e_qovr) list (release t caller (entry_of list semid)))

-- ---- twai_sem, wai_sem and preq_sem: E_PAR, E_NOEXS, E_TMOUT

-- -1 waits for ever, 0 polls, and one unit is one tick; a number below -1 is refused before
unfoldable pub wait_for : ℤ → Wait
wait_for (negsuc n) = Forever
wait_for (pos zero) = Poll
wait_for (pos (suc n)) = Ticks (suc n)

-- -2 or less is E_PAR
abbrev pub tmout_allowed : ℤ → ℤ → ℤ
tmout_allowed tmout rest = choose (le_z tmout (minus 2)) e_par rest

unfoldable pub twai_refusal : Tables → List ℕ → ℕ → ℕ → ℤ → ℤ
twai_refusal t list caller semid tmout = task_only t caller (in_range t semid (tmout_allowed tmout (exists list semid e_ok)))

-- 13, where a poll finds count 0, is E_TMOUT
unfoldable pub twai_sem : Tables → List ℕ → ℕ → ℕ → ℤ → Listed Coded
twai_sem t list caller semid tmout =
    unless_refused (twai_refusal t list caller semid tmout) t list
    (over (status_code unsatisfied e_tmout) list (obtain t caller (entry_of list semid) (wait_for tmout)))

-- for ever
abbrev pub wai_sem : Tables → List ℕ → ℕ → ℕ → Listed Coded
wai_sem t list caller semid = twai_sem t list caller semid (minus 1)

-- and not at all
abbrev pub preq_sem : Tables → List ℕ → ℕ → ℕ → Listed Coded
preq_sem t list caller semid = twai_sem t list caller semid (pos 0)

-- ---- ref_sem: E_NOEXS

-- all 0 when refused
abbrev pub told_nothing : ℤ → ℕ → Reference
told_nothing code next = record { code = code; next = next; exinf = pos 0; wtsk = pos 0; semcnt = pos 0 }

-- exinf 0, wtsk 1 if a task waits, else 0, and the count
unfoldable pub ref_sem : Tables → List ℕ → ℕ → ℕ → Reference
ref_sem t list caller semid =
    let s = slot_of t (slot_named t (entry_of list semid)) in
    let refusal = sig_refusal t list caller semid in
    choose (non_neg refusal)
    (record { code = e_ok; next = next t; exinf = pos 0; wtsk = pos (bit (leb 1 (length s.queue))); semcnt = pos s.count })
    (told_nothing refusal (next t))

-- ---- Classic delete with the list

-- done, it drops the mapping, if there is one; refused, nothing
unfoldable pub delete_mapped : Tables → List ℕ → ℕ → ℕ → Listed Answer
delete_mapped t list caller id =
    let o = delete t caller id in
    record { answer = o.answer; tables = o.tables; list = choose (eqb o.answer.status successful) (forgotten id list) list }

-- ---- for the code

-- the manager's refusal of a caller as a code: 4 is above N, 18 an interrupt, 14 a task that waits
unfoldable pub caller_code : ℕ → ℤ
caller_code refusal = choose (eqb refusal 0) e_ok (choose (eqb refusal invalid_id) e_id e_ctx)
