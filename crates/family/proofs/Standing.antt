-- Each call of the family is refused by its checks, or is the Classic call that it stands on.
use mathlib.Core.Path.{◌≡◌, refl}
use mathlib.Core.List.{List, []}
use Prim.Native.Nat.{ℕ}
use lib.IntN.{ℤ, pos, nat_abs}
use Rattle.rules.specs.declared.Call.{Call}
use Rattle.rules.specs.declared.Call.TheVariants.{Create, Delete, Obtain, Release}
use Rattle.rules.specs.declared.Wait.TheVariants.{Poll, Forever}
use Rattle.rules.specs.Numbers.{too_many, unsatisfied}
use Rattle.rules.specs.Machine.{Tables}
use Rattle.rules.specs.Calls.{Outcome, perform}
use Rattle.mapping.specs.Mapping.{entry_of}
use Rattle.itron.specs.declared.Coded.{Coded}
use Rattle.itron.specs.Codes.{minus, e_nomem, e_qovr, e_tmout, code_of, status_code}
use Rattle.itron.specs.Calls.{Listed, mapped, unless_refused, over, cre_refusal, del_refusal, sig_refusal, twai_refusal, attributes_of, wait_for}
use Rattle.itron.specs.Calls.{cre_sem, del_sem, sig_sem, twai_sem}
use Rattle.family.specs.Family.{Itron, called}
use Rattle.family.specs.Family.Itron.{CreSem, DelSem, SigSem, WaiSem, PreqSem, TwaiSem}

-- a call's checks, E_OK for no refusal
unfoldable pub refusal_of : Itron → Tables → List ℕ → ℤ
refusal_of (CreSem caller semid sematr isemcnt maxsem) t list = cre_refusal t list caller semid sematr isemcnt maxsem
refusal_of (DelSem caller semid) t list = del_refusal t list caller semid
refusal_of (SigSem caller semid) t list = sig_refusal t list caller semid
refusal_of (WaiSem caller semid) t list = twai_refusal t list caller semid (minus 1)
refusal_of (PreqSem caller semid) t list = twai_refusal t list caller semid (pos 0)
refusal_of (TwaiSem caller semid tmout) t list = twai_refusal t list caller semid tmout

-- the Classic call
unfoldable pub classic_of : Itron → List ℕ → Call
classic_of (CreSem caller semid sematr isemcnt maxsem) list = Create caller semid (nat_abs isemcnt) (attributes_of sematr) (nat_abs maxsem)
classic_of (DelSem caller semid) list = Delete caller (entry_of list semid)
classic_of (SigSem caller semid) list = Release caller (entry_of list semid)
classic_of (WaiSem caller semid) list = Obtain caller (entry_of list semid) Forever
classic_of (PreqSem caller semid) list = Obtain caller (entry_of list semid) Poll
classic_of (TwaiSem caller semid tmout) list = Obtain caller (entry_of list semid) (wait_for tmout)

-- its status as a code
unfoldable pub code_by : Itron → ℕ → ℤ
code_by (CreSem caller semid sematr isemcnt maxsem) = status_code too_many e_nomem
code_by (DelSem caller semid) = code_of
code_by (SigSem caller semid) = status_code unsatisfied e_qovr
code_by (WaiSem caller semid) = status_code unsatisfied e_tmout
code_by (PreqSem caller semid) = status_code unsatisfied e_tmout
code_by (TwaiSem caller semid tmout) = status_code unsatisfied e_tmout

-- the list after it: a create's and a delete's is mapped
unfoldable pub list_by : Itron → List ℕ → Outcome → List ℕ
list_by (CreSem caller semid sematr isemcnt maxsem) list o = mapped list semid o
list_by (DelSem caller semid) list o = mapped list semid o
list_by (SigSem caller semid) list o = list
list_by (WaiSem caller semid) list o = list
list_by (PreqSem caller semid) list o = list
list_by (TwaiSem caller semid tmout) list o = list

-- the Classic call done, and what it gives
abbrev pub outcome_of : Itron → Tables → List ℕ → Outcome
outcome_of call t list = perform t (classic_of call list) []

abbrev pub standing : Itron → Tables → List ℕ → Listed Coded
standing call t list = let o = outcome_of call t list in unless_refused (refusal_of call t list) t list (over (code_by call) (list_by call list o) o)

pub called_is : (call : Itron) (t : Tables) (list : List ℕ) → called call t list ≡ standing call t list
unfolding called cre_sem del_sem sig_sem twai_sem wait_for perform refusal_of classic_of code_by list_by
called_is (CreSem caller semid sematr isemcnt maxsem) t list = refl
called_is (DelSem caller semid) t list = refl
called_is (SigSem caller semid) t list = refl
called_is (WaiSem caller semid) t list = refl
called_is (PreqSem caller semid) t list = refl
called_is (TwaiSem caller semid tmout) t list = refl
