-- Request 5: the calls as one family, the codes that each may give, and runs of them among the manager's own calls.
use Rattle.std.specs.Prelude.{Bool, true, List, [], ◌∷◌, ℕ, ℤ, pos}
use Rattle.std.specs.Int.Signed.{le_z}
use Rattle.laws.specs.Choose.{◌and◌}
use Rattle.rules.specs.Machine.{Tables}
use Rattle.rules.specs.Runs.{Request}
use Rattle.rules.specs.Fits.{fits, call_fits}
use Rattle.manager.specs.Entry.{reply_to}
use Rattle.itron.specs.declared.Coded.{Coded}
use Rattle.itron.specs.Codes.{minus, e_ok, e_nomem, e_rsatr, e_par, e_id, e_noexs, e_obj, e_ctx, e_qovr, e_tmout, began}
use Rattle.itron.specs.Calls.{Listed, cre_sem, del_sem, sig_sem, wai_sem, preq_sem, twai_sem}
use Rattle.itron_calls.specs.Reply.{code_reply, delete_reply}

-- the six that answer a code and the next task alone; ref_sem, the seventh, only reads
pub data Itron : Type 0 where
  CreSem : (caller semid sematr : ℕ) (isemcnt maxsem : ℤ) → Itron
  DelSem : (caller semid : ℕ) → Itron
  SigSem : (caller semid : ℕ) → Itron
  WaiSem : (caller semid : ℕ) → Itron
  PreqSem : (caller semid : ℕ) → Itron
  TwaiSem : (caller semid : ℕ) (tmout : ℤ) → Itron

-- a call on tables and a list that agree
unfoldable pub called : Itron → Tables → List ℕ → Listed Coded
called (CreSem caller semid sematr isemcnt maxsem) t list = cre_sem t list caller semid sematr isemcnt maxsem
called (DelSem caller semid) t list = del_sem t list caller semid
called (SigSem caller semid) t list = sig_sem t list caller semid
called (WaiSem caller semid) t list = wai_sem t list caller semid
called (PreqSem caller semid) t list = preq_sem t list caller semid
called (TwaiSem caller semid tmout) t list = twai_sem t list caller semid tmout

-- the codes that a call may give on tables and a list that agree; E_SYS is for the others alone
unfoldable pub codes : Itron → List ℤ
codes (CreSem caller semid sematr isemcnt maxsem) = e_ok ∷ e_ctx ∷ e_id ∷ e_obj ∷ e_rsatr ∷ e_par ∷ e_nomem ∷ []
codes (DelSem caller semid) = e_ok ∷ e_ctx ∷ e_id ∷ e_noexs ∷ []
codes (SigSem caller semid) = e_ok ∷ e_ctx ∷ e_id ∷ e_noexs ∷ e_qovr ∷ []
codes (WaiSem caller semid) = e_ok ∷ began ∷ e_ctx ∷ e_id ∷ e_noexs ∷ []
codes (PreqSem caller semid) = e_ok ∷ e_ctx ∷ e_id ∷ e_noexs ∷ e_tmout ∷ []
codes (TwaiSem caller semid tmout) = e_ok ∷ began ∷ e_ctx ∷ e_id ∷ e_par ∷ e_noexs ∷ e_tmout ∷ []

-- those of ref_sem
abbrev pub ref_codes : List ℤ
ref_codes = e_ok ∷ e_ctx ∷ e_id ∷ e_noexs ∷ []

-- a number of 32 bits with a sign
abbrev pub is_signed : ℤ → Bool
is_signed z = le_z (minus 2147483648) z and le_z z (pos 2147483647)

-- each number of a call is one of 32 bits, as those of every call in C are
unfoldable pub itron_fits : Itron → Bool
itron_fits (CreSem caller semid sematr isemcnt maxsem) = fits caller and fits semid and fits sematr and is_signed isemcnt and is_signed maxsem
itron_fits (DelSem caller semid) = fits caller and fits semid
itron_fits (SigSem caller semid) = fits caller and fits semid
itron_fits (WaiSem caller semid) = fits caller and fits semid
itron_fits (PreqSem caller semid) = fits caller and fits semid
itron_fits (TwaiSem caller semid tmout) = fits caller and fits semid and is_signed tmout

-- ---- runs: calls of the family, Classic deletes with the list, and calls of the manager, each on the bytes and the list that the one before left

pub data Event : Type 0 where
  Family : Itron → Event
  DeleteMapped : (caller id : ℕ) → Event
  Classic : Request → Event

pub record Lent : Type 0 where
  pub bytes : List ℕ
  pub list : List ℕ

-- what an event leaves; a call of the manager does not know the list
unfoldable pub after_event : Lent → Event → Lent
after_event m (Family call) = let r = code_reply m.bytes m.list (called call) in record { bytes = r.bytes; list = r.list }
after_event m (DeleteMapped caller id) = let r = delete_reply m.bytes m.list caller id in record { bytes = r.bytes; list = r.list }
after_event m (Classic request) = record { bytes = (reply_to m.bytes request.call request.priorities).bytes; list = m.list }

unfoldable pub after_events : Lent → List Event → Lent
after_events m [] = m
after_events m (e ∷ es) = after_events (after_event m e) es

-- the code that a call is answered
abbrev pub code_in : Lent → Itron → ℤ
code_in m call = (code_reply m.bytes m.list (called call)).answer.code

-- each number of an event is one of 32 bits
unfoldable pub event_fits : Event → Bool
event_fits (Family call) = itron_fits call
event_fits (DeleteMapped caller id) = fits caller and fits id
event_fits (Classic request) = call_fits request.call

unfoldable pub events_fit : List Event → Bool
events_fit [] = true
events_fit (e ∷ es) = event_fits e and events_fit es
