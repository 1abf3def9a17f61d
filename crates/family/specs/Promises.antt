-- Request 5: what the statements on the family need: Classic replies beside a list, codes that are given, when a semid is free, which call unmaps.
use Rattle.std.specs.Prelude.{◌≡◌, Bool, true, false, List, [], ◌∷◌, ℕ, ◌<◌, eqb, ℤ, pos, negsuc, get_or}
use Rattle.std.specs.Int.Signed.{non_neg}
use Rattle.laws.specs.Choose.{choose, ◌or◌}
use Rattle.rules.specs.declared.Call.{Call}
use Rattle.rules.specs.declared.Call.TheVariants.{Start, Create, Ident, Delete, Obtain, Release, Flush, Tick}
use Rattle.rules.specs.Numbers.{successful}
use Rattle.rules.specs.Machine.{next}
use Rattle.rules.specs.Agreement.{is_ready_task}
use Rattle.rules.specs.Calls.{open_slot}
use Rattle.rules.specs.Promises.{is_in}
use Rattle.rules.specs.Fits.{fits}
use Rattle.tables.specs.Layout.{model_of}
use Rattle.manager.specs.Entry.{Reply}
use Rattle.mapping.specs.Mapping.{entry_of, map_to}
use Rattle.itron.specs.declared.Coded.{Coded}
use Rattle.itron.specs.Codes.{e_ok, e_nomem, e_dlt, e_tmout, e_rlwai, began}
use Rattle.itron.specs.Calls.{counts_allowed}
use Rattle.itron_calls.specs.Reply.{both_agree, ListReply, code_reply, ref_reply}
use Rattle.family.specs.Family.{Itron, called, itron_fits}
use Rattle.family.specs.Family.Itron.{CreSem, DelSem, SigSem, WaiSem, PreqSem, TwaiSem}

-- ---- Classic replies beside a list

-- a Classic reply, its status as a code, beside a list
abbrev pub over_reply : (ℕ → ℤ) → List ℕ → Reply → ListReply Coded
over_reply code list r = record { answer = record { code = code r.answer.status; next = r.answer.next }; bytes = r.bytes; list = list }

-- the list after a Classic reply that was done
abbrev pub mapped_reply : List ℕ → ℕ → Reply → List ℕ
mapped_reply list semid r = choose (eqb r.answer.status successful) (map_to list semid r.answer.value) list

-- unless the checks gave a refusal, which is a negative number: it is the code, the next task is as it is, and so is every byte and entry
abbrev pub reply_unless : ℤ → List ℕ → List ℕ → ListReply Coded → ListReply Coded
reply_unless refusal bs list done =
    choose (non_neg refusal) done (record { answer = record { code = refusal; next = next (model_of bs) }; bytes = bs; list = list })

-- ---- codes

abbrev pub same_code : ℤ → ℤ → Bool
same_code (pos a) (pos b) = eqb a b
same_code (pos a) (negsuc b) = false
same_code (negsuc a) (pos b) = false
same_code (negsuc a) (negsuc b) = eqb a b

unfoldable pub is_code : ℤ → List ℤ → Bool
is_code z [] = false
is_code z (x ∷ xs) = same_code z x or is_code z xs

-- those of a wait, while it lasts and when it ends
abbrev pub wait_codes : List ℤ
wait_codes = began ∷ e_ok ∷ e_tmout ∷ e_dlt ∷ e_rlwai ∷ []

-- the kinds of calls
unfoldable pub itron_kind : Itron → ℕ
itron_kind (CreSem caller semid sematr isemcnt maxsem) = 1
itron_kind (DelSem caller semid) = 2
itron_kind (SigSem caller semid) = 3
itron_kind (WaiSem caller semid) = 4
itron_kind (PreqSem caller semid) = 5
itron_kind (TwaiSem caller semid tmout) = 6

-- on some bytes and a list that agree some call of the same kind, its numbers of 32 bits, gives that code
pub record CodeGiven (call : Itron) (code : ℤ) : Type 0 where
  pub bytes : List ℕ
  pub are_bytes : (k : ℕ) → get_or bytes k 0 < 256
  pub list : List ℕ
  pub agree : both_agree bytes list ≡ true
  pub other : Itron
  pub same_kind : itron_kind other ≡ itron_kind call
  pub other_fits : itron_fits other ≡ true
  pub gives : (code_reply bytes list (called other)).answer.code ≡ code

-- and some ref_sem
pub record RefCodeGiven (code : ℤ) : Type 0 where
  pub bytes : List ℕ
  pub are_bytes : (k : ℕ) → get_or bytes k 0 < 256
  pub list : List ℕ
  pub agree : both_agree bytes list ≡ true
  pub caller : ℕ
  pub caller_fits : fits caller ≡ true
  pub semid : ℕ
  pub semid_fits : fits semid ≡ true
  pub gives : (ref_reply bytes list caller semid).code ≡ code

-- ---- a semid that is free

pub record SemidFree (bs list : List ℕ) (semid : ℕ) : Type 0 where
  -- it stands for nothing
  pub nothing : entry_of list semid ≡ 0
  -- a create of it by a ready task, with arguments that are allowed, gives E_OK, or E_NOMEM where no slot is open
  pub created : (caller sematr : ℕ) (isemcnt maxsem : ℤ) → let create = CreSem caller semid sematr isemcnt maxsem in itron_fits create ≡ true
      → let t = model_of bs in
      is_ready_task t caller ≡ true → (eqb sematr 0 or eqb sematr 1) ≡ true → counts_allowed isemcnt maxsem ≡ true
      → (code_reply bs list (called create)).answer.code ≡ choose (eqb (open_slot t) 0) e_nomem e_ok

-- ---- agreement

-- a delete of an identifier that stands in the list: once done, the list no longer agrees
unfoldable pub unmaps : Call → List ℕ → Bool
unmaps (Start slots) list = false
unmaps (Create caller name count attributes maximum) list = false
unmaps (Ident name) list = false
unmaps (Delete caller id) list = is_in id list
unmaps (Obtain caller id wait) list = false
unmaps (Release caller id) list = false
unmaps (Flush caller id) list = false
unmaps Tick list = false
