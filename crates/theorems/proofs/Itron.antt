-- What is promised of the ITRON calls, as Theorems.antt has it for the manager's: `list_agrees` says when the list agrees with tables, `both_agree` that lent
-- bytes and list agree. `code_reply`, `ref_reply` and `delete_reply` are what the functions of include/mastclover_itron.h promise, `code_of` is its
-- mast_itron_code, and `called` is any of the six calls that answer a code and the next task alone: `called (CreSem ..)` is `cre_sem ..`, and so on.
-- `itron_fits` says that a call's numbers are those of 32 bits, as every C caller's are. A run's events are calls of the six, Classic deletes with the list,
-- and the manager's eight calls.
use mathlib.Core.Path.{◌≡◌}
use mathlib.Core.Bool.{true, false}
use mathlib.Core.List.{List, []}
use mathlib.Core.Logic.{◌↔◌, ◌≢◌}
use Prim.Native.Nat.{ℕ, ◌%◌}
use lib.Dec.{leb, eqb}
use lib.IntN.{ℤ, pos, nat_abs}
use lib.ListN.{length, get_or, replicate}
use lib.Signed.{non_neg}
use Rattle.laws.specs.Choose.{choose, bit}
use Rattle.words.proofs.WordsInBytes.{Bytes, Words}
use Rattle.rules.specs.declared.Call.{Call}
use Rattle.rules.specs.declared.Call.TheVariants.{Create, Delete, Obtain, Release}
use Rattle.rules.specs.declared.Wait.TheVariants.{Poll, Forever}
use Rattle.rules.specs.Numbers.{successful, too_many, unsatisfied, internal_error}
use Rattle.rules.specs.Machine.{Tables, unstarted, slot_of, names, next}
use Rattle.rules.specs.Runs.{Request}
use Rattle.rules.specs.Fits.{call_fits}
use Rattle.rules.specs.Promises.{IsRefusal, is_in}
use Rattle.tables.specs.Layout.{laid, model_of}
use Rattle.agreement.specs.Bytes.{agrees_bytes}
use Rattle.manager.specs.Entry.{no_next, reply_to, task_reply}
use Rattle.state.specs.Reply.{load_reply}
use Rattle.sections.specs.Run.Event.{Other, NoEvent}
use Rattle.encoding.specs.Events.{events_of}
use Rattle.runner.specs.Reply.{run_reply}
use Rattle.mapping.specs.Mapping.{list_length, entry_of, forgotten, list_agrees, ListFits}
use Rattle.mapping.proofs.Agreeing as lists
use Rattle.itron.specs.declared.Coded.{Coded}
use Rattle.itron.specs.Codes.{minus, e_ok, e_sys, e_nomem, e_qovr, e_tmout, code_of, status_code}
use Rattle.itron.specs.Calls.{Listed, told_nothing, attributes_of, wait_for, cre_refusal, del_refusal, sig_refusal, twai_refusal}
use Rattle.itron.specs.Calls.{cre_sem, del_sem, sig_sem, wai_sem, preq_sem, twai_sem}
use Rattle.itron_calls.specs.Reply.{both_agree, no_code, code_reply, ref_reply, delete_reply}
use Rattle.itron_calls.proofs.Replying.{bytes_agree}
use Rattle.family.specs.Family.{Itron, called, codes, ref_codes, itron_fits, Event, Lent, code_in, after_event, after_events, event_fits, events_fit}
use Rattle.family.specs.Family.Itron.{CreSem, DelSem}
use Rattle.family.specs.Family.Event.{Family}
use Rattle.family.specs.Promises.{over_reply, mapped_reply, reply_unless, is_code, wait_codes, CodeGiven, RefCodeGiven, SemidFree, unmaps}
use Rattle.family.proofs.Equations as equations
use Rattle.family.proofs.Replies as replies
use Rattle.family.proofs.Witnesses as witnesses
use Rattle.family.proofs.Free as free
use Rattle.family.proofs.Lent as lent
use Rattle.theorems.proofs.BesideTheList as beside

-- ---- the list

-- it agrees exactly where it is 64 long, each entry is nothing or a live counting semaphore with a maximum of at most 2147483647, behind S nothing, none twice
pub list_agrees_exactly : (t : Tables) (list : List ℕ) → (list_agrees t list ≡ true) ↔ ListFits t list
list_agrees_exactly = lists.list_agrees_exactly

-- the empty list agrees with any bytes that agree
pub empty_list_agrees : (bs : List ℕ) → agrees_bytes bs ≡ true → both_agree bs (replicate list_length 0) ≡ true
empty_list_agrees = replies.empty_reply_agrees

-- on an unstarted machine it is the one that agrees
pub unstarted_list_exactly : (list : List ℕ) → (both_agree (laid unstarted) list ≡ true) ↔ (list ≡ replicate list_length 0)
unstarted_list_exactly = replies.unstarted_list_exactly

-- a loaded state begins with an empty list: a list that agrees where a file is loaded is that one, and it agrees with what was loaded
pub loaded_list_is_empty : (bs file list : List ℕ) → Bytes bs → (load_reply bs file).answer.status ≡ 0 → both_agree bs list ≡ true
    → (list ≡ replicate list_length 0) × (both_agree (load_reply bs file).bytes list ≡ true)
loaded_list_is_empty bs file list b done agree = beside.loaded_list bs file b done (bytes_agree bs list agree) list agree

-- ---- tables or a list that do not agree

-- E_SYS says exactly that they do not
pub e_sys_exactly : (bs list : List ℕ) (call : Itron) → itron_fits call ≡ true
    → ((code_reply bs list (called call)).answer.code ≡ e_sys) ↔ (both_agree bs list ≡ false)
e_sys_exactly = replies.sys_exactly

-- so does ref_sem's
pub ref_e_sys_exactly : (bs list : List ℕ) (caller semid : ℕ) → ((ref_reply bs list caller semid).code ≡ e_sys) ↔ (both_agree bs list ≡ false)
ref_e_sys_exactly = replies.ref_sys_exactly

-- and 25 of Classic delete with the list
pub delete_25_exactly : (bs list : List ℕ) (caller id : ℕ) → ((delete_reply bs list caller id).answer.status ≡ internal_error) ↔ (both_agree bs list ≡ false)
delete_25_exactly = replies.internal_error_exactly

-- with E_SYS there is no next task, and every byte and entry is as it was
pub disagreed_stays : (bs list : List ℕ) → both_agree bs list ≡ false → (call : Tables → List ℕ → Listed Coded)
    → code_reply bs list call ≡ record { answer = no_code; bytes = bs; list = list }
disagreed_stays = equations.disagreed_is_sys

-- ref_sem tells nothing
pub disagreed_tells_nothing : (bs list : List ℕ) → both_agree bs list ≡ false → (caller semid : ℕ) → ref_reply bs list caller semid ≡ told_nothing e_sys 0
disagreed_tells_nothing = equations.disagreed_tells_nothing

-- and Classic delete with the list deletes nothing
pub disagreed_deletes_nothing : (bs list : List ℕ) → both_agree bs list ≡ false → (caller id : ℕ)
    → delete_reply bs list caller id ≡ record { answer = no_next; bytes = bs; list = list }
disagreed_deletes_nothing = equations.disagreed_deletes_nothing

-- ---- tables and list that agree still agree

-- after each of the six calls; ref_sem is lent both to read alone
pub agreement_kept : (bs list : List ℕ) → both_agree bs list ≡ true → (call : Itron) → itron_fits call ≡ true
    → let r = code_reply bs list (called call) in both_agree r.bytes r.list ≡ true
agreement_kept = replies.family_reply_kept

-- after Classic delete with the list
pub agreement_kept_by_delete : (bs list : List ℕ) → both_agree bs list ≡ true → (caller id : ℕ)
    → let r = delete_reply bs list caller id in both_agree r.bytes r.list ≡ true
agreement_kept_by_delete = replies.mapped_delete_reply_kept

-- after each of the manager's eight calls but a delete without the list, done, of an identifier that stands in it
pub agreement_kept_by_the_manager : (bs list : List ℕ) → both_agree bs list ≡ true → (call : Call) (priorities : List ℕ) → call_fits call ≡ true
    → let r = reply_to bs call priorities in (r.answer.status ≡ 0 → unmaps call list ≡ false) → both_agree r.bytes list ≡ true
agreement_kept_by_the_manager = replies.classic_reply_kept

-- and after a run of guarded sections, unless an event of others is a delete of an identifier that stands in the list; `run_reply` is what mast_run promises
pub agreement_kept_by_a_run : (bs list scripts events ids cells locals places grants : List ℕ) → Words scripts → Words events → both_agree bs list ≡ true
    → ((k : ℕ) (r : Request) → get_or (events_of events) k NoEvent ≡ Other r → unmaps r.call list ≡ false)
    → both_agree (run_reply bs scripts events ids cells locals places grants).bytes list ≡ true
agreement_kept_by_a_run = beside.run_leaves_list

-- the next task that a call tells is that of the tables it leaves
pub next_is_told : (bs list : List ℕ) → both_agree bs list ≡ true → (call : Itron) → itron_fits call ≡ true
    → let r = code_reply bs list (called call) in r.answer.next ≡ next (model_of r.bytes)
next_is_told = replies.reply_next

-- ---- a refusal changes neither

-- a negative code leaves every byte and entry, and the next task is as it is, with E_SYS none
pub refusal_changes_nothing : (bs list : List ℕ) (call : Itron) → Bytes bs → let r = code_reply bs list (called call) in non_neg r.answer.code ≡ false
    → (r.bytes ≡ bs) × (r.list ≡ list) × (r.answer.next ≡ choose (both_agree bs list) (next (model_of bs)) 0)
refusal_changes_nothing = replies.refusal_leaves

-- so does a refused delete with the list, where 25 has no next task
pub refused_delete_changes_nothing : (bs list : List ℕ) (caller id : ℕ) → Bytes bs → let r = delete_reply bs list caller id in IsRefusal r.answer.status
    → (r.bytes ≡ bs) × (r.list ≡ list) × (r.answer.next ≡ choose (both_agree bs list) (next (model_of bs)) 0)
refused_delete_changes_nothing = replies.mapped_delete_refusal_leaves

-- ---- codes are exactly those of a list

-- where both agree, a call's code is one of those that are listed for it
pub codes_listed : (bs list : List ℕ) → both_agree bs list ≡ true → (call : Itron) → itron_fits call ≡ true
    → is_code (code_reply bs list (called call)).answer.code (codes call) ≡ true
codes_listed = replies.reply_listed

-- and each of those is given, where both agree, to some call of its kind
pub codes_given : (call : Itron) (code : ℤ) → is_code code (codes call) ≡ true → CodeGiven call code
codes_given = witnesses.codes_given

-- so of ref_sem: its code is one of those listed for it
pub ref_codes_listed : (bs list : List ℕ) → both_agree bs list ≡ true → (caller semid : ℕ) → is_code (ref_reply bs list caller semid).code ref_codes ≡ true
ref_codes_listed = replies.ref_reply_listed

-- and each of those is given, where both agree, to some ref_sem
pub ref_codes_given : (code : ℤ) → is_code code ref_codes ≡ true → RefCodeGiven code
ref_codes_given = witnesses.ref_codes_given

-- the answer that mast_task tells is, as a code, one of a wait's, and so never E_SYS
pub answers_known : (bs : List ℕ) (q : ℕ) → let a = task_reply bs q in a.status ≡ 0 → is_code (code_of a.value) wait_codes ≡ true
answers_known = replies.task_reply_known

-- ---- a semid may come back, an identifier does not

-- after del_sem its semid is free: it stands for nothing, and its create is refused for its caller, its arguments or want of a slot alone
pub semid_free_after_del : (bs list : List ℕ) (caller semid : ℕ) → itron_fits (DelSem caller semid) ≡ true
    → let r = code_reply bs list (called (DelSem caller semid)) in r.answer.code ≡ e_ok → SemidFree r.bytes r.list semid
semid_free_after_del = free.free_after_del

-- so is, after Classic delete with the list, a semid that stood for the identifier
pub semid_free_after_delete : (bs list : List ℕ) (caller id : ℕ) → let r = delete_reply bs list caller id in r.answer.status ≡ 0
    → (semid : ℕ) → semid ≢ 0 → entry_of list semid ≡ id → SemidFree r.bytes r.list semid
semid_free_after_delete = free.free_after_delete

-- and no entry is the identifier any more
pub unlisted_after_delete : (bs list : List ℕ) (caller id : ℕ) → let r = delete_reply bs list caller id in
    r.answer.status ≡ 0 → is_in id r.list ≡ false
unlisted_after_delete = free.unlisted_after_delete

-- a create that gives E_OK leaves the identifier of a live semaphore at its semid
pub created_entry_lives : (m : Lent) → Bytes m.bytes → (caller semid sematr : ℕ) (isemcnt maxsem : ℤ) → let create =
    CreSem caller semid sematr isemcnt maxsem in
    itron_fits create ≡ true → code_in m create ≡ e_ok → let made = after_event m (Family create) in
    names (model_of made.bytes) (entry_of made.list semid) ≡ true
created_entry_lives = lent.created_lives

-- two creates that give E_OK, at one semid or two, leave different identifiers, whatever events are between them
pub created_entries_differ : (m : Lent) → Bytes m.bytes → (caller semid sematr : ℕ) (isemcnt maxsem : ℤ) → let first =
    CreSem caller semid sematr isemcnt maxsem in
    itron_fits first ≡ true → code_in m first ≡ e_ok → (events : List Event) → events_fit events ≡ true
    → (caller' semid' sematr' : ℕ) (isemcnt' maxsem' : ℤ) → let again = CreSem caller' semid' sematr' isemcnt' maxsem' in itron_fits again ≡ true
    → let made = after_event m (Family first) in
    let u = after_events made events in
    code_in u again ≡ e_ok → entry_of made.list semid ≢ entry_of (after_event u (Family again)).list semid'
created_entries_differ = lent.created_differ

-- and none of them, whatever events are before it, leaves the identifier that a del_sem took from its semid
pub deleted_entry_differs : (m : Lent) → Bytes m.bytes → (caller semid : ℕ) → let del = DelSem caller semid in
    itron_fits del ≡ true → code_in m del ≡ e_ok → (events : List Event) → events_fit events ≡ true
    → (caller' semid' sematr : ℕ) (isemcnt maxsem : ℤ) → let again = CreSem caller' semid' sematr isemcnt maxsem in itron_fits again ≡ true
    → let u = after_events (after_event m (Family del)) events in
    code_in u again ≡ e_ok → entry_of m.list semid ≢ entry_of (after_event u (Family again)).list semid'
deleted_entry_differs = lent.deleted_differ

-- nor does it come back to any other call: an identifier that named a semaphore and, by del_sem or by either Classic delete, names none after an event, never
-- names one again, whatever events follow
pub deleted_names_never_again : (m : Lent) → Bytes m.bytes → agrees_bytes m.bytes ≡ true → (id : ℕ) → names (model_of m.bytes) id ≡ true
    → (event : Event) → event_fits event ≡ true → names (model_of (after_event m event).bytes) id ≡ false
    → (events : List Event) → events_fit events ≡ true → names (model_of (after_events (after_event m event) events).bytes) id ≡ false
deleted_names_never_again = lent.unnamed_for_good

-- ---- Classic delete without the list

-- done on a mapped semaphore, it leaves a list that never agrees again, whatever events are after it, and stays as it is
pub plain_delete_ends_the_list : (m : Lent) → Bytes m.bytes → (semid caller : ℕ) (priorities : List ℕ) → let id = entry_of m.list semid in
    id ≢ 0 → call_fits (Delete caller id) ≡ true → let r = reply_to m.bytes (Delete caller id) priorities in r.answer.status ≡ 0
    → (events : List Event) → events_fit events ≡ true → let n = after_events (record { bytes = r.bytes; list = m.list }) events in
    (both_agree n.bytes n.list ≡ false) × (n.list ≡ m.list)
plain_delete_ends_the_list = lent.plain_delete_ends

-- ---- each call is the Classic call that it stands on, unless its checks refuse it

module _ (bs list : List ℕ) (agree : both_agree bs list ≡ true) (b : Bytes bs) (caller semid : ℕ) where
  -- a create, with the list mapped to its identifier where it is done
  pub cre_sem_is_create : (sematr : ℕ) (isemcnt maxsem : ℤ) → let r =
      reply_to bs (Create caller semid (nat_abs isemcnt) (attributes_of sematr) (nat_abs maxsem)) [] in
      code_reply bs list (λ t l. cre_sem t l caller semid sematr isemcnt maxsem)
      ≡ reply_unless (cre_refusal (model_of bs) list caller semid sematr isemcnt maxsem) bs list
      (over_reply (status_code too_many e_nomem) (mapped_reply list semid r) r)
  cre_sem_is_create = equations.cre_is_create bs list agree b caller semid

  -- a delete, with the semid mapped to its value, nothing, where it is done
  pub del_sem_is_delete : let r = reply_to bs (Delete caller (entry_of list semid)) [] in
      code_reply bs list (λ t l. del_sem t l caller semid)
      ≡ reply_unless (del_refusal (model_of bs) list caller semid) bs list (over_reply code_of (mapped_reply list semid r) r)
  del_sem_is_delete = equations.del_is_delete bs list agree b caller semid

  -- a release
  pub sig_sem_is_release : code_reply bs list (λ t l. sig_sem t l caller semid)
      ≡ reply_unless (sig_refusal (model_of bs) list caller semid) bs list
      (over_reply (status_code unsatisfied e_qovr) list (reply_to bs (Release caller (entry_of list semid)) []))
  sig_sem_is_release = equations.sig_is_release bs list agree b caller semid

  -- an obtain, with the wait that tmout says
  pub twai_sem_is_obtain : (tmout : ℤ) → code_reply bs list (λ t l. twai_sem t l caller semid tmout)
      ≡ reply_unless (twai_refusal (model_of bs) list caller semid tmout) bs list
      (over_reply (status_code unsatisfied e_tmout) list (reply_to bs (Obtain caller (entry_of list semid) (wait_for tmout)) []))
  twai_sem_is_obtain = equations.twai_is_obtain bs list agree b caller semid

  -- an obtain that waits for ever
  pub wai_sem_waits_for_ever : code_reply bs list (λ t l. wai_sem t l caller semid)
      ≡ reply_unless (twai_refusal (model_of bs) list caller semid (minus 1)) bs list
      (over_reply (status_code unsatisfied e_tmout) list (reply_to bs (Obtain caller (entry_of list semid) Forever) []))
  wai_sem_waits_for_ever = equations.wai_is_obtain_for_ever bs list agree b caller semid

  -- an obtain that polls
  pub preq_sem_polls : code_reply bs list (λ t l. preq_sem t l caller semid)
      ≡ reply_unless (twai_refusal (model_of bs) list caller semid (pos 0)) bs list
      (over_reply (status_code unsatisfied e_tmout) list (reply_to bs (Obtain caller (entry_of list semid) Poll) []))
  preq_sem_polls = equations.preq_is_poll bs list agree b caller semid

module _ (bs list : List ℕ) (agree : both_agree bs list ≡ true) (caller semid : ℕ) where
  -- ref_sem tells of the live semaphore that semid stands for: exinf 0, wtsk 1 if a task waits, else 0, and the count
  pub ref_sem_tells : non_neg (sig_refusal (model_of bs) list caller semid) ≡ true
      → let t = model_of bs in
      let id = entry_of list semid in
      let s = slot_of t (id % 65536) in
      (names t id ≡ true)
      × (ref_reply bs list caller semid
      ≡ record { code = e_ok; next = next t; exinf = pos 0; wtsk = pos (bit (leb 1 (length s.queue))); semcnt = pos s.count })
  ref_sem_tells = equations.ref_tells bs list agree caller semid

  -- refused, it tells the code and the next task alone
  pub ref_sem_refused : let refusal = sig_refusal (model_of bs) list caller semid in non_neg refusal ≡ false
      → ref_reply bs list caller semid ≡ told_nothing refusal (next (model_of bs))
  ref_sem_refused = equations.ref_refused bs list agree caller semid

-- Classic delete with the list is Classic delete; done, it drops the mapping
pub delete_with_the_list : (bs list : List ℕ) → both_agree bs list ≡ true → (caller id : ℕ) → let r = reply_to bs (Delete caller id) [] in
    delete_reply bs list caller id
    ≡ record { answer = r.answer; bytes = r.bytes; list = choose (eqb r.answer.status successful) (forgotten id list) list }
delete_with_the_list = equations.mapped_delete_is_delete
