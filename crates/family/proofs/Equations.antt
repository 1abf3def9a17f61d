-- Each call over bytes is the Classic call that it stands on; tables or a list that do not agree get E_SYS, or 25, and stay.
use mathlib.Core.Path.{◌≡◌, sym, ap, ◌∙◌}
use mathlib.Core.Bool.{true, false}
use mathlib.Core.List.{List, []}
use mathlib.Core.Logic.{⊎_elim}
use Prim.Native.Nat.{ℕ, pred, ◌%◌}
use lib.Dec.{leb, eqb}
use lib.IntN.{ℤ, pos, nat_abs}
use lib.ListN.{length}
use lib.Signed.{non_neg}
use Rattle.laws.specs.Choose.{choose, bit}
use Rattle.laws.proofs.Choose.{if_yes, if_no, and_both}
use Rattle.laws.proofs.Choose as choices
use Rattle.words.proofs.WordsInBytes.{Bytes}
use Rattle.rules.specs.declared.Call.{Call}
use Rattle.rules.specs.declared.Call.TheVariants.{Create, Delete, Obtain, Release}
use Rattle.rules.specs.declared.Wait.TheVariants.{Poll, Forever}
use Rattle.rules.specs.declared.Answer.{Answer}
use Rattle.rules.specs.Numbers.{successful, too_many, unsatisfied}
use Rattle.rules.specs.Machine.{Slot, Tables, slot_of, names, next}
use Rattle.rules.specs.Calls.{perform}
use Rattle.rules.proofs.History.Used.{named_names}
use Rattle.tables.specs.Layout.{laid, model_of}
use Rattle.manager.specs.Entry.{Reply, reply, no_next, reply_to}
use Rattle.manager.proofs.Tested.{tested}
use Rattle.mapping.specs.Mapping.{entry_of, forgotten, ListFits}
use Rattle.mapping.proofs.Agreeing.{list_fits}
use Rattle.itron.specs.declared.Coded.{Coded}
use Rattle.itron.specs.declared.Reference.{Reference}
use Rattle.itron.specs.Codes.{minus, e_ok, e_sys, e_nomem, e_qovr, e_tmout, code_of, status_code}
use Rattle.itron.specs.Calls.{Listed, told_nothing, attributes_of, wait_for, cre_refusal, del_refusal, sig_refusal, twai_refusal}
use Rattle.itron.specs.Calls.{cre_sem, del_sem, sig_sem, wai_sem, preq_sem, twai_sem, ref_sem, delete_mapped}
use Rattle.itron_calls.specs.Reply.{both_agree, ListReply, reply_with, no_code, code_reply, ref_reply, delete_reply}
use Rattle.itron_calls.proofs.Replying.{bytes_agree}
use Rattle.family.specs.Family.{Itron, called}
use Rattle.family.specs.Family.Itron.{CreSem, DelSem, SigSem, TwaiSem}
use Rattle.family.specs.Promises.{over_reply, mapped_reply, reply_unless}
use Rattle.family.proofs.Standing.{refusal_of, classic_of, code_by, list_by, outcome_of, called_is}
use Rattle.family.proofs.Passing.{sig_passed}
use Rattle.family.proofs.Entries.{mappable_is}

-- ---- tables or a list that do not agree

module _ (bs list : List ℕ) (disagree : both_agree bs list ≡ false) where
  pub disagreed_is_sys : (call : Tables → List ℕ → Listed Coded) → code_reply bs list call ≡ record { answer = no_code; bytes = bs; list = list }
  unfolding reply_with
  disagreed_is_sys call = if_no _ _ disagree

  pub disagreed_tells_nothing : (caller semid : ℕ) → ref_reply bs list caller semid ≡ told_nothing e_sys 0
  unfolding ref_reply
  disagreed_tells_nothing caller semid = if_no _ _ disagree

  pub disagreed_deletes_nothing : (caller id : ℕ) → delete_reply bs list caller id ≡ record { answer = no_next; bytes = bs; list = list }
  unfolding reply_with
  disagreed_deletes_nothing caller id = if_no _ _ disagree

-- ---- and those that do

module _ (bs list : List ℕ) (agree : both_agree bs list ≡ true) where
  -- the Classic reply is that of the rules
  classic : (call : Call) → reply (perform (model_of bs) call []) ≡ reply_to bs call []
  unfolding reply_to
  classic call = sym (if_yes _ _ (bytes_agree bs list agree))

  pub reply_called : (call : Tables → List ℕ → Listed Coded) → let o = call (model_of bs) list in
      code_reply bs list call ≡ record { answer = o.answer; bytes = laid o.tables; list = o.list }
  unfolding reply_with
  reply_called call = if_yes _ _ agree

  -- what the checks refuse leaves every byte and entry
  refused_reply : (call : Itron) → Bytes bs → let refusal = refusal_of call (model_of bs) list in non_neg refusal ≡ false
      → code_reply bs list (called call) ≡ record { answer = record { code = refusal; next = next (model_of bs) }; bytes = bs; list = list }
  refused_reply call b n =
      let r = refusal_of call (model_of bs) list in
      reply_called (called call)
      ∙ ap {B = ListReply Coded} (λ (o : Listed Coded). record { answer = o.answer; bytes = laid o.tables; list = o.list })
      (called_is call (model_of bs) list ∙ if_no _ _ n)
      ∙ ap {B = ListReply Coded} (λ (l : List ℕ). record { answer = record { code = r; next = next (model_of bs) }; bytes = l; list = list })
      (sym (tested b (bytes_agree bs list agree)).same)

  -- the Classic reply otherwise
  done_reply : (call : Itron) → non_neg (refusal_of call (model_of bs) list) ≡ true → let o = outcome_of call (model_of bs) list in
      code_reply bs list (called call) ≡ over_reply (code_by call) (list_by call list o) (reply o)
  done_reply call y =
      reply_called (called call)
      ∙ ap {B = ListReply Coded} (λ (o : Listed Coded). record { answer = o.answer; bytes = laid o.tables; list = o.list })
      (called_is call (model_of bs) list ∙ if_yes _ _ y)

  -- both in one
  reply_is : (call : Itron) → Bytes bs → let o = outcome_of call (model_of bs) list in
      code_reply bs list (called call) ≡ reply_unless (refusal_of call (model_of bs) list) bs list (over_reply (code_by call) (list_by call list o) (reply o))
  reply_is call b =
      ⊎_elim (λ (y : non_neg (refusal_of call (model_of bs) list) ≡ true). done_reply call y ∙ sym (if_yes _ _ y))
      (λ (n : non_neg (refusal_of call (model_of bs) list) ≡ false). refused_reply call b n ∙ sym (if_no _ _ n))
      (choices.tested (non_neg (refusal_of call (model_of bs) list)))

  module _ (b : Bytes bs) (caller semid : ℕ) where
    pub cre_is_create : (sematr : ℕ) (isemcnt maxsem : ℤ) → let r =
        reply_to bs (Create caller semid (nat_abs isemcnt) (attributes_of sematr) (nat_abs maxsem)) [] in
        code_reply bs list (λ t l. cre_sem t l caller semid sematr isemcnt maxsem)
        ≡ reply_unless (cre_refusal (model_of bs) list caller semid sematr isemcnt maxsem) bs list
        (over_reply (status_code too_many e_nomem) (mapped_reply list semid r) r)
    unfolding called refusal_of classic_of code_by list_by
    cre_is_create sematr isemcnt maxsem =
        reply_is (CreSem caller semid sematr isemcnt maxsem) b
        ∙ ap {B = ListReply Coded}
        (λ (r : Reply).
        reply_unless (cre_refusal (model_of bs) list caller semid sematr isemcnt maxsem) bs list
        (over_reply (status_code too_many e_nomem) (mapped_reply list semid r) r))
        (classic (Create caller semid (nat_abs isemcnt) (attributes_of sematr) (nat_abs maxsem)))

    pub del_is_delete : let r = reply_to bs (Delete caller (entry_of list semid)) [] in
        code_reply bs list (λ t l. del_sem t l caller semid)
        ≡ reply_unless (del_refusal (model_of bs) list caller semid) bs list (over_reply code_of (mapped_reply list semid r) r)
    unfolding called refusal_of classic_of code_by list_by
    del_is_delete =
        reply_is (DelSem caller semid) b
        ∙ ap {B = ListReply Coded}
        (λ (r : Reply). reply_unless (del_refusal (model_of bs) list caller semid) bs list (over_reply code_of (mapped_reply list semid r) r))
        (classic (Delete caller (entry_of list semid)))

    pub sig_is_release : code_reply bs list (λ t l. sig_sem t l caller semid)
        ≡ reply_unless (sig_refusal (model_of bs) list caller semid) bs list
        (over_reply (status_code unsatisfied e_qovr) list (reply_to bs (Release caller (entry_of list semid)) []))
    unfolding called refusal_of classic_of code_by list_by
    sig_is_release =
        reply_is (SigSem caller semid) b
        ∙ ap {B = ListReply Coded}
        (λ (r : Reply). reply_unless (sig_refusal (model_of bs) list caller semid) bs list (over_reply (status_code unsatisfied e_qovr) list r))
        (classic (Release caller (entry_of list semid)))

    pub twai_is_obtain : (tmout : ℤ) → code_reply bs list (λ t l. twai_sem t l caller semid tmout)
        ≡ reply_unless (twai_refusal (model_of bs) list caller semid tmout) bs list
        (over_reply (status_code unsatisfied e_tmout) list (reply_to bs (Obtain caller (entry_of list semid) (wait_for tmout)) []))
    unfolding called refusal_of classic_of code_by list_by
    twai_is_obtain tmout =
        reply_is (TwaiSem caller semid tmout) b
        ∙ ap {B = ListReply Coded}
        (λ (r : Reply). reply_unless (twai_refusal (model_of bs) list caller semid tmout) bs list (over_reply (status_code unsatisfied e_tmout) list r))
        (classic (Obtain caller (entry_of list semid) (wait_for tmout)))

    pub wai_is_obtain_for_ever : code_reply bs list (λ t l. wai_sem t l caller semid)
        ≡ reply_unless (twai_refusal (model_of bs) list caller semid (minus 1)) bs list
        (over_reply (status_code unsatisfied e_tmout) list (reply_to bs (Obtain caller (entry_of list semid) Forever) []))
    unfolding wait_for
    wai_is_obtain_for_ever = twai_is_obtain (minus 1)

    pub preq_is_poll : code_reply bs list (λ t l. preq_sem t l caller semid)
        ≡ reply_unless (twai_refusal (model_of bs) list caller semid (pos 0)) bs list
        (over_reply (status_code unsatisfied e_tmout) list (reply_to bs (Obtain caller (entry_of list semid) Poll) []))
    unfolding wait_for
    preq_is_poll = twai_is_obtain (pos 0)

  -- ref_sem tells of the live semaphore that semid stands for, and all 0 where it is refused
  module _ (caller semid : ℕ) where
    pub ref_tells : non_neg (sig_refusal (model_of bs) list caller semid) ≡ true
        → let t = model_of bs in
        let id = entry_of list semid in
        let s = slot_of t (id % 65536) in
        (names t id ≡ true)
        × (ref_reply bs list caller semid
        ≡ record { code = e_ok; next = next t; exinf = pos 0; wtsk = pos (bit (leb 1 (length s.queue))); semcnt = pos s.count })
    unfolding both_agree ref_reply ref_sem
    ref_tells y =
        let t = model_of bs in
        let f : ListFits t list = list_fits (and_both _ _ agree).1 in
        let m = mappable_is t _ (f.mappable (pred semid) (sig_passed t list caller semid y).something) in
        let n = named_names t (entry_of list semid) m.named in
        (n, if_yes _ _ agree ∙ if_yes _ _ y ∙ ap {B = Reference} (λ (k : ℕ). told (slot_of t k)) (if_yes _ _ n))
      where
        told : Slot → Reference
        told s = record { code = e_ok; next = next (model_of bs); exinf = pos 0; wtsk = pos (bit (leb 1 (length s.queue))); semcnt = pos s.count }

    pub ref_refused : let refusal = sig_refusal (model_of bs) list caller semid in non_neg refusal ≡ false
        → ref_reply bs list caller semid ≡ told_nothing refusal (next (model_of bs))
    unfolding ref_reply ref_sem
    ref_refused n = if_yes _ _ agree ∙ if_no _ _ n

  -- Classic delete with the list is Classic delete, and drops the mapping
  pub mapped_delete_is_delete : (caller id : ℕ) → let r = reply_to bs (Delete caller id) [] in
      delete_reply bs list caller id
      ≡ record { answer = r.answer; bytes = r.bytes; list = choose (eqb r.answer.status successful) (forgotten id list) list }
  unfolding reply_with delete_mapped perform
  mapped_delete_is_delete caller id =
      if_yes _ _ agree
      ∙ ap {B = ListReply Answer}
      (λ (r : Reply). record { answer = r.answer; bytes = r.bytes; list = choose (eqb r.answer.status successful) (forgotten id list) list })
      (classic (Delete caller id))
