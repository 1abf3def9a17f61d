-- Runs over lent bytes and a lent list go as those over the tables that the bytes hold, so that what is so of identifiers there is so of the bytes.
use mathlib.Core.Path.{◌≡◌, refl, sym, ap, subst, subst₂, ◌∙◌}
use mathlib.Core.Bool.{Bool, true, false}
use mathlib.Core.List.{List, [], ◌∷◌}
use mathlib.Core.Logic.{⊎_elim, ◌≢◌}
use Prim.Native.Nat.{ℕ}
use native.Mathlib.Omega.{arith}
use lib.IntN.{ℤ}
use Rattle.laws.specs.Choose.{choose, ◌and◌}
use Rattle.laws.proofs.Choose.{if_yes, if_no, and_both, choose_map, choose_same, tested}
use Rattle.words.proofs.WordsInBytes.{Bytes}
use Rattle.rules.specs.declared.Call.TheVariants.{Delete}
use Rattle.rules.specs.Machine.{Tables, names}
use Rattle.rules.specs.Agreement.{Agrees, agrees}
use Rattle.rules.specs.Runs.{step_of}
use Rattle.rules.specs.Fits.{call_fits}
use Rattle.rules.proofs.Invariants.Agreeing.{true_agrees, agrees_true}
use Rattle.rules.proofs.Invariants.Kept.{kept}
use Rattle.tables.specs.Layout.{laid, model_of}
use Rattle.agreement.specs.Bytes.{agrees_bytes}
use Rattle.calls.specs.Agreeing.{Agreeing}
use Rattle.calls.proofs.Agreeing.{model_is, agreeing_laid}
use Rattle.manager.specs.Entry.{Reply, no_next, reply_to}
use Rattle.manager.proofs.Tested.{passes}
use Rattle.manager.proofs.Tested as test
use Rattle.manager.proofs.Runs.{reply_is, reply_otherwise}
use Rattle.mapping.specs.Mapping.{entry_of, list_agrees}
use Rattle.itron.specs.declared.Coded.{Coded}
use Rattle.itron.specs.Codes.{e_ok, e_sys}
use Rattle.itron.specs.Calls.{Listed, delete_mapped}
use Rattle.itron_calls.specs.Reply.{both_agree, ListReply, reply_with, no_code, code_reply}
use Rattle.itron_calls.proofs.Replying.{bytes_agree}
use Rattle.family.specs.Family.{Itron, called, itron_fits, Event, code_in, Lent, after_event, after_events, event_fits, events_fit}
use Rattle.family.specs.Family.Itron.{CreSem, DelSem}
use Rattle.family.specs.Family.Event.{Family, DeleteMapped, Classic}
use Rattle.family.proofs.Replies.{ok_agree}
use Rattle.family.proofs.Kept.{family_kept, mapped_delete_kept}
use Rattle.family.proofs.Identifiers.{unnamed_stays, cre_made, created_entries_differ, deleted_never_given, plain_delete_ends_the_list}
use Rattle.family.proofs.Runs.{Both, agree_together, both_after, both_after_all, both_code, both_in}

-- bytes that agree, and the tables and the list after an event or a run of them
pub record Goes (m : Lent) (b : Both) : Type 0 where
  pub agreeing : Agreeing m.bytes
  pub held : both_in m ≡ b

abbrev lent : {A : Type 0} → ListReply A → Lent
lent r = record { bytes = r.bytes; list = r.list }

-- tables that agree, laid beside a list
goes_laid : (t : Tables) (list : List ℕ) → Agrees t → Goes (record { bytes = laid t; list = list }) (record { tables = t; list = list })
goes_laid t list a = record {
  agreeing = agreeing_laid t a (laid t) refl;
  held = ap {B = Both} (λ (u : Tables). record { tables = u; list = list }) (model_is t a (laid t) refl);
}

module _ (m : Lent) (g : Agreeing m.bytes) where
  abbrev t : Tables
  t = model_of m.bytes

  abbrev b : Both
  b = both_in m

  -- the test of bytes and list is that of tables and list
  same_test : both_agree m.bytes m.list ≡ agree_together b
  unfolding both_agree
  same_test = if_yes _ _ (passes g) ∙ sym (if_yes _ _ (agrees_true t g.agrees))

  -- a call that is done where both agree
  module _ {A : Type 0} (disagreed : A) (call : Tables → List ℕ → Listed A) (done : agree_together b ≡ true → Agrees (call t m.list).tables) where
    call_goes : Goes (lent (reply_with m.bytes m.list disagreed call))
        (choose (agree_together b) (record { tables = (call t m.list).tables; list = (call t m.list).list }) b)
    unfolding reply_with
    call_goes =
        ⊎_elim
        (λ (y : agree_together b ≡ true).
        subst₂ Goes (sym (ap {B = Lent} (λ (r : ListReply A). lent r) (if_yes _ _ (same_test ∙ y)))) (sym (if_yes _ _ y))
        (goes_laid (call t m.list).tables _ (done y)))
        (λ (n : agree_together b ≡ false).
        subst₂ Goes (sym (ap {B = Lent} (λ (r : ListReply A). lent r) (if_no _ _ (same_test ∙ n)))) (sym (if_no _ _ n)) (record { agreeing = g; held = refl }))
        (tested (agree_together b))

  event_goes : (e : Event) → event_fits e ≡ true → Goes (after_event m e) (both_after b e)
  unfolding after_event both_after event_fits
  event_goes (Family call) f =
      call_goes no_code (called call)
      (λ y. let p = and_both _ _ y in true_agrees _ (family_kept t m.list p.0 p.1 call f).0)
  event_goes (DeleteMapped caller id) f =
      call_goes no_next (λ t l. delete_mapped t l caller id)
      (λ y. let p = and_both _ _ y in true_agrees _ (mapped_delete_kept t m.list p.0 p.1 caller id).0)
  event_goes (Classic r) f =
      subst (λ (x : Reply). Goes (record { bytes = x.bytes; list = m.list }) (record { tables = (step_of t r).tables; list = m.list }))
      (sym (reply_is m.bytes r.call r.priorities (passes g)))
      (goes_laid (step_of t r).tables m.list (kept t r.call r.priorities f g.agrees))

  -- the code of a reply is the one of the tables and the list
  pub reply_code : (call : Itron) → (code_reply m.bytes m.list (called call)).answer.code ≡ both_code b call
  unfolding reply_with
  reply_code call =
      choose_map (λ (r : ListReply Coded). r.answer.code) (both_agree m.bytes m.list) _ _
      ∙ ap (λ (x : Bool). choose x (called call t m.list).answer.code e_sys) same_test

-- a run over bytes that agree goes as the one over their tables
pub runs_go : (m : Lent) → Agreeing m.bytes → (events : List Event) → events_fit events ≡ true → Goes (after_events m events) (both_after_all (both_in m) events)
unfolding after_events both_after_all events_fit
runs_go m g [] f = record { agreeing = g; held = refl }
runs_go m g (e ∷ es) f =
    let p = and_both _ _ f in
    let one = event_goes m g e p.0 in
    subst (λ (b : Both). Goes (after_events (after_event m e) es) (both_after_all b es)) one.held (runs_go (after_event m e) one.agreeing es p.1)

-- ---- identifiers

-- a run from where another has come
module _ {m : Lent} {b : Both} (from : Goes m b) where
  goes_on : (events : List Event) → events_fit events ≡ true → Goes (after_events m events) (both_after_all b events)
  goes_on events f =
      subst (λ (b : Both). Goes (after_events m events) (both_after_all b events)) from.held (runs_go m from.agreeing events f)

  goes_one : (e : Event) → event_fits e ≡ true → Goes (after_event m e) (both_after b e)
  goes_one e f = subst (λ (b : Both). Goes (after_event m e) (both_after b e)) from.held (event_goes m from.agreeing e f)

  same_code_lem : (call : Itron) → code_in m call ≡ both_code b call
  same_code_lem call = reply_code m from.agreeing call ∙ ap (λ (b : Both). both_code b call) from.held

  same_entry : (semid : ℕ) → entry_of m.list semid ≡ entry_of b.list semid
  same_entry semid = ap (λ (b : Both). entry_of b.list semid) from.held

-- bytes on which a call gave E_OK agree
from_ok : (m : Lent) → Bytes m.bytes → (call : Itron) → code_in m call ≡ e_ok → Goes m (both_in m)
from_ok m b call e = record { agreeing = test.tested b (bytes_agree _ _ (ok_agree m.bytes m.list call e)); held = refl }

module _ (m : Lent) (b : Bytes m.bytes) where
  -- a create that gives E_OK leaves the identifier of a live semaphore at its semid
  pub created_lives : (caller semid sematr : ℕ) (isemcnt maxsem : ℤ) → let create = CreSem caller semid sematr isemcnt maxsem in
      itron_fits create ≡ true → code_in m create ≡ e_ok
      → let made = after_event m (Family create) in names (model_of made.bytes) (entry_of made.list semid) ≡ true
  unfolding event_fits
  created_lives caller semid sematr isemcnt maxsem f e =
      let create = CreSem caller semid sematr isemcnt maxsem in
      let before = from_ok m b create e in
      ap (λ (x : Both). names x.tables (entry_of x.list semid)) (goes_one before (Family create) f).held
      ∙ (cre_made (both_in m) caller semid sematr isemcnt maxsem (sym (same_code_lem before create) ∙ e)).named

  -- two creates that give E_OK leave different identifiers, whatever is called between them and at whatever semids
  pub created_differ : (caller semid sematr : ℕ) (isemcnt maxsem : ℤ) → let first = CreSem caller semid sematr isemcnt maxsem in
      itron_fits first ≡ true → code_in m first ≡ e_ok → (events : List Event) → events_fit events ≡ true
      → (caller' semid' sematr' : ℕ) (isemcnt' maxsem' : ℤ) → let again = CreSem caller' semid' sematr' isemcnt' maxsem' in itron_fits again ≡ true
      → let made = after_event m (Family first) in
      let u = after_events made events in
      code_in u again ≡ e_ok → entry_of made.list semid ≢ entry_of (after_event u (Family again)).list semid'
  unfolding event_fits
  created_differ caller semid sematr isemcnt maxsem f e events fs caller' semid' sematr' isemcnt' maxsem' f' e' same =
      let first = CreSem caller semid sematr isemcnt maxsem in
      let before = from_ok m b first e in
      let made = goes_one before (Family first) f in
      let u = goes_on made events fs in
      let again = goes_one u (Family (CreSem caller' semid' sematr' isemcnt' maxsem')) f' in
      created_entries_differ (both_in m) caller semid sematr isemcnt maxsem (sym (same_code_lem before first) ∙ e) events caller' semid' sematr' isemcnt' maxsem'
      (sym (same_code_lem u _) ∙ e') (sym (same_entry made semid) ∙ same ∙ same_entry again semid')

  -- and the identifier that a del_sem took from its semid is given to none
  pub deleted_differ : (caller semid : ℕ) → let del = DelSem caller semid in
      itron_fits del ≡ true → code_in m del ≡ e_ok → (events : List Event) → events_fit events ≡ true
      → (caller' semid' sematr : ℕ) (isemcnt maxsem : ℤ) → let again = CreSem caller' semid' sematr isemcnt maxsem in itron_fits again ≡ true
      → let u = after_events (after_event m (Family del)) events in
      code_in u again ≡ e_ok → entry_of m.list semid ≢ entry_of (after_event u (Family again)).list semid'
  unfolding event_fits
  deleted_differ caller semid f e events fs caller' semid' sematr isemcnt maxsem f' e' same =
      let before = from_ok m b (DelSem caller semid) e in
      let u = goes_on (goes_one before (Family (DelSem caller semid)) f) events fs in
      let again = goes_one u (Family (CreSem caller' semid' sematr isemcnt maxsem)) f' in
      deleted_never_given (both_in m) caller semid (sym (same_code_lem before _) ∙ e) events caller' semid' sematr isemcnt maxsem
      (sym (same_code_lem u _) ∙ e') (same ∙ same_entry again semid')

  -- an identifier that named a semaphore, and after some event names none, never names one again
  pub unnamed_for_good : agrees_bytes m.bytes ≡ true → (id : ℕ) → names (model_of m.bytes) id ≡ true
      → (event : Event) → event_fits event ≡ true → names (model_of (after_event m event).bytes) id ≡ false
      → (events : List Event) → events_fit events ≡ true → names (model_of (after_events (after_event m event) events).bytes) id ≡ false
  unnamed_for_good a id y event f n events fs =
      let one = event_goes m (test.tested b a) event f in
      let named : Both → Bool = λ x. names x.tables id in
      ap named (goes_on one events fs).held ∙ unnamed_stays (both_in m) id y event (sym (ap named one.held) ∙ n) events

  -- once a Classic delete is done without the list on a mapped semaphore, the list never agrees again, and stays as it is
  pub plain_delete_ends : (semid caller : ℕ) (priorities : List ℕ) → let id = entry_of m.list semid in
      id ≢ 0 → call_fits (Delete caller id) ≡ true → let r = reply_to m.bytes (Delete caller id) priorities in r.answer.status ≡ 0
      → (events : List Event) → events_fit events ≡ true → let n = after_events (record { bytes = r.bytes; list = m.list }) events in
      (both_agree n.bytes n.list ≡ false) × (n.list ≡ m.list)
  unfolding after_event both_after event_fits
  plain_delete_ends semid caller priorities some f done events fits = (
    same_test (after_events (after_event m gone) events) after.agreeing ∙ ap agree_together after.held
        ∙ ap (λ (x : Bool). agrees left.tables and x) ends.0 ∙ choose_same (agrees left.tables) false,
    ap (λ (b : Both). b.list) after.held ∙ ends.1,
  )
    where
      id : ℕ
      id = entry_of m.list semid

      gone : Event
      gone = Classic (record { call = Delete caller id; priorities = priorities })

      passed : agrees_bytes m.bytes ≡ true
      passed =
          ⊎_elim (λ (y : agrees_bytes m.bytes ≡ true). y)
          (λ (n : agrees_bytes m.bytes ≡ false).
          absurd (omega (arith, done, ap (λ (x : Reply). x.answer.status) (reply_otherwise m.bytes (Delete caller id) priorities n))))
          (tested (agrees_bytes m.bytes))

      after : Goes (after_events (after_event m gone) events) (both_after_all (both_after (both_in m) gone) events)
      after = goes_on (event_goes m (test.tested b passed) gone f) events fits

      left : Both
      left = both_after_all (both_after (both_in m) gone) events

      ends : (list_agrees left.tables left.list ≡ false) × (left.list ≡ m.list)
      ends =
          plain_delete_ends_the_list m.list semid some (model_of m.bytes) caller priorities
          (sym (ap (λ (x : Reply). x.answer.status) (reply_is m.bytes (Delete caller id) priorities passed)) ∙ done) events
