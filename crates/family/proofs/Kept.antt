-- Tables and a list that agree still agree after every call of the family, after Classic delete with the list, and after every call of the manager
-- but a delete, done without the list, of an identifier that stands in it.
use mathlib.Core.Path.{◌≡◌, refl, sym, ap, subst, ◌∙◌}
use mathlib.Core.Bool.{true, false}
use mathlib.Core.List.{List, [], ◌∷◌}
use mathlib.Core.Logic.{◌≢◌, ⊎_elim}
use Prim.Native.Nat.{ℕ, zero, suc, pred, ◌%◌, ◌≤◌, ◌<◌}
use native.Mathlib.Omega.{arith}
use native.Mathlib.Decide.{ℕ_discrete, dec_le}
use lib.Dec.{eqb}
use lib.IntN.{ℤ, pos, negsuc, nat_abs}
use lib.ListN.{length, get_or, set}
use lib.Signed.{non_neg}
use lib.Seq.{get_or-set_same}
use borrow.Author.Tests.{eqb-true, eqb-false, eq-eqb, leb-true, le-leb}
use Rattle.laws.specs.Choose.{choose}
use Rattle.laws.proofs.Choose.{choose_cases, if_yes, and_both, or_first, or_second, tested, never}
use Rattle.rules.specs.declared.Call.{Call}
use Rattle.rules.specs.declared.Call.TheVariants.{Start, Create, Ident, Delete, Obtain, Release, Flush, Tick}
use Rattle.rules.specs.declared.Wait.{Wait}
use Rattle.rules.specs.declared.Wait.TheVariants.{Poll, Forever}
use Rattle.rules.specs.Numbers.{max_number}
use Rattle.rules.specs.Machine.{Slot, Tables, free_slot, slot_of}
use Rattle.rules.specs.Agreement.{agrees}
use Rattle.rules.specs.Calls.{Outcome, open_slot, create_refusal, new_semaphore, create, delete, perform}
use Rattle.rules.specs.Runs.{Request, step_of}
use Rattle.rules.specs.Fits.{wait_fits}
use Rattle.rules.specs.Promises.{is_in}
use Rattle.rules.proofs.Invariants.Facts.{Facts}
use Rattle.rules.proofs.Invariants.Agreeing.{true_agrees, agrees_true, sizes_within}
use Rattle.rules.proofs.Invariants.FromTests.{agrees_facts}
use Rattle.rules.proofs.Invariants.ToTests.{facts_agrees}
use Rattle.rules.proofs.Invariants.Making.{create_kept}
use Rattle.rules.proofs.Invariants.Ending.{delete_kept}
use Rattle.rules.proofs.Invariants.Obtaining.{obtain_kept}
use Rattle.rules.proofs.Invariants.Releasing.{release_kept}
use Rattle.rules.proofs.History.CallsForward.{agreeing_started}
use Rattle.rules.proofs.History.Used.{Named, names_named, named_names, named_used}
use Rattle.rules.proofs.History.Done.{Created, create_done}
use Rattle.rules.proofs.History.Identifiers.{parts, created_unused, created_named}
use Rattle.mapping.specs.Mapping.{greatest_count, entry_of, is_counting, list_agrees, ListFits}
use Rattle.mapping.proofs.Agreeing.{list_fits, fits_list, nothing_agrees}
use Rattle.itron.specs.declared.Coded.{Coded}
use Rattle.itron.specs.Calls.{Listed, mapped, counts_allowed, attributes_of, wait_for, delete_mapped}
use Rattle.family.specs.Family.{Itron, called, is_signed, itron_fits}
use Rattle.family.specs.Family.Itron.{CreSem, DelSem, SigSem, WaiSem, PreqSem, TwaiSem}
use Rattle.family.specs.Promises.{unmaps}
use Rattle.family.proofs.Standing.{refusal_of, classic_of, list_by, outcome_of, called_is}
use Rattle.family.proofs.Passing.{Makes, Uses, Signals, maxsem_signed, tmout_signed, cre_passed, del_passed, sig_passed, twai_passed}
use Rattle.family.proofs.Stays.{Stays, freed_by, perform_stays}
use Rattle.family.proofs.Entries.{Mappable, mappable_is, unfreed_fit, unlisted_fit, dropped_fit, forgotten_fit, added_fit}
use Rattle.family.proofs.Ending.{step_is, delete_allowed_done, delete_valueless, delete_done_named, delete_refused}

-- both agree, in facts
record Fit (t : Tables) (list : List ℕ) : Type 0 where
  tables : Facts t
  entries : ListFits t list

abbrev Agree : Tables → List ℕ → Type 0
Agree t list = (agrees t ≡ true) × (list_agrees t list ≡ true)

fit_agrees : {t : Tables} {list : List ℕ} → Fit t list → Agree t list
fit_agrees {t} f = (agrees_true t (facts_agrees t f.tables), fits_list f.entries)

-- ---- numbers

-- the identifier of a live semaphore is a number of 32 bits
named_few : (t : Tables) (id : ℕ) → Facts t → Named t id → id ≤ max_number
named_few t id f n = omega (arith, (f.slots (pred (id % 65536))).generation, n.generation)

wait_fits_lem : (tmout : ℤ) → is_signed tmout ≡ true → wait_fits (wait_for tmout) ≡ true
unfolding wait_for
wait_fits_lem (negsuc n) e = refl
wait_fits_lem (pos zero) e = refl
wait_fits_lem (pos (suc n)) e = le-leb (suc n) max_number (omega (arith, leb-true (suc n) greatest_count (and_both _ _ e).1))

most : (isemcnt maxsem : ℤ) → counts_allowed isemcnt maxsem ≡ true → is_signed maxsem ≡ true → nat_abs maxsem ≤ greatest_count
most isemcnt (pos n) c e = leb-true _ _ (and_both _ _ e).1
most isemcnt (negsuc n) c e = never (and_both _ _ (and_both _ _ c).1).0 refl

-- FIFO and PRIORITY are counting
counting : (sematr : ℕ) → is_counting (attributes_of sematr) ≡ true
unfolding choose
counting sematr = choose_cases (λ (a : ℕ). is_counting a ≡ true) (eqb sematr 0) 0 4 (λ e. refl) (λ e. refl)

-- an entry that is an identifier stands in the list
stands : (ls : List ℕ) (k id : ℕ) → id ≢ 0 → get_or ls k 0 ≡ id → is_in id ls ≡ true
unfolding is_in
stands [] k id n e = absurd (n (sym e))
stands (x ∷ xs) zero id n e = or_first (eqb id x) (is_in id xs) (eq-eqb id x (sym e))
stands (x ∷ xs) (suc k) id n e = or_second (eqb id x) (is_in id xs) (stands xs k id n e)

-- ---- the calls

module _ (t : Tables) (list : List ℕ) (a : agrees t ≡ true) (l : list_agrees t list ≡ true) where
  facts : Facts t
  facts = agrees_facts t (true_agrees t a)

  fits : ListFits t list
  fits = list_fits l

  mappable : (semid : ℕ) → entry_of list semid ≢ 0 → Mappable t (entry_of list semid)
  mappable semid n = mappable_is t _ (fits.mappable (pred semid) n)

  pub stays : (call : Call) (priorities : List ℕ) → 1 ≤ length t.slots → Stays t (perform t call priorities).tables (freed_by call)
  stays call priorities h = perform_stays t call priorities (agreeing_started t a h).tasks

  obtained : (caller semid : ℕ) (wait : Wait) → wait_fits wait ≡ true → Uses t list caller semid
      → Fit (perform t (Obtain caller (entry_of list semid) wait) []).tables list
  unfolding perform
  obtained caller semid wait w u = record {
    tables = obtain_kept t caller (entry_of list semid) wait (named_few t _ facts (mappable semid u.something).named) w facts;
    entries = unfreed_fit (stays (Obtain caller (entry_of list semid) wait) [] (omega (arith, u.range.low, u.range.high))) list fits;
  }

  signalled : (caller semid : ℕ) → Signals t list caller semid → Fit (perform t (Release caller (entry_of list semid)) []).tables list
  unfolding perform
  signalled caller semid s = record {
    tables = release_kept t caller (entry_of list semid) facts;
    entries = unfreed_fit (stays (Release caller (entry_of list semid)) [] (omega (arith, s.range.low, s.range.high))) list fits;
  }

  deleted : (caller semid : ℕ) → Uses t list caller semid
      → Fit (delete t caller (entry_of list semid)).tables (mapped list semid (delete t caller (entry_of list semid)))
  unfolding perform
  deleted caller semid u = record {
    tables = delete_kept t caller id facts;
    entries =
        subst (ListFits (delete t caller id).tables)
        (sym (if_yes _ _ (eq-eqb _ _ (delete_allowed_done t caller id u.task m)) ∙ ap (λ (v : ℕ). set list (pred semid) v) (delete_valueless t caller id)))
        (dropped_fit (stays (Delete caller id) [] (omega (arith, u.range.low, u.range.high))) list fits id m.named refl (pred semid) refl
        u.something);
  }
    where
      id : ℕ
      id = entry_of list semid

      m : Mappable t id
      m = mappable semid u.something

  module _ (caller semid sematr : ℕ) (isemcnt maxsem : ℤ) (u : Makes t list caller semid sematr isemcnt maxsem) (signed : is_signed maxsem ≡ true) where
    abbrev classic : Call
    classic = Create caller semid (nat_abs isemcnt) (attributes_of sematr) (nat_abs maxsem)

    abbrev o : Outcome
    o = create t caller semid (nat_abs isemcnt) (attributes_of sematr) (nat_abs maxsem)

    few : length t.slots ≤ 64
    few = (sizes_within t (true_agrees t a).sizes).slots

    -- the new semaphore has the attributes that it was given
    attributed : 1 ≤ open_slot t → open_slot t ≤ length t.slots → o.answer.status ≡ 0 → (slot_of o.tables (open_slot t)).attributes ≡ attributes_of sematr
    unfolding create new_semaphore
    attributed low high =
        choose_cases (λ (x : Outcome). x.answer.status ≡ 0 → (slot_of x.tables (open_slot t)).attributes ≡ attributes_of sematr)
        (eqb (create_refusal t caller semid (nat_abs isemcnt) (attributes_of sematr) (nat_abs maxsem)) 0) _ _
        (λ e z. ap (λ (s : Slot). s.attributes) (get_or-set_same t.slots (pred (open_slot t)) _ (free_slot 0) (omega arith)))
        (λ e z. never (eq-eqb _ _ z) e)

    created : o.answer.status ≡ 0 → Created t (nat_abs maxsem) o
    unfolding perform
    created z =
        let s = step_is t classic [] a in
        subst (Created t (nat_abs maxsem)) s (create_done t caller semid (nat_abs isemcnt) (attributes_of sematr) (nat_abs maxsem) []
        (ap (λ (x : Outcome). x.answer.status) s ∙ z))

    new : o.answer.status ≡ 0 → Mappable o.tables o.answer.value
    new z =
        let c = created z in
        let at = (parts t o c).0 in
        record {
          named = names_named _ _ (created_named t o c);
          counting = subst (λ (n : ℕ). is_counting (slot_of o.tables n).attributes ≡ true) (sym at)
              (subst (λ (x : ℕ). is_counting x ≡ true) (sym (attributed c.low c.high z)) (counting sematr));
          most = omega (arith, ap (λ (n : ℕ). (slot_of o.tables n).maximum) at, c.given, most isemcnt maxsem u.counts signed);
        }

    -- it stood for nothing before
    fresh : o.answer.status ≡ 0 → (k : ℕ) → get_or list k 0 ≢ o.answer.value
    fresh z k e =
        let c = created z in
        let some : get_or list k 0 ≢ 0 = λ y. omega (arith, (new z).named.low, ap (λ (n : ℕ). n % 65536) (sym e ∙ y)) in
        created_unused t o c
        (named_used t _ (named_names t _ (subst (Named t) e (mappable_is t _ (fits.mappable k some)).named)))

    made : Fit o.tables (mapped list semid o)
    unfolding perform
    made = record {
      tables = create_kept t caller semid (nat_abs isemcnt) (attributes_of sematr) (nat_abs maxsem) (omega (arith, u.range.high, few)) facts;
      entries =
          choose_cases (ListFits o.tables) (eqb o.answer.status 0) _ _
          (λ y.
          let z = eqb-true o.answer.status 0 y in
          added_fit none list fits (pred semid) o.answer.value (omega (arith, u.range.low, u.range.high, few, fits.long))
          (omega (arith, u.range.low, u.range.high)) u.nothing (fresh z) (new z))
          (λ n. unfreed_fit none list fits);
    }
      where
        none : Stays t o.tables 0
        none = stays classic [] (omega (arith, u.range.low, u.range.high))

  -- what the checks let through
  done_fit : (call : Itron) → itron_fits call ≡ true → non_neg (refusal_of call t list) ≡ true
      → let o = outcome_of call t list in Fit o.tables (list_by call list o)
  unfolding perform refusal_of classic_of list_by
  done_fit (CreSem caller semid sematr isemcnt maxsem) e y =
      made caller semid sematr isemcnt maxsem (cre_passed t list caller semid sematr isemcnt maxsem y)
      (maxsem_signed caller semid sematr isemcnt maxsem e)
  done_fit (DelSem caller semid) e y = deleted caller semid (del_passed t list caller semid y)
  done_fit (SigSem caller semid) e y = signalled caller semid (sig_passed t list caller semid y)
  done_fit (WaiSem caller semid) e y = obtained caller semid Forever refl (twai_passed t list caller semid _ y)
  done_fit (PreqSem caller semid) e y = obtained caller semid Poll refl (twai_passed t list caller semid _ y)
  done_fit (TwaiSem caller semid tmout) e y =
      obtained caller semid (wait_for tmout) (wait_fits_lem tmout (tmout_signed caller semid tmout e)) (twai_passed t list caller semid tmout y)

  pub family_kept : (call : Itron) → itron_fits call ≡ true → let o = called call t list in
      (agrees o.tables ≡ true) × (list_agrees o.tables o.list ≡ true)
  family_kept call e =
      subst P (sym (called_is call t list))
      (choose_cases P (non_neg (refusal_of call t list)) _ _ (λ y. fit_agrees (done_fit call e y)) (λ n. (a, l)))
    where
      P : Listed Coded → Type 0
      P x = Agree x.tables x.list

  -- Classic delete with the list
  pub mapped_delete_kept : (caller id : ℕ) → let o = delete_mapped t list caller id in
      (agrees o.tables ≡ true) × (list_agrees o.tables o.list ≡ true)
  unfolding delete_mapped perform
  mapped_delete_kept caller id =
      choose_cases (λ (ls : List ℕ). Agree o.tables ls) (eqb o.answer.status 0) _ _
      (λ y.
      let n = names_named t id (delete_done_named t caller id (eqb-true _ _ y)) in
      fit_agrees (record {
        tables = delete_kept t caller id facts;
        entries = forgotten_fit (stays (Delete caller id) [] (omega (arith, n.low, n.high))) list fits id n refl;
      }))
      (λ y. subst (λ (u : Tables). Agree u list) (sym (delete_refused t caller id (eqb-false _ _ y))) (a, l))
    where
      o : Outcome
      o = delete t caller id

  -- ---- the manager's own calls

  performed_fits : (call : Call) (priorities : List ℕ) → 1 ≤ length t.slots → ((perform t call priorities).answer.status ≡ 0 → unmaps call list ≡ false)
      → ListFits (perform t call priorities).tables list
  unfolding unmaps perform
  performed_fits (Start slots) priorities h u = unfreed_fit (stays (Start slots) priorities h) list fits
  performed_fits (Create caller name count attributes maximum) priorities h u =
      unfreed_fit (stays (Create caller name count attributes maximum) priorities h) list fits
  performed_fits (Ident name) priorities h u = unfreed_fit (stays (Ident name) priorities h) list fits
  performed_fits (Delete caller id) priorities h u =
      ⊎_elim
      (λ (y : eqb (delete t caller id).answer.status 0 ≡ true).
      let z = eqb-true _ _ y in
      let n = names_named t id (delete_done_named t caller id z) in
      unlisted_fit (stays (Delete caller id) priorities h) list fits id n refl
      (λ k e. never (stands list k id (λ i. omega (arith, n.low, ap (λ (x : ℕ). x % 65536) i)) e) (u z)))
      (λ (y : eqb (delete t caller id).answer.status 0 ≡ false).
      subst (λ (x : Tables). ListFits x list) (sym (delete_refused t caller id (eqb-false _ _ y))) fits)
      (tested (eqb (delete t caller id).answer.status 0))
  performed_fits (Obtain caller id wait) priorities h u = unfreed_fit (stays (Obtain caller id wait) priorities h) list fits
  performed_fits (Release caller id) priorities h u = unfreed_fit (stays (Release caller id) priorities h) list fits
  performed_fits (Flush caller id) priorities h u = unfreed_fit (stays (Flush caller id) priorities h) list fits
  performed_fits Tick priorities h u = unfreed_fit (stays Tick priorities h) list fits

  -- before start the list is all nothing, and so agrees with any tables
  nothing : length t.slots < 1 → (k : ℕ) → get_or list k 0 ≡ 0
  nothing h k = elim (ℕ_discrete (get_or list k 0) 0) [ yes z ↦ z | no n ↦ absurd (omega (arith, fits.within k n)) ]

  pub classic_kept : (r : Request) → ((step_of t r).answer.status ≡ 0 → unmaps r.call list ≡ false) → list_agrees (step_of t r).tables list ≡ true
  classic_kept r u =
      elim (dec_le 1 (length t.slots)) [
        | yes h ↦
            let s = step_is t r.call r.priorities a in
            subst (λ (x : Outcome). list_agrees x.tables list ≡ true) (sym s)
            (fits_list (performed_fits r.call r.priorities h (λ z. u (ap (λ (x : Outcome). x.answer.status) s ∙ z))))
        | no n ↦ nothing_agrees _ list fits.long (nothing (omega arith))
      ]
