-- The entry points over lent bytes and the rules over tables: bytes that agree go as their tables do, and others stay for good.
use mathlib.Core.Path.{◌≡◌, refl, sym, subst, subst₂, ap, ap₂, ◌∙◌}
use mathlib.Core.Bool.{true, false}
use mathlib.Core.List.{List, [], ◌∷◌, map}
use mathlib.Core.Logic.{◌↔◌, ⊎_elim}
use Prim.Native.Nat.{ℕ, ◌/◌, ◌%◌}
use native.Mathlib.Omega.{arith}
use lib.Dec.{eqb}
use borrow.Author.Tests.{eq-eqb}
use Rattle.laws.proofs.Choose.{if_yes, if_no, and_both, or_first, never}
use Rattle.laws.proofs.Choose as choices
use Rattle.words.proofs.WordsInBytes.{Bytes}
use Rattle.rules.specs.declared.Answer.{Answer}
use Rattle.rules.specs.declared.Call.{Call}
use Rattle.rules.specs.declared.Call.TheVariants.{Delete}
use Rattle.rules.specs.Numbers.{max_generation}
use Rattle.rules.specs.Machine.{Tables, names}
use Rattle.rules.specs.Agreement.{agrees}
use Rattle.rules.specs.Calls.{step}
use Rattle.rules.specs.Runs.{Request, after, answers}
use Rattle.rules.specs.Promises.{IsRefusal, given, listed, is_in, NextIs, sequence_after, NeverAgain}
use Rattle.rules.specs.Fits.{call_fits, calls_fit}
use Rattle.rules.proofs.Invariants.Kept.{kept}
use Rattle.rules.proofs.Refusals.{refusal_keeps, internal_error_lem}
use Rattle.rules.proofs.Next.{answered_next}
use Rattle.rules.proofs.Sequence.{ready_order}
use Rattle.rules.proofs.Statuses.{status_listed}
use Rattle.rules.proofs.History.Identifiers.{deleted_never_names, deleted_never_again, deleted_retires, retired_never_again}
use Rattle.tables.specs.Layout.{laid, model_of}
use Rattle.agreement.specs.Bytes.{agrees_bytes}
use Rattle.calls.specs.Agreeing.{Agreeing}
use Rattle.calls.proofs.Agreeing.{model_is, agreeing_laid}
use Rattle.manager.specs.Entry.{Reply, reply, no_next, reply_to}
use Rattle.manager.specs.Runs.{replies}
use Rattle.manager.proofs.Tested.{tested, passes}

-- ---- one entry point

-- bytes pass the test exactly where they are the layout of tables that agree
pub agreeing_tested : (bs : List ℕ) → Bytes bs → (agrees_bytes bs ≡ true) ↔ Agreeing bs
agreeing_tested bs b = (tested b, passes)

module _ (bs : List ℕ) (call : Call) (priorities : List ℕ) where
  -- bytes that agree are answered as their tables are
  pub reply_is : agrees_bytes bs ≡ true → reply_to bs call priorities ≡ reply (step (model_of bs) call priorities)
  unfolding reply_to step agrees_bytes
  reply_is e = if_yes _ _ e ∙ ap {B = Reply} reply (sym (if_yes _ _ (and_both _ _ e).1))

  -- and others get 25 and stay
  pub reply_otherwise : agrees_bytes bs ≡ false → reply_to bs call priorities ≡ record { answer = no_next; bytes = bs }
  unfolding reply_to
  reply_otherwise e = if_no _ _ e

  -- a refusal leaves every byte
  pub refusal_leaves : Bytes bs → IsRefusal (reply_to bs call priorities).answer.status → (reply_to bs call priorities).bytes ≡ bs
  refusal_leaves b r =
      ⊎_elim
      (λ (e : agrees_bytes bs ≡ true).
      let p = reply_is e in
      let s = ap (λ (x : Reply). x.answer.status) p in
      let k = refusal_keeps (model_of bs) call priorities (λ z. r.not_done (s ∙ z)) (λ z. r.not_begun (s ∙ z)) in
      ap (λ (x : Reply). x.bytes) p ∙ ap laid k.kept ∙ sym (tested b e).same)
      (λ (e : agrees_bytes bs ≡ false). ap (λ (x : Reply). x.bytes) (reply_otherwise e))
      (choices.tested (agrees_bytes bs))

  -- 25 says exactly that the bytes do not agree
  pub internal_error_bytes : ((reply_to bs call priorities).answer.status ≡ 25) ↔ (agrees_bytes bs ≡ false)
  internal_error_bytes = (
    λ s. ⊎_elim
        (λ (e : agrees_bytes bs ≡ true).
        let d = (internal_error_lem (model_of bs) call priorities).0 (sym (ap (λ (x : Reply). x.answer.status) (reply_is e)) ∙ s) in
        never (agrees_of e) d)
        (λ (e : agrees_bytes bs ≡ false). e) (choices.tested (agrees_bytes bs)),
    λ e. ap (λ (x : Reply). x.answer.status) (reply_otherwise e),
  )
    where
      agrees_of : agrees_bytes bs ≡ true → agrees (model_of bs) ≡ true
      agrees_of e = unfold agrees_bytes in (and_both _ _ e).1

  -- each status is one of those listed for the call
  pub status_listed_bytes : is_in (reply_to bs call priorities).answer.status (listed call) ≡ true
  unfolding listed is_in
  status_listed_bytes =
      ⊎_elim
      (λ (e : agrees_bytes bs ≡ true).
      subst (λ (x : Reply). is_in x.answer.status (listed call) ≡ true) (sym (reply_is e)) (status_listed (model_of bs) call priorities))
      (λ (e : agrees_bytes bs ≡ false).
      subst (λ (x : Reply). is_in x.answer.status (listed call) ≡ true) (sym (reply_otherwise e))
      (or_first (eqb 25 25) (is_in 25 (given call)) (eq-eqb 25 25 refl)))
      (choices.tested (agrees_bytes bs))

-- ---- runs

-- bytes that do not agree get 25 and stay for good
module _ (bs : List ℕ) (e : agrees_bytes bs ≡ false) where
  pub disagreeing_stay : (requests : List Request) → (replies bs requests).bytes ≡ bs
  unfolding replies
  disagreeing_stay [] = refl
  disagreeing_stay (r ∷ rs) =
      ap (λ (x : Reply). (replies x.bytes rs).bytes) (reply_otherwise bs r.call r.priorities e) ∙ disagreeing_stay rs

  pub disagreeing_refused : (requests : List Request) → (replies bs requests).answers ≡ map (λ r. no_next) requests
  unfolding replies
  disagreeing_refused [] = refl
  disagreeing_refused (r ∷ rs) =
      ap (λ (x : Reply). x.answer ∷ (replies x.bytes rs).answers) (reply_otherwise bs r.call r.priorities e)
      ∙ ap (λ (l : List Answer). no_next ∷ l) (disagreeing_refused rs)

-- one call more, on bytes that agree
module _ {bs : List ℕ} (g : Agreeing bs) (call : Call) (priorities : List ℕ) (fits : call_fits call ≡ true) where
  left : (reply_to bs call priorities).bytes ≡ laid (step (model_of bs) call priorities).tables
  left = ap (λ (x : Reply). x.bytes) (reply_is bs call priorities (passes g))

  pub left_agreeing : Agreeing (reply_to bs call priorities).bytes
  left_agreeing = agreeing_laid (step (model_of bs) call priorities).tables (kept (model_of bs) call priorities fits g.agrees) _ left

  pub left_model : model_of (reply_to bs call priorities).bytes ≡ (step (model_of bs) call priorities).tables
  left_model = model_is (step (model_of bs) call priorities).tables (kept (model_of bs) call priorities fits g.agrees) _ left

-- the sequence of ready tasks after a call, read from the bytes before and after it
pub sequence_after_bytes : (bs : List ℕ) (call : Call) (priorities : List ℕ) → Bytes bs → agrees_bytes bs ≡ true → call_fits call ≡ true
    → let u = model_of (reply_to bs call priorities).bytes in u.ready ≡ sequence_after (model_of bs) call u
sequence_after_bytes bs call priorities b e fits =
    let g = tested b e in
    subst (λ (u : Tables). u.ready ≡ sequence_after (model_of bs) call u) (sym (left_model g call priorities fits))
    (ready_order (model_of bs) call priorities g.agrees)

-- the next task that an entry point answers is that of the bytes it leaves
pub next_after_bytes : (bs : List ℕ) (call : Call) (priorities : List ℕ) → Bytes bs → agrees_bytes bs ≡ true → call_fits call ≡ true
    → let r = reply_to bs call priorities in NextIs (model_of r.bytes) r.answer.next
next_after_bytes bs call priorities b e fits =
    let g = tested b e in
    subst₂ NextIs (sym (left_model g call priorities fits)) (sym (ap (λ (x : Reply). x.answer.next) (reply_is bs call priorities e)))
    (answered_next (model_of bs) call priorities fits g.agrees)

-- bytes that agree go as their tables do, and agree after every call
pub record Runs (bs : List ℕ) (requests : List Request) : Type 0 where
  pub agreeing : Agreeing (replies bs requests).bytes
  pub model : model_of (replies bs requests).bytes ≡ after (model_of bs) requests
  pub answers : (replies bs requests).answers ≡ answers (model_of bs) requests

pub runs : {bs : List ℕ} → Agreeing bs → (requests : List Request) → calls_fit requests ≡ true → Runs bs requests
unfolding replies after answers calls_fit
runs g [] f = record { agreeing = g; model = refl; answers = refl }
runs {bs} g (r ∷ rs) f =
    let first = and_both _ _ f in
    let m = left_model g r.call r.priorities first.0 in
    let rest = runs {bs = (reply_to bs r.call r.priorities).bytes} (left_agreeing g r.call r.priorities first.0) rs first.1 in
    record {
      agreeing = rest.agreeing;
      model = rest.model ∙ ap (λ (t : Tables). after t rs) m;
      answers =
          ap₂ {C = List Answer} (λ (a : Answer) (l : List Answer). a ∷ l) (ap (λ (x : Reply). x.answer) (reply_is bs r.call r.priorities (passes g)))
          (rest.answers ∙ ap (λ (t : Tables). answers t rs) m);
    }

pub agreement_stays : (bs : List ℕ) → Bytes bs → agrees_bytes bs ≡ true → (requests : List Request) → calls_fit requests ≡ true
    → agrees_bytes (replies bs requests).bytes ≡ true
agreement_stays bs b e requests f = passes (runs (tested b e) requests f).agreeing

-- ---- identifiers and slots that do not come back

-- what is so of the tables' answers is so of the bytes'
never_again_bytes : {bs : List ℕ} → Agreeing bs → {t : Tables} → model_of bs ≡ t → {id : ℕ} → NeverAgain (λ call priorities. (step t call priorities).answer) id
    → NeverAgain (λ call priorities. (reply_to bs call priorities).answer) id
never_again_bytes {bs} g {t} m {id} n = subst (λ (f : Call → List ℕ → Answer). NeverAgain f id) (λ i call priorities. same call priorities i) n
  where
    same : (call : Call) (priorities : List ℕ) → (step t call priorities).answer ≡ (reply_to bs call priorities).answer
    same call priorities = sym (ap (λ (x : Reply). x.answer) (reply_is bs call priorities (passes g)) ∙ ap (λ (t : Tables). (step t call priorities).answer) m)

-- a delete that was done, on the bytes of agreeing tables
module _ (bs : List ℕ) (b : Bytes bs) (caller id : ℕ) (priorities : List ℕ) (fits : call_fits (Delete caller id) ≡ true)
    (done : (reply_to bs (Delete caller id) priorities).answer.status ≡ 0) where
  abbrev deleted : List ℕ
  deleted = (reply_to bs (Delete caller id) priorities).bytes

  tables_agree : agrees_bytes bs ≡ true
  tables_agree =
      ⊎_elim (λ (e : agrees_bytes bs ≡ true). e)
      (λ (e : agrees_bytes bs ≡ false). absurd (omega (arith, ap (λ (x : Reply). x.answer.status) (reply_otherwise bs (Delete caller id) priorities e))))
      (choices.tested (agrees_bytes bs))

  before : Agreeing bs
  before = tested b tables_agree

  step_done : (step (model_of bs) (Delete caller id) priorities).answer.status ≡ 0
  step_done = sym (ap (λ (x : Reply). x.answer.status) (reply_is bs (Delete caller id) priorities tables_agree)) ∙ done

  after_delete : Agreeing deleted
  after_delete = left_agreeing before (Delete caller id) priorities fits

  model_deleted : model_of deleted ≡ (step (model_of bs) (Delete caller id) priorities).tables
  model_deleted = left_model before (Delete caller id) priorities fits

  module _ (requests : List Request) (fit : calls_fit requests ≡ true) where
    model_later : model_of (replies deleted requests).bytes ≡ after (step (model_of bs) (Delete caller id) priorities).tables requests
    model_later = (runs after_delete requests fit).model ∙ ap (λ (t : Tables). after t requests) model_deleted

    -- the identifier names nothing afterwards, whatever is called
    pub deleted_never_names_bytes : names (model_of (replies deleted requests).bytes) id ≡ false
    deleted_never_names_bytes = rw model_later (deleted_never_names (model_of bs) caller id priorities requests step_done)

    -- no later create or ident gives it, and no later call that takes it is served
    pub deleted_never_again_bytes : NeverAgain (λ call priorities. (reply_to (replies deleted requests).bytes call priorities).answer) id
    deleted_never_again_bytes =
        never_again_bytes (runs after_delete requests fit).agreeing model_later (deleted_never_again (model_of bs) caller id priorities requests step_done)

    -- a slot freed at the last generation is never used again
    pub retired_never_again_bytes : id / 65536 ≡ max_generation → (other : ℕ) → other % 65536 ≡ id % 65536
        → NeverAgain (λ call priorities. (reply_to (replies deleted requests).bytes call priorities).answer) other
    retired_never_again_bytes last other e =
        never_again_bytes (runs after_delete requests fit).agreeing model_later
        (retired_never_again _ (id % 65536) (deleted_retires (model_of bs) caller id priorities step_done last) requests other e)
