-- What a history has, and the account and the turns over lent bytes, through any run of entry points.
use mathlib.Core.Path.{◌≡◌, refl, sym, subst, ap, ap₂, ◌∙◌}
use mathlib.Core.Bool.{true, false}
use mathlib.Core.List.{List, [], ◌∷◌, map}
use mathlib.Core.Logic.{⊎_elim}
use Prim.Native.Nat.{ℕ, pred, ◌+◌, ◌%◌, ◌≤◌, ◌<◌}
use native.Mathlib.Omega.{arith}
use lib.Dec.{leb, eqb}
use lib.ListN.{length, get_or, get_or-eq_default}
use borrow.Author.Tests.{le-leb, leb-false}
use Rattle.laws.specs.Choose.{choose}
use Rattle.laws.proofs.Choose.{never, if_yes, and_both, both_and, choose_cases}
use Rattle.laws.proofs.Choose as choices
use Rattle.words.proofs.WordsInBytes.{Bytes}
use Rattle.rules.specs.declared.Answer.{Answer}
use Rattle.rules.specs.declared.Call.{Call}
use Rattle.rules.specs.declared.Call.TheVariants.{Create, Obtain}
use Rattle.rules.specs.declared.Wait.{Wait}
use Rattle.rules.specs.declared.Task.{Task}
use Rattle.rules.specs.Numbers.{max_tasks, within, by_priority, is_binary}
use Rattle.rules.specs.Machine.{Tables, no_task, slot_of, names}
use Rattle.rules.specs.Agreement.{Agrees}
use Rattle.rules.specs.Calls.{Outcome}
use Rattle.rules.specs.Runs.{Request, step_of, after, answers}
use Rattle.rules.specs.Fits.{call_fits, calls_fit}
use Rattle.tables.specs.Layout.{model_of}
use Rattle.agreement.specs.Bytes.{agrees_bytes}
use Rattle.calls.specs.Agreeing.{Agreeing}
use Rattle.calls.specs.Task.{task_answer}
use Rattle.manager.specs.Entry.{Reply, reply_to, task_reply}
use Rattle.manager.specs.Runs.{reply_of, replies}
use Rattle.manager.proofs.Tested.{tested, passes}
use Rattle.manager.proofs.Runs.{reply_is, internal_error_bytes, left_agreeing, left_model, runs}
use Rattle.accounts.specs.History.{Ending, Event, endings, answer_of, seen, history_of, answer_told, seen_over, history_over}
use Rattle.accounts.specs.Accounts.{waiters_found, none_found, grants_in, releases_in}
use Rattle.accounts.specs.Turns.{ending_of, ServedInTurn}
use Rattle.accounts.proofs.Endings.{ending_is, endings_same}
use Rattle.accounts.proofs.Accounting.{accounting, since_create}
use Rattle.accounts.proofs.InTurn.{served, joined}

-- ---- a history has each call and each answer, and no others

pub calls_seen : (t : Tables) (requests : List Request) → (map (λ (e : Event). e.request) (history_of t requests) ≡ requests)
    × (map (λ (e : Event). e.answer) (history_of t requests) ≡ answers t requests)
unfolding history_of answers
calls_seen t [] = (refl, refl)
calls_seen t (r ∷ rs) =
    let rest = calls_seen (step_of t r).tables rs in
    (ap (λ (l : List Request). r ∷ l) rest.0, ap (λ (l : List Answer). (step_of t r).answer ∷ l) rest.1)

pub entries_seen : (bs : List ℕ) (requests : List Request) → (map (λ (e : Event). e.request) (history_over bs requests) ≡ requests)
    × (map (λ (e : Event). e.answer) (history_over bs requests) ≡ (replies bs requests).answers)
unfolding history_over replies
entries_seen bs [] = (refl, refl)
entries_seen bs (r ∷ rs) =
    let rest = entries_seen (reply_of bs r).bytes rs in
    (ap (λ (l : List Request). r ∷ l) rest.0, ap (λ (l : List Answer). (reply_of bs r).answer ∷ l) rest.1)

-- and the ending of each task whose answer was 100
pub endings_seen : (before after : ℕ → ℕ) (q : ℕ) → 1 ≤ q → q ≤ max_tasks → ending_of q (endings before after) ≡ choose (eqb (before q) 100) (after q) 100
endings_seen before after q l h = ending_is before after q max_tasks 1 l (omega arith)

-- ---- over bytes

-- what `mast_task` tells of a task is its answer
pub told : (bs : List ℕ) → agrees_bytes bs ≡ true → (q : ℕ) → 1 ≤ q → answer_told bs q ≡ answer_of (model_of bs) q
unfolding task_reply task_answer
told bs e q l =
    ap (λ (a : Answer). a.value) (if_yes _ _ e)
    ∙ choose_cases (λ (o : Outcome). o.answer.value ≡ answer_of (model_of bs) q) (within 1 (length (model_of bs).tasks) q) _ _ (λ y. refl)
    (λ n. sym (ap (λ (v : Task). v.answer) (get_or-eq_default (model_of bs).tasks no_task (above n))))
  where
    above : within 1 (length (model_of bs).tasks) q ≡ false → length (model_of bs).tasks ≤ pred q
    above n =
        ⊎_elim (λ (y : leb q (length (model_of bs).tasks) ≡ true). never (both_and (le-leb 1 q l) y) n)
        (λ (y : leb q (length (model_of bs).tasks) ≡ false). let h = leb-false q (length (model_of bs).tasks) y in omega arith)
        (choices.tested (leb q (length (model_of bs).tasks)))

-- one entry point on bytes that agree
module _ {bs : List ℕ} (g : Agreeing bs) (r : Request) (fits : call_fits r.call ≡ true) where
  model : model_of (reply_of bs r).bytes ≡ (step_of (model_of bs) r).tables
  model = left_model g r.call r.priorities fits

  agreeing : Agreeing (reply_of bs r).bytes
  agreeing = left_agreeing g r.call r.priorities fits

  seen_same : let o = step_of (model_of bs) r in seen_over bs r (reply_of bs r) ≡ seen (model_of bs) r o.answer o.tables
  seen_same =
      ap₂ {C = Event} (λ (answer : Answer) (ended : List Ending). record { request = r; answer = answer; endings = ended })
      (ap (λ (x : Reply). x.answer) (reply_is bs r.call r.priorities (passes g)))
      (endings_same (answer_told bs) (answer_told (reply_of bs r).bytes) (answer_of (model_of bs)) (answer_of (step_of (model_of bs) r).tables) max_tasks 1
      (λ x l. told bs (passes g) x l)
      (λ x l. told (reply_of bs r).bytes (passes agreeing) x l ∙ ap (λ (u : Tables). answer_of u x) model))

-- the history over bytes that agree is that of their tables
pub history_is : {bs : List ℕ} → Agreeing bs → (requests : List Request) → calls_fit requests ≡ true → history_over bs requests ≡ history_of (model_of bs) requests
unfolding history_over history_of calls_fit
history_is g [] f = refl
history_is {bs} g (r ∷ rs) f =
    let fits = and_both _ _ f in
    ap₂ {C = List Event} (λ (e : Event) (es : List Event). e ∷ es) (seen_same g r fits.0)
    (history_is {bs = (reply_of bs r).bytes} (agreeing g r fits.0) rs fits.1 ∙ ap (λ (t : Tables). history_of t rs) (model g r fits.0))

-- ---- from any bytes that agree

module _ {bs : List ℕ} (g : Agreeing bs) {t : Tables} (is : model_of bs ≡ t) (id : ℕ) (requests : List Request) (fit : calls_fit requests ≡ true) where
  same_history : history_over bs requests ≡ history_of t requests
  same_history = history_is g requests fit ∙ ap (λ (u : Tables). history_of u requests) is

  abbrev Unowned : Type 0
  Unowned = is_binary (slot_of t (id % 65536)).attributes ≡ false

  pub accounting_bytes : names t id ≡ true → Unowned → let u = model_of (replies bs requests).bytes in names u id ≡ true
      → (slot_of u (id % 65536)).count + grants_in id (waiters_found t) (history_over bs requests)
      ≡ (slot_of t (id % 65536)).count + releases_in id (history_over bs requests)
  accounting_bytes named unowned =
      rw ((runs g requests fit).model ∙ ap (λ (u : Tables). after u requests) is)
      (rw same_history (accounting id t (subst Agrees is g.agrees) named unowned requests fit))

  pub served_bytes : names t id ≡ true → Unowned → by_priority (slot_of t (id % 65536)).attributes ≡ false → (k : ℕ)
      → k < length (slot_of t (id % 65536)).queue → ServedInTurn id (get_or (slot_of t (id % 65536)).queue k 0) k (history_over bs requests)
  served_bytes named unowned fifo k inside =
      rw same_history
      (served t (subst Agrees is g.agrees) id (record { named = named; unowned = unowned; fifo = fifo }) k inside requests fit)

-- ---- from a call on

-- a call that was answered otherwise than with 25 was given bytes that agree
answered_agrees : (bs : List ℕ) (call : Call) (priorities : List ℕ) → ((reply_to bs call priorities).answer.status ≡ 25 → ⊥) → agrees_bytes bs ≡ true
answered_agrees bs call priorities d =
    ⊎_elim (λ (e : agrees_bytes bs ≡ true). e) (λ (e : agrees_bytes bs ≡ false). absurd (d ((internal_error_bytes bs call priorities).1 e)))
    (choices.tested (agrees_bytes bs))

module _ (bs : List ℕ) (b : Bytes bs) (priorities : List ℕ) where
  module _ (caller name count attributes maximum : ℕ) (fits : call_fits (Create caller name count attributes maximum) ≡ true) where
    abbrev made : Reply
    made = reply_to bs (Create caller name count attributes maximum) priorities

    pub since_create_bytes : made.answer.status ≡ 0 → is_binary attributes ≡ false → (requests : List Request) → calls_fit requests ≡ true
        → let id = made.answer.value in let u = model_of (replies made.bytes requests).bytes in names u id ≡ true
        → (slot_of u (id % 65536)).count + grants_in id none_found (history_over made.bytes requests) ≡ count + releases_in id (history_over made.bytes requests)
    since_create_bytes done unowned requests fit =
        let agreed = answered_agrees bs (Create caller name count attributes maximum) priorities (λ z. omega (arith, z, done)) in
        let g = tested b agreed in
        let is = reply_is bs (Create caller name count attributes maximum) priorities agreed in
        let m = left_model g (Create caller name count attributes maximum) priorities fits in
        let run = runs (left_agreeing g (Create caller name count attributes maximum) priorities fits) requests fit in
        rw (run.model ∙ ap (λ (u : Tables). after u requests) m)
        (rw (history_is (left_agreeing g (Create caller name count attributes maximum) priorities fits) requests fit ∙ ap (λ (u : Tables). history_of u requests) m)
        (rw (ap (λ (x : Reply). x.answer.value) is)
        (since_create (model_of bs) caller name count attributes maximum priorities (sym (ap (λ (x : Reply). x.answer.status) is) ∙ done) fits unowned requests fit)))

  module _ (q id : ℕ) (wait : Wait) (fits : call_fits (Obtain q id wait) ≡ true) where
    abbrev begun : Reply
    begun = reply_to bs (Obtain q id wait) priorities

    pub joined_bytes : let s = slot_of (model_of bs) (id % 65536) in begun.answer.status ≡ 100 → is_binary s.attributes ≡ false
        → by_priority s.attributes ≡ false → (requests : List Request) → calls_fit requests ≡ true
        → ServedInTurn id q (length s.queue) (history_over begun.bytes requests)
    joined_bytes said unowned fifo requests fit =
        let agreed = answered_agrees bs (Obtain q id wait) priorities (λ z. omega (arith, z, said)) in
        let g = tested b agreed in
        let is = reply_is bs (Obtain q id wait) priorities agreed in
        let m = left_model g (Obtain q id wait) priorities fits in
        rw (history_is (left_agreeing g (Obtain q id wait) priorities fits) requests fit ∙ ap (λ (u : Tables). history_of u requests) m)
        (joined (model_of bs) q id wait priorities unowned fifo fits (sym (ap (λ (x : Reply). x.answer.status) is) ∙ said) requests fit)
