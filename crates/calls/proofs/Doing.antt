-- What a call has done, shown of its status, its value and its bytes.
use mathlib.Core.Path.{◌≡◌, refl, sym, ap, ap₂, ◌∙◌}
use mathlib.Core.Bool.{true}
use mathlib.Core.List.{List}
use Prim.Native.Nat.{ℕ}
use Rattle.std.specs.Prelude.{Result, Ok, Err}
use native.Mathlib.Omega.{arith}
use borrow.Author.Tests.{eq-eqb, ne_eqb}
use Rattle.laws.proofs.Choose.{if_yes, if_no}
use Rattle.rules.specs.declared.Answer.{Answer}
use Rattle.rules.specs.declared.Call.{Call}
use Rattle.rules.specs.declared.refusal.Refusal.{Refusal}
use Rattle.rules.specs.Status.{status_of}
use Rattle.rules.proofs.Refused.{refused as refused_lem}
use Rattle.rules.specs.Machine.{Tables}
use Rattle.rules.specs.Calls.{Outcome, answered, refused, unless, perform}
use Rattle.rules.specs.Fits.{call_fits}
use Rattle.rules.proofs.Performed.{Performed, performed}
use Rattle.rules.proofs.Performed.Performed.{refusing, done, began}
use Rattle.tables.specs.Layout.{laid, model_of}
use Rattle.calls.specs.declared.Done.{Done}
use Rattle.calls.specs.declared.Done.TheVariants.{Value, Waits}
use Rattle.calls.specs.Agreeing.{Agreeing}
use Rattle.calls.specs.Reply.{Does, Replied, reply, done_status, done_value}
use Rattle.calls.proofs.Agreeing.{model_is, agrees_after, agreeing_after}

pub unless_refused_lem : {x : ℕ} (t : Tables) (o : Outcome) (e : Refusal) → x ≡ status_of e → unless x t o ≡ refused t (status_of e)
unless_refused_lem {x} t o e is =
    ap {B = Outcome} (λ (k : ℕ). unless k t o) is ∙ if_no o (refused t (status_of e)) (ne_eqb (status_of e) 0 (λ z. omega (arith, z, refused_lem e)))

pub unless_done : {x : ℕ} (t : Tables) (o : Outcome) → x ≡ 0 → unless x t o ≡ o
unless_done {x} t o e = if_yes o (refused t x) (eq-eqb x 0 e)

-- what the rule gives, with the bytes of its tables
does : {bs : List ℕ} {rule : Tables → Outcome} (r : Result Done Refusal) (t₁ : Tables) → rule (model_of bs) ≡ answered (done_status r) (done_value r) t₁
    → {after : List ℕ} → after ≡ laid t₁ → Does bs after r rule
does r t₁ e b =
    record {
      status = sym (ap (λ (o : Outcome). o.answer.status) e);
      value = sym (ap (λ (o : Outcome). o.answer.value) e);
      bytes = b ∙ sym (ap (λ (o : Outcome). laid o.tables) e);
    }

pub has_done : {bs : List ℕ} {rule : Tables → Outcome} (value : ℕ) (t₁ : Tables) → rule (model_of bs) ≡ answered 0 value t₁
    → {after : List ℕ} → after ≡ laid t₁ → Does bs after (Ok (Value value)) rule
has_done value t₁ e b = does (Ok (Value value)) t₁ e b

pub has_begun : {bs : List ℕ} {rule : Tables → Outcome} (t₁ : Tables) → rule (model_of bs) ≡ answered 100 0 t₁
    → {after : List ℕ} → after ≡ laid t₁ → Does bs after (Ok Waits) rule
has_begun t₁ e b = does (Ok Waits) t₁ e b

-- a refusal leaves the bytes
pub refuses : {bs : List ℕ} → Agreeing bs → {rule : Tables → Outcome} (e : Refusal) → rule (model_of bs) ≡ refused (model_of bs) (status_of e)
    → Does bs bs (Err e) rule
refuses {bs} g e is = does (Err e) (model_of bs) is g.same

-- the answer that is given of what a step leaves is the rule's own
answer_is : {t : Tables} {call : Call} {o : Outcome} → Performed t call o → o.answer ≡ (answered o.answer.status o.answer.value o.tables).answer
answer_is (refusing status d i) = refl
answer_is (done value after i v) = refl
answer_is (began after i) = refl

pub replied : {bs : List ℕ} → Agreeing bs → (call : Call) (priorities : List ℕ) → call_fits call ≡ true → {after : List ℕ} {d : Result Done Refusal}
    → Does bs after d (λ t. perform t call priorities) → {r : Answer} → r ≡ (answered (done_status d) (done_value d) (model_of after)).answer
    → Replied r after (reply (perform (model_of bs) call priorities))
replied {bs} g call priorities fits {after} {d} did {r} p =
    let o = perform (model_of bs) call priorities in
    let m : model_of after ≡ o.tables = model_is o.tables (agrees_after g call priorities fits) after did.bytes in
    record {
      answer =
          p
          ∙ ap {B = Answer} (λ (t : Tables). (answered (done_status d) (done_value d) t).answer) m
          ∙ ap₂ {C = Answer} (λ (s v : ℕ). (answered s v o.tables).answer) did.status did.value
          ∙ sym (answer_is (performed (model_of bs) call priorities));
      bytes = did.bytes;
    }

-- bytes on which a call has been done are the layout of tables that agree
module _ {bs : List ℕ} (g : Agreeing bs) (call : Call) (priorities : List ℕ) (fits : call_fits call ≡ true) {after : List ℕ} {d : Result Done Refusal}
    (did : Does bs after d (λ t. perform t call priorities)) where
  pub left_tables : model_of after ≡ (perform (model_of bs) call priorities).tables
  left_tables = model_is _ (agrees_after g call priorities fits) after did.bytes

  pub left_agreeing : Agreeing after
  left_agreeing = agreeing_after g call priorities fits after did.bytes
