-- What the test of tables and list leaves of a call: nothing, a refusal, or what the Classic call that it stands on does.
use mathlib.Core.Path.{◌≡◌, refl, sym, subst, subst₂, ap, ◌∙◌}
use mathlib.Core.Bool.{true, false}
use mathlib.Core.List.{List, []}
use Prim.Native.Nat.{ℕ, ◌^◌, ◌<◌}
use lib.Dec.{eqb}
use lib.IntN.{ℤ, nat_abs}
use lib.Signed.{mag, non_neg}
use mir.Syntax.{w32}
use mir.Val.{to_z, of_z}
use borrow.Author.Tests.{eq-eqb, ne_eqb}
use Rattle.laws.specs.Choose.{choose}
use Rattle.laws.proofs.Choose.{if_yes, if_no, and_both}
use Rattle.words.proofs.WordsInBytes.{Bytes}
use Rattle.rules.specs.declared.Answer.{Answer}
use Rattle.rules.specs.Numbers.{successful, too_many, unsatisfied}
use Rattle.rules.specs.Machine.{Tables, next}
use Rattle.rules.specs.declared.Call.{Call}
use Rattle.rules.specs.declared.Call.TheVariants.{Create, Delete, Obtain, Release}
use Rattle.rules.specs.Calls.{Outcome, create, delete, obtain, perform}
use Rattle.tables.specs.Layout.{laid, model_of}
use Rattle.agreement.specs.Bytes.{agrees_bytes}
use Rattle.calls.specs.declared.lent.Tables.{Tables as Lent}
use Rattle.calls.specs.Agreeing.{Agreeing}
use Rattle.calls.specs.Tables.{Performs}
use Rattle.calls.proofs.Agreeing.{sized}
use Rattle.manager.specs.Entry.{no_next, Replied, reply}
use Rattle.manager.proofs.Tested.{tested}
use Rattle.mapping.specs.Mapping.{entry_of, map_to, forgotten, list_agrees}
use Rattle.itron.specs.declared.codes.Code.{Code}
use Rattle.itron.specs.declared.codes.Code.TheVariants.{Sys, NoMem, RsAtr, Par, Id, NoExs, Obj, Ctx, QOvr, Dlt, TmOut, RlWai}
use Rattle.itron.specs.declared.Coded.{Coded}
use Rattle.itron.specs.Codes.{number_of, e_ok, e_nomem, e_qovr, e_tmout, code_of, status_code}
use Rattle.itron.specs.Calls.{Listed, refused_by, unless_refused, over, delete_mapped, cre_refusal, attributes_of, cre_sem, del_refusal, del_sem, sig_refusal, sig_sem}
use Rattle.itron.specs.Calls.{twai_refusal, wait_for, twai_sem}
use Rattle.itron.proofs.Signed.{got}
use Rattle.itron_calls.specs.Reply.{both_agree, reply_with, no_code, code_reply, delete_reply, Leaves}

module _ (bs list : List ℕ) (e : both_agree bs list ≡ true) where
  pub bytes_agree : agrees_bytes bs ≡ true
  unfolding both_agree
  bytes_agree = (and_both _ _ e).0

  pub list_agrees_lem : list_agrees (model_of bs) list ≡ true
  unfolding both_agree
  list_agrees_lem = (and_both (agrees_bytes bs) _ e).1

  pub both_tested : Bytes bs → Agreeing bs
  both_tested b = tested b bytes_agree

-- both tests, one behind the other
module _ (bs list : List ℕ) where
  pub both_agreeing : agrees_bytes bs ≡ true → list_agrees (model_of bs) list ≡ both_agree bs list
  unfolding both_agree
  both_agreeing e = sym (if_yes _ _ e)

  pub bytes_disagree : agrees_bytes bs ≡ false → false ≡ both_agree bs list
  unfolding both_agree
  bytes_disagree e = sym (if_no _ _ e)

pub ruleset tests = (both_agreeing, bytes_disagree, tested, sized)

-- tables or a list that do not agree are left alone
module _ {A : Type 0} (bs list : List ℕ) (disagreed : A) (call : Tables → List ℕ → Listed A) where
  pub leaves_alone : both_agree bs list ≡ false → {r : A} → r ≡ disagreed → Leaves r bs list (reply_with bs list disagreed call)
  unfolding reply_with
  leaves_alone e {r} p = subst (Leaves r bs list) (sym (if_no _ _ e)) (record { answer = p; bytes = refl; list = refl })

  -- others get what the call does
  pub leaves_done : both_agree bs list ≡ true → (done : Listed A) → call (model_of bs) list ≡ done → {r : A} {after ls : List ℕ}
      → r ≡ done.answer → after ≡ laid done.tables → ls ≡ done.list → Leaves r after ls (reply_with bs list disagreed call)
  unfolding reply_with
  leaves_done e done is {r} {after} {ls} p q s =
      subst (Leaves r after ls) (sym (if_yes _ _ e))
      (record {
        answer = p ∙ ap (λ (d : Listed A). d.answer) (sym is);
        bytes = q ∙ ap (λ (d : Listed A). laid d.tables) (sym is);
        list = s ∙ ap (λ (d : Listed A). d.list) (sym is);
      })

-- a call of the family: x is what its checks give
module _ (bs list : List ℕ) (e : both_agree bs list ≡ true) (call : Tables → List ℕ → Listed Coded) (x : ℤ) (done : Listed Coded)
    (is : call (model_of bs) list ≡ unless_refused x (model_of bs) list done) where
  pub leaves_over : non_neg x ≡ true → (code : ℕ → ℤ) (ls : List ℕ) (o : Outcome) → done ≡ over code ls o
      → {a : Answer} {r : Coded} {after left : List ℕ} → Replied a after (reply o) → r ≡ record { code = code a.status; next = a.next }
      → left ≡ ls → Leaves r after left (code_reply bs list call)
  leaves_over n code ls o d {a} q p l =
      leaves_done bs list no_code call e (over code ls o) (is ∙ if_yes _ _ n ∙ d)
      (p ∙ ap (λ (b : Answer). record { code = code b.status; next = b.next }) q.answer) q.bytes l

-- a code that a call gave, as the machine reads it back
pub code_read : {code y : ℤ} → mag y < 2 ^ 31 → y ≡ code → to_z w32 (of_z w32 y) ≡ code
code_read ok e = got ok ∙ e

-- the one refusal with a code of its own, and that code, as the machine hands them on
pub told_over : {refusal x : ℕ} → x ≡ refusal → {code y : ℤ} → y ≡ code → (a : Answer) {r : Coded}
    → r ≡ record { code = status_code x y a.status; next = a.next } → r ≡ record { code = status_code refusal code a.status; next = a.next }
told_over e f a p = p ∙ (λ i. record { code = status_code (e i) (f i) a.status; next = a.next })

pub negative : (code : Code) → non_neg (number_of code) ≡ false
negative Sys = refl
negative NoMem = refl
negative RsAtr = refl
negative Par = refl
negative Id = refl
negative NoExs = refl
negative Obj = refl
negative Ctx = refl
negative QOvr = refl
negative Dlt = refl
negative TmOut = refl
negative RlWai = refl

-- ---- a call of the family: its checks, and then the Classic call that it stands on, whose status it tells as a code, and which may change the list

pub record Stands (call : Tables → List ℕ → Listed Coded) (check : Tables → List ℕ → ℤ) (classic : List ℕ → Call) (code : ℕ → ℤ)
    (kept : List ℕ → Answer → List ℕ) : Type 0 where
  pub on : (t : Tables) (list : List ℕ) → call t list
      ≡ (let o = perform t (classic list) [] in unless_refused (check t list) t list (over code (kept list o.answer) o))

module _ (caller semid : ℕ) where
  -- the counts and tmout as the machine hands them on
  pub cre_stands : (sematr : ℕ) {isemcnt maxsem y z : ℤ} → y ≡ isemcnt → z ≡ maxsem
      → Stands (λ t l. cre_sem t l caller semid sematr isemcnt maxsem) (λ t l. cre_refusal t l caller semid sematr y z)
      (λ l. Create caller semid (nat_abs y) (attributes_of sematr) (nat_abs z)) (status_code too_many e_nomem)
      (λ l a. choose (eqb a.status successful) (map_to l semid a.value) l)
  unfolding cre_sem perform
  cre_stands sematr p q = record {
    on = λ t list i.
        let o = create t caller semid (nat_abs (sym p i)) (attributes_of sematr) (nat_abs (sym q i)) in
        unless_refused (cre_refusal t list caller semid sematr (sym p i) (sym q i)) t list
        (over (status_code too_many e_nomem) (choose (eqb o.answer.status successful) (map_to list semid o.answer.value) list) o);
  }

  pub del_stands : Stands (λ t l. del_sem t l caller semid) (λ t l. del_refusal t l caller semid) (λ l. Delete caller (entry_of l semid)) code_of
      (λ l a. choose (eqb a.status successful) (map_to l semid a.value) l)
  unfolding del_sem perform
  del_stands = record { on = λ t list. refl }

  pub sig_stands : Stands (λ t l. sig_sem t l caller semid) (λ t l. sig_refusal t l caller semid) (λ l. Release caller (entry_of l semid))
      (status_code unsatisfied e_qovr) (λ l a. l)
  unfolding sig_sem perform
  sig_stands = record { on = λ t list. refl }

  pub twai_stands : {tmout y : ℤ} → y ≡ tmout → Stands (λ t l. twai_sem t l caller semid tmout) (λ t l. twai_refusal t l caller semid y)
      (λ l. Obtain caller (entry_of l semid) (wait_for y)) (status_code unsatisfied e_tmout) (λ l a. l)
  unfolding twai_sem perform
  twai_stands p = record {
    on = λ t list i.
        unless_refused (twai_refusal t list caller semid (sym p i)) t list
        (over (status_code unsatisfied e_tmout) list (obtain t caller (entry_of list semid) (wait_for (sym p i))));
  }

-- v are the bytes of the view that was checked
module _ {call : Tables → List ℕ → Listed Coded} {check : Tables → List ℕ → ℤ} {classic : List ℕ → Call} {code : ℕ → ℤ} {kept : List ℕ → Answer → List ℕ}
    (s : Stands call check classic code kept) {bs list : List ℕ} (e : both_agree bs list ≡ true) {v : List ℕ} (same : v ≡ bs) where
  checked : {x : ℤ} → x ≡ check (model_of v) list → call (model_of bs) list
      ≡ (let o = perform (model_of bs) (classic list) [] in unless_refused x (model_of bs) list (over code (kept list o.answer) o))
  checked {x} n =
      let o = perform (model_of bs) (classic list) [] in
      s.on (model_of bs) list
      ∙ ap (λ (z : ℤ). unless_refused z (model_of bs) list (over code (kept list o.answer) o)) (sym (n ∙ ap (λ (bs : List ℕ). check (model_of bs) list) same))

  -- the checks refuse it, and the next task is that of a view with the bytes w
  pub leaves_refused : (refusal : Code) → number_of refusal ≡ check (model_of v) list → Agreeing bs → {w after : List ℕ} → w ≡ bs → bs ≡ after
      → {r : Coded} → r ≡ record { code = number_of refusal; next = next (model_of w) } → Leaves r after list (code_reply bs list call)
  leaves_refused refusal n g still back p =
      leaves_done bs list no_code call e (refused_by (number_of refusal) (model_of bs) list) (checked n ∙ if_no _ _ (negative refusal))
      (p ∙ ap (λ (bs : List ℕ). record { code = number_of refusal; next = next (model_of bs) }) still) (sym back ∙ g.same) refl

  -- it does what the Classic call does on the tables that are lent and given back
  pub leaves_made : e_ok ≡ check (model_of v) list → {c : Call} → c ≡ classic list → {old new : Lent} {after : List ℕ} → old.bytes.now ≡ bs → new.bytes.now ≡ after
      → {a : Answer} → Performs old new a c [] → {r : Coded} → r ≡ record { code = code a.status; next = a.next }
      → {left : List ℕ} → left ≡ kept list a → Leaves r after left (code_reply bs list call)
  leaves_made n {c} is {old} {new} {after} lent back {a} q p l =
      let o = perform (model_of bs) (classic list) [] in
      let q : Replied a after (reply o) =
      subst (λ (c : Call). Replied a after (reply (perform (model_of bs) c []))) is
      (subst₂ (λ (x y : List ℕ). Replied a y (reply (perform (model_of x) c []))) lent back q.replied)
      in
      leaves_over bs list e call e_ok (over code (kept list o.answer) o) (checked n) refl code (kept list o.answer) o refl q p
      (l ∙ ap (λ (a : Answer). kept list a) q.answer)

-- Classic delete with the list: done, it forgets the identifier, and refused it does not
module _ (bs list : List ℕ) (e : both_agree bs list ≡ true) (caller id : ℕ) {old new : Lent} {after : List ℕ} (lent : old.bytes.now ≡ bs)
    (back : new.bytes.now ≡ after) {a : Answer} (p : Performs old new a (Delete caller id) []) where
  q : Replied a after (reply (delete (model_of bs) caller id))
  unfolding perform
  q = subst₂ (λ (x y : List ℕ). Replied a y (reply (perform (model_of x) (Delete caller id) []))) lent back p.replied

  left_list : {left : List ℕ} → left ≡ choose (eqb a.status successful) (forgotten id list) list → Leaves a after left (delete_reply bs list caller id)
  unfolding delete_mapped
  left_list l =
      leaves_done bs list no_next (λ t ls. delete_mapped t ls caller id) e (delete_mapped (model_of bs) list caller id) refl q.answer q.bytes
      (l ∙ ap (λ (b : Answer). choose (eqb b.status successful) (forgotten id list) list) q.answer)

  pub leaves_deleted : a.status ≡ 0 → {left : List ℕ} → left ≡ forgotten id list → Leaves a after left (delete_reply bs list caller id)
  leaves_deleted z l = left_list (l ∙ sym (if_yes _ _ (eq-eqb _ 0 z)))

  pub leaves_undeleted : (a.status ≡ 0 → ⊥) → Leaves a after list (delete_reply bs list caller id)
  leaves_undeleted n = left_list (sym (if_no _ _ (ne_eqb _ 0 n)))
