-- The scan of the sequence for the next task finds what request 1 says: the first of the least working priority.
use mathlib.Core.Path.{◌≡◌, refl, sym, subst, ap, ◌∙◌}
use mathlib.Core.Bool.{true, false}
use mathlib.Core.List.{List, [], ◌∷◌}
use mathlib.Core.Logic.{⊎_elim}
use Prim.Native.Nat.{ℕ, zero, suc, pred, ◌≤◌, ◌<◌}
use native.Mathlib.Omega.{arith}
use native.Mathlib.Nat.{not-suc-le-zero}
use lib.Dec.{ltb, eqb}
use lib.ListN.{length, get_or}
use borrow.Author.Tests.{eqb-true, ltb-true, ltb-false, leb-true}
use Rattle.laws.specs.Choose.{◌and◌}
use Rattle.laws.proofs.Choose.{and_both, both_and, tested, if_yes, if_no}
use Rattle.rules.specs.declared.Call.{Call}
use Rattle.rules.specs.Numbers.{max_priority}
use Rattle.rules.specs.Machine.{Tables, is_task, urgency, most_urgent, next}
use Rattle.rules.specs.Agreement.{Agrees, is_ready_task, occurs}
use Rattle.rules.specs.Calls.{Outcome, perform, step}
use Rattle.rules.specs.Fits.{call_fits}
use Rattle.rules.specs.Promises.{NextIs}
use Rattle.rules.specs.Promises.NextIs.{nobody, somebody}
use Rattle.rules.proofs.Working.{working_most}
use Rattle.rules.proofs.Invariants.Lists.{bit_yes, bit_no, bit_true, occurs_cons, occurs_none, occurs_at}
use Rattle.rules.proofs.Invariants.Facts.{Facts}
use Rattle.rules.proofs.Invariants.FromTests.{agrees_facts}
use Rattle.rules.proofs.Invariants.Agreeing.{agrees_true}
use Rattle.rules.proofs.Invariants.Kept.{kept}
use Rattle.rules.proofs.Performed.{Performed, performed}
use Rattle.rules.proofs.Performed.Performed.{refusing, done, began}

-- r is the first of the least number in a list
record First (u : ℕ → ℕ) (xs : List ℕ) (r : ℕ) : Type 0 where
  place : ℕ
  inside : place < length xs
  here : get_or xs place 0 ≡ r
  first : (k : ℕ) → k < place → u r < u (get_or xs k 0)
  least : (k : ℕ) → k < length xs → u r ≤ u (get_or xs k 0)

-- what a scan gives that comes with `best`, of number p: that, where no number of the list is less, or the first of the least, which is less than p
data Scanned (u : ℕ → ℕ) (xs : List ℕ) (best p r : ℕ) : Type 0 where
  stays : r ≡ best → ((k : ℕ) → k < length xs → p ≤ u (get_or xs k 0)) → Scanned u xs best p r
  finds : First u xs r → u r < p → Scanned u xs best p r

module _ (u : ℕ → ℕ) (x : ℕ) (xs : List ℕ) where
  -- an order that holds of the head and of the others
  at_most : (n : ℕ) → n ≤ u x → ((k : ℕ) → k < length xs → n ≤ u (get_or xs k 0)) → (k : ℕ) → k < length (x ∷ xs) → n ≤ u (get_or (x ∷ xs) k 0)
  at_most n h f zero b = h
  at_most n h f (suc k) b = f k (omega arith)

  below : (n place : ℕ) → n < u x → ((k : ℕ) → k < place → n < u (get_or xs k 0)) → (k : ℕ) → k < suc place → n < u (get_or (x ∷ xs) k 0)
  below n place h f zero b = h
  below n place h f (suc k) b = f k (omega arith)

  -- the first of the others, which is less than the head
  later : {r : ℕ} → u r < u x → First u xs r → First u (x ∷ xs) r
  later {r} h f = record {
    place = suc f.place;
    inside = omega (arith, f.inside);
    here = f.here;
    first = below (u r) f.place h f.first;
    least = at_most (u r) (omega arith) f.least;
  }

  -- the head is less than all before, or it is not
  better : {best p r : ℕ} → u x < p → Scanned u xs x (u x) r → Scanned u (x ∷ xs) best p r
  better {r = r} h (stays e f) =
      let same : u r ≡ u x = ap u e in
      finds (record {
        place = 0;
        inside = omega arith;
        here = sym e;
        first = λ k b. absurd (not-suc-le-zero b);
        least = at_most (u r) (omega arith)
            (λ k b. omega (arith, f k b));
      }) (omega arith)
  better h (finds f l) = finds (later l f) (omega arith)

  no_better : {best p r : ℕ} → p ≤ u x → Scanned u xs best p r → Scanned u (x ∷ xs) best p r
  no_better {p = p} h (stays e f) = stays e (at_most p h f)
  no_better h (finds f l) = finds (later (omega arith) f) l

scan : (t : Tables) (u : ℕ → ℕ) (xs : List ℕ) (best p : ℕ) → ((k : ℕ) → k < length xs → is_task t (get_or xs k 0) ≡ true)
    → Scanned u xs best p (most_urgent t u xs best p)
unfolding most_urgent
scan t u [] best p tasks = stays refl (λ k b. absurd (not-suc-le-zero b))
scan t u (x ∷ xs) best p tasks =
    ⊎_elim
    (λ (e : ltb (u x) p ≡ true).
    let yes : (is_task t x and ltb (u x) p) ≡ true = both_and (tasks 0 (omega arith)) e in
    rw (if_yes x best yes, if_yes (u x) p yes)
    (better u x xs (ltb-true _ _ e) (scan t u xs x (u x) (λ k b. tasks (suc k) (omega arith)))))
    (λ (e : ltb (u x) p ≡ false).
    let no : (is_task t x and ltb (u x) p) ≡ false = if_yes _ _ (tasks 0 (omega arith)) ∙ e in
    rw (if_no x best no, if_no (u x) p no)
    (no_better u x xs (ltb-false _ _ e) (scan t u xs best p (λ k b. tasks (suc k) (omega arith)))))
    (tested (ltb (u x) p))

-- where a number stands that occurs in a list
pub record Stands (q : ℕ) (xs : List ℕ) : Type 0 where
  pub place : ℕ
  pub inside : place < length xs
  pub here : get_or xs place 0 ≡ q

pub stands : (q : ℕ) (xs : List ℕ) → 1 ≤ occurs q xs → Stands q xs
stands q [] h = absurd (omega (arith, occurs_none q))
stands q (x ∷ xs) h =
    ⊎_elim (λ (e : eqb q x ≡ true). record { place = 0; inside = omega arith; here = sym (eqb-true q x e) })
    (λ (e : eqb q x ≡ false).
    let s = stands q xs (omega (arith, occurs_cons q x xs, bit_no _ e)) in
    record { place = suc s.place; inside = omega (arith, s.inside); here = s.here })
    (tested (eqb q x))

module _ (t : Tables) (f : Facts t) where
  -- the sequence holds ready tasks, and every one
  entry : (k : ℕ) → k < length t.ready → is_ready_task t (get_or t.ready k 0) ≡ true
  entry k b = bit_true _ (subst (λ (n : ℕ). 1 ≤ n) (f.ready (get_or t.ready k 0)) (occurs_at t.ready k b))

  standing : (r : ℕ) → is_ready_task t r ≡ true → Stands r t.ready
  standing r e = stands r t.ready (omega (arith, f.ready r, bit_yes _ e))

  in_range_lem : (r : ℕ) → is_task t r ≡ true → urgency t r ≤ max_priority
  unfolding urgency
  in_range_lem r e =
      let low : 1 ≤ r = leb-true _ _ (and_both _ _ e).0 in
      let high : r ≤ length t.tasks = leb-true _ _ (and_both _ _ e).1 in
      omega (arith, working_most t (length t.tasks) r, (f.urgent (pred r) (omega arith)).1)

  concluded : {q : ℕ} → Scanned (urgency t) t.ready 0 (suc max_priority) q → NextIs t q
  concluded (stays e above) =
      nobody e (λ r. ⊎_elim (λ (y : is_ready_task t r ≡ true).
      let s = standing r y in
      absurd (omega (arith, above s.place s.inside, ap (urgency t) s.here, in_range_lem r (and_both _ _ y).0)))
      (λ (n : is_ready_task t r ≡ false). n) (tested (is_ready_task t r)))
  concluded (finds w l) =
      somebody (record {
        ready = subst (λ (n : ℕ). is_ready_task t n ≡ true) w.here (entry w.place w.inside);
        least = λ r e. let s = standing r e in omega (arith, w.least s.place s.inside, ap (urgency t) s.here);
        place = w.place;
        inside = w.inside;
        here = w.here;
        first = w.first;
      })

pub next_is : (t : Tables) → Agrees t → NextIs t (next t)
unfolding next
next_is t a =
    let f = agrees_facts t a in
    concluded t f (scan t (urgency t) t.ready 0 (suc max_priority) (λ k b. (and_both _ _ (entry t f k b)).0))

-- ---- the next task that a call answers is that of the tables it leaves

of_the_tables : {t : Tables} {call : Call} {o : Outcome} → Performed t call o → o.answer.next ≡ next o.tables
of_the_tables (refusing status d i) = refl
of_the_tables (done value after i v) = refl
of_the_tables (began after i) = refl

pub answered_next : (t : Tables) (call : Call) (priorities : List ℕ) → call_fits call ≡ true → Agrees t
    → let o = step t call priorities in NextIs o.tables o.answer.next
unfolding step
answered_next t call priorities fits a =
    let o = perform t call priorities in
    let served : step t call priorities ≡ o = if_yes _ _ (agrees_true t a) in
    let agreed : Agrees o.tables = subst (λ (x : Outcome). Agrees x.tables) served (kept t call priorities fits a) in
    subst (λ (x : Outcome). NextIs x.tables x.answer.next) (sym served)
    (subst (NextIs o.tables) (sym (of_the_tables (performed t call priorities))) (next_is o.tables agreed))
