-- The grants reported are those that the history shows: a task's obtains so far are its sections passed, and one more while it waits or is inside.
use mathlib.Core.Path.{◌≡◌, refl, sym, subst, ap, ap₂, ◌∙◌}
use mathlib.Core.Bool.{Bool, true, false, true≢false, false≢true}
use mathlib.Core.List.{List, [], ◌∷◌, ◌++◌, append-nil}
use mathlib.Core.Logic.{⊎_elim, ◌≢◌}
use Prim.Native.Nat.{ℕ, suc, pred, ◌+◌, ◌≤◌, ◌<◌}
use native.Mathlib.Omega.{arith}
use native.Mathlib.Decide.{ℕ_discrete}
use lib.Dec.{leb, eqb}
use lib.ListN.{length, get_or, get_or-map}
use borrow.Author.Tests.{eqb-true, eq-eqb, ne_eqb, lt-leb}
use Rattle.laws.specs.Choose.{choose, ◌or◌, bit}
use Rattle.laws.specs.Rows.{tabulate, rows}
use Rattle.laws.proofs.Choose.{choose_cases, choose_same, tested, if_yes, if_no}
use Rattle.laws.proofs.Fit.{get_d_tabulate, tabulate_same}
use Rattle.rules.specs.declared.Call.{Call}
use Rattle.rules.specs.declared.Task.{Task}
use Rattle.rules.specs.Machine.{Tables, no_task, task_of, waits}
use Rattle.rules.specs.Calls.{Outcome, perform}
use Rattle.rules.proofs.Invariants.Lists.{bit_yes, bit_no}
use Rattle.sections.specs.Scripts.{Grant, script_at}
use Rattle.sections.specs.Run.{Place, at, State, place_at, obtainer_of, said, place_after, grant_if, called}
use Rattle.sections.specs.Refusals.{Input}
use Rattle.sections.specs.History.{Shown, answers_in, shown_none, shown_call, answer_shown}
use Rattle.sections.proofs.Indices.{rows_none}
use Rattle.sections.proofs.Standing.{place_said, place_granted, place_skipped}

-- how often each script task has obtained
pub record Counted (w : Input) (obtains : ℕ → ℕ) (s : State) : Type 0 where
  pub each : (i : ℕ) → i < length w.scripts
      → obtains (script_at w.scripts i).task ≡ (place_at s i).section + bit
      (leb 1 (place_at s i).position or waits (task_of s.tables (script_at w.scripts i).task))

-- ---- counting

-- an obtain is made by a task that neither waits nor is inside
count_on : (inside waiting obtaining : Bool) → (obtaining ≡ true → (waiting ≡ false) × (inside ≡ false))
    → bit (inside or waiting) + bit obtaining ≡ bit (inside or (waiting or obtaining))
unfolding choose
count_on true true true f = absurd (true≢false (f refl).0)
count_on true true false f = refl
count_on true false true f = absurd (true≢false (f refl).1)
count_on true false false f = refl
count_on false true true f = absurd (true≢false (f refl).0)
count_on false true false f = refl
count_on false false true f = refl
count_on false false false f = refl

count_one : (waiting obtaining : Bool) → (obtaining ≡ true → waiting ≡ false) → (waiting or obtaining) ≡ true → bit waiting + bit obtaining ≡ 1
unfolding choose
count_one true true f e = absurd (true≢false (f refl))
count_one true false f e = refl
count_one false true f e = refl
count_one false false f e = absurd (false≢true e)

module _ (p : Place) (answer obtains : ℕ) (waiting obtaining waiting' : Bool) (counted : obtains ≡ p.section + bit (leb 1 p.position or waiting))
    (after : waiting' ≡ choose (eqb answer 100) (waiting or obtaining) false) (fresh : obtaining ≡ true → (waiting ≡ false) × (p.position ≡ 0))
    (answered : answer ≢ 100 → (p.position ≡ 0) × ((waiting or obtaining) ≡ true)) where
  -- an answer comes to the latest obtain
  one_more : answer ≢ 100 → obtains + bit obtaining ≡ suc p.section
  one_more n =
      let a = answered n in
      let outside : leb 1 p.position ≡ false = lt-leb 1 p.position (omega (arith, a.0)) in
      let was : obtains ≡ p.section + bit waiting = counted ∙ ap (λ (b : Bool). p.section + bit (b or waiting)) outside
      ∙ ap (λ (b : Bool). p.section + bit b) (if_no true waiting refl) in
      omega (arith, count_one waiting obtaining (λ e. (fresh e).0) a.1)

  counted_after : obtains + bit obtaining ≡ (place_after answer p).section + bit (leb 1 (place_after answer p).position or waiting')
  counted_after =
      elim (ℕ_discrete answer 100) [
        | yes e ↦
            subst (λ (q : Place). obtains + bit obtaining ≡ q.section + bit (leb 1 q.position or waiting'))
            (sym (ap (λ (n : ℕ). place_after n p) e ∙ place_said p))
            (let goes : waiting' ≡ (waiting or obtaining) = after ∙ if_yes _ _ (eq-eqb answer 100 e) in
            let sum = count_on (leb 1 p.position) waiting obtaining (λ o. ((fresh o).0, lt-leb 1 p.position (omega (arith, (fresh o).1)))) in
            omega (arith, counted, sum, ap (λ (b : Bool). bit (leb 1 p.position or b)) goes))
        | no n ↦
            let rests : waiting' ≡ false = after ∙ if_no _ _ (ne_eqb answer 100 n) in
            elim (ℕ_discrete answer 0) [
              | yes e ↦
                  subst (λ (q : Place). obtains + bit obtaining ≡ q.section + bit (leb 1 q.position or waiting'))
                  (sym (ap (λ (n : ℕ). place_after n p) e ∙ place_granted p))
                  (omega (arith, one_more n, bit_yes (leb 1 1 or waiting') (if_yes true waiting' refl)))
              | no m ↦
                  subst (λ (q : Place). obtains + bit obtaining ≡ q.section + bit (leb 1 q.position or waiting')) (sym (place_skipped answer p m n))
                  (omega (arith, one_more n, bit_no (leb 1 0 or waiting') (if_no true waiting' refl ∙ rests)))
            ]
      ]

-- ---- one event

abbrev pub counted_on : (ℕ → ℕ) → ℕ → ℕ → ℕ
counted_on obtains obtainer q = obtains q + bit (eqb obtainer q)

-- an event's grants are those that its call and the tasks' answers show
pub record Reads (w : Input) (obtains : ℕ → ℕ) (s u : State) (show : List ℕ → Shown) : Type 0 where
  pub grants : u.grants ≡ s.grants ++ rows (tabulate (length w.scripts) (λ i.
      grant_if (eqb (answer_shown (answers_in s.tables) (show (answers_in u.tables)) (script_at w.scripts i).task) 0) (script_at w.scripts i).task
      (pred (counted_on obtains (show (answers_in u.tables)).obtainer (script_at w.scripts i).task))))
  pub counts : Counted w (counted_on obtains (show (answers_in u.tables)).obtainer) u

answer_in : (t : Tables) (q : ℕ) → get_or (answers_in t) (pred q) 0 ≡ (task_of t q).answer
answer_in t q = get_or-map (λ (v : Task). v.answer) t.tasks (pred q) no_task

-- what a call says is what it shows
answer_shown_lem : (t : Tables) (call : Call) (o : Outcome) (q : ℕ)
    → answer_shown (answers_in t) (record { obtainer = obtainer_of call; status = o.answer.status; answers = answers_in o.tables }) q ≡ said t call o q
unfolding said
answer_shown_lem t call o q =
    ap₂ (λ (a b : ℕ). choose (eqb a 100) b (choose (eqb (obtainer_of call) q) o.answer.status 100)) (answer_in t q) (answer_in o.tables q)

-- an answer is to a wait or to an obtain
spoken : (t : Tables) (call : Call) (o : Outcome) (q : ℕ) → said t call o q ≢ 100 → (waits (task_of t q) or eqb (obtainer_of call) q) ≡ true
unfolding said
spoken t call o q n =
    ⊎_elim (λ (e : waits (task_of t q) ≡ true). if_yes _ _ e)
    (λ (e : waits (task_of t q) ≡ false).
    if_no _ _ e ∙ ⊎_elim (λ (y : eqb (obtainer_of call) q ≡ true). y) (λ (z : eqb (obtainer_of call) q ≡ false). absurd (n (if_no _ _ e ∙ if_no _ _ z)))
    (tested (eqb (obtainer_of call) q)))
    (tested (waits (task_of t q)))

module _ (w : Input) (s : State) (obtains : ℕ → ℕ) (C : Counted w obtains s) where
  abbrev N : ℕ
  N = length w.scripts

  abbrev task : ℕ → ℕ
  task i = (script_at w.scripts i).task

  module _ (call : Call) (priorities : List ℕ) where
    abbrev o : Outcome
    o = perform s.tables call priorities

    abbrev answer : ℕ → ℕ
    answer i = said s.tables call o (task i)

    -- one script, which stood at p when the call was made
    pub record Tells (i : ℕ) (p : Place) : Type 0 where
      pub granted : answer i ≡ 0 → p.section ≡ pred (counted_on obtains (obtainer_of call) (task i))
      pub counts : counted_on obtains (obtainer_of call) (task i) ≡ (place_after (answer i) p).section + bit
          (leb 1 (place_after (answer i) p).position or waits (task_of o.tables (task i)))

    pub tells : (i : ℕ) → i < N
        → waits (task_of o.tables (task i)) ≡ choose (eqb (answer i) 100) (waits (task_of s.tables (task i)) or eqb (obtainer_of call) (task i)) false
        → (eqb (obtainer_of call) (task i) ≡ true → (waits (task_of s.tables (task i)) ≡ false) × ((place_at s i).position ≡ 0))
        → (answer i ≢ 100 → (place_at s i).position ≡ 0)
        → Tells i (place_at s i)
    tells i h after fresh first =
        record {
          granted = λ e. let n : answer i ≢ 100 = λ z. omega arith in
              sym (ap pred (one_more (place_at s i) (answer i) (obtains (task i)) _ _ _ (C.each i h) after fresh
              (λ z. (first z, spoken s.tables call o (task i) z)) n));
          counts = counted_after (place_at s i) (answer i) (obtains (task i)) _ _ _ (C.each i h) after fresh
              (λ z. (first z, spoken s.tables call o (task i) z));
        }

    module _ (ps : List Place) (each : (i : ℕ) → i < N → Tells i (get_or ps i (at 0 0))) where
      abbrev u : State
      u = called w.scripts (record { tables = s.tables; memory = s.memory; places = ps; grants = s.grants })
          (record { call = call; priorities = priorities })

      pub called_reads : Reads w obtains s u (shown_call s.tables (record { call = call; priorities = priorities }))
      unfolding called
      called_reads =
          record {
            grants = ap (λ (gs : List (List Grant)). s.grants ++ rows gs) (tabulate_same N _ _ same);
            counts = record {
              each = λ i h. subst
                  (λ (p : Place). counted_on obtains (obtainer_of call) (task i) ≡ p.section + bit (leb 1 p.position or waits (task_of o.tables (task i))))
                  (sym (place i h)) (each i h).counts;
            };
          }
        where
          place : (i : ℕ) → i < N → place_at u i ≡ place_after (answer i) (get_or ps i (at 0 0))
          place i h = get_d_tabulate N (λ i. place_after (answer i) (get_or ps i (at 0 0))) i (at 0 0) h

          same : (i : ℕ) → i < N → grant_if (eqb (answer i) 0) (task i) (get_or ps i (at 0 0)).section
              ≡ grant_if (eqb (answer_shown (answers_in s.tables)
              (shown_call s.tables (record { call = call; priorities = priorities }) (answers_in u.tables)) (task i)) 0) (task i)
              (pred (counted_on obtains (obtainer_of call) (task i)))
          same i h =
              choose_cases (λ (gs : List Grant). gs ≡ grant_if (eqb (answer i) 0) (task i) (pred (counted_on obtains (obtainer_of call) (task i))))
              (eqb (answer i) 0) _ []
              (λ e. ap (λ (k : ℕ). record { task = task i; section = k } ∷ []) ((each i h).granted (eqb-true _ _ e)) ∙ sym (if_yes _ _ e))
              (λ e. sym (if_no _ _ e))
              ∙ ap (λ (n : ℕ). grant_if (eqb n 0) (task i) (pred (counted_on obtains (obtainer_of call) (task i))))
              (sym (answer_shown_lem s.tables call o (task i)))

  -- no call, and tables as they were
  pub quiet_reads : ((i : ℕ) → i < N → 1 ≤ task i) → (u : State) → u.tables ≡ s.tables → u.grants ≡ s.grants
      → ((i : ℕ) → i < N → ((place_at u i).section ≡ (place_at s i).section) × (leb 1 (place_at u i).position ≡ leb 1 (place_at s i).position))
      → Reads w obtains s u shown_none
  quiet_reads first u tables grants places =
      record {
        grants = grants ∙ sym (ap (λ (gs : List Grant). s.grants ++ gs)
            (rows_none N (λ i. eqb (answer_shown (answers_in s.tables) (shown_none (answers_in u.tables)) (task i)) 0)
            (λ i. record { task = task i; section = pred (counted_on obtains 0 (task i)) }) silent) ∙ append-nil s.grants);
        counts = record {
          each = λ i h.
              omega (
                arith,
                C.each i h,
                (places i h).0,
                bit_no (eqb 0 (task i)) (ne_eqb 0 (task i) (λ (e : 0 ≡ task i). omega (arith, first i h))),
                ap₂
                    (λ (b : Bool) (t : Tables). bit (b or waits (task_of t (task i)))) (places i h).1 tables,
              );
        };
      }
    where
      silent : (i : ℕ) → i < N → eqb (answer_shown (answers_in s.tables) (shown_none (answers_in u.tables)) (task i)) 0 ≡ false
      silent i h =
          ap (λ (t : Tables). eqb (answer_shown (answers_in s.tables) (shown_none (answers_in t)) (task i)) 0) tables
          ∙ choose_cases (λ (n : ℕ). eqb n 0 ≡ false) (eqb (get_or (answers_in s.tables) (pred (task i)) 0) 100) _ _
          (λ e. ap (λ (n : ℕ). eqb n 0) (eqb-true (get_or (answers_in s.tables) (pred (task i)) 0) 100 e))
          (λ e. ap (λ (n : ℕ). eqb n 0) (choose_same (eqb 0 (task i)) 100))
