-- What a call says to a task's obtain, by the flags of who waited before it and the tables after it.
use Rattle.std.proofs.Common.{◌≡◌, ℕ, pred, ◌<◌, ◌≤◌, Bool, true, false, eqb, List, [], length, get_or, sym, refl, ap, ◌∙◌, arith}
use native.Mathlib.Decide.{dec_lt}
use lib.ListN.{get_or-eq_default}
use Rattle.laws.specs.Choose.{choose}
use Rattle.laws.proofs.Choose.{if_yes, if_no, if_eq, if_ne}
use Rattle.laws.proofs.Mapped.{Filled}
use Rattle.words.proofs.WordsInBytes.{Bytes}
use Rattle.rules.specs.declared.Call.{Call}
use Rattle.rules.specs.declared.Call.TheVariants.{Start, Create, Ident, Delete, Obtain, Release, Flush, Tick}
use Rattle.rules.specs.declared.Wait.{Wait}
use Rattle.rules.specs.Promises.{kind_of}
use Rattle.rules.specs.declared.Task.{Task}
use Rattle.rules.specs.Machine.{Tables, no_task, task_of, waits}
use Rattle.rules.specs.Calls.{Outcome}
use Rattle.tables.specs.Layout.{laid, task_at}
use Rattle.tables.proofs.LayoutRead.{laid_words, task_laid}
use Rattle.sections.specs.Scripts.{Script, script_at}
use Rattle.sections.specs.Run.{obtainer_of, said}
use Rattle.runner.specs.State.{told}

-- ---- who obtains

pub none_obtains : (call : Call) → ((caller id : ℕ) (wait : Wait) → call ≡ Obtain caller id wait → ⊥) → 0 ≡ obtainer_of call
unfolding kind_of choose
none_obtains (Start slots) h = refl
none_obtains (Create caller name count attributes maximum) h = refl
none_obtains (Ident name) h = refl
none_obtains (Delete caller id) h = refl
none_obtains (Obtain caller id wait) h = absurd (h caller id wait refl)
none_obtains (Release caller id) h = refl
none_obtains (Flush caller id) h = refl
none_obtains Tick h = refl

-- ---- the flags

abbrev pub Waiting : Tables → List Bool → ℕ → Type 0
Waiting t flags n = Filled (λ j. waits (get_or t.tasks j no_task)) false flags n

pub flag_read : (m : List ℕ) (i : ℕ) (v : Task) (b : Bool) → Bytes m → i < 32 → v ≡ task_at m i → b ≡ waits v
    → (t : Tables) → m ≡ laid t → b ≡ waits (get_or t.tasks i no_task)
flag_read m i v b by l r f t e = f ∙ ap (λ (x : Task). waits x) (r ∙ ap (λ (x : List ℕ). task_at x i) e ∙ task_laid t (laid_words t (rw e at by)) i l)

-- ---- one task

module _ (waited : List Bool) (t : Tables) (obtainer status q k : ℕ) (p : k ≡ pred q) where
  pub told_ended : get_or waited k false ≡ true → (a : ℕ) → a ≡ (task_of t q).answer → a ≡ told waited t obtainer status q
  unfolding told
  told_ended w a e = e ∙ sym (if_yes _ _ (ap (λ (n : ℕ). get_or waited n false) (sym p) ∙ w))

  module _ (w : get_or waited k false ≡ false) where
    unwaited : told waited t obtainer status q ≡ choose (eqb obtainer q) status 100
    unfolding told
    unwaited = if_no _ _ (ap (λ (n : ℕ). get_or waited n false) (sym p) ∙ w)

    pub told_own : obtainer ≡ q → status ≡ told waited t obtainer status q
    told_own e = sym (unwaited ∙ if_eq obtainer q _ _ e)

    pub told_none : (obtainer ≡ q → ⊥) → 100 ≡ told waited t obtainer status q
    told_none n = sym (unwaited ∙ if_ne obtainer q _ _ n)

-- ---- what is told is what the call says

module _ (t : Tables) (call : Call) (o : Outcome) (waited : List Bool) (flags : Waiting t waited 32) where
  told_said : (q : ℕ) → q ≤ 32 → told waited o.tables (obtainer_of call) o.answer.status q ≡ said t call o q
  unfolding told said
  told_said q h =
      ap (λ (b : Bool). choose b (task_of o.tables q).answer (choose (eqb (obtainer_of call) q) o.answer.status 100)) (flags (pred q) (omega arith))

  pub all_said : (scripts : List Script) → ((i : ℕ) → i < length scripts → (script_at scripts i).task ≤ 32)
      → (i : ℕ) → told waited o.tables (obtainer_of call) o.answer.status (script_at scripts i).task ≡ said t call o (script_at scripts i).task
  all_said scripts few i =
      elim (dec_lt i (length scripts)) [
        | yes h ↦ told_said (script_at scripts i).task (few i h)
        | no n ↦ told_said (script_at scripts i).task (omega (
          arith,
          ap (λ (s : Script). s.task) (get_or-eq_default scripts (record {
            task = 0;
            sections =
                [];
          }) {n = i} (omega arith)),
        ))
      ]
