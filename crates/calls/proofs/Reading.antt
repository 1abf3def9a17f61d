-- What ident answers, and a task's answer.
use mathlib.Core.Path.{◌≡◌, refl, sym, ap, ◌∙◌}
use mathlib.Core.Bool.{true, false}
use mathlib.Core.List.{List}
use mathlib.Core.Logic.{◌⊎◌, ⊎_elim}
use Prim.Native.Nat.{ℕ, pred, ◌+◌, ◌-◌, ◌*◌, ◌≤◌, ◌<◌}
use native.Mathlib.Numerals.{sub-one}
use native.Mathlib.Omega.{arith}
use Rattle.std.specs.Prelude.{Ok, Err}
use lib.Dec.{eqb}
use lib.ListN.{length, get_or}
use borrow.Author.Tests.{eq-eqb, ne_eqb}
use Rattle.laws.specs.Choose.{◌or◌}
use Rattle.laws.proofs.Choose.{if_yes, if_no, or_first, or_second, choose_cases}
use Rattle.words.specs.Words.{word_at}
use Rattle.rules.specs.declared.Answer.{Answer}
use Rattle.rules.specs.declared.Task.{Task}
use Rattle.rules.specs.declared.refusal.Refusal.TheVariants.{InvalidName}
use Rattle.rules.specs.Numbers.{within}
use Rattle.rules.specs.Machine.{Tables, no_task, task_of, slot_of}
use Rattle.rules.specs.Agreement.{Agrees}
use Rattle.rules.specs.Calls.{Outcome, answered, first_named, ident, looked}
use Rattle.rules.proofs.Looking.{looked_is, looked_nameless}
use Rattle.rules.proofs.Invariants.FromTests.{agrees_facts}
use Rattle.tables.specs.Layout.{model_of, task_at}
use Rattle.lookup.specs.declared.looks.Look.{Look}
use Rattle.lookup.specs.Search.{last_look, is_match, search_length}
use Rattle.lookup.proofs.Model.{length_tasks, task_read}
use Rattle.lookup.proofs.LastLook.{Hit, counted, hit, missed, sized_reaches}
use Rattle.calls.specs.Task.{task_answer}
use Rattle.calls.specs.declared.Done.TheVariants.{Value}
use Rattle.calls.specs.Agreeing.{Agreeing}
use Rattle.calls.specs.Reply.{Does}
use Rattle.calls.proofs.Agreeing.{sized}
use Rattle.calls.proofs.Checks.{within_low, within_high, within_both}
use Rattle.calls.proofs.Doing.{unless_refused_lem, unless_done, has_done, refuses}

-- every generation has its 16 bits
pub generation_few : (t : Tables) → Agrees t → (n : ℕ) → (slot_of t n).generation ≤ 65535
generation_few t a n = ((agrees_facts t a).slots (pred n)).generation

module _ {bs : List ℕ} (g : Agreeing bs) (name : ℕ) where
  pub ident_nameless : name ≡ 0 → Does bs bs (Err InvalidName) (λ t. ident t name)
  unfolding ident
  ident_nameless z = refuses g InvalidName (unless_refused_lem (model_of bs) _ InvalidName (if_yes 3 0 (or_first _ _ (eq-eqb name 0 z))))

  ident_unknown : first_named name (model_of bs).slots 1 ≡ 0 → Does bs bs (Err InvalidName) (λ t. ident t name)
  unfolding ident
  ident_unknown z = refuses g InvalidName (unless_refused_lem (model_of bs) _ InvalidName (if_yes 3 0 (or_second (eqb name 0) _ (eq-eqb _ 0 z))))

  ident_known : (name ≡ 0 → ⊥) → (n : ℕ) → n ≡ first_named name (model_of bs).slots 1 → (n ≡ 0 → ⊥) → (g : ℕ) → g ≡ (slot_of (model_of bs) n).generation
      → Does bs bs (Ok (Value (g * 65536 + n))) (λ t. ident t name)
  unfolding ident
  ident_known some n asked found h read =
      let t : Tables = model_of bs in
      let none : (eqb name 0 or eqb (first_named name t.slots 1) 0) ≡ false =
      if_no true (eqb (first_named name t.slots 1) 0) (ne_eqb name 0 some) ∙ ne_eqb _ 0 (λ z. found (asked ∙ z))
      in
      has_done _ t
      (unless_done t _ (if_no 3 0 none)
      ∙ ap {B = Outcome} (λ (k : ℕ). answered 0 ((slot_of t k).generation * 65536 + k) t) (sym asked)
      ∙ ap {B = Outcome} (λ (h : ℕ). answered 0 (h * 65536 + n) t) (sym read))
      g.same

  module _ (some : name ≡ 0 → ⊥) (last : Look) (is : last ≡ last_look bs (search_length (model_of bs) name)) where
    -- all looks are counted
    pub ident_looked : last.count ≡ looked (model_of bs) name
    ident_looked = counted bs name last is ∙ sym (looked_is (model_of bs) name some)

    pub ident_missed : is_match last name ≡ false → Does bs bs (Err InvalidName) (λ t. ident t name)
    ident_missed no_match = ident_unknown (missed bs name last is no_match)

    -- the slot looked at last is the match
    module _ (match : is_match last name ≡ true) where
      here : Hit bs name last
      here = hit bs name last is match

      pub ident_few : (last.generation ≤ 65535) × (last.count ≤ 64)
      ident_few = (omega (arith, here.generation, generation_few (model_of bs) g.agrees last.count), omega (arith, here.within, (sized g).slots))

      pub ident_found : (n : ℕ) → n ≡ last.count → Does bs bs (Ok (Value (last.generation * 65536 + n))) (λ t. ident t name)
      ident_found n same =
          ident_known some n (same ∙ here.number) (λ z. here.some (sym same ∙ z)) last.generation
          (here.generation ∙ ap (λ (k : ℕ). (slot_of (model_of bs) k).generation) (sym same))

-- ident's answer has the next task of the tables, which it leaves
pub ident_answer : (t : Tables) (name : ℕ) → (ident t name).answer ≡ (answered (ident t name).answer.status (ident t name).answer.value t).answer
unfolding ident
ident_answer t name = choose_cases (λ (o : Outcome). o.answer ≡ (answered o.answer.status o.answer.value t).answer) _ _ _ (λ e. refl) (λ e. refl)

-- a task's answer, by its number
module _ (bs : List ℕ) (q : ℕ) where
  pub task_outside : (q < 1) ⊎ (word_at bs 0 < q) → (answered 4 0 (model_of bs)).answer ≡ task_answer (model_of bs) q
  unfolding task_answer
  task_outside h = sym (ap {B = Answer} (λ (o : Outcome). o.answer) (if_no _ _ (outside h)))
    where
      outside : (q < 1) ⊎ (word_at bs 0 < q) → within 1 (length (model_of bs).tasks) q ≡ false
      outside =
          ⊎_elim (within_low 1 (length (model_of bs).tasks) q)
          (λ (h : word_at bs 0 < q). within_high 1 (length (model_of bs).tasks) q (omega (arith, length_tasks bs)))

  pub task_within : 1 ≤ q → q ≤ word_at bs 0 → (v : Task) → v ≡ task_at bs (q - 1) → (answered 0 v.answer (model_of bs)).answer ≡ task_answer (model_of bs) q
  unfolding task_answer
  task_within low high v loaded =
      let same : v ≡ task_of (model_of bs) q =
      loaded ∙ sym (task_read bs (q - 1) (omega arith)) ∙ ap {B = Task} (λ (k : ℕ). get_or (model_of bs).tasks k no_task) (sub-one q)
      in
      ap {B = Answer} (λ (v : Task). (answered 0 v.answer (model_of bs)).answer) same
      ∙ sym (ap {B = Answer} (λ (o : Outcome). o.answer) (if_yes _ _ (within_both 1 _ q low (omega (arith, length_tasks bs)))))

pub ruleset naming = (ident_nameless, looked_nameless, ident_looked, ident_missed, ident_few, ident_found, sized_reaches)

pub ruleset telling = (task_outside, task_within)
