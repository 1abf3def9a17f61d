-- Tests of rows, scripts, sections and events.
use Rattle.std.proofs.Common.{◌≡◌, ℕ, zero, suc, ◌%◌, ◌<◌, ◌≤◌, Bool, true, false, not, eqb, leb, List, [], ◌∷◌, length, get_or, Some, None, sym, refl, ap, ◌∙◌, arith, le-leb}
use native.Mathlib.Decide.{dec_lt}
use borrow.Author.Tests.{lt-leb}
use Rattle.std.proofs.lemmas.Option.{slice_get_past}
use Rattle.std.specs.Prelude.{Option, option_map, is_some, is_none, slice_get}
use Rattle.std.specs.List.{enumerate_from, list_all}
use Rattle.std.proofs.lemmas.List.FromFn.{length-enumerate_from, get_or-enumerate_from}
use Rattle.laws.specs.Choose.{◌and◌}
use Rattle.laws.specs.All.{all}
use Rattle.laws.proofs.Choose.{if_eq, if_ne, if_yes, if_no, if_lt, choose_cases}
use Rattle.sections.specs.Scripts.{Script, script_at, index_of}
use Rattle.sections.specs.Refusals.{is_event}
use Rattle.encoding.specs.declared.rows.Row.{Row}
use Rattle.encoding.specs.declared.events.Event.{Event as EventRead}
use Rattle.encoding.specs.declared.events.Event.TheVariants.{Turn as TurnRead, Call as CallRead}
use Rattle.encoding.specs.Rows.{rows_of, follows, all_follow, rows_fit}
use Rattle.encoding.specs.Kinds.{event_from}
use Rattle.encoding.proofs.Every.{list_every}
use Rattle.refusals.specs.Tests.{is_first}

-- ---- rows

module _ (ns : List ℕ) where
  pub rows_cut : (length ns % 4 ≡ 0 → ⊥) → false ≡ rows_fit ns
  unfolding rows_fit
  rows_cut n = sym (if_ne (length ns % 4) 0 _ false n)

  pub rows_whole : length ns % 4 ≡ 0 → (b : Bool) → b ≡ all_follow None (rows_of ns) → b ≡ rows_fit ns
  unfolding rows_fit
  rows_whole z b e = e ∙ sym (if_eq (length ns % 4) 0 _ false z)

pub ends : (last : Option Row) (rs : List Row) → rs ≡ [] → true ≡ all_follow last rs
unfolding all_follow
ends last rs e = sym (ap (all_follow last) e)

module _ (last : Option Row) (rs : List Row) (r : Row) (later : List Row) (e : rs ≡ r ∷ later) where
  pub fails : follows last r ≡ false → false ≡ all_follow last rs
  unfolding all_follow
  fails f = sym (ap (all_follow last) e ∙ if_no _ false f)

  pub goes_on : follows last r ≡ true → all_follow (Some r) later ≡ all_follow last rs
  unfolding all_follow
  goes_on t = sym (ap (all_follow last) e ∙ if_yes _ false t)

-- ---- one script for a task

few : (scripts : List Script) (i : ℕ) → i < length scripts → index_of (script_at scripts i).task scripts ≤ i
unfolding index_of
few [] i h = absurd (omega arith)
few (s ∷ ss) zero h = omega (arith, if_eq s.task s.task 0 (suc (index_of s.task ss)) refl)
few (s ∷ ss) (suc i) h =
    choose_cases (λ (n : ℕ). n ≤ suc i) (eqb s.task (script_at ss i).task) 0 (suc (index_of (script_at ss i).task ss)) (λ e. omega arith)
    (λ e. omega (arith, few ss i (omega arith)))

all_same : (n : ℕ) (p q : ℕ → Bool) → ((k : ℕ) → k < n → p k ≡ q k) → all n p ≡ all n q
unfolding all
all_same zero p q h = refl
all_same (suc n) p q h = λ i. all_same n p q (λ k l. h k (omega arith)) i and h n (omega arith) i

abbrev numbered_test : List Script → ℕ × Script → Bool
numbered_test scripts p = is_first scripts p.0 p.1.task

pub ones : (scripts : List Script) → list_all (numbered_test scripts) (enumerate_from 0 scripts) ≡ all (length scripts) (λ i. eqb (index_of (script_at scripts i).task scripts) i)
ones scripts =
    list_every (numbered_test scripts) none (enumerate_from 0 scripts)
    ∙ ap (λ (n : ℕ). all n (λ k. numbered_test scripts (get_or (enumerate_from 0 scripts) k none))) (length-enumerate_from 0 scripts)
    ∙ all_same (length scripts) _ _
    (λ k h. ap (numbered_test scripts) (get_or-enumerate_from 0 scripts k none h)
    ∙ if_lt (index_of (script_at scripts k).task scripts) (length scripts) _ false (omega (arith, few scripts k h))
    ∙ ap (eqb (index_of (script_at scripts k).task scripts)) (omega arith))
  where
    none : ℕ × Script
    none = (0, record { task = 0; sections = [] })

-- ---- limits

within : {A : Type 0} (xs : List A) (n : ℕ) → n < length xs → is_none (slice_get xs n) ≡ false
within [] n h = absurd (omega arith)
within (x ∷ xs) zero h = refl
within (x ∷ xs) (suc n) h = within xs n (omega arith)

past : {A : Type 0} (xs : List A) (n : ℕ) → is_none (slice_get xs n) ≡ leb (length xs) n
past xs n =
    elim (dec_lt n (length xs)) [
      | yes h ↦ within xs n h ∙ sym (lt-leb (length xs) n h)
      | no h ↦ ap is_none (slice_get_past xs n (omega arith)) ∙ sym (le-leb (length xs) n (omega arith))
    ]

mapped : {A B : Type 0} (f : A → B) (r : Option A) → is_none r ≡ is_none (option_map f r)
mapped f (Some x) = refl
mapped f None = refl

-- no element at n is at most n of them
pub no_more : {A B : Type 0} (f : A → B) (r : Option A) (xs : List B) (n : ℕ) → option_map f r ≡ slice_get xs n → (b : Bool) → is_some r ≡ not b → b ≡ leb (length xs) n
no_more f r xs n e b h = twice b ∙ ap not (sym h) ∙ mapped f r ∙ ap is_none e ∙ past xs n
  where
    twice : (b : Bool) → b ≡ not (not b)
    twice true = refl
    twice false = refl

-- ---- what is an event

pub some_event : (x : Option EventRead) → is_some x ≡ is_event (event_from x)
some_event (Some (TurnRead task)) = refl
some_event (Some (CallRead call priorities)) = refl
some_event None = refl
