-- The plain run by the rows of scripts: the steps of a granted section one after another, and the tasks of the scripts.
use mathlib.Core.Path.{◌≡◌, refl, sym, subst, ap, ◌∙◌}
use mathlib.Core.Bool.{true}
use mathlib.Core.List.{List, [], ◌∷◌, ◌++◌, map, append_assoc, append-nil}
use Prim.Native.Nat.{ℕ, zero, suc, ◌+◌, ◌*◌, ◌/◌, ◌≤◌, ◌<◌}
use native.Mathlib.Numerals.{add-one}
use native.Mathlib.Omega.{arith}
use lib.ListN.{length, get_or, take, drop, set, drop_of_length-le, get_or-eq_default}
use lib.Seq.{drop-cons, take-suc-set}
use Rattle.std.specs.Prelude.{Option, Some, None, option_map, slice_get}
use Rattle.std.proofs.lemmas.Option.{slice_get_within, get_or_from_slice_get}
use Rattle.sections.specs.Scripts.{Step, Section, Script, Memory, Grant, script_at, section_at, index_of, do_step, do_steps, steps_of, plain}
use Rattle.sections.proofs.Indices.{index_task}
use Rattle.encoding.specs.declared.scripts.Section.{Section as SectionFound}
use Rattle.encoding.specs.declared.scripts.Script.{Script as ScriptFound}
use Rattle.encoding.specs.Rows.{no_section, scripts_of}
use Rattle.encoding.specs.Left.{steps_left, section_from, script_from, ScriptOf}
use Rattle.encoding.specs.Laid.{reaches}
use Rattle.runner.specs.Turns.{Stepped}
use Rattle.runner.proofs.Turning.{outside}
use Rattle.plain.specs.Grants.{granted, grants_of, task_in, Tasked, Reach}

-- ---- steps and grants, one more

module _ (q : ℕ) (steps : List Step) (m : Memory) where
  pub one_step : (s : Step) (later : List Step) → steps ≡ s ∷ later → (m' : Memory) → m' ≡ do_step q s m → do_steps q later m' ≡ do_steps q steps m
  unfolding do_steps
  one_step s later next m' e = rw e (sym (ap (λ (ss : List Step). do_steps q ss m) next))

  pub no_steps : steps ≡ [] → do_steps q steps m ≡ m
  unfolding do_steps
  no_steps e = ap (λ (ss : List Step). do_steps q ss m) e

-- the first step goes by what is there, and so do those behind it
module _ (n : ℕ) (s : Step) (later steps : List Step) (next : steps ≡ s ∷ later) (h : Reach n steps) where
  pub first_reach : reaches n s ≡ true
  first_reach = subst (Reach n) next h 0 (omega arith)

  pub later_reach : Reach n later
  later_reach j l = subst (Reach n) next h (suc j) (omega arith)

pub no_section_lem : (q : ℕ) (steps : List Step) (m : Memory) → steps ≡ [] → m ≡ do_steps q steps m
unfolding do_steps
no_section_lem q steps m e = sym (ap (λ (ss : List Step). do_steps q ss m) e)

pub grants_many : (ns : List ℕ) → length (grants_of ns) ≡ length ns / 2
unfolding grants_of
grants_many [] = refl
grants_many (q ∷ []) = refl
grants_many (q ∷ k ∷ ns) = omega (arith, grants_many ns)

pub grant_at : (ns : List ℕ) (i : ℕ) → i < length ns / 2 → get_or (grants_of ns) i (granted 0 0) ≡ granted (get_or ns (2 * i) 0) (get_or ns (2 * i + 1) 0)
unfolding grants_of
grant_at [] i h = absurd (omega arith)
grant_at (q ∷ []) i h = absurd (omega arith)
grant_at (q ∷ k ∷ ns) zero h = refl
grant_at (q ∷ k ∷ ns) (suc i) h =
    let even : 2 * suc i ≡ suc (suc (2 * i)) = omega arith in
    let odd : 2 * suc i + 1 ≡ suc (suc (2 * i + 1)) = omega arith in
    rw (odd, even) (grant_at ns i (omega arith))

module _ (scripts : List Script) (ns : List ℕ) (i : ℕ) (m : Memory) where
  pub one_grant : i < length ns / 2 → (m' : Memory)
      → m' ≡ do_steps (get_or ns (2 * i) 0) (steps_of scripts (granted (get_or ns (2 * i) 0) (get_or ns (2 * i + 1) 0))) m
      → plain scripts (drop (i + 1) (grants_of ns)) m' ≡ plain scripts (drop i (grants_of ns)) m
  unfolding plain
  one_grant h m' e =
      rw (add-one, e)
      (sym
      (ap (λ (gs : List Grant). plain scripts gs m)
      (drop-cons (grants_of ns) i (granted 0 0) (omega (arith, grants_many ns)) ∙ ap (λ (g : Grant). g ∷ drop (suc i) (grants_of ns)) (grant_at ns i h))))

  pub no_grants : length ns / 2 ≤ i → plain scripts (drop i (grants_of ns)) m ≡ m
  unfolding plain
  no_grants h = ap (λ (gs : List Grant). plain scripts gs m) (drop_of_length-le (grants_of ns) {i = i} (omega (arith, grants_many ns)))

-- ---- a granted section's steps

module _ (ns : List ℕ) (q k : ℕ) where
  abbrev scripts : List Script
  scripts = scripts_of ns

  abbrev steps : List Step
  steps = steps_of scripts (granted q k)

  pub no_script_lem : ScriptOf scripts q None → steps ≡ []
  no_script_lem F =
      ap (λ (s : Script). (section_at s k).steps)
      (get_or-eq_default scripts (record { task = 0; sections = [] }) {n = index_of q scripts} (omega (arith, F)))

  module _ (i : ℕ) (found : ScriptFound) (F : ScriptOf scripts q (Some (i, found))) where
    has : index_of q scripts < length scripts
    has = omega (arith, F.0, F.1)

    sections_are : (script_at scripts (index_of q scripts)).sections ≡ (script_from found).sections
    sections_are = ap (λ (j : ℕ). (script_at scripts j).sections) (sym F.0) ∙ ap (λ (s : Script). s.sections) F.2

    pub task_fits : Tasked ns → (1 ≤ q) × (q ≤ 32)
    task_fits t =
        let own = t (index_of q scripts) has in
        let e = index_task q scripts has in
        (omega (arith, own.0, e), omega (arith, own.1, e))

    module _ (r : Option SectionFound) (S : option_map section_from r ≡ slice_get (script_from found).sections k) where
      pub section_ends : r ≡ None → steps ≡ []
      section_ends e =
          ap (λ (s : Section). s.steps)
          (get_or-eq_default (script_at scripts (index_of q scripts)).sections no_section {n = k}
          (omega (arith, ap length sections_are, outside (script_from found).sections k r S e)))

      module _ (s : SectionFound) (e : r ≡ Some s) where
        here : slice_get (script_from found).sections k ≡ Some (section_from s)
        here = sym S ∙ ap (option_map section_from) e

        pub steps_are : steps_left s.steps ≡ steps
        steps_are =
            sym
            (ap (λ (x : List Section). (get_or x k no_section).steps) sections_are
            ∙ ap (λ (x : Section). x.steps) (get_or_from_slice_get (script_from found).sections k (section_from s) no_section here))

        pub steps_reach : (n : ℕ) → Stepped ns n → Reach n (steps_left s.steps)
        steps_reach n St =
            subst (Reach n) (sym steps_are)
            (λ x m. St.reach (index_of q scripts) k x has
            (omega (arith, ap length sections_are, slice_get_within (script_from found).sections k (section_from s) here)) m)

-- ---- the tasks of the scripts

-- the first i tasks are noted, and the scripts left are those behind them
pub record Noted (scripts left : List Script) (tasks : List ℕ) (i : ℕ) : Type 0 where
  pub all : map task_in scripts ≡ take i tasks ++ map task_in left
  pub count : i + length left ≡ length scripts

pub noted_none : (scripts : List Script) (tasks : List ℕ) → Noted scripts scripts tasks 0
noted_none scripts tasks = record { all = refl; count = omega arith }

module _ (scripts left : List Script) (tasks : List ℕ) (i : ℕ) (N : Noted scripts left tasks i) where
  pub noted_more : (s : Script) (later : List Script) → left ≡ s ∷ later → i < length tasks → Noted scripts later (set tasks i s.task) (i + 1)
  noted_more s later next h =
      record {
        all =
            N.all
            ∙ ap (λ (ss : List Script). take i tasks ++ map task_in ss) next
            ∙ sym (append_assoc (take i tasks) (s.task ∷ []) (map task_in later))
            ∙ ap (λ (x : List ℕ). x ++ map task_in later) (sym taken);
        count = omega (arith, N.count, ap length next);
      }
    where
      taken : take (i + 1) (set tasks i s.task) ≡ take i tasks ++ s.task ∷ []
      taken = rw add-one (take-suc-set tasks i s.task h)

  pub noted_all : left ≡ [] → (n : ℕ) → n ≡ length scripts → take n tasks ≡ map task_in scripts
  noted_all none n e =
      ap (λ (k : ℕ). take k tasks) (omega (arith, N.count, ap length none, e))
      ∙ sym (N.all ∙ ap (λ (x : List Script). take i tasks ++ map task_in x) none ∙ append-nil (take i tasks))
