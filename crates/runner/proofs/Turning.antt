-- What a turn does, by the rows of its script.
use Rattle.std.proofs.Common.{◌≡◌, ℕ, suc, pred, ◌<◌, ◌≤◌, true, false, List, length, get_or, Some, None, sym, ap, ◌∙◌, ap₂, arith, le-leb}
use native.Mathlib.Decide.{dec_lt}
use borrow.Author.Tests.{lt-leb}
use Rattle.std.specs.Prelude.{Option, option_map, slice_get}
use Rattle.std.proofs.lemmas.Option.{slice_get_within, slice_get-get_or, get_or_from_slice_get}
use Rattle.laws.proofs.Choose.{if_yes, if_no, if_eq, if_ne, if_le, if_not_le, or_first, or_second}
use Rattle.rules.specs.declared.Call.TheVariants.{Obtain, Release}
use Rattle.rules.specs.declared.Wait.{Wait}
use Rattle.rules.specs.Machine.{Tables, task_of, waits}
use Rattle.rules.specs.Semaphore.{wait_of}
use Rattle.sections.specs.Scripts.{Step, Section}
use Rattle.sections.specs.Scripts.Step.{NoStep}
use Rattle.sections.specs.Run.{Place, at, Act}
use Rattle.sections.specs.Run.Act.{Nothing, Calls, Steps}
use Rattle.encoding.specs.declared.rows.Step.{Step as RowStep}
use Rattle.encoding.specs.declared.scripts.Section.{Section as SectionFound}
use Rattle.encoding.specs.Rows.{step_of, no_section}
use Rattle.encoding.specs.Left.{section_from}
use Rattle.runner.specs.Turns.{doing_in, doing_at, Countable}

-- ---- the three things that a turn in a section does

module _ (q : ℕ) (s : Section) (section position : ℕ) where
  pub in_obtain : position ≡ 0 → (wait : Wait) → wait ≡ wait_of s.options s.timeout
      → Calls (Obtain q s.id wait) (at section position) ≡ doing_in q s (at section position)
  unfolding doing_in
  in_obtain z wait w = ap (λ (x : Wait). Calls (Obtain q s.id x) (at section position)) w ∙ sym (if_eq position 0 _ _ z)

  module _ (n : position ≡ 0 → ⊥) where
    pub in_release : length s.steps < position → (next : ℕ) → next ≡ suc section → Calls (Release q s.id) (at next 0) ≡ doing_in q s (at section position)
    unfolding doing_in
    in_release h next e =
        ap (λ (k : ℕ). Calls (Release q s.id) (at k 0)) e ∙ sym (if_ne position 0 _ _ n ∙ if_not_le position (length s.steps) _ _ h)

    pub in_step : position ≤ length s.steps → (step : Step) → step ≡ get_or s.steps (pred position) NoStep → (next : ℕ) → next ≡ suc position
        → Steps step (at section next) ≡ doing_in q s (at section position)
    unfolding doing_in
    in_step h step d next e =
        ap₂ (λ (x : Step) (k : ℕ). Steps x (at section k)) d e ∙ sym (if_ne position 0 _ _ n ∙ if_le position (length s.steps) _ _ h)

-- ---- in which section, if any

module _ (t : Tables) (q : ℕ) (sections : List Section) (p : Place) where
  pub doing_waits : waits (task_of t q) ≡ true → Nothing ≡ doing_at t q sections p
  unfolding doing_at
  doing_waits w = sym (if_yes _ _ (or_first _ _ w))

  pub doing_done : length sections ≤ p.section → Nothing ≡ doing_at t q sections p
  unfolding doing_at
  doing_done h = sym (if_yes _ _ (or_second _ _ (le-leb (length sections) p.section h)))

  pub doing_in_lem : waits (task_of t q) ≡ false → p.section < length sections → (s : Section) → get_or sections p.section no_section ≡ s → (a : Act)
      → a ≡ doing_in q s p → a ≡ doing_at t q sections p
  unfolding doing_at
  doing_in_lem w h s e a d =
      d ∙ ap (λ (x : Section). doing_in q x p) (sym e) ∙ sym (if_no _ _ (if_no _ _ w ∙ lt-leb (length sections) p.section h))

-- the section found, and that 32 bits count it
pub record Inside (sections : List Section) (k : ℕ) (s : Section) : Type 0 where
  pub within : k < length sections
  pub low : k < 4294967295
  pub short : length s.steps < 4294967295
  pub is : get_or sections k no_section ≡ s

module _ (sections : List Section) (k : ℕ) (r : Option SectionFound) (found : option_map section_from r ≡ slice_get sections k) where
  pub inside : (s : SectionFound) → r ≡ Some s → Countable sections → Inside sections k (section_from s)
  inside s e c =
      let here : slice_get sections k ≡ Some (section_from s) = sym found ∙ ap (option_map section_from) e in
      let within = slice_get_within sections k (section_from s) here in
      let is = get_or_from_slice_get sections k (section_from s) no_section here in
      record {
        within = within;
        low = omega (arith, within, c.few);
        short = omega (arith, c.short k within, ap (λ (x : Section). length x.steps) is);
        is = is;
      }

  pub outside : r ≡ None → length sections ≤ k
  outside e =
      elim (dec_lt k (length sections)) [
        | yes h ↦
            let here : ◌≡◌ {A = Option Section} None (Some (get_or sections k no_section)) =
            sym (ap (option_map section_from) e) ∙ found ∙ slice_get-get_or sections k no_section h
            in cc
        | no n ↦ omega arith
      ]

-- ---- a step of a section

module _ (steps : List Step) (k : ℕ) (r : Option (Option RowStep)) (found : option_map step_of r ≡ slice_get steps k) where
  pub step_there : (s : Option RowStep) → r ≡ Some s → (k < length steps) × (step_of s ≡ get_or steps k NoStep)
  step_there s e =
      let here : slice_get steps k ≡ Some (step_of s) = sym found ∙ ap (option_map step_of) e in
      (slice_get_within steps k (step_of s) here, sym (get_or_from_slice_get steps k (step_of s) NoStep here))

  pub no_step : r ≡ None → length steps ≤ k
  no_step e =
      elim (dec_lt k (length steps)) [
        | yes h ↦
            let here : ◌≡◌ {A = Option Step} None (Some (get_or steps k NoStep)) = sym (ap (option_map step_of) e) ∙ found ∙ slice_get-get_or steps k NoStep h in cc
        | no n ↦ omega arith
      ]
