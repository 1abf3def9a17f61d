-- What 11 asks, part by part, and the whole from the parts.
use mathlib.Core.Path.{◌≡◌, refl, sym, ap, ◌∙◌}
use native.Mathlib.Decide.{dec_lt}
use Rattle.std.specs.Prelude.{Result, Ok, Err, MatchResult}
use mathlib.Core.Bool.{Bool, true, false}
use mathlib.Core.List.{List}
use mathlib.Core.Logic.{⊎_elim}
use Prim.Native.Nat.{ℕ, ◌*◌, ◌/◌, ◌<◌}
use native.Mathlib.Omega.{arith}
use lib.Dec.{leb, eqb}
use lib.ListN.{length}
use borrow.Author.Tests.{lt-leb, le-leb}
use Rattle.laws.specs.Choose.{choose}
use Rattle.laws.specs.All.{all}
use Rattle.laws.proofs.Choose.{and_both, both_and, tested, never, if_yes, if_no}
use Rattle.laws.proofs.All.{all_at, all_of}
use Rattle.rules.specs.declared.refusal.Refusal.{Refusal}
use Rattle.rules.specs.Status.{status_of, status}
use Rattle.rules.proofs.Refused.{refused}
use Rattle.rules.specs.Machine.{Tables}
use Rattle.rules.specs.Agreement.{Agrees}
use Rattle.rules.proofs.Invariants.Agreeing.{agrees_true}
use Rattle.sections.specs.Scripts.{Section, script_at, section_at}
use Rattle.sections.specs.Run.{Event}
use Rattle.sections.specs.Refusals.{Input, each_script, each_section, each_event, is_event, is_guard, is_ready, is_allowed, limits_fit, steps_fit, one_script_each, refusal}
use Rattle.encoding.specs.Rows.{scripts_of, rows_fit}
use Rattle.refusals.specs.Tests.{is_short, are_steps, section_fits}
use Rattle.refusals.specs.Defined.{input_of, lengths_fit, is_defined, is_permitted}

module _ (w : Input) (p : Section → Bool) where
  pub section_at_lem : each_section w p ≡ true → (i : ℕ) → i < length w.scripts → (k : ℕ) → k < length (script_at w.scripts i).sections
      → p (section_at (script_at w.scripts i) k) ≡ true
  section_at_lem e i h k l =
      all_at (length (script_at w.scripts i).sections) (λ k. p (section_at (script_at w.scripts i) k))
      (all_at (length w.scripts) (λ i. all (length (script_at w.scripts i).sections) (λ k. p (section_at (script_at w.scripts i) k))) e i h) k l

  pub sections_of : ((i : ℕ) → i < length w.scripts → (k : ℕ) → k < length (script_at w.scripts i).sections
      → p (section_at (script_at w.scripts i) k) ≡ true)
      → each_section w p ≡ true
  sections_of f =
      all_of (length w.scripts) (λ i. all (length (script_at w.scripts i).sections) (λ k. p (section_at (script_at w.scripts i) k)))
      (λ i h. all_of (length (script_at w.scripts i).sections) (λ k. p (section_at (script_at w.scripts i) k)) (λ k l. f i h k l))

module _ (t : Tables) (ns ids cells locals : List ℕ) (events : List Event) where
  abbrev w : Input
  w = input_of ns ids cells locals

  pub record Parts : Type 0 where
    pub short : each_script w is_short ≡ true
    pub sections : each_section w (section_fits t ids) ≡ true
    pub few : leb (length cells) 64 ≡ true
    pub paired : eqb (length ids) (length cells) ≡ true
    pub room : eqb (length locals) 256 ≡ true
    pub one : one_script_each w ≡ true
    pub events' : each_event events is_event ≡ true

  pub parts : is_defined t w events ≡ true → Parts
  unfolding is_defined limits_fit steps_fit section_fits
  parts e =
      let a = and_both (limits_fit w) _ e in
      let b = and_both (steps_fit w) _ a.1 in
      let c = and_both (one_script_each w) _ b.1 in
      let d = and_both (each_event events is_event) _ c.1 in
      let l = and_both (each_script w is_short) _ a.0 in
      let m = and_both (each_section w (λ s. leb (length s.steps) 16)) _ l.1 in
      let n = and_both (leb (length cells) 64) _ m.1 in
      let o = and_both (eqb (length ids) (length cells)) _ n.1 in
      record {
        short = l.0;
        sections =
            sections_of w (section_fits t ids)
            (λ i h k j.
            both_and (both_and (section_at_lem w (λ s. leb (length s.steps) 16) m.0 i h k j) (section_at_lem w (are_steps ids) b.0 i h k j))
            (section_at_lem w (λ s. is_guard t s.id) d.1 i h k j));
        few = n.0;
        paired = o.0;
        room = o.1;
        one = c.0;
        events' = d.0;
      }

  pub whole : Parts → is_defined t w events ≡ true
  unfolding is_defined limits_fit steps_fit section_fits
  whole p =
      let at = section_at_lem w (section_fits t ids) p.sections in
      both_and
      (both_and p.short
      (both_and (sections_of w (λ s. leb (length s.steps) 16) (λ i h k j. (and_both _ _ (and_both _ _ (at i h k j)).0).0))
      (both_and p.few (both_and p.paired p.room))))
      (both_and (sections_of w (are_steps ids) (λ i h k j. (and_both _ _ (and_both _ _ (at i h k j)).0).1))
      (both_and p.one (both_and p.events' (sections_of w (λ s. is_guard t s.id) (λ i h k j. (and_both _ _ (at i h k j)).1)))))

  -- a part that fails
  pub undefined : (x : Bool) → (Parts → x ≡ true) → x ≡ false → false ≡ is_defined t w events
  undefined x f z =
      ⊎_elim (λ (e : is_defined t w events ≡ true). never (f (parts e)) z) (λ (e : is_defined t w events ≡ false). sym e) (tested (is_defined t w events))

  -- the last part decides
  pub defined_last : (x : Bool) → x ≡ each_event events is_event → (each_event events is_event ≡ true → Parts) → x ≡ is_defined t w events
  defined_last x e f =
      ⊎_elim (λ (z : x ≡ true). z ∙ sym (whole (f (sym e ∙ z)))) (λ (z : x ≡ false). z ∙ undefined x (λ p. e ∙ p.events') z) (tested x)

-- ---- the rule for lengths, and the refusal on agreeing tables

module _ (ns es ps : List ℕ) where
  pub lengths_rows : rows_fit ns ≡ false → false ≡ lengths_fit ns es ps
  unfolding lengths_fit
  lengths_rows f = sym (if_no _ false f)

  module _ (f : rows_fit ns ≡ true) (n : ℕ) (e : n ≡ length (scripts_of ns)) where
    room : leb n (length ps / 2) ≡ leb (2 * length (scripts_of ns)) (length ps)
    room =
        elim (dec_lt (length ps / 2) n) [
          | yes h ↦ lt-leb n (length ps / 2) h ∙ sym (lt-leb (2 * length (scripts_of ns)) (length ps) (omega arith))
          | no h ↦ le-leb n (length ps / 2) (omega arith) ∙ sym (le-leb (2 * length (scripts_of ns)) (length ps) (omega arith))
        ]

    pub lengths_room : leb n (length ps / 2) ≡ false → false ≡ lengths_fit ns es ps
    unfolding lengths_fit
    lengths_room h = sym (if_yes _ false f ∙ if_no _ false (sym room ∙ h))

    pub lengths_last : leb n (length ps / 2) ≡ true → leb (length es) 4294967295 ≡ lengths_fit ns es ps
    unfolding lengths_fit
    lengths_last h = sym (if_yes _ false f ∙ if_yes _ false (sym room ∙ h))

-- what 4 asks, part by part
module _ (t : Tables) (w : Input) (events : List Event) where
  pub unready : each_script w (λ s. is_ready t s.task) ≡ false → false ≡ is_permitted t w events
  unfolding is_permitted
  unready f = sym (if_no _ false f)

  pub permitted_last : each_script w (λ s. is_ready t s.task) ≡ true → each_event events (is_allowed w) ≡ is_permitted t w events
  unfolding is_permitted
  permitted_last r = sym (if_yes _ false r)

-- ---- what a demand refuses

pub demanded : (r : Result (Unit {0}) Refusal) (holds : Bool) (refusal : Refusal) → MatchResult r (λ x. holds ≡ true) (λ e. (holds ≡ false) × (e ≡ refusal))
    → status r ≡ choose holds 0 (status_of refusal)
demanded (Ok x) holds refusal h = sym (if_yes 0 (status_of refusal) h)
demanded (Err e) holds refusal h = ap status_of h.1 ∙ sym (if_no 0 (status_of refusal) h.0)

-- a part that fails
pub fallen : (n : ℕ) (b : Bool) → false ≡ b → n ≡ choose b 0 n
fallen n b e = sym (if_no 0 n (sym e))

module _ (t : Tables) (a : Agrees t) (w : Input) (events : List Event) where
  pub agreeing : refusal t w events ≡ choose (is_defined t w events) (choose (is_permitted t w events) 0 4) 11
  unfolding refusal is_defined is_permitted
  agreeing = if_yes _ 25 (agrees_true t a)

-- of two checks, one after the other, the first refuses, or it passes
module _ (n : ℕ) (b : Bool) (later : ℕ) where
  pub stopped : (e : Refusal) → status_of e ≡ choose b 0 n → status_of e ≡ choose b later n
  unfolding choose
  stopped e h = go b h
    where
      go : (b : Bool) → status_of e ≡ choose b 0 n → status_of e ≡ choose b later n
      go true h = absurd (omega (arith, refused e))
      go false h = h

  pub passed : (n ≡ 0 → ⊥) → 0 ≡ choose b 0 n → later ≡ choose b later n
  unfolding choose
  passed z h = go b h
    where
      go : (b : Bool) → 0 ≡ choose b 0 n → later ≡ choose b later n
      go true h = refl
      go false h = absurd (z (sym h))
