-- What a turn does to a whole state in lent bytes and numbers.
use Rattle.std.proofs.Common.{◌≡◌, Some, ℕ, pred, ◌+◌, ◌*◌, ◌<◌, ◌≤◌, true, eqb, leb, List, length, get_or, set, sym, refl, ap, ◌∙◌, subst, ap₂, arith, leb-false, leb-true}
use borrow.Author.Tests.{eqb-false}
use Rattle.std.specs.Prelude.{Option}
use Rattle.laws.specs.Choose.{◌or◌}
use Rattle.laws.proofs.Choose.{choose_cases}
use Rattle.rules.specs.declared.Call.{Call}
use Rattle.rules.specs.Machine.{Tables, task_of, waits}
use Rattle.rules.specs.Runs.{Request}
use Rattle.sections.specs.Scripts.{Step, Section, Script, Memory, script_at, index_of, do_step}
use Rattle.sections.specs.Scripts.Step.{NoStep}
use Rattle.sections.specs.Run.{Event, Place, at, State, place_at, moved, called, ask, Act, act_of, acted, event_of}
use Rattle.sections.specs.Run.Act.{Nothing, Calls, Steps}
use Rattle.sections.specs.Run.Event.{Turn, Other, NoEvent}
use Rattle.runner.specs.declared.turns.Act.{Act as Doing}
use Rattle.sections.proofs.Indices.{index_task}
use Rattle.sections.proofs.Events.{not_second}
use Rattle.encoding.specs.declared.scripts.Script.{Script as ScriptFound}
use Rattle.encoding.specs.Rows.{scripts_of, no_section}
use Rattle.encoding.specs.Left.{script_from, ScriptOf}
use Rattle.encoding.specs.Laid.{memory, reaches, laid_places}
use Rattle.runner.specs.State.{Holds}
use Rattle.runner.specs.Turns.{act_from, act_reaches, doing_in, doing_at, Countable, Stepped, Stands, RoomToAct}
use Rattle.encoding.proofs.Laid.{place_section, place_position}

-- ---- an act

module _ (ns places₀ grants₀ : List ℕ) (s : State) (m cells locals places grants : List ℕ) (S : Stands places₀ grants₀ s m cells locals places grants) (i : ℕ)
  where
    abbrev After : Act → (m' cells' locals' places' grants' : List ℕ) → Type 0
    After a m' cells' locals' places' grants' = Stands places₀ grants₀ (acted (scripts_of ns) s i a) m' cells' locals' places' grants'

    pub acted_nothing : After Nothing m cells locals places grants
    unfolding acted
    acted_nothing = S

    pub acted_call : (call : Call) (p : Place) (m' places' grants' : List ℕ)
        → Holds places₀ grants₀ (called (scripts_of ns) (moved s i p s.memory) (ask call)) m' places' grants' → After (Calls call p) m' cells locals places'
        grants'
    unfolding acted called
    acted_call call p m' places' grants' H = record { holds = H; same = S.same }

    pub acted_step : (q : ℕ) → (script_at (scripts_of ns) i).task ≡ q → (step : Step) (p : Place) (cells' locals' places' : List ℕ)
        → memory cells' locals' ≡ do_step q step (memory cells locals) → places' ≡ laid_places places₀ (set s.places i p)
        → After (Steps step p) m cells' locals' places' grants
    unfolding acted
    acted_step q e step p cells' locals' places' d l =
        record {
          holds = record { tables = S.holds.tables; reports = record { places = l; grants = S.holds.reports.grants } };
          same = ap₂ (λ (k : ℕ) (x : Memory). do_step k step x) e S.same ∙ sym d;
        }

    -- what is done for what an act is, is done for the act
    pub acted_as : {a is : Option Doing} → a ≡ is → {m' cells' locals' places' grants' : List ℕ}
        → After (act_from is) m' cells' locals' places' grants' → After (act_from a) m' cells' locals' places' grants'
    acted_as e {m'} {cells'} {locals'} {places'} {grants'} d = subst (λ (x : Option Doing). After (act_from x) m' cells' locals' places' grants') (sym e) d

-- ---- an event

module _ (scripts : List Script) (places₀ grants₀ : List ℕ) (s : State) where
  pub event_as : {e is : Event} → e ≡ is → {m cells locals places grants : List ℕ} → Stands places₀ grants₀ (event_of scripts s is) m cells locals places grants
      → Stands places₀ grants₀ (event_of scripts s e) m cells locals places grants
  event_as e {m} {cells} {locals} {places} {grants} d =
      subst (λ (x : Event). Stands places₀ grants₀ (event_of scripts s x) m cells locals places grants) (sym e) d

  pub event_none : {m cells locals places grants : List ℕ} → Stands places₀ grants₀ s m cells locals places grants
      → Stands places₀ grants₀ (event_of scripts s NoEvent) m cells locals places grants
  unfolding event_of
  event_none S = S

  pub event_called : {m cells locals places grants : List ℕ} → Stands places₀ grants₀ s m cells locals places grants → (r : Request) {m' places' grants' : List
      ℕ}
      → Holds places₀ grants₀ (called scripts s r) m' places' grants' → Stands places₀ grants₀ (event_of scripts s (Other r)) m' cells locals places' grants'
  unfolding event_of called
  event_called S r H = record { holds = H; same = S.same }

-- ---- a turn's script

module _ (ns : List ℕ) (q i : ℕ) (found : ScriptFound) (F : ScriptOf (scripts_of ns) q (Some (i, found))) where
  pub turn_task : (script_at (scripts_of ns) i).task ≡ q
  turn_task = ap (λ (k : ℕ). (script_at (scripts_of ns) k).task) F.0 ∙ index_task q (scripts_of ns) (omega (arith, F.0, F.1))

  abbrev sections : List Section
  sections = (script_from found).sections

  pub turn_sections : (script_at (scripts_of ns) i).sections ≡ sections
  turn_sections = ap (λ (x : Script). x.sections) F.2

  module _ (n : ℕ) (St : Stepped ns n) where
    pub turn_countable : Countable sections
    turn_countable = subst Countable turn_sections (St.count i F.1)

    step_reaches : (k j : ℕ) → k < length sections → j < length (get_or sections k no_section).steps → reaches n (get_or (get_or sections k no_section).steps j
        NoStep) ≡ true
    step_reaches =
        subst
        (λ (x : List Section). (k j : ℕ) → k < length x → j < length (get_or x k no_section).steps → reaches n (get_or (get_or x k no_section).steps j NoStep) ≡ true)
        turn_sections (λ k j h l. St.reach i k j F.1 h l)

    pub turn_reaches : (t : Tables) (p : Place) → act_reaches n (doing_at t q sections p) ≡ true
    unfolding doing_at doing_in
    turn_reaches t p =
        choose_cases Q (waits (task_of t q) or leb (length sections) p.section) _ _ (λ e. refl)
        (λ e.
        let more : p.section < length sections = leb-false _ _ (not_second _ _ e) in
        choose_cases Q (eqb p.position 0) _ _ (λ z. refl)
        (λ z.
        let low = eqb-false p.position 0 z in
        choose_cases Q (leb p.position (length (get_or sections p.section no_section).steps)) _ _
        (λ y. let last = leb-true _ _ y in step_reaches p.section (pred p.position) more (before p.position low last)) (λ y. refl)))
      where
        Q : Act → Type 0
        Q a = act_reaches n a ≡ true

        before : {m : ℕ} (k : ℕ) → (k ≡ 0 → ⊥) → k ≤ m → pred k < m
        before k low h = omega arith

  -- what the turn does is what the rules say
  acts_same : (s : State) → doing_at s.tables (script_at (scripts_of ns) i).task (script_at (scripts_of ns) i).sections (place_at s i) ≡ act_of (scripts_of ns) s i
  unfolding doing_at doing_in act_of
  acts_same s = refl

  pub turn_is : (s : State) (t : Tables) → s.tables ≡ t → (places₀ places : List ℕ) → places ≡ laid_places places₀ s.places → i < length s.places
      → 2 * i + 1 < length places → doing_at t q sections (at (get_or places (2 * i) 0) (get_or places (2 * i + 1) 0)) ≡ act_of (scripts_of ns) s i
  turn_is s t e places₀ places l h room =
      ap (λ (x : Tables). doing_at x q sections p) (sym e)
      ∙ ap₂ (λ (k : ℕ) (x : List Section). doing_at s.tables k x p) (sym turn_task) (sym turn_sections)
      ∙ ap₂ (λ (a b : ℕ). doing_at s.tables (script_at (scripts_of ns) i).task (script_at (scripts_of ns) i).sections (at a b))
      (place_section places₀ s.places i h places (2 * i) l refl (omega arith)) (place_position places₀ s.places i h places (2 * i + 1) l refl room)
      ∙ acts_same s
    where
      p : Place
      p = at (get_or places (2 * i) 0) (get_or places (2 * i + 1) 0)

  module _ (s : State) {a : Act} (e : a ≡ act_of (scripts_of ns) s i) where
    pub turn_room : RoomToAct (scripts_of ns) s (index_of q (scripts_of ns)) (act_of (scripts_of ns) s (index_of q (scripts_of ns))) → RoomToAct (scripts_of ns) s i a
    turn_room room call p z = subst (λ (k : ℕ). RoomToAct (scripts_of ns) s k (act_of (scripts_of ns) s k)) (sym F.0) room call p (sym e ∙ z)

    pub turn_event : {places₀ grants₀ m cells locals places grants : List ℕ} → Stands places₀ grants₀ (acted (scripts_of ns) s i a) m cells locals places grants
        → Stands places₀ grants₀ (event_of (scripts_of ns) s (Turn q)) m cells locals places grants
    unfolding event_of
    turn_event {places₀} {grants₀} {m} {cells} {locals} {places} {grants} S =
        subst (λ (x : State). Stands places₀ grants₀ x m cells locals places grants)
        (ap (λ (x : Act). acted (scripts_of ns) s i x) e ∙ ap (λ (k : ℕ). acted (scripts_of ns) s k (act_of (scripts_of ns) s k)) F.0) S
