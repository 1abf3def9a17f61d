-- The events of a run, one after another: what is left of them leads from the present state to the end.
use Rattle.std.proofs.Common.{◌≡◌, ℕ, true, List, [], ◌∷◌, length, sym, ap, ◌∙◌, subst}
use Rattle.laws.proofs.Choose.{and_both}
use Rattle.sections.specs.Scripts.{Script}
use Rattle.sections.specs.Run.{Event, State, event_of, run_from}
use Rattle.sections.specs.Run.Event.{NoEvent}
use Rattle.runner.specs.Turns.{Stands, RoomAt, RoomAlong, is_run}
use Rattle.runner.specs.Turns.RoomAlong.{more}
use Rattle.encoding.proofs.Every.{every, every_cons}

-- what is left are events that are run
abbrev pub AllRun : List Script → List Event → Type 0
AllRun scripts left = every (is_run scripts) NoEvent left ≡ true

module _ (scripts : List Script) (left : List Event) (e : Event) (later : List Event) (next : left ≡ e ∷ later) where
  pub first_run : AllRun scripts left → (is_run scripts e ≡ true) × AllRun scripts later
  first_run h = and_both _ _ (sym (ap (every (is_run scripts) NoEvent) next ∙ every_cons (is_run scripts) NoEvent e later) ∙ h)

-- a state on the way to the end of a run: bytes and numbers hold it, and what is left has room
pub record Reached (scripts : List Script) (places₀ grants₀ : List ℕ) (left : List Event) (end : State) (m cells locals places grants : List ℕ) : Type 0 where
  pub state : State
  pub stands : Stands places₀ grants₀ state m cells locals places grants
  pub room : RoomAlong scripts state left
  pub leads : run_from scripts state left ≡ end

-- the next event of those left
first_room : {scripts : List Script} {s : State} {e : Event} {es : List Event} → RoomAlong scripts s (e ∷ es)
    → (length s.places ≡ length scripts) × RoomAt scripts s e × RoomAlong scripts (event_of scripts s e) es
first_room (more n r later) = (n, r, later)

module _ (scripts : List Script) (places₀ grants₀ : List ℕ) (left : List Event) (end : State) (m cells locals places grants : List ℕ)
    (R : Reached scripts places₀ grants₀ left end m cells locals places grants) where
  pub reached_event : (e : Event) (later : List Event) → left ≡ e ∷ later → {m' cells' locals' places' grants' : List ℕ}
      → ((s : State) → Stands places₀ grants₀ s m cells locals places grants → length s.places ≡ length scripts → RoomAt scripts s e
      → Stands places₀ grants₀ (event_of scripts s e) m' cells' locals' places' grants')
      → Reached scripts places₀ grants₀ later end m' cells' locals' places' grants'
  unfolding run_from
  reached_event e later next step =
      let room = first_room (subst (RoomAlong scripts R.state) next R.room) in
      record {
        state = event_of scripts R.state e;
        stands = step R.state R.stands room.0 room.1;
        room = room.2;
        leads = sym (ap (run_from scripts R.state) next) ∙ R.leads;
      }

  pub reached_end : left ≡ [] → Stands places₀ grants₀ end m cells locals places grants
  unfolding run_from
  reached_end e =
      subst (λ (x : State). Stands places₀ grants₀ x m cells locals places grants)
      (sym (ap (run_from scripts R.state) e) ∙ R.leads) R.stands
