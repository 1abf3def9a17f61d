-- What a run that is not refused has checked, and that it begins in a sound state and stays in one.
use mathlib.Core.Path.{◌≡◌, refl, sym, subst, ap}
use mathlib.Core.Bool.{Bool, true, false}
use mathlib.Core.List.{List, [], ◌∷◌}
use mathlib.Core.Logic.{⊎_elim}
use Prim.Native.Nat.{ℕ, suc, pred, ◌%◌, ◌≤◌, ◌<◌}
use native.Mathlib.Omega.{arith}
use lib.Dec.{eqb}
use lib.ListN.{length, get_or, length-replicate}
use borrow.Author.Tests.{eqb-true, leb-true}
use Rattle.laws.specs.Choose.{choose, ◌and◌}
use Rattle.laws.proofs.Choose.{and_both, never, isnt_false, or_either}
use Rattle.laws.proofs.All.{all_at}
use Rattle.laws.proofs.Fit.{get_d_same}
use Rattle.rules.specs.Machine.{Tables, task_of, slot_of, waits}
use Rattle.rules.specs.Agreement.{Agrees, agrees, sizes_fit}
use Rattle.rules.proofs.Invariants.Agreeing.{true_agrees}
use Rattle.rules.proofs.Invariants.Refusals.{must}
use Rattle.rules.proofs.History.Used.{named_used}
use Rattle.sections.specs.Scripts.{Script, script_at, section_at, plain}
use Rattle.sections.specs.Run.{Event, Place, at, State, place_at, event_of, run_from}
use Rattle.sections.specs.Run.Event.{NoEvent}
use Rattle.sections.specs.Refusals.{Input, each_script, each_section, each_event, limits_fit, steps_fit, one_script_each, is_event, is_guard, is_ready, is_allowed, refusal, at_first, event_fits, input_fits}
use Rattle.sections.proofs.Standing.{id_at, Stand}
use Rattle.sections.proofs.Footprints.{all_steps}
use Rattle.sections.proofs.Finishing.{times, finish}
use Rattle.sections.proofs.Serial.{closed}
use Rattle.sections.proofs.Kept.{OfSection, Fixed, Sound}
use Rattle.sections.proofs.Events.{event_next}
use Rattle.rules.proofs.Invariants.Lists.{bit_no}

-- N tasks are at most 32
few_tasks : (t : Tables) → Agrees t → length t.tasks ≤ 32
unfolding sizes_fit
few_tasks t a =
    ⊎_elim (λ (z : (eqb (length t.tasks) 0 and eqb (length t.slots) 0) ≡ true). let n : length t.tasks ≡ 0 = eqb-true _ _
    (and_both _ _ z).0 in omega arith)
    (λ z. leb-true _ _ (and_both _ _ (and_both _ _ z).0).1)
    (or_either _ _ a.sizes)

pub record Accepted (t : Tables) (w : Input) (events : List Event) : Type 0 where
  pub agreeing : Agrees t
  pub fixed : Fixed w
  pub first : Sound w (at_first t w)
  pub ready : (i : ℕ) → i < length w.scripts → waits (task_of t (script_at w.scripts i).task) ≡ false
  pub allowed : (k : ℕ) → k < length events → is_allowed w (get_or events k NoEvent) ≡ true
  pub fit : (k : ℕ) → k < length events → event_fits (get_or events k NoEvent) ≡ true

module _ (t : Tables) (w : Input) (events : List Event) (passed : refusal t w events ≡ 0) (fits : input_fits w events ≡ true) where
  -- the tests, in their order
  defined : Bool
  defined = limits_fit w and steps_fit w and one_script_each w and each_event events is_event and each_section w (λ s. is_guard t s.id)

  callable : Bool
  callable = each_script w (λ s. is_ready t s.task) and each_event events (is_allowed w)

  tests : (agrees t ≡ true) × (defined ≡ true) × (callable ≡ true)
  unfolding refusal defined callable
  tests =
      let a = must (agrees t) (choose defined (choose callable 0 4) 11) 25 (omega arith) passed in
      let d = must defined (choose callable 0 4) 11 (omega arith) a.1 in
      (a.0, d.0, (must callable 0 4 (omega arith) d.1).0)

  agreeing : Agrees t
  agreeing = true_agrees t tests.0

  N : ℕ
  N = length w.scripts

  script : ℕ → Script
  script i = script_at w.scripts i

  steps_passed : steps_fit w ≡ true
  unfolding defined
  steps_passed = (and_both _ _ (and_both _ _ tests.1).1).0

  single_passed : one_script_each w ≡ true
  unfolding defined
  single_passed = (and_both _ _ (and_both _ _ (and_both _ _ tests.1).1).1).0

  guards_passed : each_section w (λ s. is_guard t s.id) ≡ true
  unfolding defined
  guards_passed = (and_both _ _ (and_both _ _ (and_both _ _ (and_both _ _ tests.1).1).1).1).1

  ready_passed : (i : ℕ) → i < length w.scripts → is_ready t (script_at w.scripts i).task ≡ true
  unfolding callable
  ready_passed = all_at _ _ (and_both _ _ tests.2).0

  -- a script's task is one of the N, and ready
  task_first : (i : ℕ) → i < length w.scripts → 1 ≤ (script_at w.scripts i).task
  task_first i h = leb-true _ _ (and_both _ _ (and_both _ _ (ready_passed i h)).0).0

  task_last : (i : ℕ) → i < length w.scripts → (script_at w.scripts i).task ≤ length t.tasks
  task_last i h = leb-true _ _ (and_both _ _ (and_both _ _ (ready_passed i h)).0).1

  task_ready : (i : ℕ) → i < length w.scripts → waits (task_of t (script_at w.scripts i).task) ≡ false
  task_ready i h = isnt_false _ (and_both _ _ (ready_passed i h)).1

  is_guard_lem : (i k : ℕ) → i < length w.scripts → k < length (script_at w.scripts i).sections → is_guard t (id_at (script_at w.scripts i) k) ≡ true
  is_guard_lem i k h l = all_at _ _ (all_at _ _ guards_passed i h) k l

  guarded : (y : ℕ) → OfSection w y → is_guard t y ≡ true
  guarded y g = subst (λ (z : ℕ). is_guard t z ≡ true) (sym g.is) (is_guard_lem g.script g.section g.low g.high)

  fixed : Fixed w
  unfolding steps_fit one_script_each input_fits
  fixed =
      record {
        single = λ i h. eqb-true _ _ (all_at _ _ single_passed i h);
        tasks = task_first;
        small = λ i h. omega (arith, task_last i h, few_tasks t agreeing);
        steps = λ i k h l. all_steps w.ids (id_at (script_at w.scripts i) k) (section_at (script_at w.scripts i) k).steps
            (all_at _ _ (all_at _ _ (all_at _ _ steps_passed i h) k l));
        timeouts = λ i k h l. leb-true _ _ (all_at _ _ (all_at _ _ (and_both _ _ fits).0 i h) k l);
      }

  begins : (i : ℕ) → place_at (at_first t w) i ≡ at 0 0
  begins i = get_d_same (length w.scripts) (at 0 0) i

  first : Sound w (at_first t w)
  unfolding plain finish times
  first =
      record {
        agrees' = agreeing;
        started = λ h. omega (arith, task_first 0 h, task_last 0 h);
        guards = λ y g. record { used = named_used t y (and_both _ _ (guarded y g)).0; binary = λ n. (and_both _ _ (and_both _ _ (guarded y g)).1).0 };
        stands = λ i h. subst (Stand (OfSection w) t (script_at w.scripts i) (pred (script_at w.scripts i).task)) (sym (begins i)) (stand i h);
        serial =
            record {
              many = length-replicate (length w.scripts) (at 0 0);
              counts = λ i h k l. sym (bit_no _
                  (closed k (place_at (at_first t w) i) (ap (λ (p : Place). p.position) (begins i))));
              serial = refl;
            };
      }
    where
      stand : (i : ℕ) → i < length w.scripts → Stand (OfSection w) t (script_at w.scripts i) (pred (script_at w.scripts i).task) (at 0 0)
      stand i h =
          record {
            within = λ z. absurd (omega arith);
            open' = λ z. absurd (omega arith);
            own = λ y g n e. let free : (slot_of t (y % 65536)).owner ≡ 0 = eqb-true _ _ (and_both _ _ (and_both _ _ (guarded y g)).1).1 in absurd
                (omega arith);
            waits' = λ z. never z (task_ready i h);
          }

  pub accepted : Accepted t w events
  unfolding callable input_fits
  accepted =
      record {
        agreeing = agreeing;
        fixed = fixed;
        first = first;
        ready = task_ready;
        allowed = all_at _ _ (and_both _ _ tests.2).1;
        fit = all_at _ _ (and_both _ _ fits).1;
      }

-- a run goes from sound states to sound states
pub run_sound : (w : Input) → Fixed w → (s : State) → Sound w s → (events : List Event)
    → ((k : ℕ) → k < length events → is_allowed w (get_or events k NoEvent) ≡ true)
    → ((k : ℕ) → k < length events → event_fits (get_or events k NoEvent) ≡ true) → Sound w (run_from w.scripts s events)
unfolding run_from
run_sound w F s S [] allowed fit = S
run_sound w F s S (e ∷ es) allowed fit =
    run_sound w F (event_of w.scripts s e) (event_next w F s S e (fit 0 (omega arith)) (allowed 0 (omega arith))).sound es
    (λ k h. allowed (suc k) (omega arith)) (λ k h. fit (suc k) (omega arith))
