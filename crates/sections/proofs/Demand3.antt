-- Demand 3 whole, and what else holds of a run of guarded sections.
use mathlib.Core.Path.{◌≡◌, refl, sym, subst, ap, ◌∙◌}
use mathlib.Core.Bool.{true, false}
use mathlib.Core.List.{List, [], ◌∷◌, ◌++◌}
use mathlib.Core.Logic.{◌⊎◌, ◌≢◌}
use Prim.Native.Nat.{ℕ, ◌+◌, ◌%◌, ◌≤◌, ◌<◌}
use native.Mathlib.Omega.{arith}
use native.Mathlib.Decide.{ℕ_discrete, dec_lt}
use lib.Dec.{leb, eqb}
use lib.ListN.{length, length-append, get_or-append, get_or-eq_default}
use lib.Seq.{get_or-append_seam}
use borrow.Author.Tests.{ne_eqb, leb-false, eq-eqb}
use Rattle.laws.specs.Choose.{choose, ◌or◌, bit}
use Rattle.laws.proofs.Choose.{choose_same, if_yes, if_no}
use Rattle.laws.proofs.Fit.{get_d_same}
use Rattle.rules.specs.Machine.{Tables, task_of, slot_of, waits, names, next}
use Rattle.rules.specs.Agreement.{Agrees}
use Rattle.sections.specs.Scripts.{Script, Grant, script_at, section_at, index_of, plain}
use Rattle.sections.specs.Run.{Event, Place, at, State, place_at, event_of, run_from, open_of}
use Rattle.sections.specs.Run.Event.{NoEvent}
use Rattle.sections.specs.Refusals.{Input, is_allowed, refusal, at_first, run, event_fits, input_fits}
use Rattle.sections.specs.History.{answers_in, history, grants_shown}
use Rattle.rules.proofs.Invariants.Lists.{bit_no}
use Rattle.sections.proofs.Finishing.{finish_none}
use Rattle.sections.proofs.Indices.{rows_empty}
use Rattle.sections.proofs.Serial.{closed, rest_of, same_script}
use Rattle.sections.proofs.Kept.{Sound, numbered}
use Rattle.sections.proofs.Events.{event_next}
use Rattle.sections.proofs.Histories.{run_reads}
use Rattle.sections.proofs.Accepted.{Accepted, accepted, run_sound}

-- the list of events is run, or refused
ran : (t : Tables) (w : Input) (events : List Event) → refusal t w events ≡ 0 → (run t w events).state ≡ run_from w.scripts (at_first t w) events
unfolding run
ran t w events e = if_yes _ _ (eq-eqb (refusal t w events) 0 e)

-- a refused run changes nothing: tables, cells and locals stay, places are at the start, no grant is reported; its answer is that of any refusal
pub refused_keeps : (t : Tables) (w : Input) (events : List Event) → refusal t w events ≢ 0 → (run t w events).state ≡ at_first t w
unfolding run
refused_keeps t w events n = if_no _ _ (ne_eqb (refusal t w events) 0 n)

pub refused_answer : (t : Tables) (w : Input) (events : List Event) → refusal t w events ≢ 0
    → (run t w events).answer ≡ record { status = refusal t w events; value = 0; next = choose (eqb (refusal t w events) 25) 0 (next t) }
unfolding run
refused_answer t w events n =
    ap (λ (s : State). record { status = refusal t w events; value = 0; next = choose (eqb (refusal t w events) 25) 0 (next s.tables) })
    (if_no _ _ (ne_eqb (refusal t w events) 0 n))

-- an empty list of events changes nothing
pub empty_keeps : (t : Tables) (w : Input) → (run t w []).state ≡ at_first t w
unfolding run run_from
empty_keeps t w = choose_same (eqb (refusal t w []) 0) (at_first t w)

-- with no section open, nothing is left to do
closed_serial : (w : Input) (s : State) → Sound w s → open_of w.scripts s ≡ [] → s.memory ≡ plain w.scripts s.grants w.memory
unfolding open_of
closed_serial w s S e =
    sym (S.serial.serial ∙ finish_none (rest_of w.scripts s) s.grants s.memory
    (λ g. if_no _ _ (closed g.section (place_at s (index_of g.task w.scripts)) (at_obtain (index_of g.task w.scripts)))))
  where
    at_obtain : (i : ℕ) → (place_at s i).position ≡ 0
    at_obtain i =
        elim (dec_lt i (length w.scripts)) [
          | yes h ↦ let z : (place_at s i).position < 1 = leb-false 1 (place_at s i).position
              (rows_empty (length w.scripts) (λ i. leb 1 (place_at s i).position)
              (λ i. record { task = (script_at w.scripts i).task; section = (place_at s i).section }) e i h) in omega arith
          | no n ↦ ap (λ (p : Place). p.position) (get_or-eq_default s.places (at 0 0) (omega (arith, S.serial.many)))
        ]

-- DEMAND 3: with no section open after the list of events, every cell and local handed back equals the plain run's
pub demand_3 : (t : Tables) (w : Input) (events : List Event) → input_fits w events ≡ true → open_of w.scripts (run t w events).state ≡ []
    → (run t w events).state.memory ≡ plain w.scripts (run t w events).state.grants w.memory
unfolding plain
demand_3 t w events fits none =
    elim (ℕ_discrete (refusal t w events) 0) [
      | yes e ↦
          let a : Accepted t w events = accepted t w events e fits in
          subst (λ (s : State). open_of w.scripts s ≡ [] → s.memory ≡ plain w.scripts s.grants w.memory) (sym (ran t w events e))
          (closed_serial w (run_from w.scripts (at_first t w) events) (run_sound w a.fixed (at_first t w) a.first events a.allowed a.fit)) none
      | no n ↦ subst (λ (s : State). s.memory ≡ plain w.scripts s.grants w.memory) (sym (refused_keeps t w events n)) refl
    ]

-- ---- what else holds of a run

-- the run of two lists, one after the other, is the run of the whole
pub run_halves : (scripts : List Script) (s : State) (a b : List Event) → run_from scripts s (a ++ b) ≡ run_from scripts (run_from scripts s a) b
unfolding run_from
run_halves scripts s [] b = refl
run_halves scripts s (e ∷ es) b = run_halves scripts (event_of scripts s e) es b

-- ---- whatever stands after the first part of a list that is not refused

module _ (t : Tables) (w : Input) (a b : List Event) (fits : input_fits w (a ++ b) ≡ true) (passed : refusal t w (a ++ b) ≡ 0) where
  abbrev reached : State
  reached = run_from w.scripts (at_first t w) a

  whole : Accepted t w (a ++ b)
  whole = accepted t w (a ++ b) passed fits

  sound : Sound w reached
  sound =
      run_sound w whole.fixed (at_first t w) whole.first a
      (λ k h. subst (λ (e : Event). is_allowed w e ≡ true) (get_or-append a b NoEvent k h) (whole.allowed k (longer k h)))
      (λ k h. subst (λ (e : Event). event_fits e ≡ true) (get_or-append a b NoEvent k h) (whole.fit k (longer k h)))
    where
      longer : (k : ℕ) → k < length a → k < length (a ++ b)
      longer k h = omega (arith, length-append a b)

  pub agreement_kept : Agrees reached.tables
  agreement_kept = sound.agrees'

  -- an open section's task owns the semaphore with nest 1
  pub open_owned : (i : ℕ) → i < length w.scripts → 1 ≤ (place_at reached i).position
      → let id = (section_at (script_at w.scripts i) (place_at reached i).section).id in
      (names reached.tables id ≡ true) × ((slot_of reached.tables (id % 65536)).owner ≡ (script_at w.scripts i).task)
      × ((slot_of reached.tables (id % 65536)).nest ≡ 1)
  open_owned i h o = let z = (sound.stands i h).open' o in (z.named, z.owner ∙ sym (numbered w whole.fixed i h), z.nest)

  -- at most one section is open for an identifier
  pub open_alone : (i j : ℕ) → i < length w.scripts → j < length w.scripts → 1 ≤ (place_at reached i).position → 1 ≤ (place_at reached j).position
      → (section_at (script_at w.scripts i) (place_at reached i).section).id ≡ (section_at (script_at w.scripts j) (place_at reached j).section).id → i ≡ j
  open_alone i j h l o p e =
      same_script w.scripts whole.fixed.single w.memory reached sound.serial i j h l
      (sym (open_owned i h o).1 ∙ ap (λ (y : ℕ). (slot_of reached.tables (y % 65536)).owner) e ∙ (open_owned j l p).1)

-- one event grants at most one section
pub one_grant : (t : Tables) (w : Input) (a : List Event) (e : Event) (b : List Event) → input_fits w (a ++ e ∷ b) ≡ true → refusal t w (a ++ e ∷ b) ≡ 0
    → let before = run_from w.scripts (at_first t w) a in
    let after = event_of w.scripts before e in
    (after.grants ≡ before.grants) ⊎ ((g : Grant) × (after.grants ≡ before.grants ++ g ∷ []))
one_grant t w a e b fits passed =
    let all : Accepted t w (a ++ e ∷ b) = accepted t w (a ++ e ∷ b) passed fits in
    let at_a : length a < length (a ++ e ∷ b) = omega (arith, length-append a (e ∷ b)) in
    (event_next w all.fixed (run_from w.scripts (at_first t w) a) (sound t w a (e ∷ b) fits passed) e
    (subst (λ (e : Event). event_fits e ≡ true) (get_or-append_seam a e b NoEvent) (all.fit (length a) at_a))
    (subst (λ (e : Event). is_allowed w e ≡ true) (get_or-append_seam a e b NoEvent) (all.allowed (length a) at_a))).granted

-- the grants reported are exactly those that the calls' answers make, sections open or not
pub grants_shown_lem : (t : Tables) (w : Input) (events : List Event) → input_fits w events ≡ true → refusal t w events ≡ 0
    → (run t w events).state.grants ≡ grants_shown w.scripts (λ q. 0) (answers_in t) (history w.scripts (at_first t w) events)
grants_shown_lem t w events fits passed =
    let a : Accepted t w events = accepted t w events passed fits in
    ap (λ (s : State). s.grants) (ran t w events passed)
    ∙ run_reads w a.fixed (at_first t w) a.first (λ q. 0) (record { each = λ i h. none_yet i (a.ready i h) }) events a.allowed a.fit
  where
    none_yet : (i : ℕ) → waits (task_of t (script_at w.scripts i).task) ≡ false
        → 0 ≡ (place_at (at_first t w) i).section + bit (leb 1 (place_at (at_first t w) i).position or waits (task_of t (script_at w.scripts i).task))
    none_yet i ready =
        subst (λ (p : Place). 0 ≡ p.section + bit (leb 1 p.position or waits (task_of t (script_at w.scripts i).task)))
        (sym (get_d_same (length w.scripts) (at 0 0) i))
        (omega (arith, bit_no (leb 1 0 or waits (task_of t (script_at w.scripts i).task)) (if_no true _ refl ∙ ready)))

-- a run, refused or not, keeps agreement
pub run_agrees : (t : Tables) (w : Input) (events : List Event) → input_fits w events ≡ true → Agrees t → Agrees (run t w events).state.tables
run_agrees t w events fits agreeing =
    elim (ℕ_discrete (refusal t w events) 0) [
      | yes e ↦
          let a : Accepted t w events = accepted t w events e fits in
          subst (λ (s : State). Agrees s.tables) (sym (ran t w events e))
          (run_sound w a.fixed (at_first t w) a.first events a.allowed a.fit).agrees'
      | no n ↦ subst (λ (s : State). Agrees s.tables) (sym (refused_keeps t w events n)) agreeing
    ]
