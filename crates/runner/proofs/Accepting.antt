-- What the executing half of the runner asks for, from a run that is not refused and from numbers of 32 bits.
use Rattle.std.proofs.Common.{◌≡◌, ℕ, zero, suc, pred, ◌+◌, ◌*◌, ◌/◌, ◌<◌, ◌≤◌, Bool, true, eqb, leb, List, [], ◌∷◌, length, get_or, refl, subst, arith, eqb-true, le-leb, leb-true}
use Rattle.laws.specs.Choose.{choose, ◌and◌}
use Rattle.laws.specs.Rows.{tabulate}
use Rattle.laws.proofs.Choose.{choose_cases, and_both, both_and}
use Rattle.laws.proofs.All.{all_at, all_of}
use Rattle.words.proofs.WordsInBytes.{Words}
use Rattle.rules.specs.declared.Call.{Call}
use Rattle.rules.specs.Numbers.{max_number}
use Rattle.rules.specs.Machine.{Tables}
use Rattle.rules.specs.Agreement.{Agrees, agrees}
use Rattle.rules.specs.Fits.{call_fits}
use Rattle.rules.proofs.Invariants.Agreeing.{true_agrees, sizes_within}
use Rattle.rules.proofs.Invariants.Refusals.{must}
use Rattle.rules.proofs.Waits.{wait_fits_lem}
use Rattle.sections.specs.Scripts.{Section, Script, Memory, script_at, section_at}
use Rattle.sections.specs.Scripts.Step.{NoStep}
use Rattle.sections.specs.Run.{Event}
use Rattle.sections.specs.Run.Event.{NoEvent}
use Rattle.sections.specs.Refusals.{Input, each_script, each_section, each_event, limits_fit, steps_fit, one_script_each, is_event, is_guard, is_ready, is_allowed, refusal, event_fits, input_fits}
use Rattle.encoding.specs.declared.rows.Row.{Row}
use Rattle.encoding.specs.declared.rows.Row.TheVariants.{Script as BeginsScript, Section as BeginsSection, Step as Steps}
use Rattle.encoding.specs.Rows.{row_in, row_at, rows_of, sections_from, no_section, scripts_from, scripts_of}
use Rattle.encoding.specs.Events.{call_of, event_size, event_at, events_from, events_of}
use Rattle.encoding.specs.Laid.{reaches}
use Rattle.runner.specs.State.{Lent}
use Rattle.runner.specs.Turns.{Stepped, is_run}
use Rattle.runner.proofs.Allowing.{step_reaches, event_run}

-- ---- the tests that are passed

record Tested (t : Tables) (w : Input) (events : List Event) : Type 0 where
  agreeing : Agrees t
  limits : limits_fit w ≡ true
  steps : steps_fit w ≡ true
  kinds : each_event events is_event ≡ true
  ready : each_script w (λ s. is_ready t s.task) ≡ true
  allowed : each_event events (is_allowed w) ≡ true

module _ (t : Tables) (w : Input) (events : List Event) (passed : refusal t w events ≡ 0) where
  defined : Bool
  defined = limits_fit w and steps_fit w and one_script_each w and each_event events is_event and each_section w (λ s. is_guard t s.id)

  callable : Bool
  callable = each_script w (λ s. is_ready t s.task) and each_event events (is_allowed w)

  tested : Tested t w events
  unfolding refusal defined callable
  tested =
      let a = must (agrees t) (choose defined (choose callable 0 4) 11) 25 (omega arith) passed in
      let d = must defined (choose callable 0 4) 11 (omega arith) a.1 in
      let c = and_both _ _ (must callable 0 4 (omega arith) d.1).0 in
      let l = and_both _ _ d.0 in
      let s = and_both _ _ l.1 in
      let o = and_both _ _ s.1 in
      record {
        agreeing = true_agrees t a.0;
        limits = l.0;
        steps = s.0;
        kinds = (and_both _ _ o.1).0;
        ready = c.0;
        allowed = c.1;
      }

  -- at most 8 sections, and 16 steps in each
  pub short_accepted : (i : ℕ) → i < length w.scripts → length (script_at w.scripts i).sections ≤ 8
  unfolding limits_fit
  short_accepted i h = leb-true _ _ (all_at _ _ (and_both _ _ tested.limits).0 i h)

  steps_few : (i k : ℕ) → i < length w.scripts → k < length (script_at w.scripts i).sections
      → length (section_at (script_at w.scripts i) k).steps ≤ 16
  unfolding limits_fit
  steps_few i k h l = leb-true _ _ (all_at _ _ (all_at _ _ (and_both _ _ (and_both _ _ tested.limits).1).0 i h) k l)

  as_many : length w.ids ≡ length w.memory.cells
  unfolding limits_fit
  as_many = eqb-true _ _ (and_both _ _ (and_both _ _ (and_both _ _ (and_both _ _ tested.limits).1).1).1).0

  reached : (i k j : ℕ) → i < length w.scripts → k < length (script_at w.scripts i).sections → j < length (section_at (script_at w.scripts i) k).steps
      → reaches (length w.memory.cells) (get_or (section_at (script_at w.scripts i) k).steps j NoStep) ≡ true
  unfolding steps_fit
  reached i k j h l b =
      let step = get_or (section_at (script_at w.scripts i) k).steps j NoStep in
      subst (λ (n : ℕ). reaches n step ≡ true) as_many
      (step_reaches w.ids (section_at (script_at w.scripts i) k).id step (all_at _ _ (all_at _ _ (all_at _ _ tested.steps i h) k l) j b))

  -- its task is one of 1 to 32
  task_within : (i : ℕ) → i < length w.scripts → (1 ≤ (script_at w.scripts i).task) × ((script_at w.scripts i).task ≤ 32)
  task_within i h =
      let b = and_both _ _ (and_both _ _ (all_at _ _ tested.ready i h)).0 in
      let last : (script_at w.scripts i).task ≤ length t.tasks = leb-true _ _ b.1 in
      (leb-true _ _ b.0, omega (arith, (sizes_within t tested.agreeing.sizes).tasks))

  pub locals_accepted : length w.memory.locals ≡ 256
  unfolding limits_fit
  locals_accepted = eqb-true _ _ (and_both _ _ (and_both _ _ (and_both _ _ (and_both _ _ tested.limits).1).1).1).1

  pub events_run : each_event events (is_run w.scripts) ≡ true
  events_run =
      all_of (length events) _
      (λ k h. event_run w (get_or events k NoEvent) (all_at _ _ tested.kinds k h) (all_at _ _ tested.allowed k h))

module _ (ns ids : List ℕ) (m : Memory) where
  abbrev input : Input
  input = record { scripts = scripts_of ns; ids = ids; memory = m }

  module _ (t : Tables) (events : List Event) (passed : refusal t input events ≡ 0) where
    pub lent_accepted : (places₀ grants₀ : List ℕ) → 2 * length (scripts_of ns) ≤ length places₀ → Lent ns places₀ grants₀
    lent_accepted places₀ grants₀ h = record { tasks = task_within t input events passed; places = h }

    pub stepped_accepted : Stepped ns (length m.cells)
    stepped_accepted =
        record {
          count = λ i h. record {
            few = omega (arith, short_accepted t input events passed i h);
            short = λ k l. omega (arith, steps_few t input events passed i k h l);
          };
          reach = reached t input events passed;
        }

-- ---- numbers of 32 bits

-- a section's row holds a word
abbrev TimedRow : Row → Type 0
TimedRow (BeginsScript task) = Unit {0}
TimedRow (BeginsSection id options timeout) = timeout < 4294967296
TimedRow (Steps step) = Unit {0}

timed_row : (kind a b c : ℕ) → c < 4294967296 → TimedRow (row_in kind a b c)
unfolding row_in
timed_row kind a b c h = choose_cases TimedRow (eqb kind 1) _ _ (λ e. tt) (λ e. choose_cases TimedRow (eqb kind 2) _ _ (λ f. h) (λ f. tt))

abbrev TimedRows : List Row → Type 0
TimedRows [] = Unit {0}
TimedRows (r ∷ rs) = TimedRow r × TimedRows rs

all_tabulated : (n : ℕ) (f : ℕ → Row) → ((i : ℕ) → TimedRow (f i)) → TimedRows (tabulate n f)
unfolding tabulate
all_tabulated zero f h = tt
all_tabulated (suc n) f h = (h 0, all_tabulated n (λ i. f (suc i)) (λ i. h (suc i)))

rows_timed : (ns : List ℕ) → Words ns → TimedRows (rows_of ns)
unfolding rows_of row_at
rows_timed ns h = all_tabulated (length ns / 4) _ (λ r. timed_row _ _ _ _ (h (4 * r + 3)))

each_cons : {A : Type 0} (P : A → Type 0) (d x : A) (xs : List A) → P x → ((k : ℕ) → P (get_or xs k d)) → (k : ℕ) → P (get_or (x ∷ xs) k d)
each_cons P d x xs first later zero = first
each_cons P d x xs first later (suc k) = later k

abbrev Timed : List Section → Type 0
Timed sections = (k : ℕ) → (get_or sections k no_section).timeout < 4294967296

timed_sections : (rs : List Row) → TimedRows rs → Timed (sections_from rs)
unfolding sections_from
timed_sections [] h = λ k. omega arith
timed_sections (BeginsScript task ∷ rs) h = λ k. omega arith
timed_sections (BeginsSection id options timeout ∷ rs) h =
    each_cons (λ (x : Section). x.timeout < 4294967296) no_section _ (sections_from rs) h.0 (timed_sections rs h.1)
timed_sections (Steps step ∷ rs) h = timed_sections rs h.1

abbrev AllTimed : List Script → Type 0
AllTimed scripts = (i : ℕ) → Timed (script_at scripts i).sections

timed_scripts : (rs : List Row) → TimedRows rs → AllTimed (scripts_from rs)
unfolding scripts_from
timed_scripts [] h = λ i k. omega arith
timed_scripts (BeginsScript task ∷ rs) h =
    each_cons (λ (x : Script). Timed x.sections) (record { task = 0; sections = [] }) _ (scripts_from rs) (timed_sections rs h.1) (timed_scripts rs h.1)
timed_scripts (BeginsSection id options timeout ∷ rs) h = timed_scripts rs h.1
timed_scripts (Steps step ∷ rs) h = timed_scripts rs h.1

module _ (ns : List ℕ) (h : Words ns) where
  word : (k : ℕ) → leb (get_or ns k 0) max_number ≡ true
  word k = le-leb (get_or ns k 0) max_number (omega (arith, h k))

  abbrev n : ℕ → ℕ
  n k = get_or ns k 0

  call_fits_lem : (kind : ℕ) → call_fits (call_of kind (n 1) (n 2) (n 3) (n 4) (n 5)) ≡ true
  unfolding call_of
  call_fits_lem kind =
      choose_cases P (eqb kind 2) _ _ (λ e. word 1)
      (λ e. choose_cases P (eqb kind 3) _ _ (λ e. both_and (word 1) (both_and (word 2) (both_and (word 3) (both_and (word 4) (word 5)))))
      (λ e. choose_cases P (eqb kind 4) _ _ (λ e. word 1)
      (λ e. choose_cases P (eqb kind 5) _ _ (λ e. both_and (word 1) (word 2))
      (λ e. choose_cases P (eqb kind 6) _ _ (λ e. both_and (word 1) (both_and (word 2) (wait_fits_lem (n 3) (n 4) (omega (arith, h 4)))))
      (λ e. choose_cases P (eqb kind 7) _ _ (λ e. both_and (word 1) (word 2))
      (λ e. choose_cases P (eqb kind 8) _ _ (λ e. both_and (word 1) (word 2)) (λ e. refl)))))))
    where
      P : Call → Type 0
      P call = call_fits call ≡ true

  event_fits_lem : event_fits (event_at ns) ≡ true
  unfolding event_at
  event_fits_lem =
      choose_cases P (eqb (event_size ns) 0) _ _ (λ e. refl) (λ e. choose_cases P (eqb (get_or ns 0 0) 1) _ _ (λ f. refl) (λ f. call_fits_lem (get_or ns 0 0)))
    where
      P : Event → Type 0
      P e = event_fits e ≡ true

events_fit_lem : (skip : ℕ) (ns : List ℕ) → Words ns → (k : ℕ) → event_fits (get_or (events_from skip ns) k NoEvent) ≡ true
unfolding events_from
events_fit_lem skip [] h k = refl
events_fit_lem zero (n ∷ ns) h zero = event_fits_lem (n ∷ ns) h
events_fit_lem zero (n ∷ ns) h (suc k) = events_fit_lem (choose (eqb (event_size (n ∷ ns)) 0) (length ns) (pred (event_size (n ∷ ns)))) ns (λ j. h (suc j)) k
events_fit_lem (suc skip) (n ∷ ns) h k = events_fit_lem skip ns (λ j. h (suc j)) k

pub inputs_fit : (ns ids : List ℕ) (m : Memory) (es : List ℕ) → Words ns → Words es
    → input_fits (record { scripts = scripts_of ns; ids = ids; memory = m }) (events_of es) ≡ true
unfolding input_fits
inputs_fit ns ids m es h l =
    both_and
    (all_of (length (scripts_of ns)) _
    (λ i a. all_of (length (script_at (scripts_of ns) i).sections) _
    (λ k b. le-leb (section_at (script_at (scripts_of ns) i) k).timeout max_number (omega (arith, timed_scripts (rows_of ns) (rows_timed ns h) i k)))))
    (all_of (length (events_of es)) _ (λ k a. events_fit_lem 0 es l k))

events_from_lem : (skip : ℕ) (ns : List ℕ) → length (events_from skip ns) ≤ length ns
unfolding events_from
events_from_lem skip [] = omega arith
events_from_lem zero (n ∷ ns) = omega (arith, events_from_lem (choose (eqb (event_size (n ∷ ns)) 0) (length ns) (pred (event_size (n ∷ ns)))) ns)
events_from_lem (suc skip) (n ∷ ns) = omega (arith, events_from_lem skip ns)

-- an event is a number at least
pub events_few : (es : List ℕ) → length (events_of es) ≤ length es
events_few es = events_from_lem 0 es
