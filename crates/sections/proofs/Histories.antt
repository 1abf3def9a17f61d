-- A run's grants are those that its history shows.
use mathlib.Core.Path.{◌≡◌, refl, sym, subst, ap, ◌∙◌}
use mathlib.Core.Bool.{Bool, true, false}
use mathlib.Core.List.{List, [], ◌∷◌, ◌++◌, append_assoc, append-nil}
use mathlib.Core.Logic.{◌≢◌}
use Prim.Native.Nat.{ℕ, suc, pred, ◌+◌, ◌≤◌, ◌<◌}
use native.Mathlib.Omega.{arith}
use native.Mathlib.Decide.{ℕ_discrete}
use lib.Dec.{leb, eqb}
use lib.ListN.{length, get_or, set}
use lib.Seq.{get_or-set_same, get_or-set_other, set-get_or}
use borrow.Author.Tests.{eqb-true, eqb-false, eq-eqb, ne_eqb, leb-false, le-leb, ltb-true}
use Rattle.laws.specs.Choose.{choose, ◌or◌, bit}
use Rattle.laws.proofs.Choose.{choose_cases, never, or_first, or_second}
use Rattle.rules.specs.declared.Call.{Call}
use Rattle.rules.specs.declared.Call.TheVariants.{Obtain, Release}
use Rattle.rules.specs.declared.Wait.{Wait}
use Rattle.rules.specs.Machine.{Tables, task_of, waits, names}
use Rattle.rules.specs.Semaphore.{wait_of}
use Rattle.rules.specs.Calls.{obtain, release, perform}
use Rattle.rules.specs.Runs.{Request}
use Rattle.rules.specs.Promises.{kind_of}
use Rattle.rules.proofs.Invariants.Lists.{bit_yes, bit_no}
use Rattle.rules.proofs.Invariants.FromTests.{agrees_facts}
use Rattle.sections.specs.Scripts.{Section, Script, Grant, script_at, section_at, index_of}
use Rattle.sections.specs.Scripts.Step.{NoStep}
use Rattle.sections.specs.Run.{Event, Place, at, State, place_at, moved, caller_of, obtainer_of, said, place_after, called, Act, act_of, ask, acted, event_of, run_from}
use Rattle.sections.specs.Run.Act.{Nothing, Calls, Steps}
use Rattle.sections.specs.Run.Event.{Turn, Other, NoEvent}
use Rattle.sections.specs.Refusals.{Input, is_allowed, event_fits}
use Rattle.sections.specs.History.{Shown, answers_in, shown_none, shown_call, shown_act, shown_at, history, grants_shown}
use Rattle.sections.proofs.Standing.{place_said}
use Rattle.sections.proofs.Callers.{obtained}
use Rattle.sections.proofs.Turns.{said_own, said_released, own_waits, given_up}
use Rattle.sections.proofs.Kept.{OfSection, Fixed, Sound, numbered, own_ids, back_of, first_seen, waits_seen, silent_seen}
use Rattle.sections.proofs.Events.{not_caller, same_task, not_first, not_second, event_next}
use Rattle.sections.proofs.Reading.{Counted, Reads, counted_on, Tells, tells, called_reads, quiet_reads}

or_no : (a b : Bool) → b ≡ false → (a or b) ≡ a
or_no a b e = choose_cases (λ (z : Bool). z ≡ a) a true b (λ t. sym t) (λ f. e ∙ sym f)

module _ (w : Input) (F : Fixed w) (s : State) (S : Sound w s) (obtains : ℕ → ℕ) (C : Counted w obtains s) where
  abbrev N : ℕ
  N = length w.scripts

  abbrev task : ℕ → ℕ
  task i = (script_at w.scripts i).task

  -- a script whose task did not make the call
  tells_seen : (call : Call) (priorities : List ℕ) (i : ℕ) → i < N → task i ≢ caller_of call → Tells w s obtains C call priorities i (place_at s i)
  tells_seen call priorities i h n =
      tells w s obtains C call priorities i h
      (waits_seen w F s S call priorities i h n
      ∙ ap (λ (b : Bool). choose (eqb (said s.tables call (perform s.tables call priorities) (task i)) 100) b false)
      (sym (or_no _ _ (silent_seen w F s S call priorities i h n))))
      (λ e. never e (silent_seen w F s S call priorities i h n)) (first_seen w F s S call priorities i h n)

  other_reads : (r : Request) → is_allowed w (Other r) ≡ true → Reads w obtains s (called w.scripts s r) (shown_call s.tables r)
  other_reads r allowed =
      called_reads w s obtains C r.call r.priorities s.places (λ i h. tells_seen r.call r.priorities i h (not_caller w F s S r allowed i h))

  module _ (i : ℕ) (h : i < N) where
    abbrev script : Script
    script = script_at w.scripts i

    abbrev p : Place
    p = place_at s i

    abbrev section : Section
    section = section_at script p.section

    abbrev c : ℕ
    c = pred (task i)

    module _ (ready : waits (task_of s.tables (task i)) ≡ false) (more : p.section < length script.sections) where
      obtain_reads : (wait : Wait) → p.position ≡ 0
          → Reads w obtains s (called w.scripts (moved s i p s.memory) (ask (Obtain (task i) section.id wait)))
          (shown_call s.tables (ask (Obtain (task i) section.id wait)))
      unfolding perform kind_of choose
      obtain_reads wait first =
          subst (λ (ps : List Place). Reads w obtains s
          (called w.scripts (record { tables = s.tables; memory = s.memory; places = ps; grants = s.grants }) (ask call))
          (shown_call s.tables (ask call))) (sym (set-get_or s.places i (at 0 0)))
          (called_reads w s obtains C call [] s.places
          (λ j l.
          elim (ℕ_discrete j i) [
            | yes e ↦ subst (λ (k : ℕ). Tells w s obtains C call [] k (place_at s k)) (sym e) own
            | no n ↦ tells_seen call [] j l (λ e. n (same_task w F s S j i l h e))
          ]))
        where
          call : Call
          call = Obtain (task i) section.id wait

          mine : eqb (obtainer_of call) (task i) ≡ true
          mine = eq-eqb (task i) (task i) refl

          waits_own : (q : ℕ) → q ≡ suc c
              → waits (task_of (obtain s.tables q section.id wait).tables (suc c)) ≡ eqb
              (said s.tables (Obtain q section.id wait) (obtain s.tables q section.id wait) (suc c)) 100
          waits_own q e =
              subst (λ (q : ℕ). waits (task_of (obtain s.tables q section.id wait).tables (suc c)) ≡ eqb
              (said s.tables (Obtain q section.id wait) (obtain s.tables q section.id wait) (suc c)) 100) (sym e)
              (own_waits s.tables c section.id (obtain s.tables (suc c) section.id wait) ready
              (obtained s.tables c section.id wait (agrees_facts s.tables S.agrees'))
              ∙ ap (λ (n : ℕ). eqb n 100) (sym (said_own s.tables c section.id wait (obtain s.tables (suc c) section.id wait) ready)))

          own : Tells w s obtains C call [] i p
          own =
              tells w s obtains C call [] i h
              (waits_own (task i) (numbered w F i h) ∙ ap (λ (q : ℕ). eqb (said s.tables call (perform s.tables call []) q) 100) (sym (numbered w F i h))
              ∙ is_bit (eqb (said s.tables call (perform s.tables call []) (task i)) 100)
              ∙ ap (λ (b : Bool). choose (eqb (said s.tables call (perform s.tables call []) (task i)) 100) b false)
              (sym (or_second (waits (task_of s.tables (task i))) _ mine)))
              (λ e. (ready, first)) (λ n. first)
            where
              is_bit : (b : Bool) → b ≡ choose b true false
              is_bit b = choose_cases (λ (z : Bool). b ≡ z) b true false (λ e. e) (λ e. e)

      release_reads : length section.steps < p.position
          → Reads w obtains s (called w.scripts (moved s i (at (suc p.section) 0) s.memory) (ask (Release (task i) section.id)))
          (shown_call s.tables (ask (Release (task i) section.id)))
      unfolding perform kind_of choose
      release_reads done =
          called_reads w s obtains C call [] (set s.places i (at (suc p.section) 0))
          (λ j l.
          elim (ℕ_discrete j i) [
            | yes e ↦ subst (λ (k : ℕ). Tells w s obtains C call [] k (get_or (set s.places i (at (suc p.section) 0)) k (at 0 0))) (sym e)
                (subst (Tells w s obtains C call [] i)
                (sym (get_or-set_same s.places i (at (suc p.section) 0) (at 0 0) (omega (arith, S.serial.many)))) own)
            | no n ↦ subst (Tells w s obtains C call [] j) (sym (get_or-set_other s.places i j (at (suc p.section) 0) (at 0 0) n))
                (tells_seen call [] j l (λ e. n (same_task w F s S j i l h e)))
          ])
        where
          call : Call
          call = Release (task i) section.id

          silent : said s.tables call (perform s.tables call []) (task i) ≡ 100
          silent = ap (said s.tables call (perform s.tables call [])) (numbered w F i h)
              ∙ said_released s.tables c (task i) section.id (perform s.tables call []) ready

          passed : place_after (said s.tables call (perform s.tables call []) (task i)) (at (suc p.section) 0) ≡ at (suc p.section) 0
          passed = ap (λ (n : ℕ). place_after n (at (suc p.section) 0)) silent ∙ place_said (at (suc p.section) 0)

          rests : (q : ℕ) → q ≡ suc c → ((y : ℕ) → OfSection w y → names (release s.tables q section.id).tables y ≡ true
              → names s.tables y ≡ true)
              → waits (task_of (release s.tables q section.id).tables (suc c)) ≡ false
          rests q e =
              subst (λ (q : ℕ). ((y : ℕ) → OfSection w y → names (release s.tables q section.id).tables y ≡ true
              → names s.tables y ≡ true)
              → waits (task_of (release s.tables q section.id).tables (suc c)) ≡ false) (sym e)
              (λ back. (given_up (OfSection w) s.tables (agrees_facts s.tables S.agrees') S.guards script (own_ids w F i h) c p
              (S.stands i h) ready more (omega arith) back).ready)

          own : Tells w s obtains C call [] i (at (suc p.section) 0)
          own =
              record {
                granted = λ e. absurd (omega (arith, silent));
                counts =
                    let inside : bit (leb 1 p.position or waits (task_of s.tables (task i))) ≡ 1 = bit_yes _
                    (or_first _ _ (le-leb 1 p.position (omega arith))) in
                    subst (λ (q : Place). counted_on obtains (obtainer_of call) (task i) ≡ q.section + bit
                    (leb 1 q.position or waits (task_of (perform s.tables call []).tables (task i)))) (sym passed)
                    (omega (
                      arith,
                      C.each i h,
                      bit_no (eqb 0 (task i)) (ne_eqb 0 (task i) (λ (e : 0 ≡ task i). omega (arith, F.tasks i h))),
                      bit_no
                          (waits (task_of (perform s.tables call []).tables (task i))) (rests (task i) (numbered w F i h) (back_of w F s S call [])),
                    ));
              }

      step_reads : 1 ≤ p.position → Reads w obtains s
          (acted w.scripts s i (Steps (get_or section.steps (pred p.position) NoStep) (at p.section (suc p.position)))) shown_none
      unfolding acted
      step_reads inside =
          quiet_reads w s obtains C F.tasks
          (acted w.scripts s i (Steps (get_or section.steps (pred p.position) NoStep) (at p.section (suc p.position)))) refl refl
          (λ j l.
          elim (ℕ_discrete j i) [
            | yes e ↦ subst (λ (k : ℕ). Same k) (sym e) (
              ap (λ (q : Place). q.section) here,
              ap (λ (q : Place). leb 1 q.position) here ∙ le-leb 1 (suc p.position) (omega arith)
                  ∙ sym (le-leb 1 p.position inside),
            )
            | no n ↦ let there = get_or-set_other s.places i j (at p.section (suc p.position))
                (at 0 0) n in (ap (λ (q : Place). q.section) there, ap (λ (q : Place). leb 1 q.position) there)
          ])
        where
          places : List Place
          places = set s.places i (at p.section (suc p.position))

          Same : ℕ → Type 0
          Same k = ((get_or places k (at 0 0)).section ≡ (place_at s k).section) × (leb 1 (get_or places k (at 0 0)).position ≡ leb 1 (place_at s k).position)

          here : get_or places i (at 0 0) ≡ at p.section (suc p.position)
          here = get_or-set_same s.places i (at p.section (suc p.position)) (at 0 0) (omega (arith, S.serial.many))

    turn_reads : Reads w obtains s (acted w.scripts s i (act_of w.scripts s i)) (shown_act s.tables (act_of w.scripts s i))
    unfolding act_of acted
    turn_reads =
        choose_cases Q _ _ _ (λ e. quiet_reads w s obtains C F.tasks s refl refl (λ j l. (refl, refl)))
        (λ e.
        let ready : waits (task_of s.tables (task i)) ≡ false = not_first _ _ e in
        let more : p.section < length script.sections = leb-false _ _ (not_second _ _ e) in
        choose_cases Q _ _ _ (λ z. obtain_reads ready more (wait_of section.options section.timeout) (eqb-true _ _ z))
        (λ z.
        let some : p.position ≢ 0 = eqb-false _ _ z in
        choose_cases Q _ _ _ (λ y. step_reads ready more (omega arith)) (λ y. release_reads ready more (leb-false _ _ y))))
      where
        Q : Act → Type 0
        Q a = Reads w obtains s (acted w.scripts s i a) (shown_act s.tables a)

  event_reads : (e : Event) → is_allowed w e ≡ true → Reads w obtains s (event_of w.scripts s e) (shown_at w.scripts s e)
  unfolding event_of
  event_reads (Turn q) allowed = turn_reads (index_of q w.scripts) (ltb-true _ _ allowed)
  event_reads (Other r) allowed = other_reads r allowed
  event_reads NoEvent allowed = quiet_reads w s obtains C F.tasks s refl refl (λ j l. (refl, refl))

-- an event shows the tasks' answers
act_answers : (t : Tables) (a : Act) (answers : List ℕ) → (shown_act t a answers).answers ≡ answers
act_answers t Nothing answers = refl
act_answers t (Calls call p) answers = refl
act_answers t (Steps step p) answers = refl

event_answers : (scripts : List Script) (s : State) (e : Event) (answers : List ℕ) → (shown_at scripts s e answers).answers ≡ answers
event_answers scripts s (Turn q) answers = act_answers s.tables (act_of scripts s (index_of q scripts)) answers
event_answers scripts s (Other r) answers = refl
event_answers scripts s NoEvent answers = refl

-- from any sound state on
pub run_reads : (w : Input) → Fixed w → (s : State) → Sound w s → (obtains : ℕ → ℕ) → Counted w obtains s → (events : List Event)
    → ((k : ℕ) → k < length events → is_allowed w (get_or events k NoEvent) ≡ true) → ((k : ℕ) → k < length events → event_fits (get_or events k NoEvent) ≡ true)
    → (run_from w.scripts s events).grants ≡ s.grants ++ grants_shown w.scripts obtains (answers_in s.tables) (history w.scripts s events)
unfolding run_from history grants_shown
run_reads w F s S obtains C [] allowed fit = sym (append-nil s.grants)
run_reads w F s S obtains C (e ∷ es) allowed fit =
    let u : State = event_of w.scripts s e in
    let h : Shown = shown_at w.scripts s e (answers_in u.tables) in
    let r : Reads w obtains s u (shown_at w.scripts s e) = event_reads w F s S obtains C e (allowed 0 (omega arith)) in
    run_reads w F u (event_next w F s S e (fit 0 (omega arith)) (allowed 0 (omega arith))).sound (counted_on obtains h.obtainer) r.counts es
    (λ k h. allowed (suc k) (omega arith)) (λ k h. fit (suc k) (omega arith))
    ∙ ap (λ (before : List ℕ). u.grants ++ grants_shown w.scripts (counted_on obtains h.obtainer) before (history w.scripts u es))
    (sym (event_answers w.scripts s e (answers_in u.tables)))
    ∙ ap (λ (gs : List Grant). gs ++ grants_shown w.scripts (counted_on obtains h.obtainer) h.answers (history w.scripts u es)) r.grants
    ∙ append_assoc s.grants _ _
