-- Each event keeps a sound state sound: a call by someone else, and a turn that obtains, takes a step or releases.
use mathlib.Core.Path.{◌≡◌, refl, sym, subst, ap, ◌∙◌}
use mathlib.Core.Bool.{Bool, true, false}
use mathlib.Core.List.{List, []}
use mathlib.Core.Logic.{inl, inr, ⊎_elim, ◌≢◌}
use Prim.Native.Nat.{ℕ, suc, pred, ◌%◌, ◌≤◌, ◌<◌}
use native.Mathlib.Omega.{arith}
use native.Mathlib.Decide.{ℕ_discrete, dec_lt}
use lib.Dec.{leb, eqb}
use lib.ListN.{length, get_or, set, drop, get_or-eq_default}
use lib.Seq.{get_or-set_same, get_or-set_other, set-get_or}
use borrow.Author.Tests.{eqb-true, eqb-false, ltb-true, ltb-false, leb-true, leb-false, le-leb, eq-eqb}
use Rattle.laws.specs.Choose.{◌or◌}
use Rattle.laws.proofs.Choose.{choose_cases, and_both, both_and, never, tested, isnt_false, or_first, or_second}
use Rattle.rules.specs.declared.Call.{Call}
use Rattle.rules.specs.declared.Call.TheVariants.{Obtain, Release}
use Rattle.rules.specs.declared.Wait.{Wait}
use Rattle.rules.specs.Numbers.{max_number}
use Rattle.rules.specs.Machine.{Tables, slot_of, task_of, waits, names}
use Rattle.rules.specs.Semaphore.{wait_of}
use Rattle.rules.specs.Calls.{obtain, release, perform}
use Rattle.rules.specs.Runs.{Request}
use Rattle.rules.specs.Fits.{fits, wait_fits, call_fits}
use Rattle.rules.proofs.Invariants.Facts.{Facts}
use Rattle.rules.proofs.Invariants.FromTests.{agrees_facts}
use Rattle.rules.proofs.Waits.{wait_fits_lem}
use Rattle.rules.proofs.History.Used.{Used}
use Rattle.sections.specs.Scripts.{Step, Section, Script, Memory, Grant, script_at, section_at, index_of, steps_of, do_step, do_steps}
use Rattle.sections.specs.Scripts.Step.{NoStep}
use Rattle.sections.specs.Run.{Event, Place, at, State, place_at, moved, caller_of, said, place_after, called, Act, act_of, ask, acted, event_of}
use Rattle.sections.specs.Run.Act.{Steps}
use Rattle.sections.specs.Run.Event.{Turn, Other, NoEvent}
use Rattle.sections.specs.Refusals.{Input, is_allowed, event_fits, is_step}
use Rattle.sections.proofs.Others.{handed_to}
use Rattle.sections.proofs.Standing.{Owns, id_at, Stand, place_said}
use Rattle.sections.proofs.Turns.{said_released, stand_obtain, stand_release}
use Rattle.sections.proofs.Footprints.{steps_at_lem, drop_steps, step_commutes}
use Rattle.sections.proofs.Finishing.{grant_is}
use Rattle.sections.proofs.Indices.{index_task}
use Rattle.sections.proofs.Serial.{grant_of, is_open_at, rest_of, same_script, step_taken}
use Rattle.sections.proofs.Serial.Move.{passes}
use Rattle.sections.proofs.Kept.{OfSection, Fixed, Sound, move_said, numbered, own_ids, back_of, granted_seen, Goes, goes_seen, Next, called_next}

-- a used identifier is a number of 32 bits
id_fits : (t : Tables) → Facts t → (x : ℕ) → Used t x → x ≤ max_number
id_fits t f x u =
    let most : (slot_of t (x % 65536)).generation ≤ 65535 = (f.slots (pred (x % 65536))).generation in
    omega (arith, u.reached)

pub not_first : (a b : Bool) → (a or b) ≡ false → a ≡ false
not_first a b e = ⊎_elim (λ (t : a ≡ true). never (or_first a b t) e) (λ (f : a ≡ false). f) (tested a)

pub not_second : (a b : Bool) → (a or b) ≡ false → b ≡ false
not_second a b e = ⊎_elim (λ (t : b ≡ true). never (or_second a b t) e) (λ (f : b ≡ false). f) (tested b)

module _ (w : Input) (F : Fixed w) (s : State) (S : Sound w s) where
  abbrev N : ℕ
  N = length w.scripts

  abbrev task : ℕ → ℕ
  task i = (script_at w.scripts i).task

  pub same_task : (i j : ℕ) → i < N → j < N → task i ≡ task j → i ≡ j
  same_task = same_script w.scripts F.single w.memory s S.serial

  -- ---- a call by someone else

  pub not_caller : (r : Request) → is_allowed w (Other r) ≡ true → (i : ℕ) → i < N → task i ≢ caller_of r.call
  not_caller r allowed i h e =
      let out : N ≤ index_of (caller_of r.call) w.scripts = ltb-false _ _ (isnt_false _ allowed) in
      let in' : index_of (caller_of r.call) w.scripts ≡ i = ap (λ (q : ℕ). index_of q w.scripts) (sym e) ∙ F.single i h in
      omega arith

  other_next : (r : Request) → call_fits r.call ≡ true → is_allowed w (Other r) ≡ true → Next w s (called w.scripts s r)
  other_next r fits allowed =
      called_next w F s S r.call r.priorities fits s.places (λ i h. goes_seen w F s S r.call r.priorities i h (not_caller r allowed i h))
      (λ i k h l a b.
      same_task i k h l (sym (granted_seen w F s S r.call r.priorities i h (not_caller r allowed i h) a)
      ∙ granted_seen w F s S r.call r.priorities k l (not_caller r allowed k l) b))

  -- ---- a turn of script i

  module _ (i : ℕ) (h : i < N) where
    abbrev script : Script
    script = script_at w.scripts i

    abbrev p : Place
    p = place_at s i

    abbrev section : Section
    section = section_at script p.section

    abbrev c : ℕ
    c = pred (task i)

    module _ (ready : waits (task_of s.tables (task i)) ≡ false) (more : p.section < length script.sections) where
      x_fits : section.id ≤ max_number
      x_fits = id_fits s.tables (agrees_facts s.tables S.agrees') section.id (S.guards _ (own_ids w F i h p.section more)).used

      -- the obtain

      obtain_next : (wait : Wait) → wait_fits wait ≡ true → p.position ≡ 0
          → Next w s (called w.scripts (moved s i p s.memory) (ask (Obtain (task i) section.id wait)))
      unfolding perform
      obtain_next wait ticks first =
          subst (λ (ps : List Place). Next w s
          (called w.scripts (record { tables = s.tables; memory = s.memory; places = ps; grants = s.grants }) (ask call)))
          (sym (set-get_or s.places i (at 0 0)))
          (called_next w F s S call [] (both_and (le-leb _ _ (F.small i h)) (both_and (le-leb _ _ x_fits) ticks)) s.places goes
          (λ j k l m a b. only j l a ∙ sym (only k m b)))
        where
          call : Call
          call = Obtain (task i) section.id wait

          stand_own : (q : ℕ) → q ≡ suc c
              → ((y : ℕ) → OfSection w y → names (obtain s.tables q section.id wait).tables y ≡ true → names s.tables y ≡ true)
              → Stand (OfSection w) (obtain s.tables q section.id wait).tables script c
              (place_after (said s.tables (Obtain q section.id wait) (obtain s.tables q section.id wait) q) p)
          stand_own q e =
              subst (λ (q : ℕ). ((y : ℕ) → OfSection w y → names (obtain s.tables q section.id wait).tables y ≡ true → names s.tables y ≡ true)
              → Stand (OfSection w) (obtain s.tables q section.id wait).tables script c
              (place_after (said s.tables (Obtain q section.id wait) (obtain s.tables q section.id wait) q) p)) (sym e)
              (stand_obtain (OfSection w) s.tables (agrees_facts s.tables S.agrees') S.guards script (own_ids w F i h) c p
              (S.stands i h) ready more wait first)

          own : Goes w F s S call [] i p
          own =
              record {
                stand = stand_own (task i) (numbered w F i h) (back_of w F s S call []);
                move = move_said section.steps (said s.tables call (perform s.tables call []) (task i)) p (λ n. first);
                same = λ e. refl;
              }

          goes : (j : ℕ) → j < N → Goes w F s S call [] j (place_at s j)
          goes j l =
              elim (ℕ_discrete j i) [
                | yes e ↦ subst (λ (k : ℕ). Goes w F s S call [] k (place_at s k)) (sym e) own
                | no n ↦ goes_seen w F s S call [] j l (λ e. n (same_task j i l h e))
              ]

          -- an obtain hands nothing to anybody else
          only : (j : ℕ) → j < N → said s.tables call (perform s.tables call []) (task j) ≡ 0 → j ≡ i
          only j l a =
              elim (ℕ_discrete j i) [
                | yes e ↦ e
                | no n ↦ absurd (omega (arith, granted_seen w F s S call [] j l (λ e. n (same_task j i l h e)) a, F.tasks j l))
              ]

      -- the release

      release_next : length section.steps < p.position
          → Next w s (called w.scripts (moved s i (at (suc p.section) 0) s.memory) (ask (Release (task i) section.id)))
      unfolding perform
      release_next done =
          called_next w F s S call [] (both_and (le-leb _ _ (F.small i h)) (le-leb _ _ x_fits)) (set s.places i (at (suc p.section) 0)) goes one
        where
          call : Call
          call = Release (task i) section.id

          silent : said s.tables call (perform s.tables call []) (task i) ≡ 100
          silent = ap (said s.tables call (perform s.tables call [])) (numbered w F i h)
              ∙ said_released s.tables c (task i) section.id (perform s.tables call []) ready

          stand_own : (q : ℕ) → q ≡ suc c
              → ((y : ℕ) → OfSection w y → names (release s.tables q section.id).tables y ≡ true → names s.tables y ≡ true)
              → Stand (OfSection w) (release s.tables q section.id).tables script c (at (suc p.section) 0)
          stand_own q e =
              subst (λ (q : ℕ). ((y : ℕ) → OfSection w y → names (release s.tables q section.id).tables y ≡ true → names s.tables y ≡ true)
              → Stand (OfSection w) (release s.tables q section.id).tables script c (at (suc p.section) 0)) (sym e)
              (stand_release (OfSection w) s.tables (agrees_facts s.tables S.agrees') S.guards script (own_ids w F i h) c p
              (S.stands i h) ready more (omega arith))

          passed : place_after (said s.tables call (perform s.tables call []) (task i)) (at (suc p.section) 0) ≡ at (suc p.section) 0
          passed = ap (λ (n : ℕ). place_after n (at (suc p.section) 0)) silent ∙ place_said (at (suc p.section) 0)

          own : Goes w F s S call [] i (at (suc p.section) 0)
          own =
              record {
                stand = subst (Stand (OfSection w) (perform s.tables call []).tables script c) (sym passed)
                    (stand_own (task i) (numbered w F i h) (back_of w F s S call []));
                move = passes passed (ap (λ (n : ℕ). eqb n 0) silent) (inr (omega arith));
                same = λ e. never e (ap (λ (n : ℕ). eqb n 0) silent);
              }

          goes : (j : ℕ) → j < N → Goes w F s S call [] j (get_or (set s.places i (at (suc p.section) 0)) j (at 0 0))
          goes j l =
              elim (ℕ_discrete j i) [
                | yes e ↦ subst (λ (k : ℕ). Goes w F s S call [] k (get_or (set s.places i (at (suc p.section) 0)) k (at 0 0))) (sym e)
                    (subst (Goes w F s S call [] i) (sym (get_or-set_same s.places i (at (suc p.section) 0) (at 0 0) (omega (arith, S.serial.many)))) own)
                | no n ↦ subst (Goes w F s S call [] j) (sym (get_or-set_other s.places i j (at (suc p.section) 0) (at 0 0) n))
                    (goes_seen w F s S call [] j l (λ e. n (same_task j i l h e)))
              ]

          handed : (j : ℕ) → j < N → said s.tables call (perform s.tables call []) (task j) ≡ 0 → handed_to s.tables call ≡ task j
          handed j l a =
              elim (ℕ_discrete j i) [
                | yes e ↦ absurd (omega (arith, subst (λ (k : ℕ). said s.tables call (perform s.tables call []) (task k) ≡ 0) e a, silent))
                | no n ↦ granted_seen w F s S call [] j l (λ e. n (same_task j i l h e)) a
              ]

          one : (j k : ℕ) → j < N → k < N → said s.tables call (perform s.tables call []) (task j) ≡ 0
              → said s.tables call (perform s.tables call []) (task k) ≡ 0 → j ≡ k
          one j k l m a b = same_task j k l m (sym (handed j l a) ∙ handed k m b)

      -- a step

      step_next : 1 ≤ p.position → p.position ≤ length section.steps
          → Next w s (acted w.scripts s i (Steps (get_or section.steps (pred p.position) NoStep) (at p.section (suc p.position))))
      unfolding acted do_steps
      step_next inside last = record { sound = sound; granted = inl refl }
        where
          places : List Place
          places = set s.places i (at p.section (suc p.position))

          st : Stand (OfSection w) s.tables script c p
          st = S.stands i h

          further : Stand (OfSection w) s.tables script c (at p.section (suc p.position))
          further =
              record {
                within = λ z. more;
                open' = λ z. st.open' inside;
                own = λ y g n e. (omega arith, (st.own y g n e).1);
                waits' = λ z. never z ready;
              }

          step : Step
          step = get_or section.steps (pred p.position) NoStep

          fits_step : is_step w.ids section.id step ≡ true
          fits_step = steps_at_lem w.ids section.id section.steps (pred p.position) (F.steps i p.section h more) (omega arith)

          -- another open section: another task, and another identifier
          other_id : (j : ℕ) → j < N → j ≢ i → 1 ≤ (place_at s j).position → section.id ≢ id_at (script_at w.scripts j) (place_at s j).section
          other_id j l n inside' e =
              let mine : Owns s.tables (suc c) section.id = st.open' inside in
              let its : Owns s.tables (suc (pred (task j))) (id_at (script_at w.scripts j) (place_at s j).section) = (S.stands j l).open' inside' in
              let same : (slot_of s.tables (section.id % 65536)).owner ≡ suc (pred (task j)) = subst
              (λ (y : ℕ). (slot_of s.tables (y % 65536)).owner ≡ suc (pred (task j))) (sym e) its.owner in
              n (same_task j i l h (numbered w F j l ∙ sym same ∙ mine.owner ∙ sym (numbered w F i h)))

          commutes : (g : Grant) → g ≢ grant_of w.scripts i p.section → (k : Memory)
              → do_steps g.task (rest_of w.scripts s g) (do_step (task i) step k) ≡ do_step (task i) step (do_steps g.task (rest_of w.scripts s g) k)
          commutes g n k =
              choose_cases (λ (ss : List Step). do_steps g.task ss (do_step (task i) step k) ≡ do_step (task i) step (do_steps g.task ss k))
              (is_open_at g.section (place_at s j)) (drop (pred (place_at s j).position) (steps_of w.scripts g)) []
              (λ o.
              elim (dec_lt j N) [
                | yes l ↦ inside_other l (eqb-true _ _ (and_both _ _ o).0) (leb-true _ _ (and_both _ _ o).1)
                | no out ↦ never (and_both _ _ o).1
                    (ap (λ (q : Place). leb 1 q.position) (get_or-eq_default s.places (at 0 0) (omega (arith, S.serial.many))))
              ])
              (λ o. refl)
            where
              j : ℕ
              j = index_of g.task w.scripts

              inside_other : j < N → g.section ≡ (place_at s j).section → 1 ≤ (place_at s j).position
                  → do_steps g.task (drop (pred (place_at s j).position) (steps_of w.scripts g)) (do_step (task i) step k)
                  ≡ do_step (task i) step (do_steps g.task (drop (pred (place_at s j).position) (steps_of w.scripts g)) k)
              inside_other l e inside' =
                  step_commutes w.ids section.id (id_at (script_at w.scripts j) g.section) (task i) g.task
                  (λ z. other_id j l other inside' (z ∙ ap (id_at (script_at w.scripts j)) e))
                  (λ z. other (same_task j i l h (its ∙ one_more z))) step (drop (pred (place_at s j).position) (steps_of w.scripts g)) k fits_step
                  (drop_steps w.ids (id_at (script_at w.scripts j) g.section) (pred (place_at s j).position) (steps_of w.scripts g)
                  (F.steps j g.section l (subst (λ (m : ℕ). m < length (script_at w.scripts j).sections) (sym e) ((S.stands j l).within inside'))))
                where
                  its : task j ≡ g.task
                  its = index_task g.task w.scripts l

                  other : j ≢ i
                  other z = n (grant_is g (grant_of w.scripts i p.section)
                      (both_and (eq-eqb _ _ (sym its ∙ ap task z))
                      (eq-eqb _ _ (e ∙ ap (λ (m : ℕ). (place_at s m).section) z))))

                  one_more : pred (task i) ≡ pred g.task → g.task ≡ task i
                  one_more z = sym its ∙ numbered w F j l ∙ ap suc (ap pred its ∙ sym z) ∙ sym (numbered w F i h)

          sound : Sound w (acted w.scripts s i (Steps step (at p.section (suc p.position))))
          sound =
              record {
                agrees' = S.agrees';
                started = S.started;
                guards = S.guards;
                stands = λ j l.
                    elim (ℕ_discrete j i) [
                      | yes e ↦ subst (λ (k : ℕ). Stand (OfSection w) s.tables (script_at w.scripts k) (pred (task k)) (get_or places k (at 0 0))) (sym e)
                          (subst (Stand (OfSection w) s.tables script c)
                          (sym (get_or-set_same s.places i _ (at 0 0) (omega (arith, S.serial.many)))) further)
                      | no n ↦ subst (Stand (OfSection w) s.tables (script_at w.scripts j) (pred (task j)))
                          (sym (get_or-set_other s.places i j _ (at 0 0) n)) (S.stands j l)
                    ];
                serial = step_taken w.scripts F.single w.memory s S.serial i h inside last commutes;
              }

    turn_next : Next w s (acted w.scripts s i (act_of w.scripts s i))
    unfolding act_of acted
    turn_next =
        choose_cases Q _ _ _ (λ e. record { sound = S; granted = inl refl })
        (λ e.
        let ready : waits (task_of s.tables (task i)) ≡ false = not_first _ _ e in
        let more : p.section < length script.sections = leb-false _ _ (not_second _ _ e) in
        choose_cases Q _ _ _
        (λ z. obtain_next ready more (wait_of section.options section.timeout)
        (wait_fits_lem section.options section.timeout (F.timeouts i p.section h more)) (eqb-true _ _ z))
        (λ z.
        let some : p.position ≢ 0 = eqb-false _ _ z in
        choose_cases Q _ _ _
        (λ y. step_next ready more (omega arith) (leb-true _ _ y)) (λ y. release_next ready more (leb-false _ _ y))))
      where
        Q : Act → Type 0
        Q a = Next w s (acted w.scripts s i a)

  -- ---- any event

  pub event_next : (e : Event) → event_fits e ≡ true → is_allowed w e ≡ true → Next w s (event_of w.scripts s e)
  unfolding event_of
  event_next (Turn q) fits allowed = turn_next (index_of q w.scripts) (ltb-true _ _ allowed)
  event_next (Other r) fits allowed = other_next r fits allowed
  event_next NoEvent fits allowed = record { sound = S; granted = inl refl }
