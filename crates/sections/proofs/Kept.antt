-- Every event of a run that is not refused keeps what holds of the tables, the places, the grants and the memory.
use mathlib.Core.Path.{◌≡◌, refl, sym, subst, ap, ◌∙◌}
use mathlib.Core.Bool.{true, false}
use mathlib.Core.List.{List, [], ◌∷◌, ◌++◌, append-nil}
use mathlib.Core.Logic.{◌⊎◌, inl, inr, ⊎_elim, ◌≢◌}
use Prim.Native.Nat.{ℕ, suc, pred, ◌≤◌, ◌<◌}
use native.Mathlib.Omega.{arith}
use native.Mathlib.Decide.{ℕ_discrete}
use lib.Dec.{eqb}
use lib.ListN.{length, get_or}
use borrow.Author.Tests.{eqb-true, eq-eqb, ne_eqb}
use Rattle.laws.specs.Choose.{choose}
use Rattle.laws.specs.Rows.{rows}
use Rattle.laws.proofs.Choose.{choose_cases, if_yes, if_no}
use Rattle.laws.proofs.Fit.{length_tabulate, get_d_tabulate, tabulate_same}
use Rattle.rules.specs.declared.Call.{Call}
use Rattle.rules.specs.Numbers.{max_number}
use Rattle.rules.specs.Machine.{Tables, waits, names}
use Rattle.rules.specs.Agreement.{Agrees}
use Rattle.rules.specs.Calls.{Outcome, perform}
use Rattle.rules.specs.Fits.{call_fits}
use Rattle.rules.proofs.Invariants.Facts.{nth_task, Facts}
use Rattle.rules.proofs.Invariants.FromTests.{agrees_facts}
use Rattle.rules.proofs.Invariants.Kept.{performs, kept}
use Rattle.rules.proofs.Invariants.Links.{SameWait}
use Rattle.sections.specs.Scripts.{Step, Script, Grant, script_at, section_at, index_of}
use Rattle.sections.specs.Run.{Place, at, State, place_at, caller_of, obtainer_of, said, place_after, grant_if, called}
use Rattle.sections.specs.Refusals.{Input}
use Rattle.sections.proofs.Others.{Woken, Observed, handed_to}
use Rattle.sections.proofs.Observing.{observed}
use Rattle.sections.proofs.Standing.{Guard, id_at, Stand, back, guard_kept, place_said, place_granted, place_skipped, unlike, not_obtainer, said_same, said_woken, stand_other}
use Rattle.sections.proofs.Footprints.{AllSteps}
use Rattle.sections.proofs.Indices.{some_or_none, rows_none, rows_one}
use Rattle.sections.proofs.Serial.{Serial, Move, all_moved}
use Rattle.sections.proofs.Serial.Move.{stays, passes, enters}

-- an identifier of some section
pub record OfSection (w : Input) (y : ℕ) : Type 0 where
  pub script : ℕ
  pub section : ℕ
  pub low : script < length w.scripts
  pub high : section < length (script_at w.scripts script).sections
  pub is : y ≡ id_at (script_at w.scripts script) section

-- what is true of the scripts for good
pub record Fixed (w : Input) : Type 0 where
  pub single : (i : ℕ) → i < length w.scripts → index_of (script_at w.scripts i).task w.scripts ≡ i
  pub tasks : (i : ℕ) → i < length w.scripts → 1 ≤ (script_at w.scripts i).task
  pub small : (i : ℕ) → i < length w.scripts → (script_at w.scripts i).task ≤ max_number
  pub steps : (i k : ℕ) → i < length w.scripts → k < length (script_at w.scripts i).sections
      → AllSteps w.ids (id_at (script_at w.scripts i) k) (section_at (script_at w.scripts i) k).steps
  pub timeouts : (i k : ℕ) → i < length w.scripts → k < length (script_at w.scripts i).sections
      → (section_at (script_at w.scripts i) k).timeout ≤ max_number

-- and of a state that a run comes to
pub record Sound (w : Input) (s : State) : Type 0 where
  pub agrees' : Agrees s.tables
  pub started : 1 ≤ length w.scripts → 1 ≤ length s.tables.tasks
  pub guards : (y : ℕ) → OfSection w y → Guard s.tables y
  pub stands : (i : ℕ) → i < length w.scripts
      → Stand (OfSection w) s.tables (script_at w.scripts i) (pred (script_at w.scripts i).task) (place_at s i)
  pub serial : Serial w.scripts w.memory s

-- one event grants at most one section
abbrev pub AtMostOne : List Grant → List Grant → Type 0
AtMostOne before after = (after ≡ before) ⊎ ((g : Grant) × (after ≡ before ++ g ∷ []))

-- what an event leaves
pub record Next (w : Input) (s s' : State) : Type 0 where
  pub sound : Sound w s'
  pub granted : AtMostOne s.grants s'.grants

-- a script's move, by what a call says to its obtain
pub move_said : (steps : List Step) (answer : ℕ) (p : Place) → (answer ≢ 100 → p.position ≡ 0) → Move steps p (place_after answer p) (eqb answer 0)
move_said steps answer p first =
    elim (ℕ_discrete answer 100) [
      | yes e ↦ stays (ap (λ (n : ℕ). place_after n p) e ∙ place_said p) (ap (λ (n : ℕ). eqb n 0) e)
      | no n ↦ elim (ℕ_discrete answer 0) [
        | yes e ↦ enters (ap (λ (n : ℕ). place_after n p) e ∙ place_granted p) (ap (λ (n : ℕ). eqb n 0) e) (first n)
        | no m ↦ passes (place_skipped answer p m n) (ne_eqb answer 0 m) (inl (first n))
      ]
    ]

one_more : (q : ℕ) → 1 ≤ q → q ≡ suc (pred q)
one_more q h = omega arith

module _ (w : Input) (F : Fixed w) where
  abbrev N : ℕ
  N = length w.scripts

  abbrev script : ℕ → Script
  script i = script_at w.scripts i

  abbrev task : ℕ → ℕ
  task i = (script i).task

  -- its number less one, by which the tables are read
  abbrev c : ℕ → ℕ
  c i = pred (task i)

  pub numbered : (i : ℕ) → i < N → task i ≡ suc (c i)
  numbered i h = one_more (task i) (F.tasks i h)

  pub own_ids : (i : ℕ) → i < N → (k : ℕ) → k < length (script i).sections → OfSection w (id_at (script i) k)
  own_ids i h k l = record { script = i; section = k; low = h; high = l; is = refl }

  module _ (s : State) (S : Sound w s) (call : Call) (priorities : List ℕ) where
    abbrev t : Tables
    t = s.tables

    abbrev o : Outcome
    o = perform t call priorities

    abbrev answer : ℕ → ℕ
    answer i = said t call o (task i)

    facts : Facts t
    facts = agrees_facts t S.agrees'

    some : {i : ℕ} → i < N → 1 ≤ length t.tasks
    some h = S.started (omega arith)

    pub back_of : (y : ℕ) → OfSection w y → names o.tables y ≡ true → names t y ≡ true
    back_of y g = back t S.agrees' call priorities (some g.low) y (S.guards y g)

    -- ---- a script whose task did not make the call

    module _ (i : ℕ) (h : i < N) (other : task i ≢ caller_of call) where
      seen : Observed t o.tables (c i) (handed_to t call)
      seen = observed t facts (c i) call priorities (some h) (λ e. other (numbered i h ∙ e))

      apart : suc (c i) ≢ caller_of call
      apart e = other (numbered i h ∙ e)

      answer_is : answer i ≡ said t call o (suc (c i))
      answer_is = ap (said t call o) (numbered i h)

      pub stand_seen : Stand (OfSection w) o.tables (script i) (c i) (place_after (answer i) (place_at s i))
      stand_seen =
          subst (λ (n : ℕ). Stand (OfSection w) o.tables (script i) (c i) (place_after n (place_at s i))) (sym answer_is)
          (stand_other (OfSection w) t facts S.guards (script i) (own_ids i h) (c i) call o apart seen back_of (place_at s i) (S.stands i h))

      same_said : SameWait (nth_task t (c i)) (nth_task o.tables (c i)) → answer i ≡ 100
      same_said z =
          answer_is ∙ said_same (OfSection w) t facts S.guards (script i) (own_ids i h) (c i) call o apart seen back_of (place_at s i) (S.stands i h) z

      woken_said : Woken t o.tables (c i) (handed_to t call) → answer i ≡ (nth_task o.tables (c i)).answer
      woken_said z =
          answer_is ∙ said_woken (OfSection w) t facts S.guards (script i) (own_ids i h) (c i) call o apart seen back_of (place_at s i) (S.stands i h) z

      pub first_seen : answer i ≢ 100 → (place_at s i).position ≡ 0
      first_seen n =
          ⊎_elim (λ (z : SameWait (nth_task t (c i)) (nth_task o.tables (c i))). absurd (n (same_said z)))
          (λ (z : Woken t o.tables (c i) (handed_to t call)). ((S.stands i h).waits' z.waited).1)
          seen.task

      -- granted: the semaphore was handed to it
      pub granted_seen : answer i ≡ 0 → handed_to t call ≡ task i
      granted_seen e =
          ⊎_elim (λ (z : SameWait (nth_task t (c i)) (nth_task o.tables (c i))). absurd (omega (arith, same_said z)))
          (λ (z : Woken t o.tables (c i) (handed_to t call)). (z.got (sym (woken_said z) ∙ e)).only ∙ sym (numbered i h))
          seen.task

      -- it waits on, or its wait has ended
      pub waits_seen : waits (nth_task o.tables (c i)) ≡ choose (eqb (answer i) 100) (waits (nth_task t (c i))) false
      waits_seen =
          ⊎_elim
          (λ (z : SameWait (nth_task t (c i)) (nth_task o.tables (c i))). ap (λ (n : ℕ). eqb n 100) z.answer
          ∙ sym (if_yes _ _ (eq-eqb (answer i) 100 (same_said z))))
          (λ (z : Woken t o.tables (c i) (handed_to t call)).
          z.ready ∙ sym (if_no _ _ (ne_eqb (answer i) 100 (λ e. unlike (nth_task o.tables (c i)) z.ready (sym (woken_said z) ∙ e)))))
          seen.task

      pub silent_seen : eqb (obtainer_of call) (task i) ≡ false
      silent_seen = not_obtainer call (task i) (F.tasks i h) other

    -- ---- all scripts

    -- a script after the call, where its place was p when the call was made
    pub record Goes (i : ℕ) (p : Place) : Type 0 where
      pub stand : Stand (OfSection w) o.tables (script i) (c i) (place_after (answer i) p)
      pub move : Move (section_at (script i) (place_at s i).section).steps (place_at s i) (place_after (answer i) p) (eqb (answer i) 0)
      pub same : eqb (answer i) 0 ≡ true → p.section ≡ (place_at s i).section

    pub goes_seen : (i : ℕ) → i < N → task i ≢ caller_of call → Goes i (place_at s i)
    goes_seen i h n = record { stand = stand_seen i h n; move = move_said _ (answer i) (place_at s i) (first_seen i h n); same = λ e. refl }

    module _ (fits : call_fits call ≡ true) (ps : List Place) (goes : (i : ℕ) → i < N → Goes i (get_or ps i (at 0 0)))
        (sole : (i k : ℕ) → i < N → k < N → answer i ≡ 0 → answer k ≡ 0 → i ≡ k) where
      abbrev before : State
      before = record { tables = t; memory = s.memory; places = ps; grants = s.grants }

      abbrev after : State
      after = called w.scripts before (record { call = call; priorities = priorities })

      called_sound : Sound w after
      unfolding called
      called_sound =
          record {
            agrees' = subst (λ (z : Outcome). Agrees z.tables) (performs t call priorities S.agrees') (kept t call priorities fits S.agrees');
            started = λ h.
                let size : length o.tables.tasks ≡ length t.tasks = (observed t facts (caller_of call) call priorities (S.started h)
                (λ e. omega arith)).size in
                let was : 1 ≤ length t.tasks = S.started h in
                omega arith;
            guards = λ y g. guard_kept t S.agrees' call priorities (some g.low) y (S.guards y g);
            stands = λ i h. subst (Stand (OfSection w) o.tables (script i) (c i)) (sym (place i h)) (goes i h).stand;
            serial = all_moved w.scripts F.single w.memory s S.serial after refl (length_tabulate N _) (λ i. eqb (answer i) 0)
                (λ i h. subst (λ (p : Place). Move (section_at (script i) (place_at s i).section).steps (place_at s i) p (eqb (answer i) 0)) (sym (place i h))
                (goes i h).move)
                (ap (λ (gs : List (List Grant)). s.grants ++ rows gs) (tabulate_same N _ _ grants))
                (λ i k h l a b. sole i k h l (eqb-true _ _ a) (eqb-true _ _ b));
          }
        where
          place : (i : ℕ) → i < N → place_at after i ≡ place_after (answer i) (get_or ps i (at 0 0))
          place i h = get_d_tabulate N (λ i. place_after (answer i) (get_or ps i (at 0 0))) i (at 0 0) h

          grants : (i : ℕ) → i < N → grant_if (eqb (answer i) 0) (task i) (get_or ps i (at 0 0)).section ≡ grant_if (eqb (answer i) 0) (task i)
              (place_at s i).section
          grants i h =
              choose_cases (λ (gs : List Grant). gs ≡ grant_if (eqb (answer i) 0) (task i) (place_at s i).section) (eqb (answer i) 0) _ []
              (λ e. ap (λ (k : ℕ). record { task = task i; section = k } ∷ []) ((goes i h).same e) ∙ sym (if_yes _ _ e))
              (λ e. sym (if_no _ _ e))

      called_one : AtMostOne s.grants after.grants
      unfolding called
      called_one =
          ⊎_elim
          (λ (k : (k : ℕ) × (k < N) × (eqb (answer k) 0 ≡ true)).
          inr (
            granted k.0,
            ap (λ (gs : List Grant). s.grants ++ gs) (rows_one N (λ i. eqb (answer i) 0) granted k.0 k.1 k.2
                (λ i h e. sole i k.0 h k.1 (eqb-true _ _ e) (eqb-true _ _ k.2))),
          ))
          (λ (f : (i : ℕ) → i < N → eqb (answer i) 0 ≡ false). inl
          (ap (λ (gs : List Grant). s.grants ++ gs) (rows_none N (λ i. eqb (answer i) 0) granted f) ∙ append-nil s.grants))
          (some_or_none N (λ i. eqb (answer i) 0))
        where
          granted : ℕ → Grant
          granted i = record { task = task i; section = (get_or ps i (at 0 0)).section }

      pub called_next : Next w s after
      called_next = record { sound = called_sound; granted = called_one }
