-- A run that is not refused has room in the lent numbers for what each event moves and grants.
use Rattle.std.proofs.Common.{◌≡◌, ℕ, zero, suc, ◌+◌, ◌<◌, ◌≤◌, true, eqb, ◌≢◌, List, [], ◌∷◌, ◌++◌, length, get_or, set, sym, refl, ap, ◌∙◌, subst, ⊎_elim, not-suc-le-zero, arith, length-append, length-set, ltb-true, eq-eqb, eqb-true, leb-false}
use Rattle.laws.specs.Choose.{choose}
use Rattle.laws.specs.Rows.{tabulate, rows}
use Rattle.laws.proofs.Choose.{choose_cases, never, if_yes}
use Rattle.laws.proofs.Fit.{set_cases}
use Rattle.rules.specs.declared.Call.{Call}
use Rattle.rules.specs.declared.Call.TheVariants.{Obtain, Release}
use Rattle.rules.specs.declared.Wait.{Wait}
use Rattle.rules.specs.Machine.{Tables, task_of, waits}
use Rattle.rules.specs.Promises.{kind_of}
use Rattle.rules.specs.Runs.{Request}
use Rattle.sections.specs.Scripts.{Grant, script_at, index_of}
use Rattle.sections.specs.Run.{Event, Place, at, State, place_at, obtainer_of, said, grant_if, called, Act, act_of, ask, acted, event_of}
use Rattle.sections.specs.Run.Act.{Calls}
use Rattle.sections.specs.Run.Event.{Turn, Other, NoEvent}
use Rattle.sections.specs.Refusals.{Input, is_allowed, refusal, at_first, event_fits, input_fits}
use Rattle.sections.proofs.Standing.{not_obtainer}
use Rattle.sections.proofs.Kept.{Fixed, Sound, AtMostOne}
use Rattle.sections.proofs.Events.{not_second, same_task, not_caller, event_next}
use Rattle.sections.proofs.Accepted.{accepted}
use Rattle.runner.specs.State.{grants_after, Room, answers_to}
use Rattle.runner.specs.Turns.{RoomToAct, RoomAt, RoomAlong}
use Rattle.runner.specs.Turns.RoomAlong.{none, more}
use Rattle.runner.proofs.Accepting.{short_accepted}

-- the rows before one, and that one, are no longer than all
rows_before : {A : Type 0} (n : ℕ) (f : ℕ → List A) (i : ℕ) → i < n → length (rows (tabulate i f)) + length (f i) ≤ length (rows (tabulate n f))
unfolding rows tabulate
rows_before zero f i h = absurd (not-suc-le-zero h)
rows_before (suc n) f zero h = omega (arith, length-append (f 0) (rows (tabulate n (λ i. f (suc i)))))
rows_before (suc n) f (suc i) h =
    omega (
      arith,
      length-append (f 0) (rows (tabulate i (λ i. f (suc i)))),
      length-append (f 0) (rows (tabulate n (λ i. f (suc i)))),
      rows_before n (λ i. f (suc i)) i (omega arith),
    )

one_more : (before after : List Grant) → AtMostOne before after → length after ≤ suc (length before)
one_more before after one =
    ⊎_elim (λ (e : after ≡ before). omega (arith, ap length e))
    (λ (g : (g : Grant) × (after ≡ before ++ g ∷ [])). omega (arith, ap length g.1, length-append before (g.0 ∷ [])))
    one

obtainer_obtain : (q x : ℕ) (wait : Wait) → obtainer_of (Obtain q x wait) ≡ q
unfolding kind_of choose
obtainer_obtain q x wait = refl

obtainer_release : (q x : ℕ) → obtainer_of (Release q x) ≡ 0
unfolding kind_of choose
obtainer_release q x = refl

module _ (w : Input) (F : Fixed w) (short : (i : ℕ) → i < length w.scripts → length (script_at w.scripts i).sections ≤ 8) where
  abbrev N : ℕ
  N = length w.scripts

  abbrev task : ℕ → ℕ
  task i = (script_at w.scripts i).task

  module _ (s : State) (S : Sound w s) where
    -- script i stands in one of its sections
    abbrev Inside : ℕ → Type 0
    Inside i = (place_at s i).section < length (script_at w.scripts i).sections

    -- ---- a call, made with the places ps

    module _ (left : length s.grants < 4294967295) (r : Request) (ps : List Place) (many : length ps ≡ N)
        (near : (i : ℕ) → (place_at s i).section < 4294967295 → (get_or ps i (at 0 0)).section < 4294967295)
        (obtains : (i : ℕ) → i < N → eqb (obtainer_of r.call) (task i) ≡ true → Inside i)
        (one : AtMostOne s.grants (called w.scripts (record { tables = s.tables; memory = s.memory; places = ps; grants = s.grants }) r).grants) where
      -- an answer goes to a task that waited, or to the obtain itself
      answered_inside : (i : ℕ) → i < N → answers_to w.scripts s r i ≢ 100 → Inside i
      unfolding said
      answered_inside i h =
          choose_cases (λ (n : ℕ). n ≢ 100 → Inside i) (waits (task_of s.tables (task i))) _ _ (λ e n. ((S.stands i h).waits' e).0)
          (λ e. choose_cases (λ (n : ℕ). n ≢ 100 → Inside i) (eqb (obtainer_of r.call) (task i)) _ _ (λ y n. obtains i h y) (λ y n. absurd (n refl)))

      -- it is the only one granted
      few : (i : ℕ) → i < N → answers_to w.scripts s r i ≡ 0
          → length (s.grants ++ grants_after i w.scripts (answers_to w.scripts s r) ps) < 4294967295
      unfolding called
      few i h e =
          let this : length (f i) ≡ 1 = ap length (if_yes _ [] (eq-eqb (answers_to w.scripts s r i) 0 e)) in
          omega (
            arith,
            rows_before N f i h,
            length-append s.grants (rows (tabulate i f)),
            length-append s.grants (rows (tabulate N f)),
            one_more s.grants (s.grants ++ rows (tabulate N f)) one,
          )
        where
          f : ℕ → List Grant
          f i = grant_if (eqb (answers_to w.scripts s r i) 0) (task i) (get_or ps i (at 0 0)).section

      room : Room w.scripts (answers_to w.scripts s r) ps s.grants
      room = record { many = many; small = λ i h n. near i (omega (arith, answered_inside i h n, short i h)); few = few }

    -- ---- the call of a turn

    -- the place that it leads to, and who obtains by it
    abbrev Leads : Act → Type 0
    Leads a = (call : Call) (p : Place) → a ≡ Calls call p
        → (p.section < 4294967295) × ((k : ℕ) → k < N → eqb (obtainer_of call) (task k) ≡ true → Inside k)

    leads_call : (call : Call) (p : Place) → p.section < 4294967295 → ((k : ℕ) → k < N → eqb (obtainer_of call) (task k) ≡ true → Inside k)
        → Leads (Calls call p)
    leads_call call p l o call' p' e =
        let c : call ≡ call' = cc in
        let q : p ≡ p' = cc in (
          subst (λ (x : Place). x.section < 4294967295) q l,
          subst (λ (x : Call). (k : ℕ) → k < N → eqb (obtainer_of x) (task k) ≡ true → Inside k) c o,
        )

    turn_leads : (i : ℕ) → i < N → Leads (act_of w.scripts s i)
    unfolding act_of
    turn_leads i h =
        choose_cases Leads _ _ _ (λ e call p z. let x : ◌≡◌ {A = ℕ} 0 1 = cc in absurd (omega arith))
        (λ e.
        let inside : Inside i = leb-false _ _ (not_second _ _ e) in
        let most : (place_at s i).section < 8 = omega (arith, short i h) in
        choose_cases Leads _ _ _
        (λ y. leads_call _ _ (omega arith)
        (λ k l o. subst Inside (same_task w F s S i k h l (sym (obtainer_obtain (task i) _ _) ∙ eqb-true _ _ o)) inside))
        (λ y.
        choose_cases Leads _ _ _ (λ x call p z. let v : ◌≡◌ {A = ℕ} 0 1 = cc in absurd (omega arith))
        (λ x. leads_call _ _ (omega arith)
        (λ k l o. let z : 0 ≡ task k = sym (obtainer_release (task i) _) ∙ eqb-true _ _ o in absurd (omega (arith, F.tasks k l))))))

    -- ---- an event

    module _ (left : length s.grants < 4294967295) where
      turn_room : (q : ℕ) → is_allowed w (Turn q) ≡ true → RoomToAct w.scripts s (index_of q w.scripts) (act_of w.scripts s (index_of q w.scripts))
      unfolding event_of acted
      turn_room q allowed call p z =
          let leads = turn_leads i (ltb-true _ _ allowed) call p z in
          room left (ask call) (set s.places i p) (length-set s.places i p ∙ S.serial.many)
          (λ k l. set_cases (λ (x : Place). x.section < 4294967295) s.places i k p (at 0 0) (λ e. leads.0) l)
          leads.1
          (subst (λ (a : Act). AtMostOne s.grants (acted w.scripts s i a).grants) z (event_next w F s S (Turn q) refl allowed).granted)
        where
          i : ℕ
          i = index_of q w.scripts

      other_room : (r : Request) → event_fits (Other r) ≡ true → is_allowed w (Other r) ≡ true
          → Room w.scripts (answers_to w.scripts s r) s.places s.grants
      unfolding event_of
      other_room r fits allowed =
          room left r s.places S.serial.many (λ k l. l)
          (λ k l o. never o (not_obtainer r.call (task k) (F.tasks k l) (not_caller w F s S r allowed k l)))
          (event_next w F s S (Other r) fits allowed).granted

      room_at : (e : Event) → event_fits e ≡ true → is_allowed w e ≡ true → RoomAt w.scripts s e
      room_at e fits allowed =
          record {
            turn = λ q z. turn_room q (subst (λ (x : Event). is_allowed w x ≡ true) z allowed);
            other = λ r z. other_room r (subst (λ (x : Event). event_fits x ≡ true) z fits) (subst (λ (x : Event). is_allowed w x ≡ true) z allowed);
          }

  -- ---- all events

  rooms : (s : State) → Sound w s → (events : List Event) → ((k : ℕ) → k < length events → is_allowed w (get_or events k NoEvent) ≡ true)
      → ((k : ℕ) → k < length events → event_fits (get_or events k NoEvent) ≡ true) → length s.grants + length events ≤ 4294967295
      → RoomAlong w.scripts s events
  rooms s S [] allowed fit h = none
  rooms s S (e ∷ es) allowed fit h =
      let next = event_next w F s S e (fit 0 (omega arith)) (allowed 0 (omega arith)) in
      more S.serial.many (room_at s S (omega arith) e (fit 0 (omega arith)) (allowed 0 (omega arith)))
      (rooms (event_of w.scripts s e) next.sound es (λ k l. allowed (suc k) (omega arith)) (λ k l. fit (suc k) (omega arith))
      (omega (arith, one_more s.grants (event_of w.scripts s e).grants next.granted)))

pub room_along : (t : Tables) (w : Input) (events : List Event) → refusal t w events ≡ 0 → input_fits w events ≡ true → length events ≤ 4294967295
    → RoomAlong w.scripts (at_first t w) events
room_along t w events passed fits h =
    let a = accepted t w events passed fits in
    rooms w a.fixed (short_accepted t w events passed) (at_first t w) a.first events a.allowed a.fit (omega arith)
