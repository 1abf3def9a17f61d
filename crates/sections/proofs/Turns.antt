-- A script task's own obtain and release keep how it stands in its script.
use mathlib.Core.Path.{◌≡◌, refl, sym, subst, ap, ◌∙◌}
use mathlib.Core.Bool.{true, false}
use Prim.Native.Nat.{ℕ, suc, pred, ◌+◌, ◌*◌, ◌/◌, ◌%◌, ◌≤◌, ◌<◌}
use native.Mathlib.Omega.{arith}
use native.Mathlib.Decide.{ℕ_discrete}
use lib.ListN.{length}
use lib.Dec.{eqb}
use borrow.Author.Tests.{eq-eqb, ne_eqb}
use Rattle.laws.specs.Choose.{choose}
use Rattle.laws.proofs.Choose.{never, if_yes, if_no}
use Rattle.rules.specs.declared.Call.TheVariants.{Obtain, Release}
use Rattle.rules.specs.declared.Task.{Task}
use Rattle.rules.specs.declared.Wait.{Wait}
use Rattle.rules.specs.Numbers.{is_binary}
use Rattle.rules.specs.Machine.{Slot, Tables, slot_of, waits, id_of, names}
use Rattle.rules.specs.Calls.{Outcome, obtain, release}
use Rattle.rules.specs.Promises.{kind_of}
use Rattle.rules.proofs.Invariants.Facts.{nth_task, nth_slot, Facts}
use Rattle.rules.proofs.History.Used.{Named, names_named}
use Rattle.sections.specs.Scripts.{Script}
use Rattle.sections.specs.Run.{Place, at, said, place_after}
use Rattle.sections.proofs.Callers.{Holds, Obtained, obtained, Released, released}
use Rattle.sections.proofs.Callers.Obtained.{refusing, taking, waiting}
use Rattle.sections.proofs.Standing.{Guard, Owns, id_at, Stand, place_said, place_granted, place_skipped, slot_of_lem, names_live}

-- the answer to its own obtain, and nothing at its release
pub said_own : (t : Tables) (c x : ℕ) (wait : Wait) (o : Outcome) → waits (nth_task t c) ≡ false → said t (Obtain (suc c) x wait) o (suc c) ≡ o.answer.status
unfolding said kind_of choose
said_own t c x wait o ready = if_no _ _ ready ∙ if_yes _ _ (eq-eqb (suc c) (suc c) refl)

pub said_released : (t : Tables) (c q x : ℕ) (o : Outcome) → waits (nth_task t c) ≡ false → said t (Release q x) o (suc c) ≡ 100
unfolding said kind_of choose
said_released t c q x o ready = if_no _ _ ready ∙ if_no _ _ (ne_eqb 0 (suc c) (omega arith))

-- it waits exactly where its obtain answers 100
pub own_waits : (t : Tables) (c x : ℕ) (o : Outcome) → waits (nth_task t c) ≡ false → Obtained t c x o
    → waits (nth_task o.tables c) ≡ eqb o.answer.status 100
own_waits t c x o ready (refusing same n m) = ap (λ (u : Tables). waits (nth_task u c)) same ∙ ready ∙ sym (ne_eqb o.answer.status 100 m)
own_waits t c x o ready (taking j z l is task l' g holds others) = ap (λ (v : Task). waits v) task ∙ ready ∙ sym (ap (λ (n : ℕ). eqb n 100) z)
own_waits t c x o ready (waiting z w awaited owners) = w ∙ sym (eq-eqb o.answer.status 100 z)

module _ (G : ℕ → Type 0) (t : Tables) (f : Facts t) (guards : (y : ℕ) → G y → Guard t y) (script : Script)
    (ids : (k : ℕ) → k < length script.sections → G (id_at script k)) (c : ℕ)
    (p : Place) (st : Stand G t script c p) (ready : waits (nth_task t c) ≡ false) (more : p.section < length script.sections) where
  abbrev x : ℕ
  x = id_at script p.section

  -- ---- the obtain

  module _ (wait : Wait) (first : p.position ≡ 0) (back : (y : ℕ) → G y → names (obtain t (suc c) x wait).tables y ≡ true → names t y ≡ true) where
    abbrev o : Outcome
    o = obtain t (suc c) x wait

    -- it had no section's semaphore
    had_none : (y : ℕ) → G y → names t y ≡ true → (slot_of t (y % 65536)).owner ≡ suc c → ⊥
    had_none y g n e = omega (arith, (st.own y g n e).0)

    -- it stands at an obtain with no section's semaphore and without waiting
    empty_handed : (u : Tables) (k : ℕ) → waits (nth_task u c) ≡ false → ((y : ℕ) → G y → names u y ≡ true → (slot_of u (y % 65536)).owner ≡ suc c → ⊥)
        → Stand G u script c (at k 0)
    empty_handed u k w none =
        record { within = λ h. absurd (omega arith); open' = λ h. absurd (omega arith); own = λ y g n e. absurd (none y g n e); waits' = λ z. never z w }

    stands : Obtained t c x o → Stand G o.tables script c (place_after o.answer.status p)
    stands (refusing same n m) =
        subst (Stand G o.tables script c) (sym (place_skipped o.answer.status p n m))
        (subst (λ (u : Tables). Stand G u script c (at (suc p.section) 0)) (sym same) (empty_handed t (suc p.section) ready had_none))
    stands (taking j z l is task l' g holds others) =
        subst (Stand G o.tables script c) (sym (ap (λ (n : ℕ). place_after n p) z ∙ place_granted p))
        (record {
          within = λ h. more;
          open' = λ h.
              record {
                named = names_live o.tables x j parts.0 l' (g ∙ sym parts.1);
                owner = subst (λ (n : ℕ). (slot_of o.tables n).owner ≡ suc c) (sym parts.0) has.owner;
                nest = subst (λ (n : ℕ). (slot_of o.tables n).nest ≡ 1) (sym parts.0) has.nest;
              };
          own = λ y h n e.
              elim (ℕ_discrete (pred (y % 65536)) j) [
                | yes s ↦ (omega arith, same_id y n s)
                | no d ↦ absurd (had_none y h (back y h n) (sym (ap (λ (s : Slot). s.owner) (others (pred (y % 65536)) d)) ∙ e))
              ];
          waits' = λ w. never w (ap (λ (v : Task). waits v) task ∙ ready);
        })
      where
        parts : (x % 65536 ≡ suc j) × (x / 65536 ≡ (nth_slot t j).generation)
        parts = slot_of_lem t f x j l is

        named : names t x ≡ true
        named = names_live t x j parts.0 l (sym parts.1)

        has : Holds o.tables (suc c) j
        has =
            holds (subst (λ (n : ℕ). is_binary (slot_of t n).attributes ≡ true) parts.0 ((guards x (ids _ more)).binary named))
            (λ e. had_none x (ids _ more) named (subst (λ (n : ℕ). (slot_of t n).owner ≡ suc c) (sym parts.0) e))

        same_id : (y : ℕ) → names o.tables y ≡ true → pred (y % 65536) ≡ j → y ≡ x
        same_id y n s =
            let m : Named o.tables y = names_named o.tables y n in
            let is' : x ≡ (nth_slot t j).generation * 65536 + suc j = is in
            let low : 1 ≤ y % 65536 = m.low in
            let here : (nth_slot o.tables j).generation ≡ y / 65536 = subst (λ (k : ℕ). (nth_slot o.tables k).generation ≡ y / 65536) s m.generation in
            omega (arith, g)
    stands (waiting z w awaited owners) =
        subst (Stand G o.tables script c) (sym (ap (λ (n : ℕ). place_after n p) z ∙ place_said p))
        (record {
          within = λ h. absurd (omega arith);
          open' = λ h. absurd (omega arith);
          own = λ y h n e. absurd (had_none y h (back y h n) (sym (owners (pred (y % 65536))) ∙ e));
          waits' = λ e. (more, first, awaited);
        })

    pub stand_obtain : Stand G o.tables script c (place_after (said t (Obtain (suc c) x wait) o (suc c)) p)
    stand_obtain = subst (λ (n : ℕ). Stand G o.tables script c (place_after n p)) (sym (said_own t c x wait o ready)) (stands (obtained t c x wait f))

  -- ---- the release

  module _ (inside : 1 ≤ p.position) (back : (y : ℕ) → G y → names (release t (suc c) x).tables y ≡ true → names t y ≡ true) where
    abbrev u : Tables
    u = (release t (suc c) x).tables

    pub given_up : Released t u c (pred (x % 65536))
    given_up =
        released t f c (pred (x % 65536)) m.lives ((guards x (ids _ more)).binary has.named) (record { owner = has.owner; nest = has.nest }) ready x
        has.named is
      where
        has : Owns t (suc c) x
        has = st.open' inside

        m : Named t x
        m = names_named t x has.named

        is : x ≡ id_of (suc (pred (x % 65536))) (nth_slot t (pred (x % 65536)))
        is = omega (arith, m.low, m.generation)

    pub stand_release : Stand G u script c (at (suc p.section) 0)
    stand_release =
        record {
          within = λ h. absurd (omega arith);
          open' = λ h. absurd (omega arith);
          own = λ y g n e. let l = given_up.left (pred (y % 65536)) e in absurd (l.0 (ap (λ (z : ℕ). pred (z % 65536)) (st.own y g (back y g n) l.1).1));
          waits' = λ w. never w given_up.ready;
        }
