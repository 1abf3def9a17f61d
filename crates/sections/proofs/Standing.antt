-- How a script's place goes with the tables: an open section's task has its semaphore once, a waiting task waits on its section's semaphore,
-- and no script task has another section's semaphore. Every call keeps that.
use mathlib.Core.Path.{◌≡◌, refl, sym, subst, ap, ◌∙◌}
use mathlib.Core.Bool.{true, false}
use mathlib.Core.List.{List}
use mathlib.Core.Logic.{◌⊎◌, inl, inr, ⊎_elim, ◌≢◌}
use Prim.Native.Nat.{ℕ, suc, pred, ◌+◌, ◌*◌, ◌/◌, ◌%◌, ◌≤◌, ◌<◌}
use native.Mathlib.Omega.{arith}
use native.Mathlib.Decide.{ℕ_discrete}
use lib.Dec.{eqb}
use lib.ListN.{length}
use borrow.Author.Tests.{eqb-true, eq-eqb, ne_eqb}
use Rattle.laws.specs.Choose.{choose}
use Rattle.laws.proofs.Choose.{choose_cases, and_both, never, tested, if_yes, if_no}
use Rattle.rules.specs.declared.Call.{Call}
use Rattle.rules.specs.declared.Task.{Task}
use Rattle.rules.specs.Numbers.{is_binary}
use Rattle.rules.specs.Machine.{Tables, slot_of, waits, is_live, id_of, names}
use Rattle.rules.specs.Agreement.{Agrees}
use Rattle.rules.specs.Calls.{Outcome, perform}
use Rattle.rules.specs.Promises.{kind_of}
use Rattle.rules.proofs.Invariants.Facts.{nth_task, nth_slot, Facts, live_within}
use Rattle.rules.proofs.Invariants.FromTests.{agrees_facts}
use Rattle.rules.proofs.Invariants.Kept.{performs}
use Rattle.rules.proofs.Invariants.Links.{SameWait}
use Rattle.rules.proofs.Invariants.PartsKept.{below}
use Rattle.rules.proofs.History.Forward.{Forward}
use Rattle.rules.proofs.History.CallsForward.{step_forward}
use Rattle.rules.proofs.History.Used.{Used, Named, names_named, named_names, ended_unnamed, used_stays, ended_stays}
use Rattle.rules.proofs.History.Done.{id_parts}
use Rattle.sections.specs.Scripts.{Script, section_at}
use Rattle.sections.specs.Run.{Place, at, caller_of, obtainer_of, said, place_after}
use Rattle.sections.proofs.Others.{SameHold, Watched, Got, Woken, Handed, Observed, handed_to}
use Rattle.sections.proofs.Observing.{observed}

-- an identifier that once named a semaphore; while it names one, that is binary
pub record Guard (t : Tables) (y : ℕ) : Type 0 where
  pub used : Used t y
  pub binary : names t y ≡ true → is_binary (slot_of t (y % 65536)).attributes ≡ true

-- the task has the semaphore, once
pub record Owns (t : Tables) (q y : ℕ) : Type 0 where
  pub named : names t y ≡ true
  pub owner : (slot_of t (y % 65536)).owner ≡ q
  pub nest : (slot_of t (y % 65536)).nest ≡ 1

abbrev pub id_at : Script → ℕ → ℕ
id_at script k = (section_at script k).id

-- where task suc c stands in its script; G holds of the sections' identifiers
pub record Stand (G : ℕ → Type 0) (t : Tables) (script : Script) (c : ℕ) (p : Place) : Type 0 where
  pub within : 1 ≤ p.position → p.section < length script.sections
  pub open' : 1 ≤ p.position → Owns t (suc c) (id_at script p.section)
  pub own : (y : ℕ) → G y → names t y ≡ true → (slot_of t (y % 65536)).owner ≡ suc c → (1 ≤ p.position) × (y ≡ id_at script p.section)
  pub waits' : waits (nth_task t c) ≡ true → (p.section < length script.sections) × (p.position ≡ 0) × ((nth_task t c).awaited ≡ id_at script p.section)

-- ---- places

pub place_said : (p : Place) → place_after 100 p ≡ p
unfolding choose
place_said p = refl

pub place_granted : (p : Place) → place_after 0 p ≡ at p.section 1
unfolding choose
place_granted p = refl

pub place_skipped : (a : ℕ) (p : Place) → a ≢ 0 → a ≢ 100 → place_after a p ≡ at (suc p.section) 0
place_skipped a p n m = if_no _ _ (ne_eqb a 0 n) ∙ if_no _ _ (ne_eqb a 100 m)

pub unlike : (v : Task) → waits v ≡ false → v.answer ≢ 100
unlike v e z = never (eq-eqb v.answer 100 z) e

-- who does not make a call does not obtain by it
pub not_obtainer : (call : Call) (q : ℕ) → 1 ≤ q → q ≢ caller_of call → eqb (obtainer_of call) q ≡ false
not_obtainer call q h other =
    ne_eqb _ _ (choose_cases (λ (n : ℕ). n ≡ q → ⊥) (eqb (kind_of call) 5) (caller_of call) 0 (λ k e. other (sym e)) (λ k e. omega arith))

-- the place of a slot that an identifier names
pub slot_of_lem : (t : Tables) (f : Facts t) (y j : ℕ) → is_live (nth_slot t j) ≡ true → y ≡ id_of (suc j) (nth_slot t j) → (y % 65536 ≡ suc j)
    × (y / 65536 ≡ (nth_slot t j).generation)
slot_of_lem t f y j l is =
    subst (λ (z : ℕ). (z % 65536 ≡ suc j) × (z / 65536 ≡ (nth_slot t j).generation)) (sym is)
    (id_parts (nth_slot t j).generation (suc j) (omega (arith, below t f j l)))

-- a live slot of the right generation is named
pub names_live : (t : Tables) (y j : ℕ) → y % 65536 ≡ suc j → is_live (nth_slot t j) ≡ true → (nth_slot t j).generation ≡ y / 65536 → names t y ≡ true
names_live t y j e l g =
    named_names t y
    (record {
      low = omega arith;
      high = omega (arith, live_within t j l);
      lives = subst (λ (n : ℕ). is_live (slot_of t n) ≡ true) (sym e) l;
      generation = subst (λ (n : ℕ). (slot_of t n).generation ≡ y / 65536) (sym e) g;
    })

module _ (t t' : Tables) (y : ℕ) where
  -- what lives on is named as before
  pub names_kept : names t y ≡ true → is_live (slot_of t' (y % 65536)) ≡ true → (slot_of t' (y % 65536)).generation ≡ (slot_of t (y % 65536)).generation
      → names t' y ≡ true
  names_kept n l g =
      let m : Named t y = names_named t y n in
      let some : y % 65536 ≡ suc (pred (y % 65536)) = omega arith in
      names_live t' y (pred (y % 65536)) some l (g ∙ m.generation)

  pub same_generation : names t y ≡ true → names t' y ≡ true → (slot_of t' (y % 65536)).generation ≡ (slot_of t (y % 65536)).generation
  same_generation n n' = (names_named t' y n').generation ∙ sym (names_named t y n).generation

  -- a used identifier that names a semaphore has named it before
  pub named_before : Forward t t' → Used t y → names t' y ≡ true → names t y ≡ true
  named_before forward used n' =
      ⊎_elim (λ (e : names t y ≡ true). e)
      (λ (e : names t y ≡ false). never n' (ended_unnamed t' y (ended_stays forward y (record { used = used; gone = λ g. gone e g }))))
      (tested (names t y))
    where
      gone : names t y ≡ false → y / 65536 ≡ (slot_of t (y % 65536)).generation → is_live (slot_of t (y % 65536)) ≡ false
      gone e g =
          ⊎_elim (λ (l : is_live (slot_of t (y % 65536)) ≡ true). never
          (named_names t y (record { low = used.low; high = used.high; lives = l; generation = sym g })) e)
          (λ (l : is_live (slot_of t (y % 65536)) ≡ false). l)
          (tested (is_live (slot_of t (y % 65536))))

-- ---- one call

module _ (t : Tables) (a : Agrees t) (call : Call) (priorities : List ℕ) (started : 1 ≤ length t.tasks) where
  abbrev left : Tables
  left = (perform t call priorities).tables

  went : {y : ℕ} → Used t y → Forward t left
  went used = subst (λ (o : Outcome). Forward t o.tables) (performs t call priorities a)
      (step_forward t call priorities (omega (arith, used.low, used.high)))

  pub back : (y : ℕ) → Guard t y → names left y ≡ true → names t y ≡ true
  back y g = named_before t left y (went g.used) g.used

  pub guard_kept : (y : ℕ) → Guard t y → Guard left y
  guard_kept y g =
      record {
        used = used_stays (went g.used) y g.used;
        binary = λ n'.
            let n : names t y ≡ true = back y g n' in
            let same : (slot_of left (y % 65536)).attributes ≡ (slot_of t (y % 65536)).attributes =
            ((observed t (agrees_facts t a) (caller_of call) call priorities started (λ e. omega arith)).slots (pred (y % 65536))).attributes
            (names_named t y n).lives (names_named left y n').lives (same_generation t left y n n') in
            subst (λ (k : ℕ). is_binary k ≡ true) (sym same) (g.binary n);
      }

module _ (G : ℕ → Type 0) (t : Tables) (f : Facts t) (guards : (y : ℕ) → G y → Guard t y) (script : Script)
    (ids : (k : ℕ) → k < length script.sections → G (id_at script k)) (c : ℕ) where
  -- ---- the call of another

  module _ (call : Call) (o : Outcome) (other : suc c ≢ caller_of call) (seen : Observed t o.tables c (handed_to t call))
      (back : (y : ℕ) → G y → names o.tables y ≡ true → names t y ≡ true) where
    abbrev t' : Tables
    t' = o.tables

    -- the slot of a named identifier, as the task sees it
    watched : (y : ℕ) → Watched (suc c) (Handed t t' c (pred (y % 65536))) (slot_of t (y % 65536)) (slot_of t' (y % 65536))
    watched y = seen.slots (pred (y % 65536))

    keeps_owning : (y : ℕ) → G y → Owns t (suc c) y → Owns t' (suc c) y
    keeps_owning y g h =
        let s : SameHold (suc c) (slot_of t (y % 65536)) (slot_of t' (y % 65536)) = (watched y).keeps (names_named t y h.named).lives
        ((guards y g).binary h.named) h.owner in
        record { named = names_kept t t' y h.named s.live s.generation; owner = s.owner; nest = s.nest ∙ h.nest }

    -- who owns now has owned, or was handed what it waited on
    gained : (y : ℕ) → G y → names t' y ≡ true → (slot_of t' (y % 65536)).owner ≡ suc c
        → ((names t y ≡ true) × ((slot_of t (y % 65536)).owner ≡ suc c))
        ⊎ ((waits (nth_task t c) ≡ true) × ((nth_task t c).awaited ≡ y) × ((nth_task t' c).answer ≡ 0))
    gained y g n' e =
        let n : names t y ≡ true = back y g n' in
        let m : Named t y = names_named t y n in
        ⊎_elim (λ (h : (slot_of t (y % 65536)).owner ≡ suc c). inl (n, h))
        (λ (h : Handed t t' c (pred (y % 65536))).
        let w = and_both _ _ h.0 in
        let is : (nth_task t c).awaited ≡ (slot_of t (y % 65536)).generation * 65536 + suc (pred (y % 65536)) = eqb-true _ _ w.1 in
        inr (w.0, omega (arith, m.generation, m.low), h.1))
        ((watched y).gains m.lives ((guards y g).binary n) (names_named t' y n').lives e)

    module _ (p : Place) (st : Stand G t script c p) where
      -- its wait goes on
      goes_on : SameWait (nth_task t c) (nth_task t' c) → Stand G t' script c p
      goes_on same =
          record {
            within = st.within;
            open' = λ h. keeps_owning _ (ids _ (st.within h)) (st.open' h);
            own = λ y g n e.
                ⊎_elim (λ (b : (names t y ≡ true) × ((slot_of t (y % 65536)).owner ≡ suc c)). st.own y g b.0 b.1)
                (λ (b : (waits (nth_task t c) ≡ true) × ((nth_task t c).awaited ≡ y) × ((nth_task t' c).answer ≡ 0)).
                absurd (omega (arith, b.2, same.answer, eqb-true (nth_task t c).answer 100 b.0)))
                (gained y g n e);
            waits' = λ w. let z = st.waits' (subst (λ (n : ℕ). eqb n 100 ≡ true) same.answer w) in (z.0, z.1, same.awaited ∙ z.2);
          }

      module _ (woken : Woken t t' c (handed_to t call)) where
        stood : (p.section < length script.sections) × (p.position ≡ 0) × ((nth_task t c).awaited ≡ id_at script p.section)
        stood = st.waits' woken.waited

        -- it had no section's semaphore
        had_none : (y : ℕ) → G y → names t y ≡ true → (slot_of t (y % 65536)).owner ≡ suc c → ⊥
        had_none y g n e = omega (arith, (st.own y g n e).0, stood.1)

        got_it : (nth_task t' c).answer ≡ 0 → Stand G t' script c (at p.section 1)
        got_it z =
            record {
              within = λ h. stood.0;
              open' = λ h. now_owns;
              own = λ y g n e.
                  ⊎_elim (λ (b : (names t y ≡ true) × ((slot_of t (y % 65536)).owner ≡ suc c)). absurd (had_none y g b.0 b.1))
                  (λ (b : (waits (nth_task t c) ≡ true) × ((nth_task t c).awaited ≡ y) × ((nth_task t' c).answer ≡ 0)). (omega arith, sym b.1 ∙ stood.2))
                  (gained y g n e);
              waits' = λ w. never w woken.ready;
            }
          where
            got : Got t t' c (handed_to t call)
            got = woken.got z

            x : ℕ
            x = id_at script p.section

            parts : (x % 65536 ≡ suc got.place) × (x / 65536 ≡ (nth_slot t got.place).generation)
            parts = slot_of_lem t f x got.place got.live (sym stood.2 ∙ got.is)

            owned : ((nth_slot t' got.place).owner ≡ suc c) × ((nth_slot t' got.place).nest ≡ 1)
            owned =
                got.owned
                (subst (λ (n : ℕ). is_binary (slot_of t n).attributes ≡ true) parts.0
                ((guards x (ids _ stood.0)).binary (names_live t x got.place parts.0 got.live (sym parts.1))))

            now_owns : Owns t' (suc c) x
            now_owns =
                record {
                  named = names_live t' x got.place parts.0 got.live' (got.generation ∙ sym parts.1);
                  owner = subst (λ (n : ℕ). (slot_of t' n).owner ≡ suc c) (sym parts.0) owned.0;
                  nest = subst (λ (n : ℕ). (slot_of t' n).nest ≡ 1) (sym parts.0) owned.1;
                }

        got_nothing : (nth_task t' c).answer ≢ 0 → Stand G t' script c (at (suc p.section) 0)
        got_nothing z =
            record {
              within = λ h. absurd (omega arith);
              open' = λ h. absurd (omega arith);
              own = λ y g n e.
                  ⊎_elim (λ (b : (names t y ≡ true) × ((slot_of t (y % 65536)).owner ≡ suc c)). absurd (had_none y g b.0 b.1))
                  (λ (b : (waits (nth_task t c) ≡ true) × ((nth_task t c).awaited ≡ y) × ((nth_task t' c).answer ≡ 0)). absurd (z b.2))
                  (gained y g n e);
              waits' = λ w. never w woken.ready;
            }

      -- what the call says to it
      pub said_same : SameWait (nth_task t c) (nth_task t' c) → said t call o (suc c) ≡ 100
      unfolding said
      said_same same =
          choose_cases (λ (n : ℕ). n ≡ 100) (waits (nth_task t c)) _ _ (λ w. same.answer ∙ eqb-true _ _ w)
          (λ w. if_no _ _ (not_obtainer call (suc c) (omega arith) other))

      pub said_woken : Woken t t' c (handed_to t call) → said t call o (suc c) ≡ (nth_task t' c).answer
      unfolding said
      said_woken woken = if_yes _ _ woken.waited

      pub stand_other : Stand G t' script c (place_after (said t call o (suc c)) p)
      stand_other = ⊎_elim on off seen.task
        where
          on : SameWait (nth_task t c) (nth_task t' c) → Stand G t' script c (place_after (said t call o (suc c)) p)
          on same = subst (Stand G t' script c) (sym (ap (λ (n : ℕ). place_after n p) (said_same same) ∙ place_said p)) (goes_on same)

          off : Woken t t' c (handed_to t call) → Stand G t' script c (place_after (said t call o (suc c)) p)
          off woken =
              subst (λ (n : ℕ). Stand G t' script c (place_after n p)) (sym (said_woken woken))
              (elim (ℕ_discrete (nth_task t' c).answer 0) [
                | yes e ↦ subst (Stand G t' script c) (sym (ap (λ (n : ℕ). place_after n p) e ∙ place_granted p)) (got_it woken e)
                | no n ↦ subst (Stand G t' script c) (sym (place_skipped (nth_task t' c).answer p n (unlike (nth_task t' c) woken.ready)))
                    (got_nothing woken n)
              ])
