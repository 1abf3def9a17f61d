-- What it is that a call accounts for the count of a live semaphore without an owner: the count after it and what it granted are the count before and what it
-- released. So do refusals, and the calls that neither obtain nor release.
use mathlib.Core.Path.{◌≡◌, refl, sym, subst, ap, ◌∙◌}
use mathlib.Core.Bool.{true, false}
use mathlib.Core.List.{List}
use mathlib.Core.Logic.{⊎_elim, ◌≢◌}
use Prim.Native.Nat.{ℕ, suc, pred, ◌+◌, ◌%◌}
use native.Mathlib.Omega.{arith}
use lib.Dec.{leb, eqb}
use lib.ListN.{length, get_or}
use borrow.Author.Tests.{eqb-true, eqb-false, eq-eqb, ne_eqb, leb-false}
use Rattle.laws.specs.Choose.{choose, bit, ◌and◌, ◌or◌}
use Rattle.laws.proofs.Choose.{tested, never, if_no, choose_cases}
use Rattle.laws.proofs.Fit.{set_cases}
use Rattle.rules.specs.declared.Task.{Task}
use Rattle.rules.specs.declared.Call.{Call}
use Rattle.rules.specs.declared.Call.TheVariants.{Start, Create, Ident, Delete, Flush, Tick}
use Rattle.rules.specs.Numbers.{max_tasks, is_binary}
use Rattle.rules.specs.Machine.{Slot, Tables, no_task, free_slot, slot_of, put_slot, waits, is_live, names, slot_named, urgency}
use Rattle.rules.specs.Semaphore.{serving_order, flush_step}
use Rattle.rules.specs.Calls.{Outcome, answered, refused, unless, wake_all, start_refusal, start, create_refusal, new_semaphore, open_slot, create, first_named, ident}
use Rattle.rules.specs.Calls.{delete_refusal, delete, flush_refusal, flush, expires, ticked}
use Rattle.rules.specs.Calls.{ticked_slot, tick}
use Rattle.rules.proofs.Invariants.Lists.{bit_no, get_d_map}
use Rattle.rules.proofs.Invariants.Agreeing.{sizes_within}
use Rattle.rules.proofs.Invariants.Facts.{nth_task, Facts}
use Rattle.rules.proofs.Invariants.Refusals.{mustnt}
use Rattle.rules.proofs.Invariants.Waking.{wake_all_slots, wake_all_keeps}
use Rattle.rules.proofs.Invariants.Tick.{ticked_none, ticked_woken, ticked_same, ticked_answer}
use Rattle.rules.proofs.History.Forward.{ticked_slot_lem}
use Rattle.rules.proofs.History.Used.{names_named}
use Rattle.accounts.specs.History.{endings, answer_of}
use Rattle.accounts.specs.Accounts.{obtains, releases, begun, granted}
use Rattle.accounts.proofs.Endings.{second_no, granted_none}
use Rattle.accounts.proofs.Waiters.{place_of}

-- `on` tells of each task that waits whether it waits on the identifier
abbrev pub Known : ℕ → Tables → (ℕ → ℕ) → Type 0
Known id t on = (i : ℕ) → waits (nth_task t i) ≡ true → eqb (on (suc i)) id ≡ eqb (nth_task t i).awaited id

-- a task before and after a call that grants it nothing and lets it not wait anew
pub record Goes (v w : Task) : Type 0 where
  pub still : waits w ≡ true → (waits v ≡ true) × (w.awaited ≡ v.awaited)
  pub ungranted : waits v ≡ true → w.answer ≡ 0 → ⊥

-- a task that waits has not 0
pub waits_not : (v : Task) → waits v ≡ true → v.answer ≡ 0 → ⊥
waits_not v w z = omega (arith, eqb-true v.answer 100 w)

pub goes_same : (v : Task) → Goes v v
goes_same v = record { still = λ w. (w, refl); ungranted = waits_not v }

goes_ticked : (v : Task) → Goes v (ticked v)
goes_ticked v = record { still = λ w. on w; ungranted = λ w z. left w z }
  where
    on : waits (ticked v) ≡ true → (waits v ≡ true) × ((ticked v).awaited ≡ v.awaited)
    on w =
        ⊎_elim (λ (e : expires v ≡ true). never w (ticked_woken v e))
        (λ (e : expires v ≡ false).
        let s = ticked_same v e in (subst (λ (a : ℕ). eqb a 100 ≡ true) s.answer w, s.awaited))
        (tested (expires v))

    left : waits v ≡ true → (ticked v).answer ≡ 0 → ⊥
    left w z =
        choose_cases (λ (a : ℕ). (ticked v).answer ≡ a → ⊥) (eqb v.ticks 1) 6 100 (λ e y. omega arith) (λ e y. omega arith) (ticked_answer v w)

module _ (t : Tables) (f : Facts t) (id : ℕ) (named : names t id ≡ true) (unowned : is_binary (slot_of t (id % 65536)).attributes ≡ false)
    (on : ℕ → ℕ) (known : Known id t on) where
  abbrev count_in : Tables → ℕ
  count_in u = (slot_of u (id % 65536)).count

  -- the grants among the waits that ended
  abbrev granted_by : Tables → ℕ
  granted_by u = granted id on (endings (answer_of t) (answer_of u))

  -- as long as the semaphore lives, count and grants are count and releases
  pub record Right (call : Call) (o : Outcome) : Type 0 where
    pub balance : names o.tables id ≡ true
        → count_in o.tables + (bit (obtains call id and eqb o.answer.status 0) + granted_by o.tables)
        ≡ count_in t + bit (releases call id and eqb o.answer.status 0)
    pub known' : Known id o.tables (choose (eqb o.answer.status 100) (begun on call) on)

  pub ungranted : (u : Tables) → ((i : ℕ) → waits (nth_task t i) ≡ true → (nth_task u i).answer ≡ 0 → ⊥) → granted_by u ≡ 0
  ungranted u none = granted_none (answer_of t) (answer_of u) id on max_tasks 1 (λ x l b a. none (pred x) (eq-eqb _ 100 b) a)

  pub known_on : (u : Tables) → ((i : ℕ) → waits (nth_task u i) ≡ true → (waits (nth_task t i) ≡ true) × ((nth_task u i).awaited ≡ (nth_task t i).awaited))
      → Known id u on
  known_on u still i w = let s = still i w in known i s.0 ∙ ap (λ (a : ℕ). eqb a id) (sym s.1)

  -- ---- refusals, and calls that neither obtain nor release

  refused_right : (call : Call) (refusal : ℕ) → refusal ≢ 0 → (eqb refusal 100 ≡ true → Known id t (begun on call)) → Right call (refused t refusal)
  refused_right call refusal d told =
      let no : eqb refusal 0 ≡ false = ne_eqb refusal 0 d in
      record {
        balance = λ n. omega (
          arith,
          ungranted t (λ i. waits_not (nth_task t i)),
          bit_no _ (second_no (obtains call id) _ no),
          bit_no _ (second_no (releases call id) _ no),
        );
        known' = choose_cases (Known id t) (eqb refusal 100) (begun on call) on told (λ e. known);
      }

  pub unless_right : (call : Call) (refusal : ℕ) (done : Outcome) → (eqb refusal 100 ≡ true → Known id t (begun on call)) → (refusal ≡ 0 → Right call done)
      → Right call (unless refusal t done)
  unless_right call refusal done told right =
      choose_cases (Right call) (eqb refusal 0) done (refused t refusal) (λ e. right (eqb-true refusal 0 e))
      (λ e. refused_right call refusal (eqb-false refusal 0 e) told)

  calm_right : (call : Call) (value : ℕ) (u : Tables) → obtains call id ≡ false → releases call id ≡ false → (names u id ≡ true → count_in u ≡ count_in t)
      → ((i : ℕ) → Goes (nth_task t i) (nth_task u i)) → Right call (answered 0 value u)
  calm_right call value u o r same goes =
      record {
        balance = λ n. omega (
          arith,
          same n,
          ungranted u (λ i. (goes i).ungranted),
          bit_no (obtains call id and eqb 0 0) (if_no _ _ o),
          bit_no (releases call id and eqb 0 0) (if_no _ _ r),
        );
        known' = subst (Known id u) (sym (if_no _ _ refl)) (known_on u (λ i. (goes i).still));
      }

  pub start_right : (slots : ℕ) (priorities : List ℕ) → Right (Start slots) (start t slots priorities)
  unfolding start start_refusal begun
  start_right slots priorities =
      let n = names_named t id named in
      let sizes = sizes_within t f.sizes in
      unless_right (Start slots) (start_refusal t slots priorities) _ (λ e. known)
      (λ e. let fresh = mustnt (leb 1 (length t.tasks)) 14 _ (omega arith) e in
      absurd (omega (arith, sizes.none, n.low, n.high, leb-false 1 (length t.tasks) fresh.0)))

  -- a live semaphore's slot is not one that create takes
  pub create_right : (caller name count attributes maximum : ℕ) → Right (Create caller name count attributes maximum) (create t caller name count attributes maximum)
  unfolding create new_semaphore begun obtains releases
  create_right caller name count attributes maximum =
      unless_right (Create caller name count attributes maximum) (create_refusal t caller name count attributes maximum) _ (λ e. known)
      (λ e. calm_right _ _ _ refl refl (λ n. same (generations n)) (λ i. goes_same (nth_task t i)))
    where
      u : Tables
      u = put_slot t (open_slot t) (new_semaphore (slot_of t (open_slot t)).generation caller name count attributes maximum)

      generations : names u id ≡ true → (slot_of u (id % 65536)).generation ≡ (slot_of t (id % 65536)).generation
      generations n = (names_named u id n).generation ∙ sym (names_named t id named).generation

      same : (slot_of u (id % 65536)).generation ≡ (slot_of t (id % 65536)).generation → count_in u ≡ count_in t
      same =
          set_cases (λ (s : Slot). s.generation ≡ (slot_of t (id % 65536)).generation → s.count ≡ count_in t) t.slots (pred (open_slot t)) (place_of id) _
          (free_slot 0)
          (λ e g. let z = ap (λ (k : ℕ). (get_or t.slots k (free_slot 0)).generation) e in absurd (omega (arith, g, z))) (λ g. refl)

  pub ident_right : (name : ℕ) → Right (Ident name) (ident t name)
  unfolding ident begun obtains releases
  ident_right name =
      unless_right (Ident name) (choose (eqb name 0 or eqb (first_named name t.slots 1) 0) 3 0) _ (λ e. known)
      (λ e. calm_right _ _ _ refl refl (λ n. refl) (λ i. goes_same (nth_task t i)))

  -- waits that end with another answer than 0
  goes_woken : (qs : List ℕ) (u : Tables) (a i : ℕ) → u.tasks ≡ t.tasks → eqb a 100 ≡ false → a ≢ 0
      → Goes (nth_task t i) (nth_task (wake_all u qs a) i)
  goes_woken qs u a i e ready d =
      wake_all_keeps (Goes (nth_task t i)) i qs u a (λ v. record { still = λ w. never w ready; ungranted = λ w z. d z })
      (subst (λ (vs : List Task). Goes (nth_task t i) (get_or vs i no_task)) (sym e) (goes_same (nth_task t i)))

  pub delete_right : (caller other : ℕ) → Right (Delete caller other) (delete t caller other)
  unfolding delete begun obtains releases
  delete_right caller other =
      unless_right (Delete caller other) (delete_refusal t caller other) _ (λ e. known)
      (λ e. calm_right _ _ u refl refl (λ n. same (names_named u id n).lives) (λ i. goes_woken _ freed 7 i refl refl (omega arith)))
    where
      m : ℕ
      m = slot_named t other

      freed : Tables
      freed = put_slot t m (free_slot (slot_of t m).generation)

      u : Tables
      u = wake_all freed (serving_order (urgency t) (slot_of t m)) 7

      same : is_live (slot_of u (id % 65536)) ≡ true → count_in u ≡ count_in t
      same =
          subst (λ (ss : List Slot). is_live (get_or ss (place_of id) (free_slot 0)) ≡ true → (get_or ss (place_of id) (free_slot 0)).count ≡ count_in t)
          (sym (wake_all_slots (serving_order (urgency t) (slot_of t m)) freed 7))
          (set_cases (λ (s : Slot). is_live s ≡ true → s.count ≡ count_in t) t.slots (pred m) (place_of id) _ (free_slot 0) (λ e l. never l refl) (λ l. refl))

  pub flush_right : (caller other : ℕ) → Right (Flush caller other) (flush t caller other)
  unfolding flush flush_step begun obtains releases
  flush_right caller other =
      unless_right (Flush caller other) (flush_refusal t caller other) _ (λ e. known)
      (λ e. calm_right _ _ _ refl refl (λ n. same) (λ i. goes_woken _ _ 13 i refl refl (omega arith)))
    where
      m : ℕ
      m = slot_named t other

      flushed : Tables
      flushed = put_slot t m (flush_step (slot_of t m))

      same : count_in (wake_all flushed (serving_order (urgency t) (slot_of t m)) 13) ≡ count_in t
      same =
          subst (λ (ss : List Slot). (get_or ss (place_of id) (free_slot 0)).count ≡ count_in t) (sym (wake_all_slots (serving_order (urgency t) (slot_of t m)) flushed 13))
          (set_cases (λ (s : Slot). s.count ≡ count_in t) t.slots (pred m) (place_of id) _ (free_slot 0)
          (λ e. ap (λ (k : ℕ). (get_or t.slots k (free_slot 0)).count) (sym e)) refl)

  pub tick_right : Right Tick (tick t)
  unfolding tick ticked_slot begun obtains releases
  tick_right =
      calm_right _ _ _ refl refl (λ n. ap (λ (s : Slot). s.count) (ticked_slot_lem t (id % 65536)))
      (λ i. subst (Goes (nth_task t i)) (sym (get_d_map ticked t.tasks i no_task ticked_none)) (goes_ticked (nth_task t i)))
