-- What a call does to a live slot that it does not free: generation, attributes and maximum stay, and it lives on.
use mathlib.Core.Path.{◌≡◌, refl, sym, ap, subst, ◌∙◌}
use mathlib.Core.Bool.{true, false}
use mathlib.Core.List.{List}
use mathlib.Core.Logic.{◌≢◌}
use Prim.Native.Nat.{ℕ, pred, ◌%◌, ◌≤◌}
use native.Mathlib.Omega.{arith}
use lib.Dec.{eqb}
use lib.ListN.{length, get_or, length-set, length-map}
use lib.Seq.{get_or-set_other}
use borrow.Author.Tests.{eqb-true, le-leb}
use Rattle.laws.specs.Choose.{choose, ◌or◌}
use Rattle.laws.proofs.Choose.{choose_cases, and_both, isnt_false, never, if_yes}
use Rattle.laws.proofs.Fit.{set_cases}
use Rattle.rules.specs.declared.Call.{Call}
use Rattle.rules.specs.declared.Call.TheVariants.{Start, Create, Ident, Delete, Obtain, Release, Flush, Tick}
use Rattle.rules.specs.declared.Wait.{Wait}
use Rattle.rules.specs.Machine.{Slot, Tables, free_slot, with_slots, slot_of, put_slot, is_live, slot_named}
use Rattle.rules.specs.Semaphore.{Taken, Given, take_step, give_step, pass_step, flush_step}
use Rattle.rules.specs.Calls.{Outcome, unless, open_slot, start_refusal, start, create_refusal, create, first_named, ident}
use Rattle.rules.specs.Calls.{delete_refusal, delete, obtain_refusal, obtain, give_of, release_refusal, release, flush_refusal, flush, ticked_slot, tick, perform}
use Rattle.rules.proofs.Searching.{Hit, is_open}
use Rattle.rules.proofs.History.Passed.{create_passed, delete_passed}
use Rattle.rules.proofs.History.Forward.{woken_slots, ticked_slot_lem}
use Rattle.rules.proofs.History.Used.{names_named}

-- the same semaphore
pub record Lasts (s s' : Slot) : Type 0 where
  pub generation : s'.generation ≡ s.generation
  pub lives : is_live s' ≡ true
  pub attributes : s'.attributes ≡ s.attributes
  pub maximum : s'.maximum ≡ s.maximum

abbrev pub SlotStays : Slot → Slot → Type 0
SlotStays s s' = is_live s ≡ true → Lasts s s'

slot_same : (s s' : Slot) → s'.generation ≡ s.generation → s'.live ≡ s.live → s'.attributes ≡ s.attributes → s'.maximum ≡ s.maximum → SlotStays s s'
slot_same s s' g l a m e = record { generation = g; lives = ap (λ (n : ℕ). eqb n 1) l ∙ e; attributes = a; maximum = m }

slot_stays : (s : Slot) → SlotStays s s
slot_stays s = slot_same s s refl refl refl refl

-- there are as many slots, and each but one, or all where that is 0, stays
pub record Stays (t t' : Tables) (freed : ℕ) : Type 0 where
  pub same_size : length t'.slots ≡ length t.slots
  pub slots : (n : ℕ) → 1 ≤ n → n ≢ freed → SlotStays (slot_of t n) (slot_of t' n)

pub stays_refl : (t : Tables) (freed : ℕ) → Stays t t freed
stays_refl t freed = record { same_size = refl; slots = λ n l d. slot_stays (slot_of t n) }

-- the slots alone decide
stays_slots : {t t' : Tables} {freed : ℕ} (u : Tables) → u.slots ≡ t'.slots → Stays t t' freed → Stays t u freed
stays_slots {t} {t'} {freed} u e f =
    subst (λ (l : List Slot). Stays t (with_slots u l) freed) (sym e) (record { same_size = f.same_size; slots = f.slots })

stays_put : (t : Tables) (n : ℕ) (s : Slot) → SlotStays (slot_of t n) s → Stays t (put_slot t n s) 0
stays_put t n s o = record {
  same_size = length-set t.slots (pred n) s;
  slots = λ m l d. set_cases (SlotStays (slot_of t m)) t.slots (pred n) (pred m) s (free_slot 0)
      (λ e. subst (λ (k : ℕ). SlotStays (get_or t.slots k (free_slot 0)) s) (sym e) o) (slot_stays (slot_of t m));
}

-- a slot put anew, whatever it was
stays_else : (t : Tables) (n : ℕ) (s : Slot) → 1 ≤ n → Stays t (put_slot t n s) n
stays_else t n s h = record {
  same_size = length-set t.slots (pred n) s;
  slots = λ m l d.
      subst (SlotStays (slot_of t m)) (sym (get_or-set_other t.slots (pred n) (pred m) s (free_slot 0) (λ e. d (omega arith)))) (slot_stays (slot_of t m));
}

-- one semaphore's steps
same_taken : (s : Slot) (caller : ℕ) (wait : Wait) → SlotStays s (take_step s caller wait).slot
unfolding take_step
same_taken s caller wait =
    choose_cases P _ _ _ (λ e. slot_same s _ refl refl refl refl)
    (λ e. choose_cases P _ _ _
    (λ e. choose_cases P _ _ _ (λ e. slot_stays s) (λ e. slot_same s _ refl refl refl refl))
    (λ e. choose_cases P _ _ _ (λ e. slot_stays s) (λ e. slot_same s _ refl refl refl refl)))
  where
    P : Taken → Type 0
    P x = SlotStays s x.slot

same_given : (s : Slot) (caller place : ℕ) → SlotStays s (give_step s caller place).slot
unfolding give_step pass_step
same_given s caller place =
    choose_cases P _ _ _ (λ e. slot_stays s)
    (λ e. choose_cases P _ _ _ (λ e. slot_same s _ refl refl refl refl)
    (λ e. choose_cases P _ _ _ (λ e. slot_same s _ refl refl refl refl)
    (λ e. choose_cases P _ _ _ (λ e. slot_stays s) (λ e. slot_same s _ refl refl refl refl))))
  where
    P : Given → Type 0
    P x = SlotStays s x.slot

-- the slot that a create takes is not live
open_free : (t : Tables) {n : ℕ} → Hit is_open t.slots 0 n → is_live (slot_of t n) ≡ false
open_free t {n} h =
    let place : pred n ≡ h.place = omega (arith, h.number) in
    subst (λ (k : ℕ). is_live (get_or t.slots k (free_slot 0)) ≡ false) (sym place) (isnt_false _ (and_both _ _ h.holds).0)

module _ (t : Tables) where
  abbrev Left : ℕ → Outcome → Type 0
  Left freed o = Stays t o.tables freed

  -- a refusal keeps the tables
  unless_stays : (freed refusal : ℕ) (o : Outcome) → (refusal ≡ 0 → Left freed o) → Left freed (unless refusal t o)
  unless_stays freed refusal o f =
      choose_cases (Left freed) (eqb refusal 0) o _ (λ e. f (eqb-true refusal 0 e)) (λ e. stays_refl t freed)

  start_stays : (slots : ℕ) (priorities : List ℕ) → 1 ≤ length t.tasks → Left 0 (start t slots priorities)
  unfolding start start_refusal
  start_stays slots priorities h =
      unless_stays 0 (start_refusal t slots priorities) _
      (λ e. absurd (omega (arith, sym (if_yes 14 _ (le-leb 1 (length t.tasks) h)) ∙ e)))

  create_stays : (caller name count attributes maximum : ℕ) → Left 0 (create t caller name count attributes maximum)
  unfolding create
  create_stays caller name count attributes maximum =
      unless_stays 0 (create_refusal t caller name count attributes maximum) _
      (λ e. stays_put t (open_slot t) _ (λ l. never l (open_free t (create_passed t caller name count attributes maximum e))))

  ident_stays : (name : ℕ) → Left 0 (ident t name)
  unfolding ident
  ident_stays name = unless_stays 0 (choose (eqb name 0 or eqb (first_named name t.slots 1) 0) 3 0) _ (λ e. stays_refl t 0)

  -- a delete frees its identifier's slot
  delete_stays : (caller id : ℕ) → Left (id % 65536) (delete t caller id)
  unfolding delete
  delete_stays caller id =
      unless_stays (id % 65536) (delete_refusal t caller id) _
      (λ e.
      let named = delete_passed t caller id e in
      let at : slot_named t id ≡ id % 65536 = if_yes _ _ named in
      let low : 1 ≤ slot_named t id = omega (arith, (names_named t id named).low) in
      stays_slots _ (woken_slots (put_slot t (slot_named t id) _) _ 7) (subst (Stays t (put_slot t (slot_named t id) _)) at (stays_else t (slot_named t id) _ low)))

  obtain_stays : (caller id : ℕ) (wait : Wait) → Left 0 (obtain t caller id wait)
  unfolding obtain
  obtain_stays caller id wait =
      unless_stays 0 (obtain_refusal t caller id wait) _ (λ e. choose_cases (Left 0) _ _ _
      (λ f. stays_slots _ refl put) (λ f. put))
    where
      put : Stays t (put_slot t (slot_named t id) (take_step (slot_of t (slot_named t id)) caller wait).slot) 0
      put = stays_put t (slot_named t id) _ (same_taken (slot_of t (slot_named t id)) caller wait)

  release_stays : (caller id : ℕ) → Left 0 (release t caller id)
  unfolding release
  release_stays caller id =
      unless_stays 0 (release_refusal t caller id) _
      (λ e. choose_cases (λ (u : Tables). Stays t u 0) _ _ _ (λ f. put) (λ f. stays_slots _ refl put))
    where
      put : Stays t (put_slot t (slot_named t id) (give_of t (slot_of t (slot_named t id)) caller).slot) 0
      put = stays_put t (slot_named t id) _ (same_given (slot_of t (slot_named t id)) caller _)

  flush_stays : (caller id : ℕ) → Left 0 (flush t caller id)
  unfolding flush flush_step
  flush_stays caller id =
      unless_stays 0 (flush_refusal t caller id) _
      (λ e. stays_slots _ (woken_slots (put_slot t (slot_named t id) _) _ 13)
      (stays_put t (slot_named t id) _ (slot_same (slot_of t (slot_named t id)) _ refl refl refl refl)))

  tick_stays : Left 0 (tick t)
  unfolding tick ticked_slot
  tick_stays = record {
    same_size = length-map t.slots (ticked_slot t);
    slots = λ n l d. rw (ticked_slot_lem t n) (slot_same (slot_of t n) _ refl refl refl refl);
  }

-- the slot that a call may free
abbrev pub freed_by : Call → ℕ
freed_by (Start slots) = 0
freed_by (Create caller name count attributes maximum) = 0
freed_by (Ident name) = 0
freed_by (Delete caller id) = id % 65536
freed_by (Obtain caller id wait) = 0
freed_by (Release caller id) = 0
freed_by (Flush caller id) = 0
freed_by Tick = 0

pub perform_stays : (t : Tables) (call : Call) (priorities : List ℕ) → 1 ≤ length t.tasks → Stays t (perform t call priorities).tables (freed_by call)
unfolding perform
perform_stays t (Start slots) priorities h = start_stays t slots priorities h
perform_stays t (Create caller name count attributes maximum) priorities h = create_stays t caller name count attributes maximum
perform_stays t (Ident name) priorities h = ident_stays t name
perform_stays t (Delete caller id) priorities h = delete_stays t caller id
perform_stays t (Obtain caller id wait) priorities h = obtain_stays t caller id wait
perform_stays t (Release caller id) priorities h = release_stays t caller id
perform_stays t (Flush caller id) priorities h = flush_stays t caller id
perform_stays t Tick priorities h = tick_stays t
