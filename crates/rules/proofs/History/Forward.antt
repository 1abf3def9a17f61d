-- What a call does to a slot: its generation never falls, it comes to life only with a new generation, and there is none after the last; a semaphore keeps
-- its maximum and its attributes.
use mathlib.Core.Path.{◌≡◌, refl, sym, subst, ◌∙◌}
use mathlib.Core.Bool.{true, false≢true}
use mathlib.Core.List.{List, [], ◌∷◌, map}
use Prim.Native.Nat.{ℕ, pred, ◌≤◌, ◌<◌}
use native.Mathlib.Omega.{arith}
use lib.ListN.{length, get_or, length-set, get_or-map}
use Rattle.laws.proofs.Fit.{set_cases}
use Rattle.rules.specs.Numbers.{max_generation}
use Rattle.rules.specs.Machine.{Slot, Tables, free_slot, with_slots, slot_of, put_slot, is_live}
use Rattle.rules.specs.Calls.{wake_all, still_waiting, ticked_slot}

pub record Onward (s s' : Slot) : Type 0 where
  pub rises : s.generation ≤ s'.generation
  pub lives : s.generation ≡ s'.generation → is_live s' ≡ true → is_live s ≡ true
  pub last : max_generation ≤ s.generation → s'.generation ≡ s.generation
  pub keeps : s.generation ≡ s'.generation → is_live s' ≡ true → s'.maximum ≡ s.maximum
  pub attributed : s.generation ≡ s'.generation → is_live s' ≡ true → s'.attributes ≡ s.attributes

-- every slot goes onward, and there are as many
pub record Forward (t t' : Tables) : Type 0 where
  pub same_size : length t'.slots ≡ length t.slots
  pub onward : (n : ℕ) → Onward (slot_of t n) (slot_of t' n)

pub onward_refl : (s : Slot) → Onward s s
onward_refl s =
    record { rises = omega arith; lives = λ e l. l; last = λ h. refl; keeps = λ e l. refl; attributed = λ e l. refl }

-- the same generation, maximum and attributes, and live as before
pub onward_same : (s s' : Slot) → s'.generation ≡ s.generation → s'.live ≡ s.live → s'.maximum ≡ s.maximum → s'.attributes ≡ s.attributes → Onward s s'
onward_same s s' g l m a =
    record {
      rises = omega arith;
      lives = λ e k. subst (λ (x : ℕ). lib.Dec.eqb x 1 ≡ true) l k;
      last = λ h. g;
      keeps = λ e k. m;
      attributed = λ e k. a;
    }

pub onward_new : (s s' : Slot) → s.generation < s'.generation → s.generation < max_generation → Onward s s'
onward_new s s' h l =
    record {
      rises = omega arith;
      lives = λ e m. absurd (omega arith);
      last = λ m. absurd (omega arith);
      keeps = λ e m. absurd (omega arith);
      attributed = λ e m. absurd (omega arith);
    }

pub onward_freed : (s : Slot) → Onward s (free_slot s.generation)
onward_freed s =
    record {
      rises = omega arith;
      lives = λ e m. absurd (false≢true m);
      last = λ h. refl;
      keeps = λ e m. absurd (false≢true m);
      attributed = λ e m. absurd (false≢true m);
    }

pub onward_trans : {s s' s'' : Slot} → Onward s s' → Onward s' s'' → Onward s s''
onward_trans {s} {s'} {s''} a b = record {
  rises = omega arith;
  lives = λ e m.
      let f : s.generation ≡ s'.generation = omega arith in
      let g : s'.generation ≡ s''.generation = omega arith in
      a.lives f (b.lives g m);
  last = λ h. let e = a.last h in b.last (omega arith) ∙ e;
  keeps = λ e m.
      let f : s.generation ≡ s'.generation = omega arith in
      let g : s'.generation ≡ s''.generation = omega arith in
      b.keeps g m ∙ a.keeps f (b.lives g m);
  attributed = λ e m.
      let f : s.generation ≡ s'.generation = omega arith in
      let g : s'.generation ≡ s''.generation = omega arith in
      b.attributed g m ∙ a.attributed f (b.lives g m);
}

pub forward_refl : (t : Tables) → Forward t t
forward_refl t = record { same_size = refl; onward = λ n. onward_refl (slot_of t n) }

pub forward_trans : {t t' t'' : Tables} → Forward t t' → Forward t' t'' → Forward t t''
forward_trans a b = record { same_size = cc; onward = λ n. onward_trans (a.onward n) (b.onward n) }

-- the slots alone decide
pub forward_slots : {t t' : Tables} (u : Tables) → u.slots ≡ t'.slots → Forward t t' → Forward t u
forward_slots {t} {t'} u e f =
    subst (λ (l : List Slot). Forward t (with_slots u l)) (sym e) (record { same_size = f.same_size; onward = f.onward })

pub forward_put : (t : Tables) (n : ℕ) (s : Slot) → Onward (slot_of t n) s → Forward t (put_slot t n s)
forward_put t n s o = record {
  same_size = length-set t.slots (pred n) s;
  onward = λ m. set_cases (Onward (slot_of t m)) t.slots (pred n) (pred m) s (free_slot 0)
      (λ e. subst (λ (k : ℕ). Onward (get_or t.slots k (free_slot 0)) s) (sym e) o) (onward_refl (slot_of t m));
}

-- waking tasks leaves the slots
pub woken_slots : (t : Tables) (qs : List ℕ) (answer : ℕ) → (wake_all t qs answer).slots ≡ t.slots
unfolding wake_all
woken_slots t [] answer = refl
woken_slots t (q ∷ qs) answer = woken_slots _ qs answer

-- a tick alters queues alone
pub ticked_slot_lem : (t : Tables) (n : ℕ) → get_or (map (ticked_slot t) t.slots) (pred n) (free_slot 0) ≡ ticked_slot t (slot_of t n)
unfolding ticked_slot still_waiting
ticked_slot_lem t n = get_or-map (ticked_slot t) t.slots (pred n) (free_slot 0)
