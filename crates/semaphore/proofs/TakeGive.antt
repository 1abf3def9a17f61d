-- What each answer of the code is among the cases of the rules.
use mathlib.Core.Path.{◌≡◌, refl, sym, ap, ap₂, subst, ◌∙◌}
use mathlib.Core.Bool.{Bool, true, false}
use mathlib.Core.List.{List, [], ◌∷◌, ◌++◌}
use Prim.Native.Nat.{ℕ, suc, ◌+◌, ◌-◌, ◌≤◌, ◌<◌}
use native.Mathlib.Omega.{arith}
use lib.ListN.{length, get_or, set, take, length-take, length-append}
use borrow.Author.Tests.{le-leb, lt-leb}
use Rattle.laws.specs.Choose.{◌and◌, isnt}
use Rattle.laws.proofs.Choose.{if_yes, if_no, if_le, if_not_le, if_eq, if_ne, both_and, and_both, false_isnt}
use Rattle.laws.specs.Rows.{fit}
use Rattle.laws.proofs.Fit.{length_fit, set_fit_end}
use Rattle.rules.specs.declared.Wait.{Wait}
use Rattle.rules.specs.Machine.{Slot}
use Rattle.rules.specs.Numbers.{is_binary}
use Rattle.rules.specs.Semaphore.{remove_at, requeued, owned_by, polls, take_step, pass_step, give_step}
use Rattle.rules.specs.Semaphore as rules
use Rattle.rules.specs.declared.refusal.Refusal.{Refusal}
use Rattle.rules.specs.declared.refusal.Refusal.TheVariants.{Unsatisfied, NotOwnerOfResource}
use Rattle.std.specs.Prelude.{Result, Ok, Err, Some, None}
use lib.Seq.{get_or-take}
use Rattle.semaphore.specs.declared.Semaphore.{Semaphore}
use Rattle.semaphore.specs.declared.Kept.{Kept}
use Rattle.semaphore.specs.declared.Taken.{Taken}
use Rattle.semaphore.specs.declared.Given.{Given}
use Rattle.semaphore.specs.Record.{slot_from, Padded, Stands, Waits, TakenIs, GivenIs, keep, KeptIs, slot_keeping}
use Rattle.semaphore.proofs.Queue.{held, remove_fit, length_remove}

-- the tasks that wait
abbrev pub waiters_of : Semaphore → List ℕ
waiters_of s = take s.waiters s.queue

-- the parts that a step changes
abbrev pub with_count : Semaphore → ℕ → ℕ → ℕ → Semaphore
with_count s count owner nest = record s { count = count; owner = owner; nest = nest }

abbrev pub with_queue : Semaphore → ℕ → List ℕ → Semaphore
with_queue s waiters queue = record s { waiters = waiters; queue = queue }

-- a binary semaphore is the caller's
abbrev pub held_by : Slot → ℕ → Bool
held_by s caller = is_binary s.attributes and owned_by s caller

-- ---- a record stands for a slot

pub stands_itself : {s : Semaphore} → Padded s → Stands s (slot_from s)
stands_itself p = record { same = refl; padded = p }

pub stands_count : {s : Semaphore} {slot : Slot} → Stands s slot → (count owner nest : ℕ)
    → Stands (with_count s count owner nest) (rules.counted slot count owner nest slot.queue)
stands_count st count owner nest =
    record {
      same = ap (λ (t : Slot). rules.counted t count owner nest t.queue) st.same;
      padded = record { few = st.padded.few; filled = st.padded.filled };
    }

pub stands_queue : (s : Semaphore) (w : ℕ) (queue qs : List ℕ) → queue ≡ fit 32 0 qs → w ≡ length qs → length qs ≤ 32
    → Stands (with_queue s w queue) (requeued (slot_from s) qs)
stands_queue s w queue qs e l few =
    let same : take w queue ≡ qs = rw e (held 32 0 qs w l few) in
    record {
      same = ap (λ (q : List ℕ). requeued (slot_from s) q) same;
      padded = record { few = omega arith; filled = e ∙ ap (fit 32 0) (sym same) };
    }

-- the queue of those that still wait
pub stands_kept : (s : Semaphore) (expired : List Bool) (kept : Kept) → KeptIs kept (keep expired (waiters_of s))
    → Stands (with_queue s kept.waiters kept.tasks) (slot_keeping (slot_from s) expired)
stands_kept s expired kept is = stands_queue s _ _ _ is.tasks is.waiters is.few

-- ---- the queue of a padded record

module _ (s : Semaphore) (p : Padded s) where
  pub length_queue : length (waiters_of s) ≡ s.waiters
  length_queue =
      let full : length s.queue ≡ 32 = ap length p.filled ∙ length_fit 32 0 (waiters_of s) in
      omega (arith, length-take s.waiters s.queue, p.few)

  pub stands_joined : (q : ℕ) (queue : List ℕ) → s.waiters < 32 → queue ≡ set s.queue s.waiters q
      → Stands (with_queue s (s.waiters + 1) queue) (requeued (slot_from s) (waiters_of s ++ q ∷ []))
  stands_joined q queue h e =
      let more : length (waiters_of s ++ q ∷ []) ≡ length (waiters_of s) + 1 = length-append (waiters_of s) (q ∷ []) in
      stands_queue s (s.waiters + 1) queue (waiters_of s ++ q ∷ [])
      (e
      ∙ ap₂ (λ (xs : List ℕ) (k : ℕ). set xs k q) p.filled (sym length_queue)
      ∙ set_fit_end 32 0 (waiters_of s) q (omega (arith, length_queue)))
      (omega (arith, length_queue))
      (omega (arith, length_queue))

  pub stands_left : (place : ℕ) (queue : List ℕ) → place < s.waiters → queue ≡ fit 32 0 (remove_at place s.queue)
      → Stands (with_queue s (s.waiters - 1) queue) (requeued (slot_from s) (remove_at place (waiters_of s)))
  stands_left place queue h e =
      let less : suc (length (remove_at place (waiters_of s))) ≡ length (waiters_of s) = length_remove place (waiters_of s) (omega (arith, length_queue)) in
      stands_queue s (s.waiters - 1) queue (remove_at place (waiters_of s))
      (e
      ∙ ap (λ (xs : List ℕ). fit 32 0 (remove_at place xs)) p.filled
      ∙ remove_fit 32 32 place (waiters_of s) (omega (arith, length_queue, p.few)) (omega (arith, length_queue)))
      (omega (arith, length_queue))
      (omega (arith, length_queue, p.few))

-- ---- who holds a semaphore

module _ (s : Slot) (caller : ℕ) where
  held_binary : held_by s caller ≡ true → is_binary s.attributes ≡ true
  held_binary e = (and_both (is_binary s.attributes) (owned_by s caller) e).0

  held_owned : held_by s caller ≡ true → owned_by s caller ≡ true
  held_owned e = (and_both (is_binary s.attributes) (owned_by s caller) e).1

-- ---- take

module _ (s : Semaphore) (p : Padded s) (caller : ℕ) (wait : Wait) where
  took : {r : Result Taken Refusal} {other : rules.Taken} → take_step (slot_from s) caller wait ≡ other → TakenIs s r other
      → TakenIs s r (take_step (slot_from s) caller wait)
  took {r} e t = subst (λ (o : rules.Taken). TakenIs s r o) (sym e) t

  pub take_owned : 1 ≤ s.count → is_binary s.attributes ≡ true
      → TakenIs s (Ok (record { semaphore = with_count s (s.count - 1) caller 1; waits = false })) (take_step (slot_from s) caller wait)
  unfolding take_step
  take_owned h b =
      took
      (if_le _ _ _ _ h
      ∙ (λ i. record { status = 0; slot = rules.counted (slot_from s) (s.count - 1) (if_yes caller s.owner b i) (if_yes 1 s.nest b i) (waiters_of s) }))
      (record { status = refl; semaphore = stands_count (stands_itself p) _ _ _ })

  pub take_passed : 1 ≤ s.count → is_binary s.attributes ≡ false
      → TakenIs s (Ok (record { semaphore = with_count s (s.count - 1) s.owner s.nest; waits = false })) (take_step (slot_from s) caller wait)
  unfolding take_step
  take_passed h b =
      took
      (if_le _ _ _ _ h
      ∙ (λ i. record { status = 0; slot = rules.counted (slot_from s) (s.count - 1) (if_no caller s.owner b i) (if_no 1 s.nest b i) (waiters_of s) }))
      (record { status = refl; semaphore = stands_count (stands_itself p) _ _ _ })

  module _ (none : s.count < 1) where
    pub take_full : held_by (slot_from s) caller ≡ true → s.nest ≡ 4294967295 → TakenIs s (Err Unsatisfied) (take_step (slot_from s) caller wait)
    unfolding take_step
    take_full own h = took (if_not_le _ _ _ _ none ∙ if_yes _ _ own ∙ if_eq _ _ _ _ h) (record { status = refl; semaphore = stands_itself p })

    pub take_nested : held_by (slot_from s) caller ≡ true → (s.nest ≡ 4294967295 → ⊥)
        → TakenIs s (Ok (record { semaphore = with_count s s.count s.owner (s.nest + 1); waits = false })) (take_step (slot_from s) caller wait)
    unfolding take_step
    take_nested own h =
        took (if_not_le _ _ _ _ none ∙ if_yes _ _ own ∙ if_ne _ _ _ _ h) (record { status = refl; semaphore = stands_count (stands_itself p) _ _ _ })

    pub take_refused : held_by (slot_from s) caller ≡ false → polls wait ≡ true → TakenIs s (Err Unsatisfied) (take_step (slot_from s) caller wait)
    unfolding take_step
    take_refused own h = took (if_not_le _ _ _ _ none ∙ if_no _ _ own ∙ if_yes _ _ h) (record { status = refl; semaphore = stands_itself p })

    pub take_waits : s.waiters < 32 → held_by (slot_from s) caller ≡ false → polls wait ≡ false
        → TakenIs s (Ok (record { semaphore = with_queue s (s.waiters + 1) (set s.queue s.waiters caller); waits = true })) (take_step (slot_from s) caller wait)
    unfolding take_step
    take_waits room own h =
        took (if_not_le _ _ _ _ none ∙ if_no _ _ own ∙ if_no _ _ h) (record { status = refl; semaphore = stands_joined s p caller _ room refl })

-- ---- give

module _ (s : Semaphore) (p : Padded s) (place : ℕ) where
  gave : {rule : rules.Given} {r : Result Given Refusal} {other : rules.Given} → rule ≡ other → GivenIs s r other → GivenIs s r rule
  gave {rule} {r} e g = subst (λ (o : rules.Given). GivenIs s r o) (sym e) g

  module _ (some : 1 ≤ s.waiters) (within : 1 ≤ s.waiters → place < s.waiters) where
    there : place < s.waiters
    there = within some

    abbrev served : ℕ
    served = get_or s.queue place 0

    queued : 1 ≤ length (waiters_of s)
    queued = omega (arith, length_queue s p)

    waiter : Waits (waiters_of s) served
    waiter = record { place = place; within = omega (arith, length_queue s p, there); is = sym (get_or-take s.waiters s.queue place 0 there) }

    passes : {owner owner' nest nest' : ℕ} → owner ≡ owner' → nest ≡ nest'
        → ◌≡◌ {A = rules.Given}
        (record { status = 0; slot = rules.counted (slot_from s) s.count owner nest (remove_at place (waiters_of s)); woken = get_or (waiters_of s) place 0 })
        (record { status = 0; slot = rules.counted (slot_from s) s.count owner' nest' (remove_at place (waiters_of s)); woken = served })
    passes o n =
        λ i. record {
          status = 0;
          slot = rules.counted (slot_from s) s.count (o i) (n i) (remove_at place (waiters_of s));
          woken = get_or-take s.waiters s.queue place 0 there i;
        }

    pub pass_owned : (rest : List ℕ) → rest ≡ fit 32 0 (remove_at place s.queue) → is_binary s.attributes ≡ true
        → GivenIs s (Ok (record { semaphore = with_count (with_queue s (s.waiters - 1) rest) s.count served 1; woken = Some served })) (pass_step (slot_from s) place)
    unfolding pass_step
    pass_owned rest left b =
        gave (if_le _ _ _ _ queued ∙ passes (if_yes (get_or (waiters_of s) place 0) s.owner b ∙ get_or-take s.waiters s.queue place 0 there) (if_yes 1 s.nest b))
        (record { status = refl; woken = refl; waiter = waiter; semaphore = stands_count (stands_left s p place _ there left) _ _ _ })

    pub pass_handed : (rest : List ℕ) → rest ≡ fit 32 0 (remove_at place s.queue) → is_binary s.attributes ≡ false
        → GivenIs s (Ok (record { semaphore = with_queue s (s.waiters - 1) rest; woken = Some served })) (pass_step (slot_from s) place)
    unfolding pass_step
    pass_handed rest left b =
        gave (if_le _ _ _ _ queued ∙ passes (if_no (get_or (waiters_of s) place 0) s.owner b) (if_no 1 s.nest b))
        (record { status = refl; woken = refl; waiter = waiter; semaphore = stands_left s p place _ there left })

  module _ (none : s.waiters < 1) where
    unqueued : length (waiters_of s) < 1
    unqueued = omega (arith, length_queue s p)

    pub pass_full : s.count ≡ s.maximum → GivenIs s (Err Unsatisfied) (pass_step (slot_from s) place)
    unfolding pass_step
    pass_full h = gave (if_not_le _ _ _ _ unqueued ∙ if_eq _ _ _ _ h) (record { status = refl; woken = refl; waiter = tt; semaphore = stands_itself p })

    pub pass_raised : (s.count ≡ s.maximum → ⊥)
        → GivenIs s (Ok (record { semaphore = with_count s (s.count + 1) 0 0; woken = None })) (pass_step (slot_from s) place)
    unfolding pass_step
    pass_raised h =
        gave (if_not_le _ _ _ _ unqueued ∙ if_ne _ _ _ _ h) (record { status = refl; woken = refl; waiter = tt; semaphore = stands_count (stands_itself p) _ _ _ })

  module _ (caller : ℕ) where
    pub give_unowned : {r : Result Given Refusal} → is_binary s.attributes ≡ false → GivenIs s r (pass_step (slot_from s) place)
        → GivenIs s r (give_step (slot_from s) caller place)
    unfolding give_step pass_step
    give_unowned b g = gave (if_no _ _ (if_no _ _ b) ∙ if_no _ _ (if_no _ _ b)) g

    pub give_refused : is_binary s.attributes ≡ true → held_by (slot_from s) caller ≡ false
        → GivenIs s (Err NotOwnerOfResource) (give_step (slot_from s) caller place)
    unfolding give_step
    give_refused b h =
        gave (if_yes _ _ (both_and b (false_isnt (owned_by (slot_from s) caller) (sym (if_yes _ _ b) ∙ h))))
        (record { status = refl; woken = refl; waiter = tt; semaphore = stands_itself p })

    module _ (own : held_by (slot_from s) caller ≡ true) where
      may : (is_binary s.attributes and isnt (owned_by (slot_from s) caller)) ≡ false
      may = if_yes _ _ (held_binary (slot_from s) caller own) ∙ if_yes _ _ (held_owned (slot_from s) caller own)

      pub give_inner : 2 ≤ s.nest
          → GivenIs s (Ok (record { semaphore = with_count s s.count s.owner (s.nest - 1); woken = None })) (give_step (slot_from s) caller place)
      unfolding give_step
      give_inner h =
          gave (if_no _ _ may ∙ if_yes _ _ (both_and (held_binary (slot_from s) caller own) (le-leb 2 s.nest h)))
          (record { status = refl; woken = refl; waiter = tt; semaphore = stands_count (stands_itself p) _ _ _ })

      pub give_outer : {r : Result Given Refusal} → s.nest < 2 → GivenIs s r (pass_step (slot_from s) place)
          → GivenIs s r (give_step (slot_from s) caller place)
      unfolding give_step pass_step
      give_outer h g = gave (if_no _ _ may ∙ if_no _ _ (if_yes _ _ (held_binary (slot_from s) caller own) ∙ lt-leb 2 s.nest h)) g

pub ruleset taking = (take_owned, take_passed, take_full, take_nested, take_refused, take_waits)

pub ruleset passing = (pass_owned, pass_handed, pass_full, pass_raised)

pub ruleset giving = (give_unowned, give_refused, give_inner, give_outer)
