-- release keeps the facts.
use mathlib.Core.Path.{◌≡◌, refl, sym, subst}
use mathlib.Core.Bool.{true, false}
use mathlib.Core.List.{[], ◌∷◌}
use Prim.Native.Nat.{ℕ, zero, suc, ◌+◌, ◌≤◌, ◌<◌}
use native.Mathlib.Omega.{arith}
use lib.Dec.{leb, eqb}
use lib.ListN.{length, get_or}
use borrow.Author.Tests.{eqb-false, leb-true, leb-false, ne_eqb}
use Rattle.laws.specs.Choose.{choose, bit, ◌and◌, isnt}
use Rattle.laws.proofs.Choose.{if_yes, if_no, and_both, choose_cases}
use Rattle.rules.specs.Numbers.{is_binary}
use Rattle.rules.specs.Machine.{Slot, Tables, slot_of, put_slot, is_live, urgency, id_of, names, slot_named}
use Rattle.rules.specs.Agreement.{occurs}
use Rattle.rules.specs.Semaphore.{owned_by, remove_at, handed, Given, give_step, pass_step}
use Rattle.rules.specs.Calls.{answered, wake, wake_all, give_of, release_refusal, release}
use Rattle.rules.proofs.Invariants.Lists.{occurs_at, occurs_cons, occurs_none, occurs_remove}
use Rattle.rules.proofs.Serving.{served_within}
use Rattle.rules.proofs.Invariants.Facts.{nth_task, nth_slot, waits_on, SlotFits, Facts, waits_within}
use Rattle.rules.proofs.Invariants.Links.{waits_there, once}
use Rattle.rules.proofs.Invariants.Waking.{obtained_ends}
use Rattle.rules.proofs.Invariants.PartsKept.{below, roused, replaced}
use Rattle.rules.proofs.Invariants.Slots.{unnest_fits, hand_fits, give_fits}
use Rattle.rules.proofs.Invariants.Refusals.{must, unless_kept, any_caller_lem, found}

-- what a step of the semaphore leads to
abbrev after : Tables → ℕ → Given → Tables
after t n given = choose (eqb given.woken 0) (put_slot t n given.slot) (wake (put_slot t n given.slot) given.woken 0)

module _ (t : Tables) (f : Facts t) (j : ℕ) (l : is_live (nth_slot t j) ≡ true) where
  abbrev Keeps : Given → Type 0
  Keeps given = given.status ≡ 0 → Facts (after t (suc j) given)

  -- nobody is woken
  given_back : (s : Slot) → Facts (put_slot t (suc j) s) → Keeps (record { status = 0; slot = s; woken = 0 })
  given_back s kept e = subst Facts (sym (if_yes _ _ refl)) kept

  -- the waiter at a place of the queue is woken
  module _ (place : ℕ) (h : place < length (nth_slot t j).queue) where
    abbrev served : ℕ
    served = get_or (nth_slot t j).queue place 0

    -- who stands in the queue is a task
    handed_on_lem : (q : ℕ) → served ≡ q → Facts (after t (suc j) (record { status = 0; slot = handed (nth_slot t j) place; woken = q }))
    unfolding wake_all
    handed_on_lem zero is =
        absurd
        (omega (arith, ((f.slots j).when_live l).entries, subst (λ (q : ℕ). 1 ≤ occurs q (nth_slot t j).queue) is (occurs_at (nth_slot t j).queue place h)))
    handed_on_lem (suc i) is =
        subst Facts (sym (if_no _ _ (ne_eqb (suc i) 0 (omega arith))))
        (roused t f j (handed (nth_slot t j) place) (suc i ∷ []) 0 l obtained_ends
        (hand_fits (length t.tasks) (nth_slot t j) (f.slots j) l place h (omega arith) (omega (arith, waits_within t i (and_both _ _ there).0))
        (rw is (once (nth_task t) (nth_slot t) (below t f) f.linked i j l)))
        refl parts (λ k m. l))
      where
        there : waits_on (nth_task t i) (id_of (suc j) (nth_slot t j)) ≡ true
        there =
            waits_there (nth_task t) (nth_slot t) (below t f) f.linked i j l
            (subst (λ (q : ℕ). 1 ≤ occurs q (nth_slot t j).queue) is (occurs_at (nth_slot t j).queue place h))

        parts : (q : ℕ) → occurs q (nth_slot t j).queue ≡ occurs q (suc i ∷ []) + occurs q (remove_at place (nth_slot t j).queue)
        parts q =
            let there : occurs q (nth_slot t j).queue ≡ bit (eqb q (suc i)) + occurs q (remove_at place (nth_slot t j).queue) = rw (← is)
            (occurs_remove q place (nth_slot t j).queue h) in
            omega (arith, occurs_cons q (suc i) [], occurs_none q)

  pub give_kept : (caller : ℕ) → Keeps (give_of t (nth_slot t j) caller)
  unfolding give_step pass_step
  give_kept caller =
      choose_cases Keeps (is_binary (nth_slot t j).attributes and isnt (owned_by (nth_slot t j) caller)) _ _ (λ b e. absurd (omega arith))
      (λ b. choose_cases Keeps (is_binary (nth_slot t j).attributes and leb 2 (nth_slot t j).nest) _ _
      (λ e. given_back _ (replaced t f j _ l (unnest_fits N s fits l (and_both _ _ e).0 (leb-true _ _ (and_both _ _ e).1)) refl refl l))
      (λ e. choose_cases Keeps (leb 1 (length (nth_slot t j).queue)) _ _ (λ q z. handed_on_lem _ (served_within (urgency t) s (leb-true _ _ q)) _ refl)
      (λ q. choose_cases Keeps (eqb (nth_slot t j).count (nth_slot t j).maximum) _ _ (λ m e. absurd (omega arith))
      (λ m. given_back _ (replaced t f j _ l (give_fits N s fits l (empty q) (eqb-false _ _ m)) refl refl l)))))
    where
      N : ℕ
      N = length t.tasks

      s : Slot
      s = nth_slot t j

      fits : SlotFits N s
      fits = f.slots j

      empty : leb 1 (length (nth_slot t j).queue) ≡ false → length (nth_slot t j).queue ≡ 0
      empty q = omega (arith, leb-false 1 (length (nth_slot t j).queue) q)

pub release_kept : (t : Tables) (caller id : ℕ) → Facts t → Facts (release t caller id).tables
unfolding release release_refusal
release_kept t caller id f =
    unless_kept (release_refusal t caller id) t (answered 0 0 (after t (slot_named t id) (give_of t (slot_of t (slot_named t id)) caller))) f
    (λ e.
    let named = must (names t id) (give_of t (slot_of t (slot_named t id)) caller).status 4 (omega arith) (any_caller_lem t caller _ e) in
    let s = found t f.sizes id named.0 in
    subst (λ (m : ℕ). (give_of t (slot_of t m) caller).status ≡ 0 → Facts (after t m (give_of t (slot_of t m) caller))) (sym s.number)
    (give_kept t f s.place s.live caller) named.1)
