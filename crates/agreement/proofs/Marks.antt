-- The marks of the tasks that stand in a list of numbers, a queue or the sequence of ready tasks, and in the queues of all live slots:
-- who is marked stands in one, and who stands in one is marked.
use mathlib.Core.Path.{◌≡◌, refl, ap, sym, subst, ◌∙◌}
use mathlib.Core.Bool.{Bool, true, false}
use mathlib.Core.List.{List}
use mathlib.Core.Logic.{◌⊎◌, inl, inr, ⊎_elim}
use Prim.Native.Nat.{ℕ, zero, suc, pred, ◌≤◌, ◌<◌}
use native.Mathlib.Omega.{arith}
use native.Mathlib.Nat.{not-suc-le-zero}
use native.Mathlib.Decide.{ℕ_discrete, dec_lt}
use lib.ListN.{length, get_or, set, replicate, length-set, length-replicate, get_or-replicate, get_or-eq_default}
use lib.Seq.{get_or-set_same, get_or-set_other}
use Rattle.laws.proofs.Choose.{choose_cases, if_yes, if_no, tested, never}
use Rattle.rules.specs.Machine.{Tables, is_live}
use Rattle.laws.proofs.Fit.{set_cases}
use Rattle.rules.proofs.Invariants.Facts.{nth_slot}
use Rattle.agreement.specs.Tests.{seen_at, seen_with, seen_below}

-- the queue of slot j, counted from 0, and the task at its place k
abbrev pub queue_of : Tables → ℕ → List ℕ
queue_of t j = (nth_slot t j).queue

abbrev pub entry_of : Tables → ℕ → ℕ → ℕ
entry_of t j k = get_or (queue_of t j) k 0

-- a mark stays
mark_kept : (l : List Bool) (i p : ℕ) → get_or l p false ≡ true → get_or (set l i true) p false ≡ true
mark_kept l i p e = set_cases (λ (b : Bool). b ≡ true) l i p true false (λ s. refl) e

-- ---- of one queue, or of the sequence

-- a place before n whose task has the mark p
pub record Place (queue : List ℕ) (n p : ℕ) : Type 0 where
  pub place : ℕ
  pub within : place < n
  pub is : pred (get_or queue place 0) ≡ p

module _ (seen : List Bool) (queue : List ℕ) where
  pub length_seen : (k : ℕ) → length (seen_at seen queue k) ≡ length seen
  unfolding seen_at
  length_seen zero = refl
  length_seen (suc k) = length-set (seen_at seen queue k) _ true ∙ length_seen k

  pub seen_kept : (k p : ℕ) → get_or seen p false ≡ true → get_or (seen_at seen queue k) p false ≡ true
  unfolding seen_at
  seen_kept zero p e = e
  seen_kept (suc k) p e = mark_kept (seen_at seen queue k) _ p (seen_kept k p e)

  pub seen_made : (k j : ℕ) → j < k → pred (get_or queue j 0) < length seen → get_or (seen_at seen queue k) (pred (get_or queue j 0)) false ≡ true
  unfolding seen_at
  seen_made zero j h b = absurd (not-suc-le-zero h)
  seen_made (suc k) j h b =
      elim (ℕ_discrete j k) [
        | yes e ↦
            let at : pred (get_or queue j 0) ≡ pred (get_or queue k 0) = ap (λ (j : ℕ). pred (get_or queue j 0)) e in
            let within : pred (get_or queue j 0) < length (seen_at seen queue k) = omega (arith, length_seen k) in
            subst (λ (p : ℕ). get_or (set (seen_at seen queue k) p true) (pred (get_or queue j 0)) false ≡ true) at
            (get_or-set_same (seen_at seen queue k) _ true false within)
        | no n ↦ mark_kept (seen_at seen queue k) _ _ (seen_made k j (omega arith) b)
      ]

  -- a mark was there, or is that of a place
  pub seen_from : (k p : ℕ) → get_or (seen_at seen queue k) p false ≡ true → (get_or seen p false ≡ true) ⊎ Place queue k p
  unfolding seen_at
  seen_from zero p e = inl e
  seen_from (suc k) p e =
      elim (ℕ_discrete p (pred (get_or queue k 0))) [
        | yes s ↦ inr (record { place = k; within = omega arith; is = sym s })
        | no n ↦
            ⊎_elim (λ (s : get_or seen p false ≡ true). inl s)
            (λ (s : Place queue k p). inr (record { place = s.place; within = omega (arith, s.within); is = s.is }))
            (seen_from k p (sym (get_or-set_other (seen_at seen queue k) _ p true false n) ∙ e))
      ]

-- ---- of the first i slots

-- a place of a live slot before i
pub record Stands (t : Tables) (i p : ℕ) : Type 0 where
  pub slot : ℕ
  pub below : slot < i
  pub live : is_live (nth_slot t slot) ≡ true
  pub at : Place (queue_of t slot) (length (queue_of t slot)) p

module _ (t : Tables) where
  pub length_below : (i : ℕ) → length (seen_below t i) ≡ 32
  unfolding seen_below seen_with
  length_below zero = length-replicate 32 false
  length_below (suc i) =
      choose_cases (λ (l : List Bool). length l ≡ 32) (is_live (nth_slot t i)) _ _
      (λ l. length_seen (seen_below t i) (queue_of t i) _ ∙ length_below i) (λ l. length_below i)

  -- the marks of the first i slots, with those of the next
  with_kept : (i p : ℕ) → get_or (seen_below t i) p false ≡ true → get_or (seen_below t (suc i)) p false ≡ true
  unfolding seen_below seen_with
  with_kept i p e =
      choose_cases (λ (l : List Bool). get_or l p false ≡ true) (is_live (nth_slot t i)) _ _ (λ l. seen_kept (seen_below t i) (queue_of t i) _ p e) (λ l. e)

  with_made : (i k : ℕ) → is_live (nth_slot t i) ≡ true → k < length (queue_of t i) → pred (entry_of t i k) < 32
      → get_or (seen_below t (suc i)) (pred (entry_of t i k)) false ≡ true
  unfolding seen_below seen_with
  with_made i k l b w =
      subst (λ (l : List Bool). get_or l (pred (entry_of t i k)) false ≡ true) (sym (if_yes _ _ l))
      (seen_made (seen_below t i) (queue_of t i) _ k b (omega (arith, length_below i)))

  pub below_made : (i n k : ℕ) → n < i → is_live (nth_slot t n) ≡ true → k < length (queue_of t n) → pred (entry_of t n k) < 32
      → get_or (seen_below t i) (pred (entry_of t n k)) false ≡ true
  below_made zero n k h l b w = absurd (not-suc-le-zero h)
  below_made (suc i) n k h l b w =
      elim (ℕ_discrete n i) [
        | yes e ↦ subst (λ (i : ℕ). get_or (seen_below t (suc i)) (pred (entry_of t n k)) false ≡ true) e (with_made n k l b w)
        | no d ↦ with_kept i _ (below_made i n k (omega arith) l b w)
      ]

  pub below_from : (i p : ℕ) → get_or (seen_below t i) p false ≡ true → Stands t i p
  unfolding seen_below seen_with
  below_from zero p e = never e (none p)
    where
      none : (p : ℕ) → get_or (replicate 32 false) p false ≡ false
      none p =
          elim (dec_lt p 32) [
            | yes h ↦ get_or-replicate 32 p false false h
            | no n ↦
                let out : length (replicate 32 false) ≤ p = omega (arith, length-replicate 32 false) in
                get_or-eq_default (replicate 32 false) false out
          ]
  below_from (suc i) p e =
      ⊎_elim (live (below_from i p)) (λ l. later (below_from i p (subst (λ (m : List Bool). get_or m p false ≡ true) (if_no _ _ l) e)))
      (tested (is_live (nth_slot t i)))
    where
      later : Stands t i p → Stands t (suc i) p
      later s = record { slot = s.slot; below = omega (arith, s.below); live = s.live; at = s.at }

      live : (get_or (seen_below t i) p false ≡ true → Stands t i p) → is_live (nth_slot t i) ≡ true → Stands t (suc i) p
      live before l =
          ⊎_elim (λ (s : get_or (seen_below t i) p false ≡ true). later (before s))
          (λ (s : Place (queue_of t i) (length (queue_of t i)) p). record { slot = i; below = omega arith; live = l; at = s })
          (seen_from (seen_below t i) (queue_of t i) _ p (subst (λ (m : List Bool). get_or m p false ≡ true) (if_yes _ _ l) e))
