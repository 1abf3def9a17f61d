-- What a search through the slots has found.
use mathlib.Core.Path.{◌≡◌, refl, sym, ◌∙◌}
use mathlib.Core.Bool.{Bool, true, false}
use mathlib.Core.List.{List, [], ◌∷◌}
use mathlib.Core.Logic.{⊎_elim}
use Prim.Native.Nat.{ℕ, suc, ◌+◌, ◌<◌}
use native.Mathlib.Omega.{arith}
use lib.Dec.{ltb, eqb}
use lib.ListN.{length, get_or}
use Rattle.laws.specs.Choose.{choose, ◌and◌, isnt}
use Rattle.laws.proofs.Choose.{tested, if_yes, if_no}
use Rattle.rules.specs.Numbers.{max_generation}
use Rattle.rules.specs.Machine.{Slot, Tables, free_slot, is_live}
use Rattle.rules.specs.Calls.{first_free, open_slot, first_named}

-- a search by a test: 0 at the end of the list, and at each slot its number or the rest of the search
pub record SearchesBy (look : List Slot → ℕ → ℕ) (test : Slot → Bool) : Type 0 where
  pub ends : (n : ℕ) → look [] n ≡ 0
  pub steps : (s : Slot) (ss : List Slot) (n : ℕ) → look (s ∷ ss) n ≡ choose (test s) n (look ss (suc n))

-- n is the number of a slot of these that the test holds of, where k slots stand before them
pub record Hit (test : Slot → Bool) (ss : List Slot) (k n : ℕ) : Type 0 where
  pub place : ℕ
  pub within : place < length ss
  pub number : n ≡ suc (k + place)
  pub holds : test (get_or ss place (free_slot 0)) ≡ true

module _ (look : List Slot → ℕ → ℕ) (test : Slot → Bool) (by : SearchesBy look test) where
  hit : (ss : List Slot) (k n : ℕ) → look ss (suc k) ≡ n → (n ≡ 0 → ⊥) → Hit test ss k n
  hit [] k n e z = absurd (z (sym e ∙ by.ends (suc k)))
  hit (s ∷ ss) k n e z = ⊎_elim here (later (hit ss (suc k) n)) (tested (test s))
    where
      here : test s ≡ true → Hit test (s ∷ ss) k n
      here t =
          let q : n ≡ suc k = sym e ∙ by.steps s ss (suc k) ∙ if_yes (suc k) (look ss (suc (suc k))) t in
          record { place = 0; within = omega arith; number = omega arith; holds = t }

      later : (look ss (suc (suc k)) ≡ n → (n ≡ 0 → ⊥) → Hit test ss (suc k) n) → test s ≡ false → Hit test (s ∷ ss) k n
      later rest f =
          let q : look ss (suc (suc k)) ≡ n = sym (by.steps s ss (suc k) ∙ if_no (suc k) (look ss (suc (suc k))) f) ∙ e in
          let h = rest q z in
          record { place = suc h.place; within = omega (arith, h.within); number = omega (arith, h.number); holds = h.holds }

-- the slot that a create takes is free, and can have one more generation
abbrev pub is_open : Slot → Bool
is_open s = isnt (is_live s) and ltb s.generation max_generation

pub searches_open : SearchesBy first_free is_open
unfolding first_free
searches_open = record { ends = λ n. refl; steps = λ s ss n. refl }

pub open_hit : (t : Tables) (n : ℕ) → n ≡ open_slot t → (n ≡ 0 → ⊥) → Hit is_open t.slots 0 n
open_hit t n e = hit first_free is_open searches_open t.slots 0 n (sym e)

-- the slot of an ident is live
abbrev pub is_named : ℕ → Slot → Bool
is_named name s = is_live s and eqb s.name name

pub named_hit : (t : Tables) (name n : ℕ) → n ≡ first_named name t.slots 1 → (n ≡ 0 → ⊥) → Hit (is_named name) t.slots 0 n
unfolding first_named
named_hit t name n e = hit (first_named name) (is_named name) (record { ends = λ n. refl; steps = λ s ss n. refl }) t.slots 0 n (sym e)
