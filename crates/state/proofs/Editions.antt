-- The records of body 2 in either edition: how many numbers they are, and what is read of one.
use mathlib.Core.Path.{◌≡◌, refl, sym, ap, ◌∙◌}
use mathlib.Core.Bool.{true, false}
use mathlib.Core.List.{List, [], ◌∷◌}
use mathlib.Core.Logic.{⊎_elim}
use Prim.Native.Nat.{ℕ, ◌+◌, ◌*◌, ◌≤◌, ◌<◌}
use native.Mathlib.Omega.{arith}
use lib.Dec.{eqb}
use lib.ListN.{length, get_or}
use Rattle.laws.specs.Choose.{choose}
use Rattle.laws.proofs.Choose.{tested, if_yes, if_no}
use Rattle.laws.specs.Rows.{tabulate}
use Rattle.rules.specs.Machine.{Slot}
use Rattle.tables.specs.Layout.{row_at}
use Rattle.state.specs.File.{first_edition, numbers_row}
use Rattle.state.specs.Reading.{slot_numbers, slots_in, first_maximum, slot_of_row}

-- ---- how many numbers

pub seven : (e n : ℕ) → eqb e first_edition ≡ true → slot_numbers e n ≡ 7 * n
unfolding slot_numbers
seven e n y = if_yes _ _ y

pub eight : (e n : ℕ) → eqb e first_edition ≡ false → slot_numbers e n ≡ 8 * n
unfolding slot_numbers
eight e n y = if_no _ _ y

module _ (e : ℕ) where
  pub numbers_none : slot_numbers e 0 ≡ 0
  numbers_none = ⊎_elim (λ y. omega (arith, seven e 0 y)) (λ y. omega (arith, eight e 0 y)) (tested (eqb e first_edition))

  pub numbers_more : (n : ℕ) → slot_numbers e (n + 1) ≡ slot_numbers e n + slot_numbers e 1
  numbers_more n =
      ⊎_elim (λ y. omega (arith, seven e (n + 1) y, seven e n y, seven e 1 y)) (λ y. omega (arith, eight e (n + 1) y, eight e n y, eight e 1 y))
      (tested (eqb e first_edition))

  pub numbers_times : (n : ℕ) → slot_numbers e n ≡ slot_numbers e 1 * n
  numbers_times n =
      ⊎_elim (λ y. seven e n y ∙ ap (λ (w : ℕ). w * n) (sym (seven e 1 y))) (λ y. eight e n y ∙ ap (λ (w : ℕ). w * n) (sym (eight e 1 y)))
      (tested (eqb e first_edition))

  pub numbers_few : (n : ℕ) → slot_numbers e n ≤ 8 * n
  numbers_few n = ⊎_elim (λ y. omega (arith, seven e n y)) (λ y. omega (arith, eight e n y)) (tested (eqb e first_edition))

  pub numbers_least : 7 ≤ slot_numbers e 1
  numbers_least = ⊎_elim (λ y. omega (arith, seven e 1 y)) (λ y. omega (arith, eight e 1 y)) (tested (eqb e first_edition))

  -- the records of i slots, and one more, are within those of n
  pub numbers_within : (i n : ℕ) → i < n → slot_numbers e i + slot_numbers e 1 ≤ slot_numbers e n
  numbers_within i n h =
      ⊎_elim (λ y. omega (arith, seven e i y, seven e 1 y, seven e n y)) (λ y. omega (arith, eight e i y, eight e 1 y, eight e n y))
      (tested (eqb e first_edition))

  -- and of how many slots they are
  pub slots_counted : (n : ℕ) → slots_in e (4 * slot_numbers e n) ≡ n
  unfolding slots_in
  slots_counted n =
      ⊎_elim (λ y. if_yes _ _ y ∙ omega (arith, seven e n y)) (λ y. if_no _ _ y ∙ omega (arith, eight e n y)) (tested (eqb e first_edition))

-- ---- a record

-- a slot whose maximum the edition tells
abbrev pub Told : ℕ → Slot → Type 0
Told e s = eqb e first_edition ≡ true → s.maximum ≡ first_maximum s.live s.attributes

module _ (e : ℕ) (s : Slot) where
  first_row : List ℕ → List ℕ
  first_row more = s.generation ∷ s.live ∷ s.name ∷ s.attributes ∷ s.count ∷ s.owner ∷ s.nest ∷ more

  pub length_numbers_row : length (numbers_row e s) ≡ slot_numbers e 1
  unfolding first_row
  length_numbers_row =
      ⊎_elim (λ y. ap (λ (more : List ℕ). length (first_row more)) (if_yes [] (s.maximum ∷ []) y) ∙ sym (seven e 1 y))
      (λ y. ap (λ (more : List ℕ). length (first_row more)) (if_no [] (s.maximum ∷ []) y) ∙ sym (eight e 1 y))
      (tested (eqb e first_edition))

  -- with another maximum
  with_maximum : ℕ → Slot
  with_maximum m =
      record {
        generation = s.generation;
        live = s.live;
        name = s.name;
        attributes = s.attributes;
        count = s.count;
        owner = s.owner;
        nest = s.nest;
        maximum = m;
        queue = s.queue;
      }

  -- what is read of its numbers is the slot
  pub slot_back : Told e s → slot_of_row e (numbers_row e s) s.queue ≡ s
  unfolding with_maximum
  slot_back told =
      ap with_maximum
      (⊎_elim (λ y. if_yes _ _ y ∙ sym (told y))
      (λ y. if_no _ _ y ∙ ap (λ (more : List ℕ). get_or more 0 0) (if_no [] (s.maximum ∷ []) y)) (tested (eqb e first_edition)))

-- and the numbers of what is read are those that were read
pub row_back : (e : ℕ) (bs : List ℕ) (at : ℕ) (queue : List ℕ) → let ws = row_at bs at (slot_numbers e 1) in numbers_row e (slot_of_row e ws queue) ≡ ws
unfolding tabulate
row_back e bs at queue = ⊎_elim first second (tested (eqb e first_edition))
  where
    first : eqb e first_edition ≡ true → let ws = row_at bs at (slot_numbers e 1) in numbers_row e (slot_of_row e ws queue) ≡ ws
    first y = rw (seven e 1 y, y) (unfold choose in refl)

    second : eqb e first_edition ≡ false → let ws = row_at bs at (slot_numbers e 1) in numbers_row e (slot_of_row e ws queue) ≡ ws
    second y = rw (eight e 1 y, y) (unfold choose in refl)
