-- The test of a list and its clauses say the same, for any tables.
use mathlib.Core.Path.{◌≡◌, sym, ◌∙◌}
use mathlib.Core.Bool.{true}
use mathlib.Core.Logic.{◌≢◌, ◌↔◌, ⊎_elim}
use mathlib.Core.List.{List}
use Prim.Native.Nat.{ℕ, suc, ◌<◌}
use native.Mathlib.Decide.{ℕ_discrete, dec_lt}
use native.Mathlib.Omega.{arith}
use lib.Dec.{eqb}
use lib.ListN.{length, get_or, replicate, length-replicate, get_or-eq_default}
use borrow.Author.Tests.{eqb-true, eqb-false, eq-eqb, ne_eqb, leb-true, le-leb}
use Rattle.laws.proofs.Choose.{tested, and_both, both_and, or_either, or_first, or_second, isnt_false, false_isnt}
use Rattle.laws.proofs.All.{all_at, all_of}
use Rattle.laws.proofs.Fit.{get_d_same}
use Rattle.rules.specs.Machine.{Tables}
use Rattle.mapping.specs.Mapping.{list_length, is_mappable, is_new, entry_agrees, list_agrees, ListFits}

-- ---- an entry

-- none of the entries before it is the same
new_other : (list : List ℕ) (k id : ℕ) → is_new list k id ≡ true → (j : ℕ) → j < k → get_or list j 0 ≢ id
unfolding is_new
new_other list k id e j h = eqb-false _ _ (isnt_false _ (all_at _ _ e j h))

other_new : (list : List ℕ) (k id : ℕ) → ((j : ℕ) → j < k → get_or list j 0 ≢ id) → is_new list k id ≡ true
unfolding is_new
other_new list k id f = all_of _ _ (λ j h. false_isnt _ (ne_eqb _ _ (f j h)))

module _ (t : Tables) (list : List ℕ) where
  -- what the test tells of an entry that is not nothing
  record EntryFits (k : ℕ) : Type 0 where
    within : k < length t.slots
    mappable : is_mappable t (get_or list k 0) ≡ true
    new : (j : ℕ) → j < k → get_or list j 0 ≢ get_or list k 0

  entry_fits : (k : ℕ) → entry_agrees t list k ≡ true → get_or list k 0 ≢ 0 → EntryFits k
  unfolding entry_agrees
  entry_fits k e some =
      ⊎_elim (λ z. absurd (some (eqb-true _ _ z)))
      (λ f.
      let parts = and_both _ _ f in
      let rest = and_both _ _ parts.1 in
      record { within = leb-true (suc k) _ parts.0; mappable = rest.0; new = new_other list k _ rest.1 })
      (or_either _ _ e)

  fits_entry : (k : ℕ) → (get_or list k 0 ≢ 0 → EntryFits k) → entry_agrees t list k ≡ true
  unfolding entry_agrees
  fits_entry k f =
      ⊎_elim (λ z. or_first _ _ z)
      (λ z.
      let h = f (eqb-false _ _ z) in
      or_second _ _ (both_and (le-leb (suc k) _ h.within) (both_and h.mappable (other_new list k _ h.new))))
      (tested (eqb (get_or list k 0) 0))

-- ---- the list

module _ {t : Tables} {list : List ℕ} where
  pub list_fits : list_agrees t list ≡ true → ListFits t list
  unfolding list_agrees
  list_fits e = record { long = long; mappable = λ k some. (fits k some).mappable; within = λ k some. (fits k some).within; once = once }
    where
      long : length list ≡ list_length
      long = eqb-true _ _ (and_both _ _ e).0

      -- behind the list's end there is nothing
      inside : (k : ℕ) → get_or list k 0 ≢ 0 → k < list_length
      inside k some = elim (dec_lt k list_length) [ yes h ↦ h | no h ↦ absurd (some (get_or-eq_default list 0 (omega (arith, long)))) ]

      fits : (k : ℕ) → get_or list k 0 ≢ 0 → EntryFits t list k
      fits k some = entry_fits t list k (all_at _ _ (and_both _ _ e).1 k (inside k some)) some

      once : (j k : ℕ) → get_or list j 0 ≢ 0 → get_or list j 0 ≡ get_or list k 0 → j ≡ k
      once j k some e =
          elim (ℕ_discrete j k) [
            | yes s ↦ s
            | no d ↦
                elim (dec_lt j k) [
                  | yes l ↦ absurd ((fits k (λ z. some (e ∙ z))).new j l e)
                  | no l ↦ absurd ((fits j some).new k (omega arith) (sym e))
                ]
          ]

  pub fits_list : ListFits t list → list_agrees t list ≡ true
  unfolding list_agrees
  fits_list f = both_and (eq-eqb _ _ f.long) (all_of _ _ (λ k h. fits_entry t list k (entry k)))
    where
      entry : (k : ℕ) → get_or list k 0 ≢ 0 → EntryFits t list k
      entry k some =
          record {
            within = f.within k some;
            mappable = f.mappable k some;
            new = λ j h e. let same : j ≡ k = f.once j k (λ z. some (sym e ∙ z)) e in omega arith;
          }

pub list_agrees_exactly : (t : Tables) (list : List ℕ) → (list_agrees t list ≡ true) ↔ ListFits t list
list_agrees_exactly t list = (list_fits, fits_list)

-- a list of nothing alone agrees with any tables
pub nothing_agrees : (t : Tables) (list : List ℕ) → length list ≡ list_length → ((k : ℕ) → get_or list k 0 ≡ 0) → list_agrees t list ≡ true
nothing_agrees t list long none =
    fits_list
    (record {
      long = long;
      mappable = λ k some. absurd (some (none k));
      within = λ k some. absurd (some (none k));
      once = λ j k some e. absurd (some (none j));
    })

-- the empty list with which a loaded state begins
pub empty_agrees : (t : Tables) → list_agrees t (replicate list_length 0) ≡ true
empty_agrees t = nothing_agrees t (replicate list_length 0) (length-replicate {A = ℕ} list_length 0) (λ k. get_d_same {A = ℕ} list_length 0 k)
