-- Places and grants in lent numbers: one that is read, replaced or added.
use Rattle.std.proofs.Common.{◌≡◌, ℕ, zero, suc, ◌+◌, ◌*◌, ◌<◌, ◌≤◌, List, [], ◌∷◌, ◌++◌, map, length, get_or, set, sym, refl, ap, ◌∙◌, ap₂, not-suc-le-zero, arith, length-append, length-set}
use lib.ListN.{length-map}
use lib.Seq.{sets, length-sets}
use Rattle.laws.specs.Rows.{rows}
use Rattle.laws.proofs.Fit.{sets_cons, sets_join, map_set, get_d_map}
use Rattle.laws.proofs.Rows.{AllWide, wide_map, length_rows, get_d_rows, sets_rows}
use Rattle.sections.specs.Scripts.{Grant}
use Rattle.sections.specs.Run.{Place, at}
use Rattle.encoding.specs.Laid.{place_row, grant_row, laid_places, laid_grants}

-- ---- a run of stores from the first number on, as far as there is room

module _ {A : Type 0} where
  pub sets_none : (i : ℕ) (vs : List A) → sets [] i vs ≡ []
  sets_none i [] = refl
  sets_none i (v ∷ vs) = sets_none (suc i) vs

  get_d_sets : (xs vs : List A) (k : ℕ) (d : A) → k < length vs → k < length xs → get_or (sets xs 0 vs) k d ≡ get_or vs k d
  get_d_sets [] vs k d h l = absurd (not-suc-le-zero l)
  get_d_sets (x ∷ xs) [] k d h l = absurd (not-suc-le-zero h)
  get_d_sets (x ∷ xs) (v ∷ vs) zero d h l = ap (λ (r : List A). get_or r 0 d) (sets_cons v xs 0 vs)
  get_d_sets (x ∷ xs) (v ∷ vs) (suc k) d h l = ap (λ (r : List A). get_or r (suc k) d) (sets_cons v xs 0 vs) ∙ get_d_sets xs vs k d (omega arith) (omega arith)

  -- a store among them is a store in what they store
  set_sets : (xs vs : List A) (k : ℕ) (v : A) → k < length vs → set (sets xs 0 vs) k v ≡ sets xs 0 (set vs k v)
  set_sets [] vs k v h = ap (λ (r : List A). set r k v) (sets_none 0 vs) ∙ sym (sets_none 0 (set vs k v))
  set_sets (x ∷ xs) [] k v h = absurd (not-suc-le-zero h)
  set_sets (x ∷ xs) (u ∷ vs) zero v h = ap (λ (r : List A). set r 0 v) (sets_cons u xs 0 vs) ∙ sym (sets_cons v xs 0 vs)
  set_sets (x ∷ xs) (u ∷ vs) (suc k) v h =
      ap (λ (r : List A). set r (suc k) v) (sets_cons u xs 0 vs)
      ∙ ap (λ (r : List A). u ∷ r) (set_sets xs vs k v (omega arith))
      ∙ sym (sets_cons u xs 0 (set vs k v))

-- ---- places

wide : (ps : List Place) → AllWide 2 (map place_row ps)
wide ps = wide_map 2 place_row (λ p. refl) ps

pub places_length : (ps : List Place) → length (rows (map place_row ps)) ≡ 2 * length ps
places_length ps = length_rows (map place_row ps) (wide ps) ∙ ap (λ (n : ℕ). 2 * n) (length-map ps place_row)

module _ (ns : List ℕ) (ps : List Place) (i : ℕ) (h : i < length ps) where
  place_number : (l : List ℕ) (j : ℕ) → j < 2 → l ≡ laid_places ns ps → 2 * i + j < length l → get_or l (2 * i + j) 0 ≡ get_or (place_row (get_or ps i (at 0 0))) j 0
  unfolding laid_places
  place_number l j low e room =
      ap (λ (x : List ℕ). get_or x (2 * i + j) 0) e
      ∙ get_d_sets ns (rows (map place_row ps)) (2 * i + j) 0 (omega (arith, places_length ps))
      (omega (arith, ap length e, length-sets ns 0 (rows (map place_row ps))))
      ∙ get_d_rows (map place_row ps) (wide ps) i j 0 low
      ∙ ap (λ (r : List ℕ). get_or r j 0) (get_d_map place_row ps i (at 0 0) [] h)

  module _ (l : List ℕ) (k : ℕ) (e : l ≡ laid_places ns ps) where
    pub place_section : k ≡ 2 * i → k < length l → get_or l k 0 ≡ (get_or ps i (at 0 0)).section
    place_section p room = ap (λ (n : ℕ). get_or l n 0) (omega arith) ∙ place_number l 0 (omega arith) e (omega arith)

    pub place_position : k ≡ 2 * i + 1 → k < length l → get_or l k 0 ≡ (get_or ps i (at 0 0)).position
    place_position p room = ap (λ (n : ℕ). get_or l n 0) p ∙ place_number l 1 (omega arith) e (omega arith)

  module _ (section position : ℕ) where
    abbrev numbers : List ℕ
    numbers = rows (map place_row ps)

    abbrev after : List Place
    after = set ps i (at section position)

    row_put : sets numbers (2 * i) (section ∷ position ∷ []) ≡ rows (map place_row after)
    row_put =
        sets_rows (map place_row ps) (wide ps) i (section ∷ position ∷ []) (omega (arith, length-map ps place_row)) refl
        ∙ ap (λ (r : List (List ℕ)). rows r) (sym (map_set place_row ps i (at section position)))

    pub place_put : (l : List ℕ) (a b : ℕ) → l ≡ laid_places ns ps → a ≡ 2 * i → b ≡ 2 * i + 1 → set (set l a section) b position ≡ laid_places ns after
    unfolding laid_places
    place_put l a b e p q =
        ap₂ (λ (x : List ℕ) (n : ℕ). set (set x n section) b position) e p
        ∙ ap (λ (n : ℕ). set (set (sets ns 0 numbers) (2 * i) section) n position) (omega arith)
        ∙ ap (λ (x : List ℕ). set x (suc (2 * i)) position) (set_sets ns numbers (2 * i) section (omega (arith, places_length ps)))
        ∙ set_sets ns (set numbers (2 * i) section) (suc (2 * i)) position (omega (arith, places_length ps, length-set numbers (2 * i) section))
        ∙ ap (λ (x : List ℕ). sets ns 0 x) row_put

-- ---- grants

grants_length : (gs : List Grant) → length (rows (map grant_row gs)) ≡ 2 * length gs
grants_length gs =
    length_rows (map grant_row gs) (wide_map 2 grant_row (λ g. refl) gs) ∙ ap (λ (n : ℕ). 2 * n) (length-map gs grant_row)

grants_more : (gs : List Grant) (g : Grant) → rows (map grant_row (gs ++ g ∷ [])) ≡ rows (map grant_row gs) ++ grant_row g
unfolding rows
grants_more [] g = refl
grants_more (h ∷ gs) g = ap (λ (r : List ℕ). grant_row h ++ r) (grants_more gs g)

-- with room for the count, it stands before the grants
counted : (n : ℕ) (ns : List ℕ) (gs : List Grant) → laid_grants (n ∷ ns) gs ≡ length gs ∷ sets ns 0 (rows (map grant_row gs))
unfolding laid_grants
counted n ns gs = sets_cons (length gs) ns 0 (rows (map grant_row gs))

uncounted : (gs : List Grant) → laid_grants [] gs ≡ []
unfolding laid_grants
uncounted gs = sets_none 0 (length gs ∷ rows (map grant_row gs))

-- the count that is read: 0 where there is no room for it
count_few : (ns : List ℕ) (gs : List Grant) → get_or (laid_grants ns gs) 0 0 ≤ length gs
count_few [] gs = omega (arith, ap (λ (l : List ℕ). get_or l 0 0) (uncounted gs))
count_few (n ∷ ns) gs = omega (arith, ap (λ (l : List ℕ). get_or l 0 0) (counted n ns gs))

-- task and section stored behind `count` grants, and the count
abbrev granted : ℕ → ℕ → ℕ → List ℕ → List ℕ
granted task section count l = set (set (set l (suc (2 * count)) task) (suc (suc (2 * count))) section) 0 (suc count)

grant_laid : (ns : List ℕ) (gs : List Grant) (g : Grant)
    → granted g.task g.section (get_or (laid_grants ns gs) 0 0) (laid_grants ns gs) ≡ laid_grants ns (gs ++ g ∷ [])
grant_laid [] gs g =
    ap (λ (l : List ℕ). granted g.task g.section (get_or l 0 0) l) (uncounted gs) ∙ sym (uncounted (gs ++ g ∷ []))
grant_laid (n ∷ ns) gs g =
    ap (λ (l : List ℕ). granted g.task g.section (get_or l 0 0) l) (counted n ns gs)
    ∙ ap₂ (λ (k : ℕ) (l : List ℕ). k ∷ l) many
    (ap (λ (k : ℕ). sets (sets ns 0 (rows (map grant_row gs))) k (grant_row g)) behind
    ∙ sets_join ns 0 (rows (map grant_row gs)) (grant_row g)
    ∙ ap (λ (l : List ℕ). sets ns 0 l) (sym (grants_more gs g)))
    ∙ sym (counted n ns (gs ++ g ∷ []))
  where
    many : suc (length gs) ≡ length (gs ++ g ∷ [])
    many = omega (arith, length-append gs (g ∷ []))

    behind : 2 * length gs ≡ 0 + length (rows (map grant_row gs))
    behind = omega (arith, grants_length gs)

module _ (ns : List ℕ) (gs : List Grant) (l : List ℕ) (e : l ≡ laid_grants ns gs) where
  pub grant_count : get_or l 0 0 ≤ length gs
  grant_count = omega (arith, ap (λ (x : List ℕ). get_or x 0 0) e, count_few ns gs)

  pub grant_stored : (task section count next a b : ℕ) (l₁ l₂ l₃ : List ℕ) → count ≡ get_or l 0 0 → next ≡ count + 1 → a ≡ 1 + 2 * count → b ≡ a + 1
      → l₁ ≡ set l a task → l₂ ≡ set l₁ b section → l₃ ≡ set l₂ 0 next → l₃ ≡ laid_grants ns (gs ++ record { task = task; section = section } ∷ [])
  grant_stored task section count next a b l₁ l₂ l₃ c n p q s₁ s₂ s₃ =
      s₃
      ∙ ap (λ (x : List ℕ). set x 0 next) (s₂ ∙ ap (λ (x : List ℕ). set x b section) s₁)
      ∙ ap₂ (λ (i j : ℕ). set (set (set l i task) j section) 0 next) at_a at_b
      ∙ ap (λ (k : ℕ). set (set (set l (suc (2 * count)) task) (suc (suc (2 * count))) section) 0 k) one_more
      ∙ ap (λ (k : ℕ). granted task section k l) c
      ∙ ap (λ (x : List ℕ). granted task section (get_or x 0 0) x) e
      ∙ grant_laid ns gs (record { task = task; section = section })
    where
      at_a : a ≡ suc (2 * count)
      at_a = omega arith

      at_b : b ≡ suc (suc (2 * count))
      at_b = omega arith

      one_more : next ≡ suc count
      one_more = omega arith
