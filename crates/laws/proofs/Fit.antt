-- Laws of lists cut or filled to a length, of lists by their values, and of a run of stores.
use mathlib.Core.Path.{◌≡◌, refl, sym, ap, ◌∙◌}
use mathlib.Core.List.{List, [], ◌∷◌, ◌++◌, map}
use Prim.Native.Nat.{ℕ, zero, suc, pred, ◌+◌, ◌≤◌, ◌<◌}
use native.Mathlib.Nat.{not-suc-le-zero, zero-add, suc-add}
use native.Mathlib.Omega.{arith}
use lib.ListN.{length, get_or, set, take, replicate, length-set}
use lib.Seq.{sets, set-append_left, ext_get_or}
use Rattle.laws.specs.Rows.{fit, tabulate}

module _ {A : Type 0} where
  -- ---- the values at 0, 1, .. n - 1

  pub length_tabulate : (n : ℕ) (f : ℕ → A) → length (tabulate n f) ≡ n
  unfolding tabulate
  length_tabulate zero f = refl
  length_tabulate (suc n) f = ap suc (length_tabulate n (λ i. f (suc i)))

  pub get_d_tabulate : (n : ℕ) (f : ℕ → A) (i : ℕ) (d : A) → i < n → get_or (tabulate n f) i d ≡ f i
  unfolding tabulate
  get_d_tabulate zero f i d h = absurd (not-suc-le-zero h)
  get_d_tabulate (suc n) f zero d h = refl
  get_d_tabulate (suc n) f (suc i) d h = get_d_tabulate n (λ i. f (suc i)) i d (omega arith)

  -- the function's value at any index, where it is `d` from the bound on
  pub get_d_tabulate_else : (n : ℕ) (f : ℕ → A) (i : ℕ) (d : A) → (n ≤ i → f i ≡ d) → get_or (tabulate n f) i d ≡ f i
  unfolding tabulate
  get_d_tabulate_else zero f i d h = sym (h (omega arith))
  get_d_tabulate_else (suc n) f zero d h = refl
  get_d_tabulate_else (suc n) f (suc i) d h = get_d_tabulate_else n (λ i. f (suc i)) i d (λ l. h (omega arith))

  -- functions that agree below the bound
  pub tabulate_same : (n : ℕ) (f g : ℕ → A) → ((i : ℕ) → i < n → f i ≡ g i) → tabulate n f ≡ tabulate n g
  unfolding tabulate
  tabulate_same zero f g h = refl
  tabulate_same (suc n) f g h =
      λ k. h zero (omega arith) k ∷ tabulate_same n (λ i. f (suc i)) (λ i. g (suc i)) (λ i l. h (suc i) (omega arith)) k

  -- one value more
  pub tabulate_last : (n : ℕ) (f : ℕ → A) → tabulate n f ++ f n ∷ [] ≡ tabulate (suc n) f
  unfolding tabulate
  tabulate_last zero f = refl
  tabulate_last (suc n) f = ap (λ (r : List A). f zero ∷ r) (tabulate_last n (λ i. f (suc i)))

  pub tabulate_get_d : (xs : List A) (d : A) → tabulate (length xs) (λ i. get_or xs i d) ≡ xs
  unfolding tabulate
  tabulate_get_d [] d = refl
  tabulate_get_d (x ∷ xs) d = ap (λ (r : List A). x ∷ r) (tabulate_get_d xs d)

  -- a list of n elements, by its values
  pub tabulate_is : (n : ℕ) (f : ℕ → A) (xs : List A) (d : A) → length xs ≡ n → ((i : ℕ) → i < n → get_or xs i d ≡ f i) → xs ≡ tabulate n f
  tabulate_is n f xs d e h =
      ext_get_or d xs (tabulate n f) (e ∙ sym (length_tabulate n f)) (λ i l. h i (omega arith) ∙ sym (get_d_tabulate n f i d (omega arith)))

  -- ---- a list cut, or filled up, to n elements

  pub fit_tabulate : (n : ℕ) (d : A) (xs : List A) → fit n d xs ≡ tabulate n (λ i. get_or xs i d)
  unfolding fit tabulate
  fit_tabulate zero d xs = refl
  fit_tabulate (suc n) d [] = ap (λ (r : List A). d ∷ r) (fit_tabulate n d [])
  fit_tabulate (suc n) d (x ∷ xs) = ap (λ (r : List A). x ∷ r) (fit_tabulate n d xs)

  pub length_fit : (n : ℕ) (d : A) (xs : List A) → length (fit n d xs) ≡ n
  length_fit n d xs = rw fit_tabulate (length_tabulate n (λ i. get_or xs i d))

  -- an element below n is the list's own, or `d` past the list's end
  pub get_d_fit : (n : ℕ) (d : A) (xs : List A) (i : ℕ) → i < n → get_or (fit n d xs) i d ≡ get_or xs i d
  get_d_fit n d xs i h = rw fit_tabulate (get_d_tabulate n (λ i. get_or xs i d) i d h)

  -- nothing to cut or fill
  pub fit_all : (n : ℕ) (d : A) (xs : List A) → length xs ≡ n → fit n d xs ≡ xs
  fit_all n d xs e = fit_tabulate n d xs ∙ rw (← e) (tabulate_get_d xs d)

  pub take_fit : (n : ℕ) (d : A) (xs : List A) → length xs ≤ n → take (length xs) (fit n d xs) ≡ xs
  unfolding fit
  take_fit n d [] h = refl
  take_fit zero d (x ∷ xs) h = absurd (not-suc-le-zero h)
  take_fit (suc n) d (x ∷ xs) h = ap (λ (r : List A). x ∷ r) (take_fit n d xs (omega arith))

  -- cut to w and filled up again, where the list has nothing but `d` from w on
  pub fit_take : (n : ℕ) (d : A) (w : ℕ) (xs : List A) → length xs ≡ n → ((k : ℕ) → w ≤ k → k < n → get_or xs k d ≡ d) → xs ≡ fit n d (take w xs)
  unfolding fit
  fit_take zero d w [] e h = refl
  fit_take zero d w (x ∷ xs) e h = absurd (omega arith)
  fit_take (suc n) d w [] e h = absurd (omega arith)
  fit_take (suc n) d zero (x ∷ xs) e h =
      λ i. h 0 (omega arith) (omega arith) i ∷ fit_take n d zero xs (omega arith) (λ k l b. h (suc k) (omega arith) (omega arith)) i
  fit_take (suc n) d (suc w) (x ∷ xs) e h =
      ap (λ (r : List A). x ∷ r) (fit_take n d w xs (omega arith) (λ k l b. h (suc k) (omega arith) (omega arith)))

  pub set_fit : (n : ℕ) (d : A) (xs : List A) (i : ℕ) (x : A) → i < length xs → set (fit n d xs) i x ≡ fit n d (set xs i x)
  unfolding fit
  set_fit zero d xs i x h = refl
  set_fit (suc n) d [] i x h = absurd (not-suc-le-zero h)
  set_fit (suc n) d (y ∷ xs) zero x h = refl
  set_fit (suc n) d (y ∷ xs) (suc i) x h = ap (λ (r : List A). y ∷ r) (set_fit n d xs i x (omega arith))

  pub fit_none : (n : ℕ) (d : A) → fit n d [] ≡ replicate n d
  unfolding fit
  fit_none zero d = refl
  fit_none (suc n) d = ap (λ (r : List A). d ∷ r) (fit_none n d)

  -- any element of a list of `d` alone, or past its end
  pub get_d_same : (n : ℕ) (d : A) (i : ℕ) → get_or (replicate n d) i d ≡ d
  get_d_same zero d i = refl
  get_d_same (suc n) d zero = refl
  get_d_same (suc n) d (suc i) = get_d_same n d i

  -- filled up with what it is filled up with already
  pub fit_replicate : (n m : ℕ) (d : A) → fit n d (replicate m d) ≡ fit n d []
  unfolding fit
  fit_replicate zero m d = refl
  fit_replicate (suc n) zero d = refl
  fit_replicate (suc n) (suc m) d = ap (λ (r : List A). d ∷ r) (fit_replicate n m d)

  -- the element after those in hand, stored where the filling begins
  pub set_fit_next : (n : ℕ) (d : A) (xs : List A) (k : ℕ) → k < length xs → set (fit n d (take k xs)) k (get_or xs k d) ≡ fit n d (take (suc k) xs)
  unfolding fit
  set_fit_next zero d xs k h = refl
  set_fit_next (suc n) d [] k h = absurd (not-suc-le-zero h)
  set_fit_next (suc n) d (x ∷ xs) zero h = refl
  set_fit_next (suc n) d (x ∷ xs) (suc k) h = ap (λ (r : List A). x ∷ r) (set_fit_next n d xs k (omega arith))

  -- one more behind those in hand
  pub set_fit_end : (n : ℕ) (d : A) (xs : List A) (x : A) → length xs < n → set (fit n d xs) (length xs) x ≡ fit n d (xs ++ x ∷ [])
  unfolding fit
  set_fit_end zero d xs x h = absurd (not-suc-le-zero h)
  set_fit_end (suc n) d [] x h = refl
  set_fit_end (suc n) d (y ∷ xs) x h = ap (λ (r : List A). y ∷ r) (set_fit_end n d xs x (omega arith))

  -- the last left out
  pub set_fit_last : (n : ℕ) (d : A) (xs : List A) → 1 ≤ length xs → set (fit n d xs) (pred (length xs)) d ≡ fit n d (take (pred (length xs)) xs)
  unfolding fit
  set_fit_last zero d xs h = refl
  set_fit_last (suc n) d [] h = absurd (not-suc-le-zero h)
  set_fit_last (suc n) d (x ∷ []) h = refl
  set_fit_last (suc n) d (x ∷ y ∷ ys) h = ap (λ (r : List A). x ∷ r) (set_fit_last n d (y ∷ ys) (omega arith))

  -- ---- stores

  -- a look after a store finds what was stored or what was there
  pub set_cases : (P : A → Type 0) (xs : List A) (i j : ℕ) (x d : A) → (j ≡ i → P x) → P (get_or xs j d) → P (get_or (set xs i x) j d)
  set_cases P [] i j x d f g = g
  set_cases P (y ∷ xs) zero zero x d f g = f refl
  set_cases P (y ∷ xs) zero (suc j) x d f g = g
  set_cases P (y ∷ xs) (suc i) zero x d f g = g
  set_cases P (y ∷ xs) (suc i) (suc j) x d f g = set_cases P xs i j x d (λ e. f (ap suc e)) g

  pub sets_cons : (x : A) (xs : List A) (i : ℕ) (vs : List A) → sets (x ∷ xs) (suc i) vs ≡ x ∷ sets xs i vs
  sets_cons x xs i [] = refl
  sets_cons x xs i (v ∷ vs) = sets_cons x (set xs i v) (suc i) vs

  pub sets_left : (xs ys : List A) (i : ℕ) (vs : List A) → i + length vs ≤ length xs → sets (xs ++ ys) i vs ≡ sets xs i vs ++ ys
  sets_left xs ys i [] h = refl
  sets_left xs ys i (v ∷ vs) h =
      let l : i < length xs = omega arith in
      rw (set-append_left xs ys i v l) (sets_left (set xs i v) ys (suc i) vs (rw length-set (omega arith)))

  pub sets_right : (xs ys : List A) (i : ℕ) (vs : List A) → sets (xs ++ ys) (length xs + i) vs ≡ xs ++ sets ys i vs
  sets_right [] ys i vs = rw zero-add refl
  sets_right (x ∷ xs) ys i vs = rw suc-add (sets_cons x (xs ++ ys) (length xs + i) vs ∙ ap (λ (r : List A). x ∷ r) (sets_right xs ys i vs))

  -- all of the list
  pub sets_whole : (xs vs : List A) → length xs ≡ length vs → sets xs 0 vs ≡ vs
  sets_whole [] [] h = refl
  sets_whole [] (v ∷ vs) h = absurd (omega arith)
  sets_whole (x ∷ xs) [] h = absurd (omega arith)
  sets_whole (x ∷ xs) (v ∷ vs) h = sets_cons v xs 0 vs ∙ ap (λ (r : List A). v ∷ r) (sets_whole xs vs (omega arith))

  -- two runs, the second where the first ends
  pub sets_join : (xs : List A) (i : ℕ) (us vs : List A) → sets (sets xs i us) (i + length us) vs ≡ sets xs i (us ++ vs)
  sets_join xs i [] vs = ap (λ (k : ℕ). sets xs k vs) (omega arith)
  sets_join xs i (u ∷ us) vs = ap (λ (k : ℕ). sets (sets xs i (u ∷ us)) k vs) (omega arith) ∙ sets_join (set xs i u) (suc i) us vs

module _ {A B : Type 0} (f : A → B) where
  pub map_set : (xs : List A) (i : ℕ) (x : A) → map f (set xs i x) ≡ set (map f xs) i (f x)
  map_set [] i x = refl
  map_set (y ∷ xs) zero x = refl
  map_set (y ∷ xs) (suc i) x = ap (λ (r : List B). f y ∷ r) (map_set xs i x)

  -- the image of an element that is there
  pub get_d_map : (xs : List A) (i : ℕ) (a : A) (b : B) → i < length xs → get_or (map f xs) i b ≡ f (get_or xs i a)
  get_d_map [] i a b h = absurd (not-suc-le-zero h)
  get_d_map (x ∷ xs) zero a b h = refl
  get_d_map (x ∷ xs) (suc i) a b h = get_d_map xs i a b (omega arith)
