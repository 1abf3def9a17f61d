-- A task leaves the sequence of ready tasks, and those behind it close up.
use mathlib.Core.Path.{◌≡◌, refl, sym, ap, ap₂, ◌∙◌}
use mathlib.Core.Bool.{true, false}
use mathlib.Core.List.{List, [], ◌∷◌, ◌++◌}
use mathlib.Core.Logic.{⊎_elim}
use Prim.Native.Nat.{ℕ, zero, suc, pred, ◌+◌, ◌-◌, ◌≤◌, ◌<◌}
use native.Mathlib.Nat.{not-suc-le-zero}
use native.Mathlib.Numerals.{add-one, sub-one}
use native.Mathlib.Omega.{arith}
use lib.Dec.{eqb}
use lib.ListN.{length, get_or, set, take, drop}
use lib.Seq.{drop-cons, drop-length, take-length, take-append_seam}
use borrow.Author.Tests.{eq-eqb, ne_eqb}
use Rattle.laws.proofs.Choose.{tested, if_yes, if_no, choose_cases}
use Rattle.laws.proofs.Fit.{get_d_fit}
use Rattle.words.specs.Words.{word_at}
use Rattle.words.proofs.WordsInBytes.{Bytes, Words}
use Rattle.rules.specs.Machine.{Tables, with_ready}
use Rattle.rules.specs.Agreement.{occurs}
use Rattle.rules.specs.Calls.{without}
use Rattle.rules.proofs.Invariants.Lists.{bit_yes, bit_no, occurs_none, occurs_cons}
use Rattle.tables.specs.Layout.{ready_place, layout, laid, sequence_at}
use Rattle.tables.proofs.LayoutRead.{laid_words, ready_laid, sequence_laid}
use Rattle.changes.specs.Tick.{place_in}

-- ---- of lists

without_none : (q : ℕ) (xs : List ℕ) → occurs q xs ≡ 0 → without q xs ≡ xs
unfolding without
without_none q [] e = refl
without_none q (x ∷ xs) e =
    ⊎_elim (λ (y : eqb q x ≡ true). absurd (omega (arith, occurs_cons q x xs, bit_yes _ y)))
    (λ (n : eqb q x ≡ false). if_no _ _ n ∙ ap (λ (r : List ℕ). x ∷ r) (without_none q xs (omega (arith, occurs_cons q x xs))))
    (tested (eqb q x))

-- without the place p
abbrev pub removed : ℕ → List ℕ → List ℕ
removed p xs = take p xs ++ drop (suc p) xs

place_within : (q : ℕ) (xs : List ℕ) → 1 ≤ occurs q xs → place_in q xs < length xs
unfolding place_in
place_within q [] e = absurd (omega (arith, occurs_none q))
place_within q (x ∷ xs) e =
    choose_cases (λ (p : ℕ). p < suc (length xs)) (eqb q x) 0 (suc (place_in q xs)) (λ y. omega arith)
    (λ n. omega (arith, place_within q xs (omega (arith, occurs_cons q x xs, bit_no _ n))))

-- so its place is not the length
pub stands_nowhere : (q : ℕ) (xs : List ℕ) → 1 ≤ occurs q xs → place_in q xs ≡ length xs → ⊥
stands_nowhere q xs e n = omega (arith, place_within q xs e)

removed_without : (q : ℕ) (xs : List ℕ) → occurs q xs ≡ 1 → removed (place_in q xs) xs ≡ without q xs
unfolding place_in without
removed_without q [] e = refl
removed_without q (x ∷ xs) e =
    ⊎_elim
    (λ (y : eqb q x ≡ true). rw (if_yes 0 (suc (place_in q xs)) y, if_yes (without q xs) (x ∷ without q xs) y)
    (sym (without_none q xs (omega (arith, occurs_cons q x xs, bit_yes _ y)))))
    (λ (n : eqb q x ≡ false). rw (if_no 0 (suc (place_in q xs)) n, if_no (without q xs) (x ∷ without q xs) n)
    (ap (λ (r : List ℕ). x ∷ r) (removed_without q xs (omega (arith, occurs_cons q x xs, bit_no _ n)))))
    (tested (eqb q x))

-- with the places p to k - 1 closed up, so that the place k stands twice
abbrev pub closed : ℕ → ℕ → List ℕ → List ℕ
closed p k xs = take k (removed p xs) ++ drop k xs

closed_none : (p : ℕ) (xs : List ℕ) → closed p p xs ≡ xs
closed_none zero xs = refl
closed_none (suc p) [] = refl
closed_none (suc p) (x ∷ xs) = ap (λ (r : List ℕ). x ∷ r) (closed_none p xs)

closed_length : (p k : ℕ) (xs : List ℕ) → p ≤ k → k < length xs → length (closed p k xs) ≡ length xs
closed_length p k [] h l = absurd (not-suc-le-zero l)
closed_length zero zero (x ∷ xs) h l = refl
closed_length zero (suc k) (x ∷ []) h l = absurd (omega arith)
closed_length zero (suc k) (x ∷ y ∷ ys) h l = ap suc (closed_length zero k (y ∷ ys) (omega arith) (omega arith))
closed_length (suc p) zero (x ∷ xs) h l = absurd (omega arith)
closed_length (suc p) (suc k) (x ∷ xs) h l = ap suc (closed_length p k xs (omega arith) (omega arith))

-- one place more
closed_more : (p k : ℕ) (xs : List ℕ) → p ≤ k → suc k < length xs → set (closed p k xs) k (get_or (closed p k xs) (suc k) 0) ≡ closed p (suc k) xs
closed_more p k [] h l = absurd (not-suc-le-zero l)
closed_more p k (x ∷ []) h l = absurd (omega arith)
closed_more zero zero (x ∷ y ∷ ys) h l = refl
closed_more zero (suc k) (x ∷ y ∷ ys) h l = ap (λ (r : List ℕ). y ∷ r) (closed_more zero k (y ∷ ys) (omega arith) (omega arith))
closed_more (suc p) zero (x ∷ y ∷ ys) h l = absurd (omega arith)
closed_more (suc p) (suc k) (x ∷ y ∷ ys) h l = ap (λ (r : List ℕ). x ∷ r) (closed_more p k (y ∷ ys) (omega arith) (omega arith))

-- all of them, and then the last leaves
closed_all : (p : ℕ) (xs : List ℕ) → p < length xs → take (pred (length xs)) (closed p (pred (length xs)) xs) ≡ removed p xs
closed_all p [] h = absurd (not-suc-le-zero h)
closed_all zero (x ∷ xs) h =
    ap (λ (l : List ℕ). take (length xs) (l ++ drop (length xs) (x ∷ xs))) (take-length xs) ∙ take-append_seam xs (drop (length xs) (x ∷ xs))
closed_all (suc p) (x ∷ []) h = absurd (omega arith)
closed_all (suc p) (x ∷ y ∷ ys) h = ap (λ (r : List ℕ). x ∷ r) (closed_all p (y ∷ ys) (omega arith))

-- ---- and so in the bytes

module _ (m : List ℕ) (b : Bytes m) (t : Tables) (e : m ≡ laid t) where
  words : Words (layout t)
  words = laid_words t (rw e at b)

  pub count_read : word_at m ready_place ≡ length t.ready
  count_read = ap (λ (x : List ℕ). word_at x ready_place) e ∙ ready_laid t words

  entry_read : (k : ℕ) → k < 32 → get_or (sequence_at m) k 0 ≡ get_or t.ready k 0
  entry_read k h =
      ap (λ (x : List ℕ). get_or (sequence_at x) k 0) e ∙ ap (λ (qs : List ℕ). get_or qs k 0) (sequence_laid t words) ∙ get_d_fit 32 0 t.ready k h

-- the look for a place: what is left of the sequence gives the rest of it
abbrev pub PlaceFrom : List ℕ → ℕ → ℕ → Type 0
PlaceFrom m q k = (t : Tables) → m ≡ laid t → k + place_in q (drop k t.ready) ≡ place_in q t.ready

pub place_begun : (m : List ℕ) (q : ℕ) → PlaceFrom m q 0
place_begun m q t e = omega arith

module _ (m : List ℕ) (q k x : ℕ) (b : Bytes m) (h : k < 32) (l : k < word_at m ready_place) (r : x ≡ get_or (sequence_at m) k 0) (from : PlaceFrom m q k) where
  place_next : (t : Tables) → m ≡ laid t → k + place_in q (x ∷ drop (suc k) t.ready) ≡ place_in q t.ready
  place_next t e =
      let inside : k < length t.ready = omega (arith, count_read m b t e) in
      ap₂ (λ (y : ℕ) (rest : List ℕ). k + place_in q (y ∷ rest)) (r ∙ entry_read m b t e k h) (refl {a = drop (suc k) t.ready})
      ∙ ap (λ (qs : List ℕ). k + place_in q qs) (sym (drop-cons t.ready k 0 inside)) ∙ from t e

  pub place_found : x ≡ q → (t : Tables) → m ≡ laid t → k ≡ place_in q t.ready
  unfolding place_in
  place_found is t e = omega (arith, place_next t e, if_yes 0 (suc (place_in q (drop (suc k) t.ready))) (eq-eqb q x (sym is)))

  pub place_more : (x ≡ q → ⊥) → PlaceFrom m q (k + 1)
  unfolding place_in
  place_more isnt t e =
      rw add-one
      (omega (arith, place_next t e, if_no 0 (suc (place_in q (drop (suc k) t.ready))) (ne_eqb q x (λ y. isnt (sym y)))))

pub place_none : (m : List ℕ) (q k : ℕ) → Bytes m → k ≡ word_at m ready_place → PlaceFrom m q k → (t : Tables) → m ≡ laid t → place_in q t.ready ≡ length t.ready
unfolding place_in
place_none m q k b n from t e =
    let all : k ≡ length t.ready = n ∙ count_read m b t e in
    let rest : place_in q (drop k t.ready) ≡ 0 = rw (all, drop-length t.ready) refl in
    omega (arith, from t e)

-- with the places from that of task q up to k closed up
pub record ClosedTo (m : List ℕ) (q : ℕ) (t : Tables) (k : ℕ) : Type 0 where
  pub behind : place_in q t.ready < k
  pub within : k ≤ length t.ready
  pub same : m ≡ laid (with_ready t (closed (place_in q t.ready) (pred k) t.ready))

abbrev pub Closing : List ℕ → ℕ → List ℕ → ℕ → Type 0
Closing m₀ q m k = (t : Tables) → m₀ ≡ laid t → occurs q t.ready ≡ 1 → ClosedTo m q t k

pub closing_none : (m₀ : List ℕ) (q p : ℕ) → ((t : Tables) → m₀ ≡ laid t → p ≡ place_in q t.ready) → Closing m₀ q m₀ (p + 1)
closing_none m₀ q p place t e once =
    let at : p ≡ place_in q t.ready = place t e in
    record {
      behind = omega arith;
      within = omega (arith, place_within q t.ready (omega arith));
      same = e ∙ ap (λ (qs : List ℕ). laid (with_ready t qs))
          (sym (ap (λ (j : ℕ). closed (place_in q t.ready) j t.ready) (let j : pred (p + 1) ≡ place_in q t.ready = omega arith in j)
          ∙ closed_none (place_in q t.ready) t.ready));
    }

module _ (m₀ : List ℕ) (q : ℕ) (m : List ℕ) (k : ℕ) (b₀ : Bytes m₀) (b : Bytes m) (c : Closing m₀ q m k) where
  pub closing_more : (x : ℕ) (m' : List ℕ) → 1 ≤ k → k < 32 → k < word_at m₀ ready_place → x ≡ get_or (sequence_at m) k 0
      → ((t : Tables) → m ≡ laid t → k - 1 < length t.ready → m' ≡ laid (with_ready t (set t.ready (k - 1) x))) → Closing m₀ q m' (k + 1)
  closing_more x m' low few l r store t e once =
      let at = c t e once in
      let p : ℕ = place_in q t.ready in
      let xs : List ℕ = closed p (pred k) t.ready in
      let inside : k < length t.ready = omega (arith, count_read m₀ b₀ t e) in
      let back : p ≤ pred k = omega (arith, at.behind) in
      let long : length xs ≡ length t.ready = closed_length p (pred k) t.ready back (omega arith) in
      let last : k - 1 ≡ pred k = sub-one k in
      let next : suc (pred k) ≡ k = omega arith in
      let read : x ≡ get_or xs (suc (pred k)) 0 = r ∙ entry_read m b (with_ready t xs) at.same k few ∙ ap (λ (j : ℕ). get_or xs j 0) (sym next) in
      record {
        behind = omega (arith, at.behind);
        within = omega arith;
        same = store (with_ready t xs) at.same (omega arith)
            ∙ ap₂ (λ (j y : ℕ). laid (with_ready t (set xs j y))) last read
            ∙ ap (λ (qs : List ℕ). laid (with_ready t qs)) (closed_more p (pred k) t.ready back (omega arith))
            ∙ ap (λ (j : ℕ). laid (with_ready t (closed p j t.ready))) (let j : suc (pred k) ≡ pred (k + 1) = omega arith in j);
      }

  pub closing_all : (m' : List ℕ) → word_at m₀ ready_place ≤ k → word_at m₀ ready_place ≤ 32
      → ((t : Tables) → m ≡ laid t → 1 ≤ length t.ready → length t.ready ≤ 32 → m' ≡ laid (with_ready t (take (pred (length t.ready)) t.ready)))
      → (t : Tables) → m₀ ≡ laid t → occurs q t.ready ≡ 1 → m' ≡ laid (with_ready t (without q t.ready))
  closing_all m' h few dropped t e once =
      let at = c t e once in
      let p : ℕ = place_in q t.ready in
      let n : ℕ = length t.ready in
      let count = count_read m₀ b₀ t e in
      let end : k ≡ n = omega (arith, at.within) in
      let inside : p < n = place_within q t.ready (omega arith) in
      let xs : List ℕ = closed p (pred k) t.ready in
      let long : length xs ≡ n = closed_length p (pred k) t.ready (omega (arith, at.behind)) (omega arith) in
      dropped (with_ready t xs) at.same (omega arith) (omega arith)
      ∙ ap₂ (λ (i j : ℕ). laid (with_ready t (take (pred i) (closed p (pred j) t.ready)))) long end
      ∙ ap (λ (qs : List ℕ). laid (with_ready t qs)) (closed_all p t.ready inside ∙ removed_without q t.ready once)
