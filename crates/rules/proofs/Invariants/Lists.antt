-- Laws of lists by their places, and of how often a number stands in a list.
use mathlib.Core.Path.{◌≡◌, refl, sym, subst, ◌∙◌}
use mathlib.Core.Bool.{Bool, true, false}
use mathlib.Core.List.{List, [], ◌∷◌, ◌++◌, map}
use mathlib.Core.Logic.{⊎_elim, ◌≢◌}
use Prim.Native.Nat.{ℕ, zero, suc, ◌+◌, ◌≤◌, ◌<◌}
use native.Mathlib.Omega.{arith}
use native.Mathlib.Decide.{ℕ_discrete}
use native.Mathlib.Nat.{not-suc-le-zero}
use lib.Dec.{eqb}
use lib.ListN
use lib.ListN.{length, get_or, set, drop}
use lib.Seq.{get_or-set_same, get_or-set_other}
use borrow.Author.Tests.{leb-true, eqb-true, eq-eqb, ne_eqb, le-leb}
use Rattle.laws.specs.Choose.{choose, bit, ◌and◌}
use Rattle.laws.specs.Rows.{tabulate}
use Rattle.laws.proofs.Fit.{set_cases, length_tabulate, get_d_tabulate}
use Rattle.laws.proofs.Choose.{tested, if_yes, if_no, never, choose_cases, and_both, both_and}
use Rattle.rules.specs.declared.Task.{Task}
use Rattle.rules.specs.Numbers.{within}
use Rattle.rules.specs.Machine.{no_task}
use Rattle.rules.specs.Agreement.{occurs}
use Rattle.rules.specs.Semaphore.{insert_at, remove_at}
use Rattle.rules.specs.Calls.{up_to, without, expires, timed_out}

-- ---- places

module _ {A : Type 0} where
  -- what holds of every place holds of every place after one is replaced
  pub set_all : (P : A → Type 0) (l : List A) (i : ℕ) (a d : A) → ((j : ℕ) → P (get_or l j d)) → P a → (j : ℕ) → P (get_or (set l i a) j d)
  set_all P l i a d all new j = set_cases P l i j a d (λ e. new) (all j)

  -- a function that keeps the value outside
  pub get_d_map : (f : A → A) (l : List A) (j : ℕ) (d : A) → f d ≡ d → get_or (map f l) j d ≡ f (get_or l j d)
  get_d_map f l j d e = subst (λ (z : A). get_or (map f l) j z ≡ f (get_or l j d)) e (ListN.get_or-map f l j d)

-- one place of the second differs from the first, and is a
pub record Updated {A : Type 0} (f g : ℕ → A) (i : ℕ) (a : A) : Type 0 where
  pub same : g i ≡ a
  pub other : (j : ℕ) → j ≢ i → g j ≡ f j

pub set_updated : {A : Type 0} (l : List A) (i : ℕ) (a d : A) → i < length l → Updated (λ j. get_or l j d) (λ j. get_or (set l i a) j d) i a
set_updated l i a d h = record { same = get_or-set_same l i a d h; other = λ j n. get_or-set_other l i j a d n }

pub updated_cases : {A : Type 0} {f g : ℕ → A} {i : ℕ} {a : A} (P : ℕ → A → Type 0) → Updated f g i a → (j : ℕ) → P i a → (j ≢ i → P j (f j)) → P j (g j)
updated_cases {A} {f} {g} {i} {a} P u j same other =
    elim (ℕ_discrete j i) [
      | yes e ↦ subst (λ (k : ℕ). P k (g k)) (sym e) (subst (P i) (sym u.same) same)
      | no n ↦ subst (P j) (sym (u.other j n)) (other n)
    ]

-- ---- how often a number stands in a list

pub bit_most : (b : Bool) → bit b ≤ 1
bit_most b = choose_cases (λ (n : ℕ). n ≤ 1) b 1 0 (λ e. omega arith) (λ e. omega arith)

pub bit_yes : (b : Bool) → b ≡ true → bit b ≡ 1
bit_yes b e = if_yes 1 0 e

pub bit_no : (b : Bool) → b ≡ false → bit b ≡ 0
bit_no b e = if_no 1 0 e

-- a bit of 1 or more is a test that holds
pub bit_true : (b : Bool) → 1 ≤ bit b → b ≡ true
bit_true b h = ⊎_elim (λ (e : b ≡ true). e) (λ (e : b ≡ false). absurd (omega (arith, bit_no b e))) (tested b)

pub bit_and : (a b : Bool) → bit (a and b) ≤ bit a
bit_and a b =
    ⊎_elim (λ (e : (a and b) ≡ true). omega (arith, bit_yes (a and b) e, bit_yes a (and_both a b e).0))
    (λ (e : (a and b) ≡ false). omega (arith, bit_no (a and b) e)) (tested (a and b))

pub bit_same : (q : ℕ) → bit (eqb q q) ≡ 1
bit_same q = if_yes 1 0 (eq-eqb q q refl)

pub occurs_none : (q : ℕ) → occurs q [] ≡ 0
unfolding occurs
occurs_none q = refl

pub occurs_cons : (q x : ℕ) (xs : List ℕ) → occurs q (x ∷ xs) ≡ bit (eqb q x) + occurs q xs
unfolding occurs
occurs_cons q x xs = refl

-- an entry occurs
pub occurs_at : (xs : List ℕ) (k : ℕ) → k < length xs → 1 ≤ occurs (get_or xs k 0) xs
occurs_at [] k h = absurd (not-suc-le-zero h)
occurs_at (x ∷ xs) zero h = omega (arith, occurs_cons x x xs, bit_same x)
occurs_at (x ∷ xs) (suc k) h = omega (arith, occurs_cons (get_or xs k 0) x xs, occurs_at xs k (omega arith))

-- what passes no test that every entry passes does not occur
pub occurs_not : (P : ℕ → Bool) (q : ℕ) → P q ≡ false → (xs : List ℕ) → ((k : ℕ) → k < length xs → P (get_or xs k 0) ≡ true) → occurs q xs ≡ 0
occurs_not P q n [] all = occurs_none q
occurs_not P q n (x ∷ xs) all =
    omega (arith, occurs_cons q x xs, bit_no (eqb q x) other, occurs_not P q n xs (λ k h. all (suc k) (omega arith)))
  where
    other : eqb q x ≡ false
    other = ⊎_elim (λ (e : eqb q x ≡ true). never (all 0 (omega arith)) (rw (eqb-true q x e) at n)) (λ (e : eqb q x ≡ false). e) (tested (eqb q x))

-- an empty queue
pub occurs_empty : (q : ℕ) (xs : List ℕ) → length xs ≡ 0 → occurs q xs ≡ 0
occurs_empty q [] e = occurs_none q
occurs_empty q (x ∷ xs) e = absurd (omega arith)

pub occurs_insert : (q x k : ℕ) (xs : List ℕ) → occurs q (insert_at k x xs) ≡ bit (eqb q x) + occurs q xs
occurs_insert q x zero xs = occurs_cons q x xs
occurs_insert q x (suc k) [] = occurs_cons q x []
occurs_insert q x (suc k) (y ∷ ys) = omega (arith, occurs_cons q y (insert_at k x ys), occurs_cons q y ys, occurs_insert q x k ys)

-- one list behind another
pub occurs_append : (q : ℕ) (xs ys : List ℕ) → occurs q (xs ++ ys) ≡ occurs q xs + occurs q ys
occurs_append q [] ys = omega (arith, occurs_none q)
occurs_append q (x ∷ xs) ys = omega (arith, occurs_cons q x (xs ++ ys), occurs_cons q x xs, occurs_append q xs ys)

-- a task that joins at the rear
pub occurs_rear : (q x : ℕ) (xs : List ℕ) → occurs q (xs ++ x ∷ []) ≡ bit (eqb q x) + occurs q xs
occurs_rear q x xs = omega (arith, occurs_append q xs (x ∷ []), occurs_cons q x [], occurs_none q)

-- the entry at a place and the others
pub occurs_remove : (q k : ℕ) (xs : List ℕ) → k < length xs → occurs q xs ≡ bit (eqb q (get_or xs k 0)) + occurs q (remove_at k xs)
occurs_remove q k [] h = absurd (not-suc-le-zero h)
occurs_remove q zero (x ∷ xs) h = occurs_cons q x xs
occurs_remove q (suc k) (x ∷ xs) h = omega (arith, occurs_cons q x xs, occurs_cons q x (remove_at k xs), occurs_remove q k xs (omega arith))

-- a sequence without task c
pub occurs_without : (q c : ℕ) (xs : List ℕ) → occurs q (without c xs) ≡ choose (eqb q c) 0 (occurs q xs)
unfolding without
occurs_without q c xs = choose_cases (λ (n : ℕ). occurs q (without c xs) ≡ n) (eqb q c) 0 (occurs q xs) (λ e. gone (eqb-true q c e) xs) (λ e. stays e xs)
  where
    gone : q ≡ c → (xs : List ℕ) → occurs q (without c xs) ≡ 0
    gone s [] = occurs_none q
    gone s (x ∷ xs) =
        choose_cases (λ (l : List ℕ). occurs q l ≡ 0) (eqb c x) (without c xs) (x ∷ without c xs) (λ e. gone s xs)
        (λ e. omega (arith, occurs_cons q x (without c xs), bit_no (eqb q x) (rw s e), gone s xs))

    stays : eqb q c ≡ false → (xs : List ℕ) → occurs q (without c xs) ≡ occurs q xs
    stays n [] = refl
    stays n (x ∷ xs) =
        choose_cases (λ (l : List ℕ). occurs q l ≡ occurs q (x ∷ xs)) (eqb c x) (without c xs) (x ∷ without c xs)
        (λ e. omega (arith, occurs_cons q x xs, bit_no (eqb q x) (rw (eqb-true c x e) at n), stays n xs))
        (λ e. omega (arith, occurs_cons q x xs, occurs_cons q x (without c xs), stays n xs))

-- numbers that go up by one from m
module _ (q : ℕ) where
  run_below : (n : ℕ) (f : ℕ → ℕ) (m : ℕ) → ((i : ℕ) → f i ≡ m + i) → q < m → occurs q (tabulate n f) ≡ 0
  unfolding tabulate
  run_below zero f m e h = occurs_none q
  run_below (suc n) f m e h =
      omega (
        arith,
        occurs_cons q (f 0) (tabulate n (λ i. f (suc i))),
        bit_no (eqb q (f 0)) (ne_eqb q (f 0) (λ (s : q ≡ f 0). omega (arith, e 0))),
        run_below n (λ i. f (suc i)) (suc m) (λ i. omega (arith, e (suc i))) (omega arith),
      )

  run_in : (n : ℕ) (f : ℕ → ℕ) (m : ℕ) → ((i : ℕ) → f i ≡ m + i) → m ≤ q → q < m + n → occurs q (tabulate n f) ≡ 1
  unfolding tabulate
  run_in zero f m e l h = absurd (omega arith)
  run_in (suc n) f m e l h =
      elim (ℕ_discrete q m) [
        | yes s ↦
            omega (
              arith,
              occurs_cons q (f 0) (tabulate n (λ i. f (suc i))),
              bit_yes (eqb q (f 0)) (eq-eqb q (f 0) (omega (arith, e 0))),
              run_below n (λ i. f (suc i)) (suc m) (λ i. omega (arith, e (suc i))) (omega arith),
            )
        | no d ↦
            omega (
              arith,
              occurs_cons q (f 0) (tabulate n (λ i. f (suc i))),
              bit_no (eqb q (f 0)) (ne_eqb q (f 0) (λ (s : q ≡ f 0). omega (arith, e 0))),
              run_in n (λ i. f (suc i)) (suc m) (λ i. omega (arith, e (suc i))) (omega arith) (omega arith),
            )
      ]

pub occurs_up_to : (n q : ℕ) → occurs q (up_to n) ≡ bit (within 1 n q)
occurs_up_to n q =
    choose_cases (λ (b : ℕ). occurs q (up_to n) ≡ b) (within 1 n q) 1 0
    (λ e. let w = and_both _ _ e in run_in q n suc 1 (λ i. omega arith) (leb-true 1 q w.0) (omega (arith, leb-true q n w.1)))
    (λ e. occurs_not (within 1 n) q e (up_to n) entry)
  where
    entry : (k : ℕ) → k < length (up_to n) → within 1 n (get_or (up_to n) k 0) ≡ true
    entry k h =
        let b : k < n = rw length_tabulate at h in
        rw (get_d_tabulate n suc k 0 b) (both_and (le-leb 1 (suc k) (omega arith)) (le-leb (suc k) n b))

-- the tasks of a list whose wait a tick ends, counted from m: no number below m, and the others each as its task says
none_expires : expires no_task ≡ false
none_expires = if_no _ _ refl

pub timed_below : (vs : List Task) (m q : ℕ) → q < m → occurs q (timed_out vs m) ≡ 0
unfolding timed_out
timed_below [] m q h = occurs_none q
timed_below (v ∷ vs) m q h =
    let rest = timed_below vs (suc m) q (omega arith) in
    choose_cases (λ (l : List ℕ). occurs q l ≡ 0) (expires v) (m ∷ timed_out vs (suc m)) (timed_out vs (suc m))
    (λ e. omega (arith, rest, occurs_cons q m (timed_out vs (suc m)), bit_no (eqb q m) (ne_eqb q m (λ (s : q ≡ m). omega arith)))) (λ e. rest)

pub timed_at : (vs : List Task) (m i q : ℕ) → q ≡ m + i → occurs q (timed_out vs m) ≡ bit (expires (get_or vs i no_task))
unfolding timed_out
timed_at [] m i q s = occurs_none q ∙ sym (bit_no (expires no_task) none_expires)
timed_at (v ∷ vs) m zero q s =
    let rest = timed_below vs (suc m) q (omega arith) in
    choose_cases (λ (l : List ℕ). occurs q l ≡ bit (expires v)) (expires v) (m ∷ timed_out vs (suc m)) (timed_out vs (suc m))
    (λ e. omega (arith, rest, occurs_cons q m (timed_out vs (suc m)), bit_yes (eqb q m) (eq-eqb q m (omega arith)), bit_yes (expires v) e))
    (λ e. omega (arith, rest, bit_no (expires v) e))
timed_at (v ∷ vs) m (suc i) q s =
    let rest = timed_at vs (suc m) i q (omega arith) in
    choose_cases (λ (l : List ℕ). occurs q l ≡ bit (expires (get_or vs i no_task))) (expires v) (m ∷ timed_out vs (suc m)) (timed_out vs (suc m))
    (λ e. omega (arith, rest, occurs_cons q m (timed_out vs (suc m)), bit_no (eqb q m) (ne_eqb q m (λ (z : q ≡ m). omega arith)))) (λ e. rest)
