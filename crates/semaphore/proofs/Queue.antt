-- Laws of a queue kept in 32 places: one leaves, some are left out.
use mathlib.Core.Path.{◌≡◌, refl, sym, ap, ◌∙◌}
use mathlib.Core.Bool.{Bool, true, false}
use mathlib.Core.List.{List, [], ◌∷◌, ◌++◌}
use Prim.Native.Nat.{ℕ, zero, suc, pred, ◌+◌, ◌-◌, ◌≤◌, ◌<◌}
use native.Mathlib.Nat.{not-suc-le-zero, le_refl}
use native.Mathlib.Numerals.{add-one, sub-one}
use native.Mathlib.Omega.{arith}
use lib.ListN.{length, get_or, set, take, drop, length-append, length-take, length-drop}
use Rattle.std.proofs.Math.Seq.{paste}
use Rattle.std.proofs.lemmas.List.{append_assoc, set-append_right}
use Rattle.std.proofs.lemmas.List.Edits.{paste_all}
use lib.Seq.{take-suc}
use Rattle.laws.specs.Choose.{choose}
use Rattle.laws.proofs.Choose.{if_yes, if_no, choose_cases}
use Rattle.laws.specs.Rows.{fit}
use Rattle.laws.proofs.Fit.{take_fit, set_fit_end}
use Rattle.rules.specs.Machine.{Tables, task_of}
use Rattle.rules.specs.Semaphore.{remove_at}
use Rattle.rules.specs.Calls.{expires, still_waiting}
use Rattle.semaphore.specs.declared.Kept.{Kept}
use Rattle.semaphore.specs.Record.{keep, KeptIs}

module _ {A : Type 0} where
  -- cut or filled twice
  pub fit_fit : (n m : ℕ) (d : A) (xs : List A) → length xs ≤ m → fit n d (fit m d xs) ≡ fit n d xs
  unfolding fit
  fit_fit zero m d xs h = refl
  fit_fit (suc n) zero d [] h = refl
  fit_fit (suc n) zero d (x ∷ xs) h = absurd (not-suc-le-zero h)
  fit_fit (suc n) (suc m) d [] h = ap (λ (r : List A). d ∷ r) (fit_fit n m d [] (omega arith))
  fit_fit (suc n) (suc m) d (x ∷ xs) h = ap (λ (r : List A). x ∷ r) (fit_fit n m d xs (omega arith))

  -- what a filled list holds is had by its number
  pub held : (n : ℕ) (d : A) (xs : List A) (w : ℕ) → w ≡ length xs → length xs ≤ n → take w (fit n d xs) ≡ xs
  held n d xs w e h = rw e (take_fit n d xs h)

-- ---- one leaves

pub remove_fit : (n m place : ℕ) (xs : List ℕ) → length xs ≤ m → place < length xs → fit n 0 (remove_at place (fit m 0 xs)) ≡ fit n 0 (remove_at place xs)
unfolding fit
remove_fit n m place [] h l = absurd (not-suc-le-zero l)
remove_fit n zero place (x ∷ xs) h l = absurd (not-suc-le-zero h)
remove_fit n (suc m) zero (x ∷ xs) h l = fit_fit n m 0 xs (omega arith)
remove_fit zero (suc m) (suc place) (x ∷ xs) h l = refl
remove_fit (suc n) (suc m) (suc place) (x ∷ xs) h l = ap (λ (r : List ℕ). x ∷ r) (remove_fit n m place xs (omega arith) (omega arith))

pub length_remove : (place : ℕ) (xs : List ℕ) → place < length xs → suc (length (remove_at place xs)) ≡ length xs
length_remove place [] h = absurd (not-suc-le-zero h)
length_remove zero (x ∷ xs) h = refl
length_remove (suc place) (x ∷ xs) h = ap suc (length_remove place xs (omega arith))

-- one short of what it is filled up to
fit_one : (n d : ℕ) (xs : List ℕ) → length xs + 1 ≡ n → fit n d xs ≡ xs ++ d ∷ []
unfolding fit
fit_one zero d xs e = absurd (omega arith)
fit_one (suc zero) d [] e = refl
fit_one (suc (suc n)) d [] e = absurd (omega arith)
fit_one (suc n) d (x ∷ xs) e = ap (λ (r : List ℕ). x ∷ r) (fit_one n d xs (omega arith))

set_only : (ys : List ℕ) (d : ℕ) → length ys ≡ 1 → set ys 0 d ≡ d ∷ []
set_only [] d e = absurd (omega arith)
set_only (y ∷ []) d e = refl
set_only (y ∷ z ∷ ys) d e = absurd (omega arith)

-- those behind the place copied one place forward, and 0 stored where the last was
pub remove_copied : (queue moved : List ℕ) (place : ℕ) → length queue ≡ 32 → place < 32 → moved ≡ paste queue place (drop (place + 1) queue) (32 - (place + 1))
    → set moved 31 0 ≡ fit 32 0 (remove_at place queue)
remove_copied queue moved place len fits e =
    let behind : List ℕ = drop (place + 1) queue in
    let last : List ℕ = drop 31 queue in
    let end : place + (32 - (place + 1)) ≡ 31 = omega arith in
    let all : 32 - (place + 1) ≡ length behind = omega (arith, length-drop (place + 1) queue) in
    let left : remove_at place queue ≡ take place queue ++ behind = rw add-one refl in
    let few : length (take place queue ++ behind) ≡ 31 = omega (arith, length-append (take place queue) behind, length-take place queue, length-drop (place + 1) queue) in
    let parts : moved ≡ (take place queue ++ behind) ++ last =
    e ∙ paste_all queue place behind _ all ∙ ap (λ (k : ℕ). take place queue ++ (behind ++ drop k queue)) end
    ∙ sym (append_assoc (take place queue) behind last) in
    ap (λ (xs : List ℕ). set xs 31 0) parts ∙ set-append_right (take place queue ++ behind) last 31 31 0 few (omega arith)
    ∙ ap (λ (ys : List ℕ). (take place queue ++ behind) ++ ys) (set_only last 0 (omega (arith, length-drop 31 queue)))
    ∙ sym (fit_one 32 0 (take place queue ++ behind) (omega arith)) ∙ ap (fit 32 0) (sym left)

-- ---- some are left out

swap_choices : (a b : Bool) (x q : ℕ) (ks : List ℕ)
    → choose a (choose b ks (ks ++ q ∷ [])) (x ∷ choose b ks (ks ++ q ∷ [])) ≡ choose b (choose a ks (x ∷ ks)) (choose a ks (x ∷ ks) ++ q ∷ [])
unfolding choose
swap_choices true true x q ks = refl
swap_choices true false x q ks = refl
swap_choices false true x q ks = refl
swap_choices false false x q ks = refl

module _ (expired : List Bool) where
  pub keep_append : (xs : List ℕ) (q : ℕ) → keep expired (xs ++ q ∷ []) ≡ choose (get_or expired (pred q) false) (keep expired xs) (keep expired xs ++ q ∷ [])
  unfolding keep
  keep_append [] q = refl
  keep_append (x ∷ xs) q =
      ap (λ (r : List ℕ). choose (get_or expired (pred x) false) r (x ∷ r)) (keep_append xs q)
      ∙ swap_choices (get_or expired (pred x) false) (get_or expired (pred q) false) x q (keep expired xs)

  pub length_keep : (xs : List ℕ) → length (keep expired xs) ≤ length xs
  unfolding keep
  length_keep [] = le_refl 0
  length_keep (x ∷ xs) =
      choose_cases (λ (r : List ℕ). length r ≤ suc (length xs)) (get_or expired (pred x) false) (keep expired xs) (x ∷ keep expired xs)
      (λ e. omega (arith, length_keep xs))
      (λ e. omega (arith, length_keep xs))

-- the tasks left out are those whose wait a tick ends
pub keep_waiting : (t : Tables) (expired : List Bool) (qs : List ℕ)
    → ((k : ℕ) → k < length qs → get_or expired (pred (get_or qs k 0)) false ≡ expires (task_of t (get_or qs k 0))) → keep expired qs ≡ still_waiting t qs
unfolding keep still_waiting
keep_waiting t expired [] h = refl
keep_waiting t expired (q ∷ qs) h =
    let rest : keep expired qs ≡ still_waiting t qs = keep_waiting t expired qs (λ k l. h (suc k) (omega arith)) in
    λ i. choose (h 0 (omega arith) i) (rest i) (q ∷ rest i)

-- the loop that passes those of the queue, one after another, and keeps those that still wait
module _ (expired : List Bool) (queue : List ℕ) (k : ℕ) where
  pub keep_few : length (keep expired (take k queue)) ≤ k
  keep_few = omega (arith, length_keep expired (take k queue), length-take k queue)

  keep_next : k < length queue
      → keep expired (take (k + 1) queue)
      ≡ choose (get_or expired (get_or queue k 0 - 1) false) (keep expired (take k queue)) (keep expired (take k queue) ++ get_or queue k 0 ∷ [])
  keep_next h =
      rw add-one
      (ap (keep expired) (take-suc queue k 0 h) ∙ keep_append expired (take k queue) (get_or queue k 0) ∙ rw sub-one refl)

  module _ (r : Kept) (here : KeptIs r (keep expired (take k queue))) (h : k < length queue) where
    pub kept_without : get_or expired (get_or queue k 0 - 1) false ≡ true → KeptIs r (keep expired (take (k + 1) queue))
    kept_without e = rw (keep_next h ∙ if_yes _ _ e) here

    pub kept_with : length queue ≡ 32 → get_or expired (get_or queue k 0 - 1) false ≡ false
        → KeptIs (record { waiters = r.waiters + 1; tasks = set r.tasks r.waiters (get_or queue k 0) }) (keep expired (take (k + 1) queue))
    kept_with len e =
        let all : List ℕ = keep expired (take k queue) in
        let more : length (all ++ get_or queue k 0 ∷ []) ≡ length all + 1 = length-append all (get_or queue k 0 ∷ []) in
        rw (keep_next h ∙ if_no _ _ e)
        (record {
          few = omega (arith, keep_few);
          waiters = omega (arith, here.waiters);
          tasks = rw (here.tasks, here.waiters) (set_fit_end 32 0 all (get_or queue k 0) (omega (arith, keep_few)));
        })
