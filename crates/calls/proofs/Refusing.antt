-- For what a start and a create are refused, in the rules' order.
use mathlib.Core.Path.{◌≡◌, refl, sym, ap₂, ◌∙◌}
use mathlib.Core.Bool.{Bool, true, false}
use mathlib.Core.List.{List, [], ◌∷◌}
use mathlib.Core.Logic.{◌⊎◌, ⊎_elim}
use Prim.Native.Nat.{ℕ, suc, ◌≤◌, ◌<◌}
use native.Mathlib.Omega.{arith}
use Rattle.std.specs.List.{list_all}
use Rattle.std.specs.Prelude.{◌&&◌}
use Rattle.std.proofs.lemmas.List.Folds.{list_all_at}
use lib.Dec.{eqb}
use lib.ListN.{length, get_or}
use borrow.Author.Tests.{le-leb, lt-leb, eq-eqb, ne_eqb}
use Rattle.laws.specs.Choose.{choose, ◌and◌}
use Rattle.laws.proofs.Choose.{both_and, same_test, tested, never}
use Rattle.laws.specs.All.{all}
use Rattle.laws.proofs.All.{all_of, all_at}
use Rattle.words.specs.Words.{word_at}
use Rattle.rules.specs.declared.refusal.Refusal.{Refusal}
use Rattle.rules.specs.Status.{status_of}
use Rattle.rules.specs.Numbers.{within, allowed, allowed_count}
use Rattle.rules.specs.Machine.{Tables}
use Rattle.rules.specs.Calls.{task_only, start_refusal, open_slot, create_refusal}
use Rattle.tables.specs.Layout.{model_of}
use Rattle.lookup.proofs.Model.{length_tasks}
use Rattle.calls.proofs.Checks.{holding, failing, and_first, and_second, within_low, within_high, within_both}
use Rattle.calls.proofs.Entering.{task_first, caller_refused, caller_passed}

-- ---- the checks of start, in the rules' order

module _ (bs : List ℕ) (slots : ℕ) (priorities : List ℕ) where
  pub start_again : 1 ≤ word_at bs 0 → 14 ≡ start_refusal (model_of bs) slots priorities
  unfolding start_refusal
  start_again h = holding _ (le-leb 1 (length (model_of bs).tasks) (omega (arith, length_tasks bs))) refl

  module _ (first : word_at bs 0 < 1) where
    abbrev sizes : Bool
    sizes = within 1 32 (length priorities) and within 1 64 slots

    abbrev allowed_priorities : Bool
    allowed_priorities = all (length priorities) (λ i. within 1 255 (get_or priorities i 0))

    sized_first : (y : ℕ) → y ≡ choose sizes (choose allowed_priorities 0 19) 10 → y ≡ start_refusal (model_of bs) slots priorities
    unfolding start_refusal
    sized_first y e = failing _ (lt-leb 1 (length (model_of bs).tasks) (omega (arith, length_tasks bs))) e

    pub start_sizes : ((length priorities < 1) ⊎ (32 < length priorities)) ⊎ ((slots < 1) ⊎ (64 < slots)) → 10 ≡ start_refusal (model_of bs) slots priorities
    start_sizes h = sized_first 10 (failing _ (unfit h) refl)
      where
        outside : (n most : ℕ) → (n < 1) ⊎ (most < n) → within 1 most n ≡ false
        outside n most = ⊎_elim (within_low 1 most n) (within_high 1 most n)

        unfit : ((length priorities < 1) ⊎ (32 < length priorities)) ⊎ ((slots < 1) ⊎ (64 < slots)) → sizes ≡ false
        unfit = ⊎_elim (λ h. and_first _ (outside (length priorities) 32 h)) (λ h. and_second _ (outside slots 64 h))

    module _ (some : 1 ≤ length priorities) (few : length priorities ≤ 32) (low : 1 ≤ slots) (high : slots ≤ 64) where
      fit : sizes ≡ true
      fit = both_and (within_both 1 32 (length priorities) some few) (within_both 1 64 slots low high)

      pub start_priorities : allowed_priorities ≡ false → 19 ≡ start_refusal (model_of bs) slots priorities
      start_priorities e = sized_first 19 (holding _ fit (failing _ e refl))

      pub start_may : allowed_priorities ≡ true → 0 ≡ start_refusal (model_of bs) slots priorities
      start_may e = sized_first 0 (holding _ fit (holding _ e refl))

-- ---- the checks of create, in the rules' order

module _ (t : Tables) (caller name count attributes maximum : ℕ) where
  abbrev checked : ℕ
  checked = create_refusal t caller name count attributes maximum

  pub create_caller : (e : Refusal) → status_of e ≡ task_only t caller 0 → status_of e ≡ checked
  unfolding create_refusal
  create_caller e is = sym (caller_refused (task_first t caller) _ e is)

  module _ (passed : 0 ≡ task_only t caller 0) where
    abbrev last : ℕ
    last = choose (eqb (open_slot t) 0) 5 0

    then : (y : ℕ) → y ≡ choose (eqb name 0) 3 (choose (allowed attributes) (choose (allowed_count count attributes maximum) last 10) 11) → y ≡ checked
    unfolding create_refusal
    then y e = e ∙ sym (caller_passed (task_first t caller) _ passed)

    pub create_nameless : name ≡ 0 → 3 ≡ checked
    create_nameless z = then 3 (holding _ (eq-eqb name 0 z) refl)

    module _ (some : name ≡ 0 → ⊥) where
      named : (y : ℕ) → y ≡ choose (allowed attributes) (choose (allowed_count count attributes maximum) last 10) 11 → y ≡ checked
      named y e = then y (failing _ (ne_eqb name 0 some) e)

      pub create_undefined : allowed attributes ≡ false → 11 ≡ checked
      create_undefined e = named 11 (failing _ e refl)

      module _ (defined : allowed attributes ≡ true) where
        pub create_uncounted : allowed_count count attributes maximum ≡ false → 10 ≡ checked
        create_uncounted e = named 10 (holding _ defined (failing _ e refl))

        module _ (counted : allowed_count count attributes maximum ≡ true) where
          pub create_full : 0 ≡ open_slot t → 5 ≡ checked
          create_full z = named 5 (holding _ defined (holding _ counted (holding _ (eq-eqb _ 0 (sym z)) refl)))

          pub create_may : (n : ℕ) → n ≡ open_slot t → 1 ≤ n → 0 ≡ checked
          create_may n is h = named 0 (holding _ defined (holding _ counted (failing _ (ne_eqb _ 0 (λ z. omega (arith, z, is))) refl)))

-- ---- the test of each element of a list, and that of each index

listed : (p : ℕ → Bool) (xs : List ℕ) → ((k : ℕ) → k < length xs → p (get_or xs k 0) ≡ true) → list_all p xs ≡ true
listed p [] h = refl
listed p (x ∷ xs) h = ap₂ (λ (a b : Bool). a && b) (h 0 (omega arith)) (listed p xs (λ k l. h (suc k) (omega arith)))

pub all_listed : (p : ℕ → Bool) (xs : List ℕ) → list_all p xs ≡ all (length xs) (λ i. p (get_or xs i 0))
all_listed p xs =
    let q : ℕ → Bool = λ i. p (get_or xs i 0) in
    same_test (list_all p xs) (all (length xs) q)
    (λ e. all_of (length xs) q (λ k h. ⊎_elim (λ t. t) (λ f. never e (list_all_at p xs k 0 h f)) (tested (q k))))
    (λ e. listed p xs (λ k h. all_at (length xs) q e k h))

pub ruleset starts = (start_again, start_sizes, start_priorities, start_may)

pub ruleset creates = (create_caller, create_nameless, create_undefined, create_uncounted, create_full, create_may)
