-- Options and timeout give a wait whose ticks a u32 holds.
use mathlib.Core.Path.{◌≡◌, refl}
use mathlib.Core.Bool.{true}
use Prim.Native.Nat.{ℕ, ◌≤◌}
use borrow.Author.Tests.{le-leb}
use Rattle.laws.proofs.Choose.{choose_cases}
use Rattle.rules.specs.declared.Wait.{Wait}
use Rattle.rules.specs.Numbers.{max_number}
use Rattle.rules.specs.Semaphore.{wait_of}
use Rattle.rules.specs.Fits.{wait_fits}

pub wait_fits_lem : (options timeout : ℕ) → timeout ≤ max_number → wait_fits (wait_of options timeout) ≡ true
unfolding wait_of
wait_fits_lem options timeout h =
    choose_cases Fits _ _ _ (λ _. refl)
    (λ _. choose_cases Fits _ _ _ (λ _. refl) (λ _. choose_cases Fits _ _ _ (λ _. refl) (λ _. le-leb timeout max_number h)))
  where
    Fits : Wait → Type 0
    Fits w = wait_fits w ≡ true
