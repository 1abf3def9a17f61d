-- A caller's refusal by the manager, as a code.
use mathlib.Core.Path.{◌≡◌, refl, sym, ap, ◌∙◌}
use mathlib.Core.Bool.{Bool, true, false}
use Prim.Native.Nat.{ℕ}
use native.Mathlib.Omega.{arith}
use lib.Dec.{eqb}
use lib.IntN.{ℤ}
use borrow.Author.Tests.{ne_eqb}
use Rattle.std.specs.Prelude.{Result, Ok, Err, MatchResult}
use Rattle.std.specs.Result.{IsErrAnd}
use Rattle.laws.specs.Choose.{choose, ◌and◌, isnt}
use Rattle.laws.proofs.Choose.{if_no}
use Rattle.rules.specs.declared.refusal.Refusal.{Refusal}
use Rattle.rules.specs.Status.{status, status_of}
use Rattle.rules.proofs.Refused.{refused}
use Rattle.rules.specs.Calls as classic
use Rattle.rules.specs.Machine.{Tables}
use Rattle.itron.specs.declared.codes.Code.{Code}
use Rattle.itron.specs.Codes.{e_id, e_ctx, number_of, or_rest, Checks}
use Rattle.itron.specs.Calls.{caller_code, any_caller, task_only}

-- no status goes on, another is that code
abbrev as_code : ℕ → ℤ → ℤ
as_code n rest = choose (eqb n 0) rest (caller_code n)

any_code : (interrupt above waits : Bool) (rest : ℤ)
    → as_code (choose (isnt interrupt and isnt (eqb (choose above 4 (choose waits 14 0)) 0)) (choose above 4 (choose waits 14 0)) 0) rest
    ≡ choose interrupt rest (choose above e_id (choose waits e_ctx rest))
unfolding choose caller_code
any_code true above waits rest = refl
any_code false true waits rest = refl
any_code false false true rest = refl
any_code false false false rest = refl

task_code : (interrupt above waits : Bool) (rest : ℤ) → let x : ℕ = choose above 4 (choose waits 14 0) in
    as_code (choose interrupt 18 (choose (eqb x 0) 0 x)) rest ≡ choose interrupt e_ctx (choose interrupt rest (choose above e_id (choose waits e_ctx rest)))
unfolding choose caller_code
task_code true above waits rest = refl
task_code false true waits rest = refl
task_code false false true rest = refl
task_code false false false rest = refl

abbrev Told : Result (Unit {0}) Refusal → Result (Unit {0}) Code → Type 0
Told r s = MatchResult r (λ x. s ≡ Ok x) (λ e. IsErrAnd s (λ c. number_of c ≡ caller_code (status_of e)))

told : (r : Result (Unit {0}) Refusal) (s : Result (Unit {0}) Code) → Told r s → (rest : ℤ) → or_rest s rest ≡ as_code (status r) rest
unfolding choose
told (Ok x) s m rest = ap {B = ℤ} (λ (s : Result (Unit {0}) Code). or_rest s rest) m
told (Err e) (Ok x) m rest = absurd m
told (Err e) (Err c) m rest = m ∙ sym (if_no rest _ (ne_eqb (status_of e) 0 (λ z. absurd (omega (arith, refused e)))))

module _ (t : Tables) (caller : ℕ) (r : Result (Unit {0}) Refusal) (s : Result (Unit {0}) Code) (m : Told r s) where
  pub any_told : status r ≡ classic.any_caller t caller 0 → Checks s (any_caller t caller)
  any_told e rest = told r s m rest ∙ ap (λ (n : ℕ). as_code n rest) e ∙ any_code _ _ _ rest

  pub task_told : status r ≡ classic.task_only t caller 0 → Checks s (task_only t caller)
  task_told e rest = told r s m rest ∙ ap (λ (n : ℕ). as_code n rest) e ∙ task_code _ _ _ rest
