-- Every call on agreeing tables refuses with one of its statuses, is done, or begins a wait.
use mathlib.Core.Path.{◌≡◌, refl}
use mathlib.Core.Bool.{Bool, true, false}
use mathlib.Core.List.{List}
use Prim.Native.Nat.{ℕ}
use lib.Dec.{eqb}
use borrow.Author.Tests.{eqb-false}
use Rattle.laws.specs.Choose.{choose}
use Rattle.laws.proofs.Choose.{choose_cases, never}
use Rattle.rules.specs.Numbers.{invalid_name}
use Rattle.rules.specs.declared.Call.{Call}
use Rattle.rules.specs.declared.Call.TheVariants.{Start, Create, Ident, Delete, Obtain, Release, Flush, Tick}
use Rattle.rules.specs.declared.Wait.{Wait}
use Rattle.rules.specs.Machine.{Slot, Tables}
use Rattle.rules.specs.Semaphore.{Given, give_step, pass_step}
use Rattle.rules.specs.Calls.{Outcome, answered, refused, unless, start_refusal, start, create_refusal, create, ident, delete_refusal}
use Rattle.rules.specs.Calls.{delete, obtain_refusal, obtain, release_refusal, release, flush_refusal, flush, tick, perform}
use Rattle.rules.specs.Promises.{valued, given, is_in}

pub data Performed (t : Tables) (call : Call) : Outcome → Type 0 where
  refusing : (status : ℕ) → (status ≡ 0 → ⊥) → is_in status (given call) ≡ true → Performed t call (refused t status)
  done : (value : ℕ) (after : Tables) → is_in 0 (given call) ≡ true → (valued call ≡ false → value ≡ 0) → Performed t call (answered 0 value after)
  began : (after : Tables) → is_in 100 (given call) ≡ true → Performed t call (answered 100 0 after)

-- a choice of numbers, and of a release's steps, stays in a list
choose_in : (list : List ℕ) (test : Bool) (a b : ℕ) → is_in a list ≡ true → is_in b list ≡ true → is_in (choose test a b) list ≡ true
choose_in list test a b f g = choose_cases (λ n. is_in n list ≡ true) test a b (λ e. f) (λ e. g)

given_in : (list : List ℕ) (test : Bool) (a b : Given) → is_in a.status list ≡ true → is_in b.status list ≡ true
    → is_in (choose test a b).status list ≡ true
given_in list test a b f g = choose_cases (λ n. is_in n.status list ≡ true) test a b (λ e. f) (λ e. g)

-- done, unless the checks before refuse
unless_performed : (t : Tables) (call : Call) (refusal : ℕ) (o : Outcome) → is_in refusal (given call) ≡ true → Performed t call o
    → Performed t call (unless refusal t o)
unless_performed t call refusal o i p =
    choose_cases (Performed t call) (eqb refusal 0) o (refused t refusal) (λ e. p) (λ e. refusing refusal (eqb-false refusal 0 e) i)

module _ (t : Tables) where
  starts : (slots : ℕ) (priorities : List ℕ) → is_in (start_refusal t slots priorities) (given (Start slots)) ≡ true
  unfolding choose is_in given start_refusal
  starts slots priorities = search choose_in depth 8

  creates : (caller name count attributes maximum : ℕ)
      → is_in (create_refusal t caller name count attributes maximum) (given (Create caller name count attributes maximum)) ≡ true
  unfolding choose is_in given create_refusal
  creates caller name count attributes maximum = search choose_in depth 12

  deletes : (caller id : ℕ) → is_in (delete_refusal t caller id) (given (Delete caller id)) ≡ true
  unfolding choose is_in given delete_refusal
  deletes caller id = search choose_in depth 12

  obtains : (caller id : ℕ) (wait : Wait) → is_in (obtain_refusal t caller id wait) (given (Obtain caller id wait)) ≡ true
  unfolding choose is_in given obtain_refusal
  obtains caller id wait = search choose_in depth 12

  gives : (s : Slot) (caller place id : ℕ) → is_in (give_step s caller place).status (given (Release caller id)) ≡ true
  unfolding choose is_in given give_step pass_step
  gives s caller place id = search given_in depth 12

  releases : (caller id : ℕ) → is_in (release_refusal t caller id) (given (Release caller id)) ≡ true
  unfolding choose is_in given release_refusal
  releases caller id = search (choose_in, gives) depth 12

  flushes : (caller id : ℕ) → is_in (flush_refusal t caller id) (given (Flush caller id)) ≡ true
  unfolding choose is_in given flush_refusal
  flushes caller id = search choose_in depth 12

  idents : (test : Bool) (name : ℕ) → is_in (choose test invalid_name 0) (given (Ident name)) ≡ true
  unfolding choose is_in given
  idents test name = search choose_in

-- every call may be done
zero_given : (call : Call) → is_in 0 (given call) ≡ true
unfolding choose is_in given
zero_given (Start slots) = refl
zero_given (Create caller name count attributes maximum) = refl
zero_given (Ident name) = refl
zero_given (Delete caller id) = refl
zero_given (Obtain caller id wait) = refl
zero_given (Release caller id) = refl
zero_given (Flush caller id) = refl
zero_given Tick = refl

wait_given : (caller id : ℕ) (wait : Wait) → is_in 100 (given (Obtain caller id wait)) ≡ true
unfolding choose is_in given
wait_given caller id wait = refl

-- done with the value 0, and done with any value
nothing : (t : Tables) (call : Call) (after : Tables) → Performed t call (answered 0 0 after)
nothing t call after = done 0 after (zero_given call) (λ e. refl)

something : (t : Tables) (call : Call) (value : ℕ) (after : Tables) → valued call ≡ true → Performed t call (answered 0 value after)
something t call value after v = done value after (zero_given call) (λ e. never v e)

pub performed : (t : Tables) (call : Call) (priorities : List ℕ) → Performed t call (perform t call priorities)
unfolding valued perform start create ident delete obtain release flush tick
performed t (Start slots) priorities = unless_performed t _ _ _ (starts t slots priorities) (nothing t _ _)
performed t (Create caller name count attributes maximum) priorities =
    unless_performed t _ _ _ (creates t caller name count attributes maximum) (something t _ _ _ refl)
performed t (Ident name) priorities = unless_performed t _ _ _ (idents t _ name) (something t _ _ _ refl)
performed t (Delete caller id) priorities = unless_performed t _ _ _ (deletes t caller id) (nothing t _ _)
performed t (Obtain caller id wait) priorities =
    unless_performed t _ _ _ (obtains t caller id wait)
    (choose_cases (Performed t (Obtain caller id wait)) _ _ _ (λ e. began _ (wait_given caller id wait)) (λ e. nothing t _ _))
performed t (Release caller id) priorities = unless_performed t _ _ _ (releases t caller id) (nothing t _ _)
performed t (Flush caller id) priorities = unless_performed t _ _ _ (flushes t caller id) (nothing t _ _)
performed t Tick priorities = nothing t _ _
