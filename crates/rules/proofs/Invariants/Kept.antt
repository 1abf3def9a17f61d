-- Agreement is kept: every call, refused or not, and every run of calls leaves tables that agree.
use mathlib.Core.Path.{◌≡◌}
use mathlib.Core.Bool.{true}
use mathlib.Core.List.{List, [], ◌∷◌}
use Prim.Native.Nat.{ℕ}
use lib.Dec.{eqb}
use borrow.Author.Tests.{leb-true}
use Rattle.laws.specs.Choose.{choose, ◌or◌}
use Rattle.laws.proofs.Choose.{if_yes, and_both, choose_cases}
use Rattle.rules.specs.declared.Call.{Call}
use Rattle.rules.specs.declared.Call.TheVariants.{Start, Create, Ident, Delete, Obtain, Release, Flush, Tick}
use Rattle.rules.specs.Numbers.{successful, invalid_name}
use Rattle.rules.specs.Machine.{Tables, slot_of, id_of}
use Rattle.rules.specs.Agreement.{Agrees, agrees}
use Rattle.rules.specs.Calls.{Outcome, answered, first_named, ident, perform, step}
use Rattle.rules.specs.Runs.{Request, step_of, after}
use Rattle.rules.specs.Fits.{call_fits, calls_fit}
use Rattle.rules.proofs.Invariants.Agreeing.{agrees_true}
use Rattle.rules.proofs.Invariants.Facts.{Facts}
use Rattle.rules.proofs.Invariants.FromTests.{agrees_facts}
use Rattle.rules.proofs.Invariants.ToTests.{facts_agrees}
use Rattle.rules.proofs.Invariants.Refusals.{unless_kept}
use Rattle.rules.proofs.Invariants.Making.{start_kept, create_kept}
use Rattle.rules.proofs.Invariants.Ending.{delete_kept, flush_kept}
use Rattle.rules.proofs.Invariants.Obtaining.{obtain_kept}
use Rattle.rules.proofs.Invariants.Releasing.{release_kept}
use Rattle.rules.proofs.Invariants.Tick.{tick_kept}

ident_kept : (t : Tables) (name : ℕ) → Facts t → Facts (ident t name).tables
unfolding ident
ident_kept t name f =
    let n = first_named name t.slots 1 in
    unless_kept (choose (eqb name 0 or eqb n 0) invalid_name 0) t (answered successful (id_of n (slot_of t n)) t) f (λ e. f)

perform_kept : (t : Tables) (call : Call) (priorities : List ℕ) → call_fits call ≡ true → Facts t → Facts (perform t call priorities).tables
unfolding perform
perform_kept t (Start slots) priorities e f = start_kept t slots priorities f
perform_kept t (Create caller name count attributes maximum) priorities e f =
    create_kept t caller name count attributes maximum (leb-true _ _ (and_both _ _ (and_both _ _ e).1).0) f
perform_kept t (Ident name) priorities e f = ident_kept t name f
perform_kept t (Delete caller id) priorities e f = delete_kept t caller id f
perform_kept t (Obtain caller id wait) priorities e f =
    let rest = and_both _ _ (and_both _ _ e).1 in
    obtain_kept t caller id wait (leb-true _ _ rest.0) rest.1 f
perform_kept t (Release caller id) priorities e f = release_kept t caller id f
perform_kept t (Flush caller id) priorities e f = flush_kept t caller id f
perform_kept t Tick priorities e f = tick_kept t f

-- on tables that agree a step is the call performed
pub performs : (t : Tables) (call : Call) (priorities : List ℕ) → Agrees t → step t call priorities ≡ perform t call priorities
unfolding step
performs t call priorities a = if_yes _ _ (agrees_true t a)

pub kept : (t : Tables) (call : Call) (priorities : List ℕ) → call_fits call ≡ true → Agrees t → Agrees (step t call priorities).tables
unfolding step
kept t call priorities e a =
    choose_cases (λ (o : Outcome). Agrees o.tables) (agrees t) _ _
    (λ y. facts_agrees (perform t call priorities).tables (perform_kept t call priorities e (agrees_facts t a))) (λ n. a)

pub run_kept : (t : Tables) (requests : List Request) → calls_fit requests ≡ true → Agrees t → Agrees (after t requests)
unfolding after calls_fit
run_kept t [] e a = a
run_kept t (r ∷ rs) e a = run_kept (step_of t r).tables rs (and_both _ _ e).1 (kept t r.call r.priorities (and_both _ _ e).0 a)
