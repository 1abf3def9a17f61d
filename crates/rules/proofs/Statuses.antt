-- A call answers the statuses that are listed for it, and no others.
use mathlib.Core.Path.{◌≡◌, refl, sym, subst}
use mathlib.Core.Bool.{Bool, true, false, false≢true}
use mathlib.Core.List.{List, [], ◌∷◌, map}
use mathlib.Core.Logic.{⊎_elim}
use Prim.Native.Nat.{ℕ}
use lib.Dec.{eqb}
use borrow.Author.Tests.{eqb-true, eq-eqb}
use Rattle.laws.specs.Choose.{choose, ◌and◌}
use Rattle.laws.proofs.Choose.{and_both, or_either, or_first, or_second, tested}
use Rattle.rules.specs.declared.Call.{Call}
use Rattle.rules.specs.declared.Call.TheVariants.{Start, Create, Ident, Delete, Obtain, Release, Flush, Tick}
use Rattle.rules.specs.Numbers.{class_maximum}
use Rattle.rules.specs.Machine.{Tables, unstarted, free_slot}
use Rattle.rules.specs.Agreement.{agrees}
use Rattle.rules.specs.Calls.{step}
use Rattle.rules.specs.Runs.{Request, step_of}
use Rattle.rules.specs.Promises.{given, listed, is_in, kind_of, SomeGives}
use Rattle.rules.proofs.Asking.{ask, start_with, obtains, answers_of, tables_of}
use Rattle.rules.proofs.Refusals.{agreeing_given, disagreeing}

pub status_listed : (t : Tables) (call : Call) (priorities : List ℕ) → is_in (step t call priorities).answer.status (listed call) ≡ true
unfolding listed is_in
status_listed t call priorities =
    ⊎_elim (λ (a : agrees t ≡ true). or_second (eqb status 25) (is_in status (given call)) (agreeing_given t call priorities a))
    (λ (a : agrees t ≡ false). or_first (eqb status 25) (is_in status (given call)) (eq-eqb status 25 (disagreeing t call priorities a)))
    (tested (agrees t))
  where
    status : ℕ
    status = (step t call priorities).answer.status

-- a call on some tables
record Witness : Type 0 where
  tables : Tables
  request : Request

abbrev on : Tables → Request → Witness
on t r = record { tables = t; request = r }

status_of : Witness → ℕ
status_of w = (step_of w.tables w.request).answer.status

-- every one is of that kind
of_kind : ℕ → List Witness → Bool
of_kind kind [] = true
of_kind kind (w ∷ ws) = eqb (kind_of w.request.call) kind and of_kind kind ws

found : (call : Call) (ws : List Witness) (status : ℕ) → of_kind (kind_of call) ws ≡ true → is_in status (map status_of ws) ≡ true → SomeGives call status
unfolding of_kind is_in status_of
found call [] status k i = absurd (false≢true i)
found call (w ∷ ws) status k i =
    ⊎_elim (λ (e : eqb status (status_of w) ≡ true).
    record { tables = w.tables; request = w.request; same_kind = eqb-true _ _ (and_both _ _ k).0; gives = sym (eqb-true _ _ e) })
    (λ (e : is_in status (map status_of ws) ≡ true). found call ws status (and_both _ _ k).1 e)
    (or_either _ _ i)

-- tables that do not agree; two tasks and a slot; with a semaphore in it; with task 1 waiting on one
abbrev broken : Tables
broken = record { tasks = []; slots = free_slot 0 ∷ []; ready = [] }

abbrev fresh : Tables
fresh = tables_of (start_with 1 (1 ∷ 2 ∷ []) ∷ [])

abbrev made : ℕ → ℕ → Tables
made count attributes = tables_of (start_with 1 (1 ∷ 2 ∷ []) ∷ ask (Create 1 7 count attributes (class_maximum attributes)) ∷ [])

abbrev stuck : Tables
stuck = tables_of (start_with 1 (1 ∷ 2 ∷ []) ∷ ask (Create 1 7 0 0 4294967295) ∷ obtains 1 65537 0 0 ∷ [])

-- a witness for each listed status, in the list's order
witnesses : Call → List Witness
witnesses (Start slots) =
    on broken (start_with 1 (1 ∷ []))
    ∷ on unstarted (start_with 1 (1 ∷ []))
    ∷ on unstarted (start_with 0 (1 ∷ []))
    ∷ on fresh (start_with 1 (1 ∷ []))
    ∷ on unstarted (start_with 1 (256 ∷ []))
    ∷ []
witnesses (Create caller name count attributes maximum) =
    on broken (ask (Create 1 7 1 0 4294967295))
    ∷ on fresh (ask (Create 1 7 1 0 4294967295))
    ∷ on fresh (ask (Create 1 0 1 0 4294967295))
    ∷ on fresh (ask (Create 3 7 1 0 4294967295))
    ∷ on (made 1 0) (ask (Create 1 7 1 0 4294967295))
    ∷ on fresh (ask (Create 1 7 2 16 1))
    ∷ on fresh (ask (Create 1 7 1 48 1))
    ∷ on stuck (ask (Create 1 7 1 0 4294967295))
    ∷ on fresh (ask (Create 0 7 1 0 4294967295))
    ∷ []
witnesses (Ident name) = on broken (ask (Ident 7)) ∷ on (made 1 0) (ask (Ident 7)) ∷ on fresh (ask (Ident 7)) ∷ []
witnesses (Delete caller id) =
    on broken (ask (Delete 1 65537))
    ∷ on (made 1 0) (ask (Delete 1 65537))
    ∷ on fresh (ask (Delete 1 65537))
    ∷ on (made 0 16) (ask (Delete 1 65537))
    ∷ on stuck (ask (Delete 1 65537))
    ∷ on (made 1 0) (ask (Delete 0 65537))
    ∷ []
witnesses (Obtain caller id wait) =
    on broken (obtains 1 65537 0 0)
    ∷ on (made 1 0) (obtains 1 65537 0 0)
    ∷ on fresh (obtains 1 65537 0 0)
    ∷ on (made 0 0) (obtains 1 65537 1 0)
    ∷ on stuck (obtains 1 65537 0 0)
    ∷ on (made 1 0) (obtains 0 65537 0 0)
    ∷ on (made 0 0) (obtains 1 65537 0 0)
    ∷ []
witnesses (Release caller id) =
    on broken (ask (Release 1 65537))
    ∷ on (made 1 0) (ask (Release 1 65537))
    ∷ on fresh (ask (Release 1 65537))
    ∷ on (made 1 32) (ask (Release 1 65537))
    ∷ on stuck (ask (Release 1 65537))
    ∷ on (made 1 16) (ask (Release 1 65537))
    ∷ []
witnesses (Flush caller id) =
    on broken (ask (Flush 1 65537)) ∷ on (made 1 0) (ask (Flush 1 65537)) ∷ on fresh (ask (Flush 1 65537)) ∷ on stuck (ask (Flush 1 65537)) ∷ []
witnesses Tick = on broken (ask Tick) ∷ on fresh (ask Tick) ∷ []

answer_listed : (call : Call) → map status_of (witnesses call) ≡ listed call
unfolding answers_of status_of witnesses given listed
answer_listed (Start slots) = refl
answer_listed (Create caller name count attributes maximum) = refl
answer_listed (Ident name) = refl
answer_listed (Delete caller id) = refl
answer_listed (Obtain caller id wait) = refl
answer_listed (Release caller id) = refl
answer_listed (Flush caller id) = refl
answer_listed Tick = refl

are_of_kind : (call : Call) → of_kind (kind_of call) (witnesses call) ≡ true
unfolding choose of_kind kind_of witnesses
are_of_kind (Start slots) = refl
are_of_kind (Create caller name count attributes maximum) = refl
are_of_kind (Ident name) = refl
are_of_kind (Delete caller id) = refl
are_of_kind (Obtain caller id wait) = refl
are_of_kind (Release caller id) = refl
are_of_kind (Flush caller id) = refl
are_of_kind Tick = refl

pub listed_given : (call : Call) (status : ℕ) → is_in status (listed call) ≡ true → SomeGives call status
listed_given call status i =
    found call (witnesses call) status (are_of_kind call) (subst (λ (l : List ℕ). is_in status l ≡ true) (sym (answer_listed call)) i)
