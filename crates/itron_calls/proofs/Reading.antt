-- What the record tells where nothing refuses ref_sem: semid stands for a live semaphore whose count is a number with a sign.
use mathlib.Core.Path.{◌≡◌, sym, ap, ◌∙◌}
use mathlib.Core.Bool.{true}
use mathlib.Core.Logic.{◌≢◌}
use mathlib.Core.List.{List}
use Prim.Native.Nat.{ℕ, ◌-◌, ◌≤◌}
use native.Mathlib.Omega.{arith}
use lib.ListN.{length}
use lib.Signed.{non_neg}
use borrow.Author.Tests.{eq-eqb}
use Rattle.laws.proofs.Choose.{if_yes, never}
use Rattle.rules.specs.Machine.{Slot, Tables, slot_of, slot_named}
use Rattle.tables.specs.Layout.{model_of, record_at}
use Rattle.calls.specs.Agreeing.{Agreeing}
use Rattle.calls.proofs.Entering.{waiters_are, slot_within}
use Rattle.mapping.specs.Mapping.{greatest_count, entry_of, list_agrees}
use Rattle.itron.specs.Codes.{e_ok, e_noexs}
use Rattle.itron.specs.Calls.{any_caller, in_range, exists, sig_refusal}
use Rattle.itron.proofs.Checking.{any_check, range_check, behind, then_passed}
use Rattle.itron_calls.proofs.Telling.{is_named, found, slot_is, few}

module _ (bs list : List ℕ) (g : Agreeing bs) (l : list_agrees (model_of bs) list ≡ true) (caller semid : ℕ)
    (passed : non_neg (sig_refusal (model_of bs) list caller semid) ≡ true) (n : ℕ) (asked : n ≡ slot_named (model_of bs) (entry_of list semid)) where
  abbrev t : Tables
  t = model_of bs

  abbrev id : ℕ
  id = entry_of list semid

  some_entry : id ≢ 0
  unfolding sig_refusal
  some_entry z =
      let rest : non_neg (exists list semid e_ok) ≡ true =
      then_passed {f = λ r. any_caller t caller (in_range t semid r)} (behind (any_check t caller) (range_check t semid)) (exists list semid e_ok) passed
      in
      never rest (ap non_neg (if_yes e_noexs e_ok (eq-eqb id 0 z)))

  some : 1 ≤ id
  some = omega (arith, some_entry)

  some_slot : n ≡ 0 → ⊥
  some_slot z = is_named bs list g l semid some (sym asked ∙ z)

  first : 1 ≤ n
  first = omega (arith, some_slot)

  same : slot_of t n ≡ slot_of t (slot_named t id)
  same = slot_is bs list g l semid some n asked first

  pub slot_there : (1 ≤ n) × (n ≤ 64)
  slot_there = slot_within g id n asked some_slot

  pub count_told : (record_at bs (n - 1)).count ≡ (slot_of t (slot_named t id)).count
  count_told = ap (λ (s : Slot). s.count) ((found bs list g l semid some n asked first).stands.same ∙ same)

  pub waiters_told : (record_at bs (n - 1)).waiters ≡ length (slot_of t (slot_named t id)).queue
  waiters_told = waiters_are (found bs list g l semid some n asked first).stands ∙ ap (λ (s : Slot). length s.queue) same

  pub count_fits : (record_at bs (n - 1)).count ≤ greatest_count
  count_fits = few bs list g l semid some n asked first
