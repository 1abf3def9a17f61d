-- How many slots an ident's search looks at, over lent bytes, and how that goes with its answer.
use mathlib.Core.Path.{◌≡◌, refl, sym, ap, subst, ◌∙◌}
use mathlib.Core.Bool.{true, false}
use mathlib.Core.List.{List}
use mathlib.Core.Logic.{◌≢◌}
use Prim.Native.Nat.{ℕ, suc}
use lib.Dec.{eqb}
use lib.ListN.{length}
use Rattle.laws.specs.Choose.{choose, ◌and◌}
use Rattle.laws.specs.Rows.{tabulate}
use Rattle.laws.proofs.Choose.{if_yes, if_no, choose_same}
use Rattle.rules.specs.declared.Call.TheVariants.{Ident}
use Rattle.rules.specs.Machine.{Tables, unstarted, slot_of, is_live, id_of}
use Rattle.rules.specs.Calls.{ident, searched_slots, looked, perform}
use Rattle.rules.proofs.Searching.{is_named}
use Rattle.rules.proofs.Looking.{looked_nameless, looked_unstarted, looked_in_turn, found_last, missed_all}
use Rattle.rules.proofs.Invariants.Agreeing.{unstarted_agrees}
use Rattle.tables.specs.Layout.{laid, model_of}
use Rattle.tables.proofs.LayoutRead.{model_of_laid}
use Rattle.agreement.specs.Bytes.{agrees_bytes}
use Rattle.calls.proofs.Agreeing.{agrees_holds}
use Rattle.manager.specs.Entry.{Reply, reply, reply_to, looked_in}

module _ (bs : List ℕ) where
  -- no search with 25, and none for name 0
  pub unsearched : (name : ℕ) → agrees_bytes bs ≡ false → looked_in bs name ≡ 0
  unfolding looked_in
  unsearched name e = if_no _ _ e

  pub unsearched_nameless : looked_in bs 0 ≡ 0
  unfolding looked_in
  unsearched_nameless = ap (λ (n : ℕ). choose (agrees_bytes bs) n 0) (looked_nameless (model_of bs) 0 refl) ∙ choose_same (agrees_bytes bs) 0

  module _ (name : ℕ) (e : agrees_bytes bs ≡ true) where
    number : looked (model_of bs) name ≡ looked_in bs name
    unfolding looked_in
    number = sym (if_yes _ _ e)

    -- slot k exactly for k up to the number, in turn and once
    pub searched_in_turn : name ≢ 0 → searched_slots name (model_of bs).slots 1 ≡ tabulate (looked_in bs name) suc
    searched_in_turn some = looked_in_turn (model_of bs) name some ∙ ap (λ (n : ℕ). tabulate n suc) number

  module _ (name : ℕ) (priorities : List ℕ) (e : agrees_bytes bs ≡ true) where
    status_of_lem : (ident (model_of bs) name).answer.status ≡ (reply_to bs (Ident name) priorities).answer.status
    unfolding reply_to perform
    status_of_lem = sym (ap (λ (r : Reply). r.answer.status) (if_yes (reply (ident (model_of bs) name)) _ e))

    value_of : (ident (model_of bs) name).answer.value ≡ (reply_to bs (Ident name) priorities).answer.value
    unfolding reply_to perform
    value_of = sym (ap (λ (r : Reply). r.answer.value) (if_yes (reply (ident (model_of bs) name)) _ e))

    -- done: the last of them is the match
    pub searched_to_the_match : (reply_to bs (Ident name) priorities).answer.status ≡ 0
        → let s = slot_of (model_of bs) (looked_in bs name) in
        ((is_live s and eqb s.name name) ≡ true) × ((reply_to bs (Ident name) priorities).answer.value ≡ id_of (looked_in bs name) s)
    searched_to_the_match d =
        let found = found_last (model_of bs) name (status_of_lem ∙ d) in (
          subst (λ (n : ℕ). is_named name (slot_of (model_of bs) n) ≡ true) (number name e) found.0,
          sym value_of ∙ found.1 ∙ ap (λ (n : ℕ). id_of n (slot_of (model_of bs) n)) (number name e),
        )

    -- refused: all of them, and none matches
    pub searched_all : name ≢ 0 → (reply_to bs (Ident name) priorities).answer.status ≡ 3 → looked_in bs name ≡ length (model_of bs).slots
    searched_all some d = sym (number name e) ∙ missed_all (model_of bs) name some (status_of_lem ∙ d)

-- before the start there is no slot
pub unsearched_unstarted : (name : ℕ) → looked_in (laid unstarted) name ≡ 0
unfolding looked_in
unsearched_unstarted name =
    ap (λ (n : ℕ). choose (agrees_bytes (laid unstarted)) n 0)
    (ap (λ (t : Tables). looked t name) (model_of_laid unstarted (agrees_holds unstarted unstarted_agrees)) ∙ looked_unstarted name)
    ∙ choose_same (agrees_bytes (laid unstarted)) 0
