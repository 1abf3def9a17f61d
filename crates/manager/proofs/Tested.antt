-- What the test for 25 says of lent bytes, and what it leaves of an entry point: its step on agreeing tables, or nothing.
use mathlib.Core.Path.{◌≡◌, refl, sym, subst, subst₂, ◌∙◌}
use mathlib.Core.Bool.{true, false}
use mathlib.Core.List.{List}
use Prim.Native.Nat.{ℕ}
use Rattle.laws.proofs.Choose.{if_yes, if_no, and_both, both_and}
use Rattle.words.proofs.WordsInBytes.{Bytes}
use Rattle.rules.specs.declared.Call.{Call}
use Rattle.rules.specs.declared.Answer.{Answer}
use Rattle.rules.specs.Calls.{looked, perform}
use Rattle.rules.proofs.Invariants.Agreeing.{agrees_true, true_agrees}
use Rattle.tables.specs.Layout.{model_of, is_laid}
use Rattle.tables.proofs.LayoutTest.{laid_model_of, is_laid_laid}
use Rattle.agreement.specs.Bytes.{agrees_bytes}
use Rattle.calls.specs.declared.lent.Tables.{Tables}
use Rattle.calls.specs.Agreeing.{Agreeing}
use Rattle.calls.specs.Tables.{Performs}
use Rattle.calls.proofs.Agreeing.{agrees_holds}
use Rattle.manager.specs.Entry.{Replied, reply, no_next, reply_to, looked_in}

-- bytes that pass are the layout of tables that agree; only bytes that are words can be read back
pub tested : {bs : List ℕ} → Bytes bs → agrees_bytes bs ≡ true → Agreeing bs
unfolding agrees_bytes
tested {bs} b e = record { agrees = true_agrees (model_of bs) (and_both _ _ e).1; same = laid_model_of bs b (and_both _ _ e).0 }

-- and such bytes pass
pub passes : {bs : List ℕ} → Agreeing bs → agrees_bytes bs ≡ true
unfolding agrees_bytes
passes {bs} g =
    let t = model_of bs in
    both_and (subst (λ (l : List ℕ). is_laid l ≡ true) (sym g.same) (is_laid_laid t (agrees_holds t g.agrees))) (agrees_true t g.agrees)

module _ (bs : List ℕ) (call : Call) (priorities : List ℕ) {r : Answer} where
  pub replied : agrees_bytes bs ≡ true → {after : List ℕ} → Replied r after (reply (perform (model_of bs) call priorities))
      → Replied r after (reply_to bs call priorities)
  unfolding reply_to
  replied e {after} d = subst (Replied r after) (sym (if_yes _ _ e)) d

  pub left_alone : agrees_bytes bs ≡ false → r ≡ no_next → Replied r bs (reply_to bs call priorities)
  unfolding reply_to
  left_alone e n = subst (Replied r bs) (sym (if_no _ _ e)) (record { answer = n; bytes = refl })

  -- lent tables that a call was made on, and given back
  pub entered : {old new : Tables} {after : List ℕ} → agrees_bytes bs ≡ true → old.bytes.now ≡ bs → new.bytes.now ≡ after → Performs old new r call priorities
      → Replied r after (reply_to bs call priorities)
  entered {old} {new} {after} e lent back p =
      replied e (subst₂ (λ (x y : List ℕ). Replied r y (reply (perform (model_of x) call priorities))) lent back p.replied)

module _ (bs : List ℕ) (name : ℕ) where
  pub looked_replied : agrees_bytes bs ≡ true → {n : ℕ} → n ≡ looked (model_of bs) name → n ≡ looked_in bs name
  unfolding looked_in
  looked_replied e d = d ∙ sym (if_yes _ _ e)

  pub looked_none : agrees_bytes bs ≡ false → 0 ≡ looked_in bs name
  unfolding looked_in
  looked_none e = sym (if_no _ _ e)

pub ruleset testing = (replied, left_alone, looked_replied, looked_none)
