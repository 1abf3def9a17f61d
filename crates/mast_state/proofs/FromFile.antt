-- The tables of a state file: what is loaded agrees, and is shown or played on.
use mathlib.Core.Path.{◌≡◌, refl, sym, ap, subst, ◌∙◌}
use mathlib.Core.Bool.{Bool, true, false}
use mathlib.Core.List.{List}
use Prim.Native.Nat.{ℕ, ◌≤◌}
use native.Mathlib.Omega.{arith}
use lib.Dec.{eqb}
use lib.ListN.{length, take, drop, length-append}
use lib.Seq.{take_at, length-take-le}
use Rattle.laws.specs.Choose.{choose}
use Rattle.laws.proofs.Choose.{if_yes, if_no, never, choose_cases}
use Rattle.rules.specs.declared.Answer.{Answer}
use Rattle.rules.specs.Machine.{Tables, unstarted}
use Rattle.rules.specs.Numbers.{successful, invalid_size}
use Rattle.rules.specs.Agreement.{Agrees}
use Rattle.rules.specs.Calls.{Outcome, answered, refused}
use Rattle.rules.proofs.Invariants.Agreeing.{unstarted_agrees}
use Rattle.tables.specs.Layout.{laid, model_of}
use Rattle.calls.specs.Agreeing.{Agreeing}
use Rattle.calls.proofs.Agreeing.{model_is, agreeing_laid}
use Rattle.manager.proofs.Tested.{passes}
use Rattle.report.specs.Report.{Written}
use Rattle.report.proofs.Writing.{front_written}
use Rattle.playing.specs.Turns.{Ran}
use Rattle.playing.proofs.Turning.{ran_from_lem}
use Rattle.state.specs.Reading.{tables_in, is_state}
use Rattle.state.specs.Reply.{Reply, Replied, reply, loaded, load_reply}
use Rattle.state.proofs.Promises.{state_agrees}
use Rattle.shown.specs.Shown.{shown_text}
use Rattle.mast_state.specs.Loaded.{Loads, Loaded, LoadsSome, Resumed, Shows, Shown}

-- ---- a read into the tables of a machine that is not started

module _ (file : List ℕ) where
  outcome : Bool → Outcome
  outcome valid = choose valid (answered successful 0 (tables_in file)) (refused unstarted invalid_size)

  status_tells : (valid : Bool) → eqb (outcome valid).answer.status 0 ≡ valid
  unfolding outcome choose
  status_tells true = refl
  status_tells false = refl

  tables_are : (valid : Bool) → (outcome valid).tables ≡ choose valid (tables_in file) unstarted
  unfolding outcome choose
  tables_are true = refl
  tables_are false = refl

  pub loads : {bs bs' : List ℕ} {r : Answer} → bs ≡ laid unstarted → Replied r bs' (load_reply bs file) → Loads (eqb r.status 0) file bs'
  unfolding load_reply loaded outcome
  loads {bs} {bs'} {r} e w =
      let is : load_reply bs file ≡ reply (outcome (is_state file)) =
      if_yes _ _ (passes (agreeing_laid unstarted unstarted_agrees bs e))
      ∙ ap (λ (t : Tables). reply (loaded t file)) (model_is unstarted unstarted_agrees bs e) ∙ ap {B = Reply} reply (if_no _ _ refl) in
      let bytes : bs' ≡ laid (choose (is_state file) (tables_in file) unstarted) =
      w.bytes ∙ ap (λ (x : Reply). x.bytes) is ∙ ap laid (tables_are (is_state file)) in
      let agreed : Agrees (choose (is_state file) (tables_in file) unstarted) =
      choose_cases Agrees (is_state file) _ _ (state_agrees file) (λ _. unstarted_agrees) in
      record {
        told = ap (λ (a : Answer). eqb a.status 0) (w.answer ∙ ap (λ (x : Reply). x.answer) is) ∙ status_tells (is_state file);
        bytes = bytes;
        agrees = agreeing_laid _ agreed bs' bytes;
      }

  pub loads_some : {valid : Bool} {bs : List ℕ} → Loads valid file bs → LoadsSome valid bs
  loads_some l =
      record {
        when_loaded = λ e.
            let valid = sym l.told ∙ e in
            record { file = file; valid = valid; bytes = l.bytes ∙ ap laid (if_yes _ _ valid) };
        when_not = λ e. l.bytes ∙ ap laid (if_no _ _ (sym l.told ∙ e));
      }

pub loads_none : {bs : List ℕ} → bs ≡ laid unstarted → LoadsSome false bs
loads_none e = record { when_loaded = λ f. never f refl; when_not = λ _. e }

-- ---- the tables that were loaded

module _ {bs : List ℕ} (l : Loaded bs) where
  pub loaded_agree : Agreeing bs
  loaded_agree = agreeing_laid (tables_in l.file) (state_agrees l.file l.valid) bs l.bytes

  loaded_model : model_of bs ≡ tables_in l.file
  loaded_model = model_is (tables_in l.file) (state_agrees l.file l.valid) bs l.bytes

  pub resumed : {done : Bool} {bs' : List ℕ} → Ran bs done bs' → Resumed done bs'
  resumed r = record { file = l.file; valid = l.valid; ran = ran_from_lem bs l.bytes r }

  pub shown : {n : ℕ} {out : List ℕ} → Shows n (shown_text (model_of bs)) out → Shown n out
  shown {n} {out} s =
      record { file = l.file; valid = l.valid; shows = subst (λ (t : Tables). Shows n (shown_text t) out) loaded_model s }

-- ---- a text at the front of the output

module _ (text before out : List ℕ) (n : ℕ) (w : Written 0 text before out n) where
  pub text_fits : n ≤ length out
  text_fits = let f = front_written text before out n w in omega (arith, f.0, ap length f.1 ∙ length-append text (drop n before))

  pub text_front : take n out ≡ text
  text_front = let f = front_written text before out n w in ap (take n) f.1 ∙ take_at text (drop n before) n (sym f.0)

  pub shows : (m : ℕ) → m ≡ length (take n out) → Shows m text out
  shows m e =
      let f = front_written text before out n w in
      let all : m ≡ n = e ∙ length-take-le n out text_fits in
      record { all = all ∙ f.0; front = ap (λ (k : ℕ). take k out) all ∙ text_front }
