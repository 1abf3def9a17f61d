-- One call on the tables, and what it says to the scripts' obtains.
use Rattle.std.proofs.Common.{◌≡◌, ℕ, ◌<◌, ◌≤◌, Bool, true, List, length, sym, ap, ◌∙◌, subst, ap₂}
use Rattle.rules.specs.declared.Answer.{Answer}
use Rattle.rules.specs.declared.Call.{Call}
use Rattle.rules.specs.Machine.{Tables}
use Rattle.rules.specs.Calls.{Outcome, perform}
use Rattle.rules.specs.Fits.{call_fits}
use Rattle.tables.specs.Layout.{laid, model_of}
use Rattle.calls.specs.Agreeing.{Agreeing}
use Rattle.calls.specs.Reply.{Replied, reply}
use Rattle.calls.proofs.Agreeing.{model_is, agrees_after}
use Rattle.sections.specs.Scripts.{script_at}
use Rattle.sections.specs.Run.{obtainer_of, said, called}
use Rattle.encoding.specs.Rows.{scripts_of}
use Rattle.runner.specs.State.{told, Settles, Called}
use Rattle.runner.proofs.Telling.{Waiting, all_said}

module _ (ns m places grants : List ℕ) (A : Agreeing m) (few : (i : ℕ) → i < length (scripts_of ns) → (script_at (scripts_of ns) i).task ≤ 32)
    (call : Call) (priorities : List ℕ) (fits : call_fits call ≡ true) where
  abbrev o : Outcome
  o = perform (model_of m) call priorities

  -- what the call says, on any tables
  abbrev Said : Tables → List ℕ → List ℕ → Type 0
  Said t places' grants' = Settles ns places grants (λ i. said t call (perform t call priorities) (script_at (scripts_of ns) i).task) places' grants'

  module _ (waited : List Bool) (flags : (t : Tables) → m ≡ laid t → Waiting t waited 32) (obtainer : ℕ) (is : obtainer ≡ obtainer_of call)
      (r : Answer) (m' : List ℕ) (replied : Replied r m' (reply o)) (places' grants' : List ℕ) where
    same_answers : ◌≡◌ {A = ℕ → ℕ} (λ i. told waited o.tables obtainer r.status (script_at (scripts_of ns) i).task)
        (λ i. said (model_of m) call o (script_at (scripts_of ns) i).task)
    same_answers =
        ap₂ {C = ℕ → ℕ} (λ (x : ℕ) (y : Answer) (i : ℕ). told waited o.tables x y.status (script_at (scripts_of ns) i).task) is replied.answer
        ∙ (λ k i. all_said (model_of m) call o waited (flags (model_of m) A.same) (scripts_of ns) few i k)

    pub call_noted : ((t : Tables) → m' ≡ laid t → Settles ns places grants (λ i. told waited t obtainer r.status (script_at (scripts_of ns) i).task) places'
        grants')
        → Called ns (record { call = call; priorities = priorities }) m places grants m' places' grants'
    unfolding called
    call_noted settled places₀ grants₀ s H room =
        let first = subst (λ (answer : ℕ → ℕ). Settles ns places grants answer places' grants') same_answers (settled o.tables replied.bytes) in
        let there = subst (λ (t : Tables). Said t places' grants') (sym H.tables) first in
        record {
          tables = ap (λ (t : Tables). (perform t call priorities).tables) H.tables ∙ sym (model_is o.tables (agrees_after A call priorities fits) m'
              replied.bytes);
          reports = there places₀ grants₀ s.places s.grants H.reports room;
        }
