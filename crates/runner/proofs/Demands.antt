-- What a run leaves in all that is lent: demand 3, and a refused run.
use Rattle.std.proofs.Common.{◌≡◌, ℕ, eqb, ◌≢◌, List, [], length, replicate, sym, refl, ap, ◌∙◌, subst, arith, eq-eqb, ne_eqb}
use native.Mathlib.Decide.{ℕ_discrete}
use Rattle.laws.specs.Choose.{choose}
use Rattle.laws.proofs.Choose.{choose_cases, if_yes, if_no}
use Rattle.words.proofs.WordsInBytes.{Words}
use Rattle.rules.specs.Machine.{next}
use Rattle.tables.specs.Layout.{laid, model_of}
use Rattle.agreement.specs.Bytes.{agrees_bytes}
use Rattle.sections.specs.Scripts.{plain}
use Rattle.sections.specs.Run.{at, State, open_of}
use Rattle.sections.specs.Refusals.{Input, at_first, run}
use Rattle.sections.proofs.Demand3.{demand_3}
use Rattle.encoding.specs.Rows.{scripts_of}
use Rattle.encoding.specs.Events.{events_of}
use Rattle.encoding.specs.Laid.{memory, laid_places, laid_grants}
use Rattle.refusals.specs.Defined.{input_of, refusal_where}
use Rattle.runner.specs.Reply.{refusal_of, ran_from, RunReply, ran, reply_with, run_reply}
use Rattle.runner.proofs.Accepting.{inputs_fit}
use Rattle.runner.proofs.Replying.{passed_run}

module _ (bs scripts events ids cells locals places grants : List ℕ) where
  abbrev w : Input
  w = input_of scripts ids cells locals

  abbrev r : ℕ
  r = refusal_of bs w scripts events places

  abbrev reply : RunReply
  reply = run_reply bs scripts events ids cells locals places grants

  -- the state that a run ends in: the numbers lent hold it
  unfoldable pub ending : State
  ending = ran_from r (model_of bs) w (events_of events)

  pub ending_held : (reply.cells ≡ ending.memory.cells) × (reply.locals ≡ ending.memory.locals) × (reply.places ≡ laid_places places ending.places)
      × (reply.grants ≡ laid_grants grants ending.grants)
  unfolding run_reply ending
  ending_held = (refl, refl, refl, refl)

  pub accepted : r ≡ 0 → refusal_where (model_of bs) w scripts events places ≡ 0
  unfolding refusal_of
  accepted =
      choose_cases (λ (n : ℕ). n ≡ 0 → refusal_where (model_of bs) w scripts events places ≡ 0) (agrees_bytes bs) _ 25 (λ z e. e) (λ z e. absurd (omega arith))

  -- DEMAND 3, over all that is lent: with no section open, every cell and local is the plain run's
  pub lent_serial : Words scripts → Words events → open_of (scripts_of scripts) ending ≡ []
      → memory reply.cells reply.locals ≡ plain (scripts_of scripts) ending.grants (memory cells locals)
  unfolding run_reply ending ran_from run plain
  lent_serial ws we none =
      elim (ℕ_discrete r 0) [
        | yes e ↦
            let ok = passed_run (model_of bs) scripts events ids cells locals places (sym (accepted e)) in
            let same : (run (model_of bs) w (events_of events)).state ≡ ran_from r (model_of bs) w (events_of events) =
            if_yes _ _ (eq-eqb _ 0 ok) ∙ sym (if_yes _ _ (eq-eqb r 0 e))
            in
            subst (λ (s : State). open_of (scripts_of scripts) s ≡ [] → s.memory ≡ plain (scripts_of scripts) s.grants (memory cells locals)) same
            (demand_3 (model_of bs) w (events_of events) (inputs_fit scripts ids (memory cells locals) events ws we)) none
        | no n ↦
            let first : at_first (model_of bs) w ≡ ran_from r (model_of bs) w (events_of events) = sym (if_no _ _ (ne_eqb r 0 n)) in
            subst (λ (s : State). s.memory ≡ plain (scripts_of scripts) s.grants (memory cells locals)) first refl
      ]

  -- a refused run changes no byte, cell or local; places are at the start, and no grant is reported
  pub refused_lent : r ≢ 0
      → reply ≡ ran (record { status = r; value = 0; next = choose (eqb r 25) 0 (next (model_of bs)) }) bs cells locals
      (laid_places places (replicate (length (scripts_of scripts)) (at 0 0))) (laid_grants grants [])
  unfolding run_reply ran_from
  refused_lent n =
      let none : ran_from r (model_of bs) w (events_of events) ≡ at_first (model_of bs) w = if_no _ _ (ne_eqb r 0 n) in
      ap (λ (s : State). reply_with r s bs places grants) none
      ∙ ap (λ (b : List ℕ). ran (record { status = r; value = 0; next = choose (eqb r 25) 0 (next (model_of bs)) }) b cells locals
      (laid_places places (replicate (length (scripts_of scripts)) (at 0 0))) (laid_grants grants [])) (if_no (laid (model_of bs)) bs (ne_eqb r 0 n))
