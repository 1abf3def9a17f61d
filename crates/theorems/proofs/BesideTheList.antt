-- What a load and a run of guarded sections leave of a list that agrees: proofs for Itron.antt, in a crate above all that they speak of.
use mathlib.Core.Path.{◌≡◌, refl, sym, ap, subst, ◌∙◌}
use mathlib.Core.Bool.{true, false}
use mathlib.Core.List.{List, [], ◌∷◌, ◌++◌, append_assoc, append-nil}
use mathlib.Core.Logic.{⊎_elim}
use Prim.Native.Nat.{ℕ, zero, suc}
use native.Mathlib.Omega.{arith}
use native.Mathlib.Decide.{ℕ_discrete}
use lib.ListN.{length, get_or, replicate}
use borrow.Author.Tests.{leb-false, eq-eqb, ne_eqb}
use Rattle.laws.proofs.Choose.{choose_cases, if_yes, if_no, tested}
use Rattle.words.proofs.WordsInBytes.{Bytes, Words}
use Rattle.rules.specs.Machine.{Tables, unstarted}
use Rattle.rules.specs.Agreement.{Agrees}
use Rattle.rules.specs.Calls.{Outcome, perform}
use Rattle.rules.specs.Runs.{Request}
use Rattle.rules.proofs.Invariants.Agreeing.{agrees_true}
use Rattle.tables.specs.Layout.{laid, model_of}
use Rattle.agreement.specs.Bytes.{agrees_bytes}
use Rattle.calls.proofs.Making.{not_started}
use Rattle.manager.proofs.Tested as test
use Rattle.state.specs.File.{is_started}
use Rattle.state.specs.Reply.{Reply, load_reply}
use Rattle.state.proofs.Answered.{read_answers}
use Rattle.state.proofs.Loading.{load_agrees}
use Rattle.mapping.specs.Mapping.{list_length, list_agrees}
use Rattle.itron_calls.specs.Reply.{both_agree}
use Rattle.itron_calls.proofs.Replying.{list_agrees_lem}
use Rattle.family.specs.Promises.{unmaps}
use Rattle.family.proofs.Ending.{step_is}
use Rattle.family.proofs.Kept.{classic_kept}
use Rattle.family.proofs.Replies.{both_laid, empty_reply_agrees, unstarted_list_exactly}
use Rattle.sections.specs.Scripts.{Script, index_of}
use Rattle.sections.specs.Run.{Event, State, Act, act_of, acted, called, ask, event_of, run_from}
use Rattle.sections.specs.Run.Event.{Turn, Other, NoEvent}
use Rattle.sections.specs.Refusals.{Input, at_first, refusal, input_fits}
use Rattle.sections.proofs.Demand3.{run_halves, agreement_kept}
use Rattle.encoding.specs.Events.{events_of}
use Rattle.encoding.specs.Laid.{memory}
use Rattle.refusals.specs.Defined.{input_of}
use Rattle.runner.specs.Reply.{refusal_of, run_reply, ran_from}
use Rattle.runner.proofs.Accepting.{inputs_fit}
use Rattle.runner.proofs.Replying.{passed_run}
use Rattle.runner.proofs.Demands.{accepted}

-- ---- a load

module _ (bs file : List ℕ) (b : Bytes bs) (done : (load_reply bs file).answer.status ≡ 0) (a : agrees_bytes bs ≡ true) where
  load_unstarted : model_of bs ≡ unstarted
  load_unstarted =
      not_started (model_of bs) (test.tested b a).agrees (omega (arith, leb-false 1 (length (model_of bs).tasks) none))
    where
      none : is_started (model_of bs) ≡ false
      none =
          ⊎_elim
          (λ (s : is_started (model_of bs) ≡ true). absurd (omega (arith, done, ap (λ (r : Reply). r.answer.status) ((read_answers bs file b).1 a s))))
          (λ (s : is_started (model_of bs) ≡ false). s) (tested (is_started (model_of bs)))

  pub loaded_list : (list : List ℕ) → both_agree bs list ≡ true → (list ≡ replicate list_length 0) × (both_agree (load_reply bs file).bytes list ≡ true)
  loaded_list list agree =
      let empty : list ≡ replicate list_length 0 =
      (unstarted_list_exactly list).0 (subst (λ (x : List ℕ). both_agree x list ≡ true) ((test.tested b a).same ∙ ap laid load_unstarted) agree) in (
        empty,
        subst (λ (l : List ℕ). both_agree (load_reply bs file).bytes l ≡ true) (sym empty)
            (empty_reply_agrees _ (test.passes (load_agrees bs file b done).0)),
      )

-- ---- a run of guarded sections

-- no event of others deletes a semaphore of the list
abbrev pub UnmapsNone : List Event → List ℕ → Type 0
UnmapsNone events list = (k : ℕ) (r : Request) → get_or events k NoEvent ≡ Other r → unmaps r.call list ≡ false

abbrev Fits : List ℕ → State → Type 0
Fits list s = list_agrees s.tables list ≡ true

module _ (list : List ℕ) (scripts : List Script) where
  -- the tables agree at every event, so that `perform` is the manager's call
  performed_fits : (t : Tables) → Agrees t → list_agrees t list ≡ true → (r : Request) → unmaps r.call list ≡ false
      → list_agrees (perform t r.call r.priorities).tables list ≡ true
  performed_fits t a l r u =
      subst (λ (o : Outcome). list_agrees o.tables list ≡ true) (step_is t r.call r.priorities (agrees_true t a))
      (classic_kept t list (agrees_true t a) l r (λ z. u))

  -- a turn makes an obtain or a release, if a call at all
  event_fits_lem : (s : State) → Agrees s.tables → Fits list s → (e : Event) → ((r : Request) → e ≡ Other r → unmaps r.call list ≡ false)
      → Fits list (event_of scripts s e)
  unfolding event_of acted act_of called unmaps
  event_fits_lem s a l (Turn q) u =
      choose_cases P _ _ _ (λ e. l)
      (λ e. choose_cases P _ _ _ (λ f. performed_fits s.tables a l (ask _) refl)
      (λ f. choose_cases P _ _ _ (λ g. l) (λ g. performed_fits s.tables a l (ask _) refl)))
    where
      P : Act → Type 0
      P act = Fits list (acted scripts s (index_of q scripts) act)
  event_fits_lem s a l (Other r) u = performed_fits s.tables a l r (u r refl)
  event_fits_lem s a l NoEvent u = l

module _ (t : Tables) (w : Input) (list : List ℕ) where
  abbrev reached : List Event → State
  reached events = run_from w.scripts (at_first t w) events

  -- event by event, from where the first part of the list has come
  run_fits : (a b : List Event) → input_fits w (a ++ b) ≡ true → refusal t w (a ++ b) ≡ 0 → UnmapsNone b list → Fits list (reached a)
      → Fits list (reached (a ++ b))
  unfolding run_from
  run_fits a [] f p u fits = subst (λ (events : List Event). Fits list (reached events)) (sym (append-nil a)) fits
  run_fits a (e ∷ es) f p u fits =
      let same : (a ++ e ∷ []) ++ es ≡ a ++ e ∷ es = append_assoc a (e ∷ []) es in
      subst (λ (events : List Event). Fits list (reached events)) same
      (run_fits (a ++ e ∷ []) es (subst (λ (events : List Event). input_fits w events ≡ true) (sym same) f)
      (subst (λ (events : List Event). refusal t w events ≡ 0) (sym same) p) (λ k r. u (suc k) r)
      (subst (Fits list) (sym (run_halves w.scripts (at_first t w) a (e ∷ [])))
      (event_fits_lem list w.scripts (reached a) (agreement_kept t w a (e ∷ es) f p) fits e (λ r. u zero r))))

module _ (bs list scripts events ids cells locals places grants : List ℕ) where
  abbrev w : Input
  w = input_of scripts ids cells locals

  abbrev r : ℕ
  r = refusal_of bs w scripts events places

  pub run_leaves_list : Words scripts → Words events → both_agree bs list ≡ true → UnmapsNone (events_of events) list
      → both_agree (run_reply bs scripts events ids cells locals places grants).bytes list ≡ true
  unfolding run_reply ran_from run_from
  run_leaves_list ws we agree u =
      elim (ℕ_discrete r 0) [
        | yes e ↦
            let y = eq-eqb r 0 e in
            let t = model_of bs in
            let passed = passed_run t scripts events ids cells locals places (sym (accepted bs scripts events ids cells locals places grants e)) in
            let fit = inputs_fit scripts ids (memory cells locals) events ws we in
            let whole = append-nil (events_of events) in
            subst (λ (x : List ℕ). both_agree x list ≡ true)
            (sym (if_yes _ _ y ∙ ap (λ (s : State). laid s.tables) (if_yes _ _ y)))
            (both_laid (reached t w list (events_of events)).tables list (
              agrees_true _ (agreement_kept t w (events_of events) [] (subst (λ (es : List Event). input_fits w es ≡ true) (sym whole) fit)
                  (subst (λ (es : List Event). refusal t w es ≡ 0) (sym whole) passed)),
              run_fits t w list [] (events_of events) fit passed u (list_agrees_lem bs list agree),
            ))
        | no n ↦ subst (λ (x : List ℕ). both_agree x list ≡ true) (sym (if_no _ _ (ne_eqb r 0 n))) agree
      ]
