-- What a run leaves in all that is lent, by why it is refused and the state that it ends in.
use Rattle.std.proofs.Common.{◌≡◌, ℕ, ◌*◌, ◌≤◌, true, false, eqb, leb, ◌≢◌, List, [], length, replicate, sym, refl, ap, ◌∙◌, subst, ap₂, arith, eq-eqb, ne_eqb, leb-true}
use native.Mathlib.Decide.{ℕ_discrete}
use Rattle.laws.specs.Choose.{choose, ◌and◌}
use Rattle.laws.proofs.Choose.{choose_cases, if_yes, if_no, and_both}
use Rattle.words.proofs.WordsInBytes.{Words}
use Rattle.rules.specs.Machine.{Tables, next}
use Rattle.rules.specs.Agreement.{Agrees}
use Rattle.rules.proofs.Invariants.Agreeing.{agrees_true}
use Rattle.tables.specs.Layout.{laid, model_of}
use Rattle.agreement.specs.Bytes.{agrees_bytes}
use Rattle.calls.specs.Agreeing.{Agreeing}
use Rattle.sections.specs.Run.{at, State, run_from}
use Rattle.sections.specs.Refusals.{Input, refusal, at_first, each_event}
use Rattle.encoding.specs.Rows.{scripts_of, rows_fit}
use Rattle.encoding.specs.Events.{events_of}
use Rattle.encoding.specs.Laid.{memory, laid_places, laid_grants}
use Rattle.refusals.specs.Defined.{input_of, lengths_fit, refusal_where}
use Rattle.runner.specs.State.{Lent}
use Rattle.runner.specs.Turns.{Stepped, Stands, RoomAlong, is_run}
use Rattle.runner.specs.Reply.{refusal_of, ran_from, RunReply, ran, reply_with, run_reply}
use Rattle.runner.proofs.Accepting.{lent_accepted, stepped_accepted, locals_accepted, events_run, inputs_fit, events_few}
use Rattle.runner.proofs.Rooms.{room_along}

-- ---- on agreeing tables

module _ (t : Tables) (scripts events ids cells locals places : List ℕ) where
  abbrev w : Input
  w = input_of scripts ids cells locals

  -- the status of a run is never 25 there
  pub refused_below : Agrees t → refusal_where t w scripts events places ≢ 25
  unfolding refusal
  refused_below a =
      choose_cases (λ (n : ℕ). n ≢ 25) (lengths_fit scripts events places) _ 11
      (λ z. subst (λ (n : ℕ). n ≢ 25) (sym (if_yes _ 25 (agrees_true t a)))
      (choose_cases (λ (n : ℕ). n ≢ 25) _ _ 11 (λ z. choose_cases (λ (n : ℕ). n ≢ 25) _ 0 4 (λ z e. omega arith) (λ z e. omega arith)) (λ z e. omega arith)))
      (λ z e. omega arith)

  -- what a status of 0 says
  module _ (zero : 0 ≡ refusal_where t w scripts events places) where
    fit : lengths_fit scripts events places ≡ true
    fit =
        choose_cases (λ (n : ℕ). 0 ≡ n → lengths_fit scripts events places ≡ true) (lengths_fit scripts events places) _ 11 (λ z e. z) (λ z e. absurd (omega
        arith)) zero

    pub passed_run : refusal t w (events_of events) ≡ 0
    passed_run = sym (zero ∙ if_yes _ 11 fit)

    room : 2 * length (scripts_of scripts) ≤ length places
    unfolding lengths_fit
    room = leb-true _ _ (and_both _ _ (and_both _ _ fit).1).0

    few : length events ≤ 4294967295
    unfolding lengths_fit
    few = leb-true _ _ (and_both _ _ (and_both _ _ fit).1).1

    pub lent_run : (grants : List ℕ) → Lent scripts places grants
    lent_run grants = lent_accepted scripts ids (memory cells locals) t (events_of events) passed_run places grants room

    pub stepped_run : Stepped scripts (length cells)
    stepped_run = stepped_accepted scripts ids (memory cells locals) t (events_of events) passed_run

    pub locals_run : length locals ≡ 256
    locals_run = locals_accepted t w (events_of events) passed_run

    pub all_run : each_event (events_of events) (is_run (scripts_of scripts)) ≡ true
    all_run = events_run t w (events_of events) passed_run

    pub room_run : Words scripts → Words events → RoomAlong (scripts_of scripts) (at_first t w) (events_of events)
    room_run ws we =
        room_along t w (events_of events) passed_run (inputs_fit scripts ids (memory cells locals) events ws we) (omega (arith, events_few events, few))

  -- of the places only the length is looked at
  pub same_room : (places' : List ℕ) → length places' ≡ length places → refusal_where t w scripts events places' ≡ refusal_where t w scripts events places
  unfolding lengths_fit
  same_room places' h =
      ap (λ (n : ℕ). choose (rows_fit scripts and leb (2 * length (scripts_of scripts)) n and leb (length events) 4294967295) (refusal t w (events_of events)) 11)
      h

  pub run_stands : {places₀ grants₀ bs cells' locals' places' grants' : List ℕ} (r : ℕ) → r ≡ 0
      → Stands places₀ grants₀ (run_from (scripts_of scripts) (at_first t w) (events_of events)) bs cells' locals' places' grants'
      → Stands places₀ grants₀ (ran_from r t w (events_of events)) bs cells' locals' places' grants'
  unfolding ran_from
  run_stands {places₀} {grants₀} {bs} {cells'} {locals'} {places'} {grants'} r e S =
      subst (λ (s : State). Stands places₀ grants₀ s bs cells' locals' places' grants') (sym (if_yes _ _ (eq-eqb r 0 e))) S

  pub run_none : (r : ℕ) → (r ≡ 0 → ⊥) → at_first t w ≡ ran_from r t w (events_of events)
  unfolding ran_from
  run_none r n = sym (if_no _ _ (ne_eqb r 0 n))

-- places at the start and no grants: the outset of a run
pub outset_stands : (bs scripts ids cells locals places₀ grants₀ places grants : List ℕ)
    → places ≡ laid_places places₀ (replicate (length (scripts_of scripts)) (at 0 0)) → grants ≡ laid_grants grants₀ []
    → Stands places₀ grants₀ (at_first (model_of bs) (input_of scripts ids cells locals)) bs cells locals places grants
outset_stands bs scripts ids cells locals places₀ grants₀ places grants p g =
    record { holds = record { tables = refl; reports = record { places = p; grants = g } }; same = refl }

-- ---- on any bytes

module _ (bs scripts events ids cells locals places grants : List ℕ) where
  abbrev input : Input
  input = input_of scripts ids cells locals

  abbrev whole : RunReply
  whole = run_reply bs scripts events ids cells locals places grants

  pub disagrees : agrees_bytes bs ≡ false → (places' grants' : List ℕ) → places' ≡ laid_places places (replicate (length (scripts_of scripts)) (at 0 0))
      → grants' ≡ laid_grants grants [] → ran (record { status = 25; value = 0; next = 0 }) bs cells locals places' grants' ≡ whole
  unfolding run_reply refusal_of ran_from choose
  disagrees e places' grants' p g =
      ap₂ (λ (ps gs : List ℕ). ran (record { status = 25; value = 0; next = 0 }) bs cells locals ps gs) p g
      ∙ ap (λ (r : ℕ). reply_with r (ran_from r (model_of bs) input (events_of events)) bs places grants) (sym (if_no _ 25 e))

  module _ (e : agrees_bytes bs ≡ true) (G : Agreeing bs) (r : ℕ) (d : r ≡ refusal_where (model_of bs) input scripts events places) where
    abbrev s : State
    s = ran_from r (model_of bs) input (events_of events)

    next_left : (n : ℕ) → n ≡ next s.tables → n ≡ choose (eqb r 25) 0 (next s.tables)
    next_left n h = h ∙ sym (if_no _ _ (ne_eqb r 25 (λ z. refused_below (model_of bs) scripts events ids cells locals places G.agrees (sym d ∙ z))))

    bytes_left : (bs' : List ℕ) → bs' ≡ laid s.tables → bs' ≡ choose (eqb r 0) (laid s.tables) bs
    bytes_left bs' h =
        elim (ℕ_discrete r 0) [
          | yes z ↦ h ∙ sym (if_yes _ bs (eq-eqb r 0 z))
          | no n ↦ h ∙ ap (λ (x : State). laid x.tables) (sym (run_none (model_of bs) scripts events ids cells locals places r n)) ∙ sym G.same
              ∙ sym (if_no (laid s.tables) bs (ne_eqb r 0 n))
        ]

    pub agreed : (bs' cells' locals' places' grants' : List ℕ) (n : ℕ) → Stands places grants s bs' cells' locals' places' grants' → Agreeing bs'
        → n ≡ next (model_of bs') → ran (record { status = r; value = 0; next = n }) bs' cells' locals' places' grants' ≡ whole
    unfolding run_reply refusal_of
    agreed bs' cells' locals' places' grants' n S K h =
        let tables : s.tables ≡ model_of bs' = S.holds.tables in
        let same : memory cells' locals' ≡ s.memory = sym S.same in
        let left : ran (record { status = r; value = 0; next = n }) bs' cells' locals' places' grants' ≡ reply_with r s bs places grants =
        λ i. record {
          answer = record { status = r; value = 0; next = next_left n (h ∙ ap next (sym tables)) i };
          bytes = bytes_left bs' (K.same ∙ ap laid (sym tables)) i;
          cells = (same i).cells;
          locals = (same i).locals;
          places = S.holds.reports.places i;
          grants = S.holds.reports.grants i;
        }
        in
        left ∙ ap (λ (q : ℕ). reply_with q (ran_from q (model_of bs) input (events_of events)) bs places grants) (d ∙ sym (if_yes _ 25 e))
