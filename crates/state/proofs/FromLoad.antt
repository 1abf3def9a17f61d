-- A file read into a machine that is not started; a write and a read one after the other, in either order; what a load makes void;
-- and demand 2 from the load on.
use mathlib.Core.Path.{◌≡◌, refl, sym, ap, subst, ◌∙◌}
use mathlib.Core.Bool.{true, false}
use mathlib.Core.List.{List, ◌++◌}
use mathlib.Core.Logic.{◌↔◌, ⊎_elim}
use Prim.Native.Nat.{ℕ, ◌≤◌}
use native.Mathlib.Omega.{arith}
use lib.ListN.{length, take, drop}
use Rattle.laws.proofs.Choose.{if_yes, if_no, tested}
use Rattle.words.proofs.WordsInBytes.{Bytes}
use Rattle.rules.specs.declared.Call.TheVariants.{Create, Delete}
use Rattle.rules.specs.Machine.{Tables, unstarted, names, most_urgent, next}
use Rattle.rules.specs.Agreement.{Agrees}
use Rattle.rules.specs.Calls.{step}
use Rattle.rules.specs.Runs.{Request, after, answers}
use Rattle.rules.specs.Promises.{NeverAgain}
use Rattle.rules.specs.Fits.{call_fits, calls_fit}
use Rattle.rules.proofs.Invariants.Agreeing.{unstarted_agrees}
use Rattle.rules.proofs.History.Identifiers.{created_is_new}
use Rattle.tables.specs.Layout.{laid, model_of}
use Rattle.calls.specs.Agreeing.{Agreeing}
use Rattle.calls.proofs.Agreeing.{model_is, agreeing_laid, agreeing_bytes}
use Rattle.manager.specs.Entry.{reply_to}
use Rattle.manager.specs.Runs.{replies}
use Rattle.manager.proofs.Tested as entries
use Rattle.manager.proofs.Runs.{runs, deleted_never_again_bytes}
use Rattle.state.specs.File.{is_started, state_file}
use Rattle.state.specs.Reading.{tables_in, is_state, Gives}
use Rattle.state.specs.Reply.{Reply, reply, save_reply, loaded, load_reply}
use Rattle.state.proofs.Promises.{written_reads_back, written_is_state, state_started, states_exactly, given_reads_back}
use Rattle.state.proofs.Answered.{without, written, write_answers}
use Rattle.state.proofs.Loading.{save_done, file_in_front, load_done, load_agrees}

-- ---- a machine that is not started

module _ (file : List ℕ) where
  there : load_reply (laid unstarted) file ≡ reply (loaded unstarted file)
  unfolding load_reply
  there =
      if_yes _ _ (entries.passes (agreeing_laid unstarted unstarted_agrees (laid unstarted) refl))
      ∙ ap (λ (t : Tables). reply (loaded t file)) (model_is unstarted unstarted_agrees (laid unstarted) refl)

  read_there : is_state file ≡ true → load_reply (laid unstarted) file ≡ without 0 (next (tables_in file)) (laid (tables_in file))
  read_there v = there ∙ ap {B = Reply} reply (unfold loaded in if_no _ _ refl ∙ if_yes _ _ v)

  refused_there : is_state file ≡ false → load_reply (laid unstarted) file ≡ without 8 0 (laid unstarted)
  refused_there v = there ∙ ap {B = Reply} reply (unfold loaded next most_urgent in if_no _ _ refl ∙ if_no _ _ v)

  -- 8 exactly for a file that no agreeing started tables give; with it the next task is 0
  pub eight_exactly : ((load_reply (laid unstarted) file).answer.status ≡ 8) ↔ ((t : Tables) → Agrees t → is_started t ≡ true → Gives t file → ⊥)
  eight_exactly = (
    λ e t a s w.
        let v : is_state file ≡ true = (states_exactly file).1 (t, a, s, w) in
        absurd (omega (arith, e, ap (λ (x : Reply). x.answer.status) (read_there v))),
    λ none.
        ⊎_elim
        (λ (v : is_state file ≡ true). let g = (states_exactly file).0 v in absurd (none g.0 g.1 g.2 g.3))
        (λ (v : is_state file ≡ false). ap (λ (x : Reply). x.answer.status) (refused_there v))
        (tested (is_state file)),
  )

-- what was saved is loaded: the same bytes of the tables, and their next task
pub saved_then_loaded : (bs buffer : List ℕ) → Bytes bs → let r = save_reply bs buffer in r.answer.status ≡ 0
    → load_reply (laid unstarted) (take r.answer.value r.bytes)
    ≡ record { answer = record { status = 0; value = 0; next = next (model_of bs) }; bytes = bs }
saved_then_loaded bs buffer b z =
    let d = save_done bs buffer z in
    let g = entries.tested b d.agreed in
    let t : Tables = model_of bs in
    ap (λ (file : List ℕ). load_reply (laid unstarted) file) (file_in_front bs buffer z)
    ∙ read_there (state_file t) (written_is_state t g.agrees d.started)
    ∙ ap (λ (u : Tables). without 0 (next u) (laid u)) (written_reads_back t g.agrees)
    ∙ ap (without 0 (next t)) (sym g.same)

-- what was loaded is saved: the edition 2 file of its tables, in front of what the buffer has; of an edition 2 file the same file
pub loaded_then_saved : (bs file buffer : List ℕ) → Bytes bs → (load_reply bs file).answer.status ≡ 0
    → let out = state_file (tables_in file) in length out ≤ length buffer
    → save_reply (load_reply bs file).bytes buffer
    ≡ record { answer = record { status = 0; value = length out; next = next (tables_in file) }; bytes = out ++ drop (length out) buffer }
loaded_then_saved bs file buffer b z fits =
    let v = (load_done bs file b z).valid in
    let g = load_agrees bs file b z in
    let from : List ℕ = (load_reply bs file).bytes in
    (write_answers from buffer).3 (entries.passes g.0) (subst (λ (t : Tables). is_started t ≡ true) (sym g.1) (state_started file v))
    (subst (λ (t : Tables). length (state_file t) ≤ length buffer) (sym g.1) fits)
    ∙ ap (λ (t : Tables). written t buffer) g.1

-- what the saved machine gave out after the save names nothing in the loaded tables
pub void_after_load : (t : Tables) → Agrees t → (file : List ℕ) → Gives t file
    → (requests : List Request) (caller name count attributes maximum : ℕ) (priorities : List ℕ)
    → let a = (step (after t requests) (Create caller name count attributes maximum) priorities).answer in
    a.status ≡ 0 → names (tables_in file) a.value ≡ false
void_after_load t agreed file gives requests caller name count attributes maximum priorities z =
    let id = (step (after t requests) (Create caller name count attributes maximum) priorities).answer.value in
    rw (given_reads_back t agreed file gives)
    (⊎_elim (λ (n : names t id ≡ true). absurd (created_is_new t id requests caller name count attributes maximum priorities n z refl))
    (λ (n : names t id ≡ false). n) (tested (names t id)))

-- ---- from the load on

module _ (bs file : List ℕ) (b : Bytes bs) (done : (load_reply bs file).answer.status ≡ 0) where
  abbrev from : List ℕ
  from = (load_reply bs file).bytes

  -- every call answers by the rules, on the tables that the file has, and agreement is kept
  pub answers_from_load : (requests : List Request) → calls_fit requests ≡ true
      → ((replies from requests).answers ≡ answers (tables_in file) requests) × (model_of (replies from requests).bytes ≡ after (tables_in file) requests)
      × Agreeing (replies from requests).bytes
  answers_from_load requests fit =
      let g = load_agrees bs file b done in
      let r = runs g.0 requests fit in
      (r.answers ∙ ap (λ (t : Tables). answers t requests) g.1, r.model ∙ ap (λ (t : Tables). after t requests) g.1, r.agreeing)

  -- an identifier deleted since never comes back
  pub deleted_from_load : (earlier : List Request) → calls_fit earlier ≡ true → (caller id : ℕ) (priorities : List ℕ) → call_fits (Delete caller id) ≡ true
      → let m = (replies from earlier).bytes in (reply_to m (Delete caller id) priorities).answer.status ≡ 0
      → (later : List Request) → calls_fit later ≡ true
      → NeverAgain (λ call others. (reply_to (replies (reply_to m (Delete caller id) priorities).bytes later).bytes call others).answer) id
  deleted_from_load earlier fit caller id priorities fits z later fit' =
      let g = (answers_from_load earlier fit).2 in
      let bytes : Bytes (replies from earlier).bytes =
      subst Bytes (sym g.same) (agreeing_bytes (model_of (replies from earlier).bytes) g.agrees)
      in
      deleted_never_again_bytes (replies from earlier).bytes bytes caller id priorities fits z later fit'
