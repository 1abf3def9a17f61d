-- What a write and a read promise over lent bytes: what is done is done whole, and a refusal keeps every byte.
use mathlib.Core.Path.{◌≡◌, refl, sym, ap, subst, ◌∙◌}
use mathlib.Core.Bool.{true, false}
use mathlib.Core.List.{List}
use mathlib.Core.Logic.{◌≢◌, ⊎_elim}
use Prim.Native.Nat.{ℕ}
use native.Mathlib.Omega.{arith}
use lib.Dec.{leb, eqb}
use lib.ListN.{length, take, drop}
use lib.Seq.{take-append_seam, drop-append_seam}
use borrow.Author.Tests.{leb-true, leb-false}
use Rattle.laws.specs.Choose.{choose}
use Rattle.laws.proofs.Choose.{if_yes, if_no, tested}
use Rattle.words.proofs.WordsInBytes.{Bytes}
use Rattle.rules.specs.Machine.{Tables, next}
use Rattle.tables.specs.Layout.{laid, model_of}
use Rattle.agreement.specs.Bytes.{agrees_bytes}
use Rattle.calls.specs.Agreeing.{Agreeing}
use Rattle.calls.proofs.Agreeing.{model_is, agreeing_laid}
use Rattle.state.specs.File.{is_started, state_file}
use Rattle.state.specs.Reading.{tables_in, is_state}
use Rattle.state.specs.Reply.{Reply, save_reply, load_reply}
use Rattle.state.proofs.Promises.{state_agrees}
use Rattle.state.proofs.Answered.{without, written, write_answers, no_next_lem, read_answers}

-- what a refusal leaves: value 0, the bytes that were there, and with all but 25 the next task of the tables
pub record Kept (r : Reply) (t : Tables) (before : List ℕ) : Type 0 where
  pub refusal : r.answer.status ≢ 0
  pub value : r.answer.value ≡ 0
  pub task : r.answer.next ≡ choose (eqb r.answer.status 25) 0 (next t)
  pub bytes : r.bytes ≡ before

module _ (t : Tables) (before : List ℕ) (r : Reply) where
  kept : (status : ℕ) → status ≢ 0 → (n : ℕ) → n ≡ choose (eqb status 25) 0 (next t) → r ≡ without status n before → Kept r t before
  kept status z n e w = subst (λ (x : Reply). Kept x t before) (sym w) (record { refusal = z; value = refl; task = e; bytes = refl })

  -- by the status, which is known
  kept_with : (status : ℕ) → status ≢ 0 → eqb status 25 ≡ false → r ≡ without status (next t) before → Kept r t before
  kept_with status z e = kept status z (next t) (sym (if_no _ _ e))

  kept_disagreeing : r ≡ without 25 0 before → Kept r t before
  kept_disagreeing = kept 25 (λ z. omega arith) 0 (sym (if_yes _ _ refl))

-- ---- write

-- a write that is done
pub record Done (bs buffer : List ℕ) : Type 0 where
  pub agreed : agrees_bytes bs ≡ true
  pub started : is_started (model_of bs) ≡ true
  pub whole : save_reply bs buffer ≡ written (model_of bs) buffer

module _ (bs buffer : List ℕ) where
  save_cases : (P : Type 0) → (Done bs buffer → P) → (Kept (save_reply bs buffer) (model_of bs) buffer → P) → P
  save_cases P d k =
      let answers = write_answers bs buffer in
      ⊎_elim
      (λ (a : agrees_bytes bs ≡ true).
      ⊎_elim
      (λ (s : is_started (model_of bs) ≡ true).
      ⊎_elim
      (λ (l : leb (length (state_file (model_of bs))) (length buffer) ≡ true).
      d (record { agreed = a; started = s; whole = answers.3 a s (leb-true _ _ l) }))
      (λ (l : leb (length (state_file (model_of bs))) (length buffer) ≡ false).
      k (kept_with (model_of bs) buffer (save_reply bs buffer) 8 (λ z. omega arith) refl (answers.2 a s (leb-false _ _ l))))
      (tested _))
      (λ (s : is_started (model_of bs) ≡ false).
      k (kept_with (model_of bs) buffer (save_reply bs buffer) 14 (λ z. omega arith) refl (answers.1 a s)))
      (tested _))
      (λ (a : agrees_bytes bs ≡ false). k (kept_disagreeing (model_of bs) buffer (save_reply bs buffer) (answers.0 a)))
      (tested _)

  -- a refusal leaves every byte of the buffer, with value 0 and the tables' next task, with 25 none
  pub refused_save_keeps : let r = save_reply bs buffer in r.answer.status ≢ 0
      → (r.bytes ≡ buffer) × (r.answer.value ≡ 0) × (r.answer.next ≡ choose (eqb r.answer.status 25) 0 (next (model_of bs)))
  refused_save_keeps n =
      save_cases _ (λ d. absurd (n (ap (λ (x : Reply). x.answer.status) d.whole))) (λ k. (k.bytes, k.value, k.task))

  -- a write that is done: these tables agree and are started, and their file stands at the buffer's front
  pub save_done : (save_reply bs buffer).answer.status ≡ 0 → Done bs buffer
  save_done z = save_cases _ (λ d. d) (λ k. absurd (k.refusal z))

  -- the bytes behind the file, whose length is the value, are what they were
  pub behind_the_file : drop (save_reply bs buffer).answer.value (save_reply bs buffer).bytes ≡ drop (save_reply bs buffer).answer.value buffer
  behind_the_file =
      save_cases _
      (λ d. subst (λ (r : Reply). drop r.answer.value r.bytes ≡ drop r.answer.value buffer) (sym d.whole)
      (drop-append_seam (state_file (model_of bs)) (drop (length (state_file (model_of bs))) buffer)))
      (λ k. ap (λ (l : List ℕ). drop (save_reply bs buffer).answer.value l) k.bytes)

  -- what stands before them is the file
  pub file_in_front : (save_reply bs buffer).answer.status ≡ 0 → take (save_reply bs buffer).answer.value (save_reply bs buffer).bytes ≡ state_file (model_of bs)
  file_in_front z =
      let d = save_done z in
      subst (λ (r : Reply). take r.answer.value r.bytes ≡ state_file (model_of bs)) (sym d.whole)
      (take-append_seam (state_file (model_of bs)) (drop (length (state_file (model_of bs))) buffer))

-- ---- read

pub record Read (bs file : List ℕ) : Type 0 where
  pub valid : is_state file ≡ true
  pub whole : load_reply bs file ≡ without 0 (next (tables_in file)) (laid (tables_in file))

module _ (bs file : List ℕ) where
  load_cases : Bytes bs → (P : Type 0) → (Read bs file → P) → (Kept (load_reply bs file) (model_of bs) bs → P) → P
  load_cases b P d k =
      let answers = read_answers bs file b in
      ⊎_elim
      (λ (a : agrees_bytes bs ≡ true).
      ⊎_elim
      (λ (s : is_started (model_of bs) ≡ true).
      k (kept_with (model_of bs) bs (load_reply bs file) 14 (λ z. omega arith) refl (answers.1 a s)))
      (λ (s : is_started (model_of bs) ≡ false).
      ⊎_elim
      (λ (v : is_state file ≡ true). d (record { valid = v; whole = answers.3 a s v }))
      (λ (v : is_state file ≡ false).
      k (kept (model_of bs) bs (load_reply bs file) 8 (λ z. omega arith) 0 (sym (if_no _ _ refl ∙ no_next_lem bs b a s)) (answers.2 a s v)))
      (tested _))
      (tested _))
      (λ (a : agrees_bytes bs ≡ false). k (kept_disagreeing (model_of bs) bs (load_reply bs file) (answers.0 a)))
      (tested _)

  -- a refusal leaves every byte of the tables, with value 0 and their next task, with 25 none
  pub refused_load_keeps : Bytes bs → let r = load_reply bs file in r.answer.status ≢ 0
      → (r.bytes ≡ bs) × (r.answer.value ≡ 0) × (r.answer.next ≡ choose (eqb r.answer.status 25) 0 (next (model_of bs)))
  refused_load_keeps b n =
      load_cases b _ (λ d. absurd (n (ap (λ (x : Reply). x.answer.status) d.whole))) (λ k. (k.bytes, k.value, k.task))

  pub load_done : Bytes bs → (load_reply bs file).answer.status ≡ 0 → Read bs file
  load_done b z = load_cases b _ (λ d. d) (λ k. absurd (k.refusal z))

  pub load_leaves : Bytes bs → (load_reply bs file).answer.status ≡ 0 → (load_reply bs file).bytes ≡ laid (tables_in file)
  load_leaves b z = ap (λ (x : Reply). x.bytes) (load_done b z).whole

  -- the tables loaded are those of the file, and agree
  pub load_agrees : Bytes bs → (load_reply bs file).answer.status ≡ 0
      → Agreeing (load_reply bs file).bytes × (model_of (load_reply bs file).bytes ≡ tables_in file)
  load_agrees b z =
      let a = state_agrees file (load_done b z).valid in
      let e = load_leaves b z in
      (agreeing_laid (tables_in file) a _ e, model_is (tables_in file) a _ e)
