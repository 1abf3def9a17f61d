-- The file of lent tables: a write puts it at the front of a buffer that has room for the longest, and nothing else is written.
use mathlib.Core.Path.{◌≡◌, sym, ap, ap₂, subst, ◌∙◌}
use mathlib.Core.Bool.{true, false}
use mathlib.Core.List.{List, [], ◌++◌}
use mathlib.Core.Logic.{⊎_elim}
use Prim.Native.Nat.{ℕ, ◌+◌, ◌≤◌}
use native.Mathlib.Decide.{dec_lt}
use native.Mathlib.Omega.{arith}
use lib.ListN.{length, take, drop, length-append}
use lib.Seq.{take_at, take_all, length-take-le}
use Rattle.laws.specs.Choose.{◌and◌}
use Rattle.laws.proofs.Choose.{if_yes, if_no, if_le, and_both, both_and, never, tested}
use Rattle.rules.specs.declared.Answer.{Answer}
use Rattle.rules.specs.Numbers.{successful}
use Rattle.rules.specs.Calls.{answered}
use Rattle.rules.proofs.Invariants.Agreeing.{true_agrees}
use Rattle.tables.specs.Layout.{model_of}
use Rattle.agreement.specs.Bytes.{agrees_bytes}
use Rattle.line.specs.Print.{spliced}
use Rattle.line.proofs.Printing.{spliced_front, spliced_twice}
use Rattle.state.specs.File.{is_started, state_file, longest_file}
use Rattle.state.specs.Reply.{Reply, Replied, saved, save_reply}
use Rattle.state.proofs.Lengths.{file_longest}
use Rattle.mast_state.specs.Saved.{file_of, Files, Counts, suffix}

-- ---- a write

module _ (bs buffer : List ℕ) where
  -- the tables are started and agree, and there is a file
  some_file : (agrees_bytes bs and is_started (model_of bs)) ≡ true → longest_file ≤ length buffer
      → save_reply bs buffer ≡ record {
        answer = (answered successful (length (state_file (model_of bs))) (model_of bs)).answer;
        bytes = state_file (model_of bs) ++ drop (length (state_file (model_of bs))) buffer;
      }
  unfolding save_reply saved agrees_bytes
  some_file e room =
      let p = and_both _ _ e in
      let agreed = true_agrees (model_of bs) (and_both _ _ p.0).1 in
      if_yes _ _ p.0 ∙ if_yes _ _ p.1 ∙ if_le (length (state_file (model_of bs))) (length buffer) _ _ (omega (arith, file_longest (model_of bs) agreed))

  -- or there is none
  no_file : (agrees_bytes bs and is_started (model_of bs)) ≡ false → (save_reply bs buffer).answer.status ≡ 0 → ⊥
  unfolding save_reply saved
  no_file e z =
      ⊎_elim
      (λ (a : agrees_bytes bs ≡ true).
      ⊎_elim (λ (s : is_started (model_of bs) ≡ true). never (both_and a s) e)
      (λ (s : is_started (model_of bs) ≡ false). omega (arith, sym z ∙ ap (λ (r : Reply). r.answer.status) (if_yes _ _ a ∙ if_no _ _ s)))
      (tested (is_started (model_of bs))))
      (λ (a : agrees_bytes bs ≡ false). omega (arith, sym z ∙ ap (λ (r : Reply). r.answer.status) (if_no _ _ a)))
      (tested (agrees_bytes bs))

  module _ {r : Answer} {buffer' : List ℕ} (w : Replied r buffer' (save_reply bs buffer)) where
    pub files_all : longest_file ≤ length buffer → r.status ≡ 0 → Files r.value bs buffer'
    unfolding file_of
    files_all room z =
        ⊎_elim
        (λ (e : (agrees_bytes bs and is_started (model_of bs)) ≡ true).
        let file = state_file (model_of bs) in
        let is = some_file e room in
        let value : r.value ≡ length file = ap (λ (a : Answer). a.value) (w.answer ∙ ap (λ (x : Reply). x.answer) is) in
        record {
          all = value ∙ ap length (sym (if_yes _ _ e));
          front = ap (take r.value) (w.bytes ∙ ap (λ (x : Reply). x.bytes) is) ∙ take_at file (drop (length file) buffer) r.value (sym value)
              ∙ sym (if_yes _ _ e);
        })
        (λ (e : (agrees_bytes bs and is_started (model_of bs)) ≡ false).
        absurd (no_file e (sym (ap (λ (a : Answer). a.status) w.answer) ∙ z)))
        (tested (agrees_bytes bs and is_started (model_of bs)))

    pub files_none : longest_file ≤ length buffer → (r.status ≡ 0 → ⊥) → file_of bs ≡ []
    unfolding file_of
    files_none room d =
        ⊎_elim
        (λ (e : (agrees_bytes bs and is_started (model_of bs)) ≡ true).
        absurd (d (ap (λ (a : Answer). a.status) (w.answer ∙ ap (λ (x : Reply). x.answer) (some_file e room)))))
        (λ (e : (agrees_bytes bs and is_started (model_of bs)) ≡ false). if_no _ _ e)
        (tested (agrees_bytes bs and is_started (model_of bs)))

-- the file's length is within the buffer's
pub files_fit : {n : ℕ} {bs buffer : List ℕ} → Files n bs buffer → n ≤ length buffer
files_fit {n} {bs} {buffer} f =
    elim (dec_lt (length buffer) n) [
      | yes h ↦ absurd (omega (arith, f.all, ap length f.front, ap length (take_all n buffer (omega arith))))
      | no d ↦ omega arith
    ]

-- all of what stands at the front is handed on
pub same_file : {n m : ℕ} {bs buffer : List ℕ} → Files n bs buffer → m ≡ length (take n buffer) → Files m bs buffer
same_file {n} {m} {bs} {buffer} f e = subst (λ (k : ℕ). Files k bs buffer) (sym (e ∙ length-take-le n buffer (files_fit f))) f

-- ---- the name of the file beside

module _ (path name : List ℕ) (fits : length path + 7 ≤ length name) where
  pub beside_is : (at : ℕ) (part : List ℕ) (end : ℕ) (name' : List ℕ)
      → at ≡ 0 + length path → part ≡ spliced 0 path name → end ≡ at + 7 → name' ≡ spliced at suffix part
      → Counts end name' × (take end name' ≡ path ++ suffix)
  beside_is at part end name' here first ends second =
      let rest : List ℕ = drop (length (path ++ suffix)) name in
      let whole : name' ≡ (path ++ suffix) ++ rest =
      second ∙ ap₂ (λ (n : ℕ) (l : List ℕ). spliced n suffix l) here first
      ∙ spliced_twice 0 path name (omega arith) suffix ∙ spliced_front (path ++ suffix) name in
      let long : length (path ++ suffix) ≡ end = omega (arith, length-append path suffix) in
      let front : take end name' ≡ path ++ suffix = ap (take end) whole ∙ take_at (path ++ suffix) rest end long in
      ((omega (arith, ap length whole, length-append (path ++ suffix) rest), sym (ap length front ∙ long)), front)
