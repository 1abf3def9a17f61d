-- What the entry points answer and leave, case by case: each case is one return of the code.
use mathlib.Core.Path.{◌≡◌, refl, sym, ap, subst, ◌∙◌}
use mathlib.Core.Bool.{true, false}
use mathlib.Core.List.{List, ◌++◌}
use Prim.Native.Nat.{ℕ, ◌+◌, ◌≤◌, ◌<◌}
use native.Mathlib.Omega.{arith}
use lib.ListN.{length, drop}
use lib.Seq.{sets, sets-eq}
use borrow.Author.Tests.{le-leb, lt-leb}
use Rattle.laws.proofs.Choose.{if_yes, if_no, if_le, if_not_le}
use Rattle.rules.specs.declared.Answer.{Answer}
use Rattle.rules.specs.Machine.{Tables, unstarted}
use Rattle.rules.specs.Calls.{Outcome, answered, refused}
use Rattle.tables.specs.Layout.{laid, model_of}
use Rattle.agreement.specs.Bytes.{agrees_bytes}
use Rattle.calls.specs.Agreeing.{Agreeing}
use Rattle.calls.proofs.Making.{not_started}
use Rattle.manager.specs.Entry.{no_next}
use Rattle.state.specs.File.{is_started, state_file}
use Rattle.state.specs.Reading.{tables_in, is_state}
use Rattle.state.specs.Reply.{Reply, reply, Replied, saved, save_reply, loaded, load_reply}

-- ---- started or not

is_started_lem : (t : Tables) → (length t.tasks ≡ 0 → ⊥) → is_started t ≡ true
is_started_lem t h = le-leb 1 (length t.tasks) (omega arith)

is_not_started : (t : Tables) → length t.tasks ≡ 0 → is_started t ≡ false
is_not_started t h = lt-leb 1 (length t.tasks) (omega arith)

-- bytes of agreeing tables without tasks are those before the start
pub before_start : {bs : List ℕ} → Agreeing bs → length (model_of bs).tasks ≡ 0 → bs ≡ laid unstarted
before_start {bs} g h = g.same ∙ ap laid (not_started (model_of bs) g.agrees h)

-- ---- write

module _ (t : Tables) (buffer : List ℕ) where
  pub unstarted_written : length t.tasks ≡ 0 → Replied (answered 14 0 t).answer buffer (saved t buffer)
  unfolding saved
  unstarted_written h = subst (Replied (answered 14 0 t).answer buffer) (sym (if_no _ _ (is_not_started t h))) (record { answer = refl; bytes = refl })

  module _ (some : length t.tasks ≡ 0 → ⊥) where
    pub short_written : length buffer < length (state_file t) → Replied (answered 8 0 t).answer buffer (saved t buffer)
    unfolding saved
    short_written h =
        subst (Replied (answered 8 0 t).answer buffer) (sym (if_yes _ _ (is_started_lem t some) ∙ if_not_le _ _ _ _ h)) (record { answer = refl; bytes = refl })

    pub done_written : (n : ℕ) → n ≡ length (state_file t) → n ≤ length buffer → (after : List ℕ) → after ≡ sets buffer 0 (state_file t)
        → Replied (answered 0 n t).answer after (saved t buffer)
    unfolding saved
    done_written n l h after w =
        subst (Replied (answered 0 n t).answer after) (sym (if_yes _ _ (is_started_lem t some) ∙ if_le _ _ _ _ (omega arith)))
        (record {
          answer = ap (λ (k : ℕ). (answered 0 k t).answer) l;
          bytes = w ∙ sets-eq (state_file t) buffer 0 (omega arith) ∙ ap (λ (k : ℕ). state_file t ++ drop k buffer) behind;
        })
      where
        behind : 0 + length (state_file t) ≡ length (state_file t)
        behind = omega arith

module _ (bs buffer : List ℕ) {r : Answer} where
  pub save_disagreeing : agrees_bytes bs ≡ false → r ≡ no_next → Replied r buffer (save_reply bs buffer)
  unfolding save_reply
  save_disagreeing e n = subst (Replied r buffer) (sym (if_no _ _ e)) (record { answer = n; bytes = refl })

  pub save_agreeing : agrees_bytes bs ≡ true → (after : List ℕ) → Replied r after (saved (model_of bs) buffer) → Replied r after (save_reply bs buffer)
  unfolding save_reply
  save_agreeing e after d = subst (Replied r after) (sym (if_yes _ _ e)) d

-- ---- read

module _ (bs file : List ℕ) (g : Agreeing bs) where
  reads : (r : Answer) {to : Outcome} → loaded (model_of bs) file ≡ to → {after : List ℕ} → Replied r after (reply to) → Replied r after (reply (loaded (model_of bs) file))
  reads r p {after} d = subst (Replied r after) (sym (ap {B = Reply} reply p)) d

  pub started_read : (length (model_of bs).tasks ≡ 0 → ⊥) → Replied (answered 14 0 (model_of bs)).answer bs (reply (loaded (model_of bs) file))
  started_read h = reads _ {to = refused (model_of bs) 14} refused_14 (record { answer = refl; bytes = g.same })
    where
      refused_14 : loaded (model_of bs) file ≡ refused (model_of bs) 14
      refused_14 = unfold loaded in if_yes _ _ (is_started_lem (model_of bs) h)

  module _ (h : length (model_of bs).tasks ≡ 0) where
    pub refused_read : is_state file ≡ false → (after : List ℕ) → after ≡ laid unstarted
        → Replied (answered 8 0 (model_of after)).answer after (reply (loaded (model_of bs) file))
    refused_read s after w =
        reads _ {to = refused (model_of bs) 8} refused_8 (record { answer = ap (λ (l : List ℕ). (answered 8 0 (model_of l)).answer) same; bytes = same ∙ g.same })
      where
        same : after ≡ bs
        same = w ∙ sym (before_start g h)

        refused_8 : loaded (model_of bs) file ≡ refused (model_of bs) 8
        refused_8 = unfold loaded in if_no _ _ (is_not_started (model_of bs) h) ∙ if_no _ _ s

    pub done_read : is_state file ≡ true → (after : List ℕ) → after ≡ laid (tables_in file) → model_of after ≡ tables_in file
        → Replied (answered 0 0 (model_of after)).answer after (reply (loaded (model_of bs) file))
    done_read s after w m =
        reads _ {to = answered 0 0 (tables_in file)} done (record { answer = ap (λ (t : Tables). (answered 0 0 t).answer) m; bytes = w })
      where
        done : loaded (model_of bs) file ≡ answered 0 0 (tables_in file)
        done = unfold loaded in if_no _ _ (is_not_started (model_of bs) h) ∙ if_yes _ _ s

module _ (bs file : List ℕ) {r : Answer} where
  pub load_disagreeing : agrees_bytes bs ≡ false → r ≡ no_next → Replied r bs (load_reply bs file)
  unfolding load_reply
  load_disagreeing e n = subst (Replied r bs) (sym (if_no _ _ e)) (record { answer = n; bytes = refl })

  pub load_agreeing : agrees_bytes bs ≡ true → (after : List ℕ) → Replied r after (reply (loaded (model_of bs) file)) → Replied r after (load_reply bs file)
  unfolding load_reply
  load_agreeing e after d = subst (Replied r after) (sym (if_yes _ _ e)) d
