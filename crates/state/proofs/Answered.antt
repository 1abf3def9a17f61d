-- What a write and a read answer and leave on any lent bytes: the four cases of each.
use mathlib.Core.Path.{◌≡◌, sym, ap, ◌∙◌}
use mathlib.Core.Bool.{true, false}
use mathlib.Core.List.{List, ◌++◌}
use Prim.Native.Nat.{ℕ, ◌≤◌, ◌<◌}
use native.Mathlib.Omega.{arith}
use lib.ListN.{length, drop}
use borrow.Author.Tests.{leb-false}
use Rattle.laws.proofs.Choose.{if_yes, if_no, if_le, if_not_le}
use Rattle.words.proofs.WordsInBytes.{Bytes}
use Rattle.rules.specs.Machine.{Tables, most_urgent, next}
use Rattle.tables.specs.Layout.{laid, model_of}
use Rattle.agreement.specs.Bytes.{agrees_bytes}
use Rattle.calls.proofs.Making.{not_started}
use Rattle.manager.specs.Entry.{no_next}
use Rattle.manager.proofs.Tested as entries
use Rattle.state.specs.File.{is_started, state_file}
use Rattle.state.specs.Reading.{tables_in, is_state}
use Rattle.state.specs.Reply.{Reply, reply, saved, save_reply, loaded, load_reply}

-- an answer without a value, and the bytes left
abbrev pub without : ℕ → ℕ → List ℕ → Reply
without status task bytes = record { answer = record { status = status; value = 0; next = task }; bytes = bytes }

-- ---- write

abbrev pub written : Tables → List ℕ → Reply
written t buffer =
    record { answer = record { status = 0; value = length (state_file t); next = next t }; bytes = state_file t ++ drop (length (state_file t)) buffer }

module _ (bs buffer : List ℕ) where
  abbrev t : Tables
  t = model_of bs

  pub write_answers : (agrees_bytes bs ≡ false → save_reply bs buffer ≡ record { answer = no_next; bytes = buffer })
      × (agrees_bytes bs ≡ true → is_started t ≡ false → save_reply bs buffer ≡ without 14 (next t) buffer)
      × (agrees_bytes bs ≡ true → is_started t ≡ true → length buffer < length (state_file t) → save_reply bs buffer ≡ without 8 (next t) buffer)
      × (agrees_bytes bs ≡ true → is_started t ≡ true → length (state_file t) ≤ length buffer → save_reply bs buffer ≡ written t buffer)
  unfolding save_reply saved
  write_answers = (
    λ a. if_no _ _ a,
    λ a s. if_yes _ _ a ∙ if_no _ _ s,
    λ a s l. if_yes _ _ a ∙ if_yes _ _ s ∙ if_not_le _ _ _ _ l,
    λ a s l. if_yes _ _ a ∙ if_yes _ _ s ∙ if_le _ _ _ _ l,
  )

-- ---- read

-- a machine that is not started has no next task
pub no_next_lem : (bs : List ℕ) → Bytes bs → agrees_bytes bs ≡ true → is_started (model_of bs) ≡ false → next (model_of bs) ≡ 0
unfolding next most_urgent
no_next_lem bs b a s = ap next (not_started (model_of bs) (entries.tested b a).agrees (omega (arith, leb-false 1 (length (model_of bs).tasks) s)))

module _ (bs file : List ℕ) (b : Bytes bs) where
  pub read_answers : (agrees_bytes bs ≡ false → load_reply bs file ≡ record { answer = no_next; bytes = bs })
      × (agrees_bytes bs ≡ true → is_started (model_of bs) ≡ true → load_reply bs file ≡ without 14 (next (model_of bs)) bs)
      × (agrees_bytes bs ≡ true → is_started (model_of bs) ≡ false → is_state file ≡ false → load_reply bs file ≡ without 8 0 bs)
      × (agrees_bytes bs ≡ true → is_started (model_of bs) ≡ false → is_state file ≡ true
      → load_reply bs file ≡ without 0 (next (tables_in file)) (laid (tables_in file)))
  unfolding load_reply loaded
  read_answers = (
    λ a. if_no _ _ a,
    λ a s. if_yes _ _ a ∙ ap {B = Reply} reply (if_yes _ _ s) ∙ ap (without 14 (next (model_of bs))) (sym (entries.tested b a).same),
    λ a s v.
        if_yes _ _ a ∙ ap {B = Reply} reply (if_no _ _ s ∙ if_no _ _ v)
        ∙ ap (without 8 (next (model_of bs))) (sym (entries.tested b a).same) ∙ ap (λ (n : ℕ). without 8 n bs) (no_next_lem bs b a s),
    λ a s v. if_yes _ _ a ∙ ap {B = Reply} reply (if_no _ _ s ∙ if_yes _ _ v),
  )
