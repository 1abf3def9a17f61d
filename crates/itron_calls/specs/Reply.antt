-- Request 5: what a call of the family does to lent tables and a lent list, of any length and content.
use Rattle.std.specs.Prelude.{Bool, ◌≡◌, List, ℕ}
use Rattle.laws.specs.Choose.{choose, ◌and◌}
use Rattle.rules.specs.declared.Answer.{Answer}
use Rattle.rules.specs.Machine.{Tables}
use Rattle.tables.specs.Layout.{laid, model_of}
use Rattle.agreement.specs.Bytes.{agrees_bytes}
use Rattle.manager.specs.Entry.{no_next}
use Rattle.mapping.specs.Mapping.{list_agrees}
use Rattle.itron.specs.declared.Coded.{Coded}
use Rattle.itron.specs.declared.Reference.{Reference}
use Rattle.itron.specs.Codes.{e_sys}
pub use Rattle.itron.specs.Calls.{no_code}
use Rattle.itron.specs.Calls.{Listed, told_nothing, ref_sem, delete_mapped}

-- tables and list agree
unfoldable pub both_agree : List ℕ → List ℕ → Bool
both_agree bs list = agrees_bytes bs and list_agrees (model_of bs) list

-- an answer, every byte of the tables and every entry of the list
pub record ListReply (A : Type 0) : Type 0 where
  pub answer : A
  pub bytes : List ℕ
  pub list : List ℕ

-- tables or a list that do not agree get one answer, and are left as they were
unfoldable pub reply_with : {A : Type 0} → List ℕ → List ℕ → A → (Tables → List ℕ → Listed A) → ListReply A
reply_with bs list disagreed call =
    let done = call (model_of bs) list in
    choose (both_agree bs list)
    (record { answer = done.answer; bytes = laid done.tables; list = done.list })
    (record { answer = disagreed; bytes = bs; list = list })

-- a call of the family
abbrev pub code_reply : List ℕ → List ℕ → (Tables → List ℕ → Listed Coded) → ListReply Coded
code_reply bs list call = reply_with bs list no_code call

-- ref_sem, which only reads
unfoldable pub ref_reply : List ℕ → List ℕ → ℕ → ℕ → Reference
ref_reply bs list caller semid = choose (both_agree bs list) (ref_sem (model_of bs) list caller semid) (told_nothing e_sys 0)

-- Classic delete with the list: 25 and no next task
abbrev pub delete_reply : List ℕ → List ℕ → ℕ → ℕ → ListReply Answer
delete_reply bs list caller id = reply_with bs list no_next (λ t l. delete_mapped t l caller id)

-- an answer, and the bytes and the list after it, are a reply
pub record Leaves {A : Type 0} (r : A) (bs ls : List ℕ) (to : ListReply A) : Type 0 where
  pub answer : r ≡ to.answer
  pub bytes : bs ≡ to.bytes
  pub list : ls ≡ to.list
