-- What a call answers, and what it leaves in lent bytes.
use Rattle.std.specs.Prelude.{◌≡◌, List, ℕ, Result, Ok, Err}
use Rattle.rules.specs.declared.Answer.{Answer}
use Rattle.rules.specs.Numbers.{successful, waiting}
use Rattle.rules.specs.declared.refusal.Refusal.{Refusal}
use Rattle.rules.specs.Status.{status_of}
use Rattle.rules.specs.Machine.{Tables}
use Rattle.rules.specs.Calls.{Outcome}
use Rattle.tables.specs.Layout.{laid, model_of}
use Rattle.calls.specs.declared.Done.{Done}
use Rattle.calls.specs.declared.Done.TheVariants.{Value, Waits}

-- the answer, and every byte of the lent memory
pub record Reply : Type 0 where
  pub answer : Answer
  pub bytes : List ℕ

abbrev pub reply : Outcome → Reply
reply o = record { answer = o.answer; bytes = laid o.tables }

-- an answer and the bytes after it are a reply
pub record Replied (r : Answer) (bs : List ℕ) (to : Reply) : Type 0 where
  pub answer : r ≡ to.answer
  pub bytes : bs ≡ to.bytes

-- the status number of what a call has done, 0 or 100 or the refusal's, and its value, which a refusal and a wait do not have
abbrev pub done_status : Result Done Refusal → ℕ
done_status (Ok (Value n)) = successful
done_status (Ok Waits) = waiting
done_status (Err e) = status_of e

abbrev pub done_value : Result Done Refusal → ℕ
done_value (Ok (Value n)) = n
done_value (Ok Waits) = 0
done_value (Err e) = 0

-- a call's status, its value and the bytes that it left are what its rule gives on the tables before
pub record Does (before after : List ℕ) (r : Result Done Refusal) (rule : Tables → Outcome) : Type 0 where
  pub status : done_status r ≡ (rule (model_of before)).answer.status
  pub value : done_value r ≡ (rule (model_of before)).answer.value
  pub bytes : after ≡ laid (rule (model_of before)).tables
