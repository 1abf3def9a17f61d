-- What an entry point does to lent bytes, of any length and content.
use Rattle.std.specs.Prelude.{List, ℕ}
use Rattle.laws.specs.Choose.{choose}
use Rattle.rules.specs.declared.Call.{Call}
use Rattle.rules.specs.declared.Answer.{Answer}
use Rattle.rules.specs.Numbers.{internal_error}
use Rattle.rules.specs.Calls.{perform, looked}
use Rattle.tables.specs.Layout.{model_of}
use Rattle.agreement.specs.Bytes.{agrees_bytes}
use Rattle.calls.specs.Task.{task_answer}
pub use Rattle.calls.specs.Reply.{Reply, reply, Replied}

-- tables that do not agree get 25, no value and no next task
abbrev pub no_next : Answer
no_next = record { status = internal_error; value = 0; next = 0 }

-- and are left byte for byte as they were
unfoldable pub reply_to : List ℕ → Call → List ℕ → Reply
reply_to bs call priorities = choose (agrees_bytes bs) (reply (perform (model_of bs) call priorities)) (record { answer = no_next; bytes = bs })

-- how many slots an ident's search looks at: none where the bytes do not agree
unfoldable pub looked_in : List ℕ → ℕ → ℕ
looked_in bs name = choose (agrees_bytes bs) (looked (model_of bs) name) 0

-- a task's answer, with the same test
unfoldable pub task_reply : List ℕ → ℕ → Answer
task_reply bs q = choose (agrees_bytes bs) (task_answer (model_of bs) q) no_next
