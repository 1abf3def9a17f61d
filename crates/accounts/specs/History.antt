-- Request 7: the history of a run, a list of events. Each has its call, its answer, and which tasks' waits it ended with which answers: taken from calls,
-- answers and tasks' answers, never from a count or a queue.
use Rattle.std.specs.Prelude.{List, [], ◌∷◌, ℕ, zero, suc, eqb}
use Rattle.laws.specs.Choose.{choose, ◌and◌, isnt}
use Rattle.rules.specs.declared.Answer.{Answer}
use Rattle.rules.specs.Numbers.{max_tasks, waiting}
use Rattle.rules.specs.Machine.{Tables, task_of}
use Rattle.rules.specs.Runs.{Request, step_of}
use Rattle.manager.specs.Entry.{Reply, task_reply}
use Rattle.manager.specs.Runs.{reply_of}

-- a wait that has ended: whose, and with which answer
pub record Ending : Type 0 where
  pub task : ℕ
  pub answer : ℕ

-- the call stands in the request, with the priorities of a start
pub record Event : Type 0 where
  pub request : Request
  pub answer : Answer
  pub endings : List Ending

-- of n tasks from q on, those whose answer was 100 before and is another after
unfoldable pub endings_from : ℕ → ℕ → (ℕ → ℕ) → (ℕ → ℕ) → List Ending
endings_from zero q before after = []
endings_from (suc n) q before after =
    let rest = endings_from n (suc q) before after in
    choose (eqb (before q) waiting and isnt (eqb (after q) waiting)) (record { task = q; answer = after q } ∷ rest) rest

-- of all tasks that there may be
abbrev pub endings : (ℕ → ℕ) → (ℕ → ℕ) → List Ending
endings before after = endings_from max_tasks 1 before after

-- ---- of tables

-- the answer of each task, 100 exactly while it waits; 0 of a number above N
abbrev pub answer_of : Tables → ℕ → ℕ
answer_of t q = (task_of t q).answer

-- a call on tables t was answered and left u
abbrev pub seen : Tables → Request → Answer → Tables → Event
seen t r answer u = record { request = r; answer = answer; endings = endings (answer_of t) (answer_of u) }

-- each call is given the tables that the one before left
unfoldable pub history_of : Tables → List Request → List Event
history_of t [] = []
history_of t (r ∷ rs) = let o = step_of t r in seen t r o.answer o.tables ∷ history_of o.tables rs

-- ---- over the bytes of the entry points

-- the answer of each task as `mast_task` tells it; 0 of a number above N, and with 25
abbrev pub answer_told : List ℕ → ℕ → ℕ
answer_told bs q = (task_reply bs q).value

abbrev pub seen_over : List ℕ → Request → Reply → Event
seen_over bs r p = record { request = r; answer = p.answer; endings = endings (answer_told bs) (answer_told p.bytes) }

-- each entry point is given the bytes that the one before left
unfoldable pub history_over : List ℕ → List Request → List Event
history_over bs [] = []
history_over bs (r ∷ rs) = let p = reply_of bs r in seen_over bs r p ∷ history_over p.bytes rs
