-- Request 8: the next task of a caller's own records, which goes by the working priorities that the caller gives beside them.
use Rattle.std.specs.Prelude.{List, ℕ, suc, pred, get_or}
use Rattle.rules.specs.declared.Task.{Task}
use Rattle.rules.specs.Numbers.{max_priority}
use Rattle.rules.specs.Machine.{unstarted, with_tasks, no_task, most_urgent}

-- the number that task q goes by: the working priority beside its record, or its own where there is none
abbrev pub goes_by : List Task → List ℕ → ℕ → ℕ
goes_by tasks working q = get_or working (pred q) (get_or tasks (pred q) no_task).priority

-- the next task of records, of a sequence of ready tasks and of the working priorities beside the records; who goes by a number above 255 is never next
unfoldable pub next_of : List Task → List ℕ → List ℕ → ℕ
next_of tasks ready working = most_urgent (with_tasks unstarted tasks) (goes_by tasks working) ready 0 (suc max_priority)
