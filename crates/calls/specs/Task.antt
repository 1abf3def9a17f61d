-- How a woken task learns its wait's answer.
use Rattle.std.specs.Prelude.{ℕ, length}
use Rattle.laws.specs.Choose.{choose}
use Rattle.rules.specs.declared.Answer.{Answer}
use Rattle.rules.specs.Numbers.{successful, invalid_id, within}
use Rattle.rules.specs.Machine.{Tables, task_of}
use Rattle.rules.specs.Calls.{answered}

-- the task's answer, 100 while it waits; 4 for a number outside 1..N, 0 among them
unfoldable pub task_answer : Tables → ℕ → Answer
task_answer t q = (choose (within 1 (length t.tasks) q) (answered successful (task_of t q).answer t) (answered invalid_id 0 t)).answer
