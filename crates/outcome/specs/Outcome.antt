-- What is printed of a run that a text says: its report, with the plain run of the sections granted beside it.
use Rattle.std.specs.Prelude.{◌≡◌, List, map, ℕ, ◌*◌, ◌≤◌, leb, length, get_or, take, drop}
use Rattle.laws.specs.Choose.{choose}
use Rattle.words.specs.Words.{word_at}
use Rattle.rules.specs.Numbers.{max_tasks}
use Rattle.tables.specs.Layout.{tables_length}
use Rattle.sections.specs.Scripts.{plain}
use Rattle.encoding.specs.Rows.{scripts_of}
use Rattle.encoding.specs.Laid.{memory}
use Rattle.runner.specs.Reply.{RunReply}
use Rattle.plain.specs.Grants.{task_in, grants_of}
use Rattle.report.specs.Report.{Report}

-- as many grants as the count says, as far as the numbers have them: a task and a section each
unfoldable pub pairs_in : List ℕ → List ℕ
pairs_in grants = take (2 * get_or grants 0 0) (drop 1 grants)

-- N, at most 32 in tables that agree
unfoldable pub tasks_in : List ℕ → ℕ
tasks_in bs = choose (leb (word_at bs 0) max_tasks) (word_at bs 0) max_tasks

-- what a run leaves, and what the plain run leaves of the cells and locals handed in
unfoldable pub report_after : RunReply → (scripts cells locals : List ℕ) → Report
report_after reply scripts cells locals =
    let after = plain (scripts_of scripts) (grants_of (pairs_in reply.grants)) (memory cells locals) in
    record {
      answer = reply.answer;
      count = tasks_in reply.bytes;
      cells = reply.cells;
      locals = reply.locals;
      tasks = map task_in (scripts_of scripts);
      places = reply.places;
      grants = pairs_in reply.grants;
      plain_cells = after.cells;
      plain_locals = after.locals;
    }

-- room for all that a text of at most 1024 cells and 8192 rows of scripts can say, and as much for the plain run as for the run
pub record Roomy (bs ss cs ls ps gs ts pcs pls os : List ℕ) : Type 0 where
  pub bytes : length bs ≡ tables_length
  pub scripts : length ss ≤ 32768
  pub cells : length cs ≤ 1024
  pub locals : length ls ≡ 256
  pub places : length ps ≡ 16384
  pub grants : length gs ≡ 513
  pub tasks : length ts ≡ 8192
  pub plain_cells : length pcs ≡ length cs
  pub plain_locals : length pls ≡ 256
  pub out : length os ≡ 524288
