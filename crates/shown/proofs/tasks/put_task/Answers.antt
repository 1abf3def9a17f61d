-- `shown::tasks::put_task` meets its contract: the parts one behind the other, of the task that was loaded.
use mathlib.Core.Path.{◌≡◌, sym, ap, ◌∙◌}
use native.Mathlib.Numerals.{add-one}
use lib.ListN.{get_or}
use Rattle.rules.specs.declared.Task.{Task}
use Rattle.rules.specs.Machine.{no_task}
use Rattle.tables.specs.View.{seen}
use Rattle.lookup.proofs.Model.{task_read}
use Rattle.shown.specs.Shown.{task_line, state_text, numbered, task_phrase, priority_phrase}
use Rattle.shown.proofs.Putting.{◌then◌, puts_as}
use Rattle.shown.proofs.tasks.put_task.Goals as goal

pub returns : goal.returns
unfolding task_line
returns c =
    let t = seen c.args.v in
    let i = c.args.i in
    let same : c.task-task.result ≡ get_or t.tasks i no_task = c.task-task.ensures ∙ sym (task_read c.args.v.bytes.now i c.requires) in
    puts_as (ap (numbered task_phrase) (add-one i)) c.put_numbered.ensures
    then puts_as (ap (λ (v : Task). numbered priority_phrase v.priority) same) c.put_numbered-2.ensures
    then puts_as (ap (state_text t) same) c.put_state.ensures
    then c.put.ensures
