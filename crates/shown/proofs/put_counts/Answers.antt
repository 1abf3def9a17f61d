-- `shown::put_counts` meets its contract: the parts one behind the other.
use mathlib.Core.Path.{sym, ap, ◌∙◌}
use Rattle.lookup.proofs.Model.{length_tasks, length_slots}
use Rattle.shown.specs.Shown.{counts_line, numbered, tasks_phrase, slots_phrase, next_phrase}
use Rattle.shown.proofs.Putting.{◌then◌, puts_as}
use Rattle.shown.proofs.put_counts.Goals as goal

pub returns : goal.returns
unfolding counts_line
returns c =
    let m = c.args.v.bytes.now in
    puts_as (ap (numbered tasks_phrase) (c.task_count.ensures ∙ sym (length_tasks m))) c.put_numbered.ensures
    then puts_as (ap (numbered slots_phrase) (c.slot_count.ensures ∙ sym (length_slots m))) c.put_numbered-2.ensures
    then puts_as (ap (numbered next_phrase) c.next_task.ensures) c.put_numbered-3.ensures
    then c.put.ensures
