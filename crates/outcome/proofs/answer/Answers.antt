-- `outcome::answer` meets its contract.
use mathlib.Core.Path.{sym}
use native.Mathlib.Omega.{arith}
use lib.ListN.{length-take, length-drop}
use lib.Seq.{length-take-le}
use Rattle.outcome.proofs.Plainly.{report_is}
use Rattle.outcome.proofs.Printing.{tasks_noted, lent_printable, reported_as}
use Rattle.outcome.proofs.answer.Goals as goal

pub grants_end-end-requires : goal.grants_end-end-requires
grants_end-end-requires c =
    omega (arith, c.requires, c.run_twice-a.auto)

pub task_count-requires : goal.task_count-requires
task_count-requires c =
    omega (arith, c.requires, c.run_twice-a.auto)

pub slice_bounds-report-end : goal.slice_bounds-report-end
slice_bounds-report-end c =
    let noted = c.tasks_of-count.ensures in
    tasks_noted _ _ _ noted.0 noted.1

pub slice_bounds-report-end-2 : goal.slice_bounds-report-end-2
slice_bounds-report-end-2 c =
    let noted = c.tasks_of-count.ensures in
    sym (length-take-le _ _ (tasks_noted _ _ _ noted.0 noted.1))

pub slice_bounds-report-end-3 : goal.slice_bounds-report-end-3
slice_bounds-report-end-3 c =
    omega (arith, c.requires, c.run_twice-a.auto, c.grants_end-end.ensures)

pub report-requires : goal.report-requires
report-requires c =
    let pre = c.requires in
    let kept = c.run_twice-a.auto in
    lent_printable _ _ _ _ _ _ _ _ _ _ c.task_count.ensures.1 (omega (arith, pre, kept)) (omega (arith, pre, kept))
    (simp length-take (omega (arith, pre, c.tasks_of-count.auto))) (omega (arith, pre, kept)) (simp (length-take, length-drop) (omega (arith, pre, kept)))
    (omega (arith, pre, kept)) (omega (arith, pre, kept)) (omega (arith, pre))

pub returns : goal.returns
returns c =
    let ran = c.run_twice-a in
    reported_as _ _ _ _ _
    (report_is _ _ _ _ _ _ _ _ _ _ _ _ _ _ ran.ensures.done _ _ _ _ _ c.task_count.ensures.0 c.tasks_of-count.ensures.1
    c.grants_end-end.ensures.2 ran.ensures.plainly)
    c.report.ensures
