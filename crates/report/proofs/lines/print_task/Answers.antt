-- `report::lines::print_task` meets its contract: a word, a task, the numbers behind it, a newline.
use mathlib.Core.List.{List, ◌∷◌, [], ◌++◌}
use mathlib.Core.Path.{sym}
use Prim.Native.Nat.{ℕ}
use Rattle.line.specs.Print.{decimal}
use Rattle.report.specs.Report.{Fits, Written, spaced}
use Rattle.report.proofs.Printing.{task_line_lem}
use Rattle.report.proofs.Writing.{fits_first, fits_1, fits_2, fits_3, fits_second, three_written, written_both, written_as, fits_as}
use Rattle.report.proofs.lines.print_task.Lts as lts
use Rattle.report.proofs.lines.print_task.Tie as tie
use Rattle.report.proofs.lines.print_task.Reads as reads
use Rattle.report.proofs.lines.print_task.Goals as goal

abbrev After-put_numbers : Type 0
After-put_numbers = lts.After-put_numbers tie.the-claims reads.Pre reads.Post

abbrev Start : Type 0
Start = lts.Start tie.the-claims reads.Pre reads.Post

-- the first three texts
abbrev three : Start → List ℕ
three s = s.args.word.now ++ 32 ∷ decimal s.args.task ++ spaced s.args.ns.now

all_fit : (s : Start) → Fits s.args.at (three s ++ 10 ∷ []) s.args.out.now
all_fit s = fits_as s.args.at s.args.out.now (sym (task_line_lem s.args.word.now s.args.task s.args.ns.now)) s.requires

three_fit : (s : Start) → Fits s.args.at (three s) s.args.out.now
three_fit s = fits_first s.args.at s.args.out.now (three s) (10 ∷ []) (all_fit s)

-- the line so far
so_far : (c : After-put_numbers)
    → Written c.args.at (three c.before.before.before.before.before.before.before.before.before.before.before.before.before) c.args.out.now c.put_numbers-end.new.out c.put_numbers-end.result
so_far c =
    three_written c.args.at c.args.out.now c.args.word.now (32 ∷ decimal c.args.task) (spaced c.args.ns.now) (three_fit c.before.before.before.before.before.before.before.before.before.before.before.before.before)
    _ _ c.put-task_at.ensures _ _ c.put_behind-numbers_at.ensures _ _ c.put_numbers-end.ensures

pub put-task_at-requires : goal.put-task_at-requires
put-task_at-requires c =
    fits_1 c.args.at c.args.out.now c.args.word.now (32 ∷ decimal c.args.task) (spaced c.args.ns.now) (three_fit c.before.before.before.before.before)

pub put_behind-numbers_at-requires : goal.put_behind-numbers_at-requires
put_behind-numbers_at-requires c =
    fits_2 c.args.at c.args.out.now c.args.word.now (32 ∷ decimal c.args.task) (spaced c.args.ns.now) (three_fit c.before.before.before.before.before.before.before.before.before)
    _ _ c.put-task_at.ensures

pub put_numbers-end-requires : goal.put_numbers-end-requires
put_numbers-end-requires c =
    fits_3 c.args.at c.args.out.now c.args.word.now (32 ∷ decimal c.args.task) (spaced c.args.ns.now) (three_fit c.before.before.before.before.before.before.before.before.before.before.before.before.before)
    _ _ c.put-task_at.ensures _ _ c.put_behind-numbers_at.ensures

pub put-requires : goal.put-requires
put-requires c =
    fits_second c.args.at c.args.out.now (three c.before.before.before.before.before.before.before.before.before.before.before.before.before.before.before.before.before.before.before) (10 ∷ []) (all_fit c.before.before.before.before.before.before.before.before.before.before.before.before.before.before.before.before.before.before.before) _ _ (so_far c.before.before.before.before.before.before)

pub returns : goal.returns
returns c =
    written_as c.args.at c.args.out.now _ _ (task_line_lem c.args.word.now c.args.task c.args.ns.now)
    (written_both c.args.at c.args.out.now (three c.before.before.before.before.before.before.before.before.before.before.before.before.before.before.before.before.before.before.before.before.before.before) (10 ∷ []) (all_fit c.before.before.before.before.before.before.before.before.before.before.before.before.before.before.before.before.before.before.before.before.before.before) _ _ (so_far c.before.before.before.before.before.before.before.before.before) _ _ c.put.ensures)
