-- `report::scripts::print_locals` meets its contract. The invariant: the lines of the first `i` tasks are written.
use Rattle.laws.specs.Rows.{tabulate, rows}
use Rattle.report.specs.Report.{Written}
use Rattle.report.proofs.Printing.{locals_at}
use Rattle.report.proofs.scripts.print_locals.Given as goal

abbrev pub invariant-loop-i : goal.invariant-loop-i
invariant-loop-i l = Written l.at (rows (tabulate l.i (locals_at l.word l.locals))) l.initial.out l.out l.end
