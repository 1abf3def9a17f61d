-- `report::lines::put_numbers` meets its contract. The invariant: the first numbers are written.
use Rattle.laws.specs.Rows.{tabulate, rows}
use Rattle.report.specs.Report.{Written}
use Rattle.report.proofs.Printing.{number_at}
use Rattle.report.proofs.lines.put_numbers.Given as goal

abbrev pub invariant-loop-n : goal.invariant-loop-n
invariant-loop-n l = Written l.at (rows (tabulate l.n-index (number_at l.ns))) l.initial.out l.out l.end
