-- `report::scripts::put_open` meets its contract. The invariant: what is open of the first `i` scripts is written.
use Rattle.laws.specs.Rows.{tabulate, rows}
use Rattle.report.specs.Report.{Written}
use Rattle.report.proofs.Printing.{open_at}
use Rattle.report.proofs.scripts.put_open.Given as goal

abbrev pub invariant-loop-i : goal.invariant-loop-i
invariant-loop-i l = Written l.at (rows (tabulate l.i (open_at l.tasks l.places))) l.initial.out l.out l.end
