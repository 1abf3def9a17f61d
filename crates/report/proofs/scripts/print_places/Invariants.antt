-- `report::scripts::print_places` meets its contract. The invariant: the lines of the first `i` scripts are written.
use Rattle.laws.specs.Rows.{tabulate, rows}
use Rattle.report.specs.Report.{Written}
use Rattle.report.proofs.Printing.{place_at}
use Rattle.report.proofs.scripts.print_places.Given as goal

abbrev pub invariant-loop-i : goal.invariant-loop-i
invariant-loop-i l = Written l.at (rows (tabulate l.i (place_at l.tasks l.places))) l.initial.out l.out l.end
