-- `report::lines::put_pairs` meets its contract. The invariant: the first `i` pairs are written.
use Rattle.laws.specs.Rows.{tabulate, rows}
use Rattle.report.specs.Report.{Written}
use Rattle.report.proofs.Printing.{pair_at}
use Rattle.report.proofs.lines.put_pairs.Given as goal

abbrev pub invariant-loop-i : goal.invariant-loop-i
invariant-loop-i l = Written l.at (rows (tabulate l.i (pair_at l.ns))) l.initial.out l.out l.end
