-- `shown::writing::Text::put_spaced` meets its contract. The invariant: the first numbers are put.
use Rattle.laws.specs.Rows.{tabulate, rows}
use Rattle.report.proofs.Printing.{number_at}
use Rattle.shown.specs.Puts.{Puts}
use Rattle.shown.proofs.writing.Text.put_spaced.Given as goal

abbrev pub invariant-loop-n : goal.invariant-loop-n
invariant-loop-n l = Puts (rows (tabulate l.n-index (number_at l.ns))) l.initial.self l.self
