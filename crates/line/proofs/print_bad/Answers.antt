-- `line::print_bad` meets its contract, by that of `put`.
use mathlib.Core.Path.{◌∙◌}
use Rattle.line.specs.Print.{bad_line}
use Rattle.line.proofs.Printing.{spliced_front}
use Rattle.line.proofs.print_bad.Goals as goal

pub returns : goal.returns
returns c = (
  c.put.ensures.0,
  c.put.ensures.1 ∙ spliced_front bad_line c.args.out.now,
)
