use mathlib.Core.List.{List}
use mathlib.Core.Path.{◌≡◌, ap, ◌∙◌}
use Prim.Native.Nat.{ℕ}
use native.Mathlib.Omega.{arith}
use lib.ListN.{length}
use Rattle.laws.specs.Rows.{tabulate, rows}
use Rattle.report.proofs.Printing.{number_at, spaced_rows}
use Rattle.shown.proofs.Putting.{no_rows, row_more, puts_as}
use Rattle.shown.proofs.writing.Text.put_spaced.Goals as goal

pub loop-n-init : goal.loop-n-init
loop-n-init c = no_rows (number_at c.args.ns.now)

pub loop-n-preserved : goal.loop-n-preserved
loop-n-preserved c = row_more (number_at c.args.ns.now) c.loop-n.n-index c.loop-n.invariant c.put_numbered.ensures

pub returns : goal.returns
returns c =
    let ns : List ℕ = c.args.ns.now in
    let whole : c.loop-n.n-index ≡ length ns = omega arith in
    puts_as (ap (λ (n : ℕ). rows (tabulate n (number_at ns))) whole ∙ spaced_rows ns) c.loop-n.invariant
