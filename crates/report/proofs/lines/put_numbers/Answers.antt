use mathlib.Core.List.{List}
use mathlib.Core.Path.{◌≡◌, sym, ap, ◌∙◌}
use Prim.Native.Nat.{ℕ}
use native.Mathlib.Omega.{arith}
use lib.ListN.{length}
use Rattle.laws.specs.Rows.{tabulate, rows}
use Rattle.report.proofs.Printing.{number_at, spaced_rows}
use Rattle.report.proofs.Writing.{no_rows, row_room, row_more, written_as, fits_as}
use Rattle.report.proofs.lines.put_numbers.Goals as goal

pub loop-n-init : goal.loop-n-init
loop-n-init c = (no_rows (number_at c.args.ns.now) c.args.at c.args.out.now)

pub put_behind-end-requires : goal.put_behind-end-requires
put_behind-end-requires c =
    row_room (number_at c.args.ns.now) c.args.at c.args.out.now (length c.args.ns.now) (fits_as c.args.at c.args.out.now (sym (spaced_rows c.args.ns.now)) c.requires) c.loop-n.n-index
    _ _ c.loop-n.invariant
    (omega arith)

pub loop-n-preserved : goal.loop-n-preserved
loop-n-preserved c =
    row_more (number_at c.args.ns.now) c.args.at c.args.out.now (length c.args.ns.now) (fits_as c.args.at c.args.out.now (sym (spaced_rows c.args.ns.now)) c.requires) c.loop-n.n-index _ _ c.loop-n.invariant (omega arith) _ _ c.put_behind-end.ensures

pub returns : goal.returns
returns c =
    let ns : List ℕ = c.args.ns.now in
    let whole : c.loop-n.n-index ≡ length ns = omega arith in
    written_as c.args.at c.args.out.now _ _ (ap (λ (n : ℕ). rows (tabulate n (number_at ns))) whole ∙ spaced_rows ns) c.loop-n.invariant
