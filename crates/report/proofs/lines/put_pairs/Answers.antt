use mathlib.Core.Path.{◌≡◌, sym, ap, ◌∙◌}
use Prim.Native.Nat.{ℕ, ◌/◌}
use native.Mathlib.Omega.{arith}
use lib.ListN.{length}
use Rattle.laws.specs.Rows.{tabulate, rows}
use Rattle.report.proofs.Printing.{pair_at, paired_rows}
use Rattle.report.proofs.Writing.{no_rows, row_room, row_more, written_as, fits_as}
use Rattle.report.proofs.lines.put_pairs.Goals as goal

pub loop-i-init : goal.loop-i-init
loop-i-init c = (no_rows (pair_at c.args.ns.now) c.args.at c.args.out.now)

pub put_pair-end-requires : goal.put_pair-end-requires
put_pair-end-requires c =
    let i : ℕ = c.loop-i.i in
    (row_room (pair_at c.args.ns.now) c.args.at c.args.out.now (length c.args.ns.now / 2) (fits_as c.args.at c.args.out.now (sym (paired_rows c.args.ns.now)) c.requires) i _ _ c.loop-i.invariant
    (omega arith))

pub loop-i-preserved : goal.loop-i-preserved
loop-i-preserved c =
    let i : ℕ = c.loop-i.i in
    row_more (pair_at c.args.ns.now) c.args.at c.args.out.now (length c.args.ns.now / 2) (fits_as c.args.at c.args.out.now (sym (paired_rows c.args.ns.now)) c.requires) i _ _ c.loop-i.invariant (omega arith) _ _ (c.put_pair-end.ensures)

pub returns : goal.returns
returns c =
    let whole : c.loop-i.i ≡ length c.args.ns.now / 2 = omega arith in
    written_as c.args.at c.args.out.now
    _ _ (ap (λ (n : ℕ). rows (tabulate n (pair_at c.args.ns.now))) whole ∙ paired_rows c.args.ns.now) c.loop-i.invariant
