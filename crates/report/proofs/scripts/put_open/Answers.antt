use mathlib.Core.Path.{◌≡◌, sym, ap, ◌∙◌}
use Prim.Native.Nat.{ℕ}
use native.Mathlib.Omega.{arith}
use lib.ListN.{length}
use Rattle.laws.specs.Rows.{tabulate, rows}
use Rattle.report.proofs.Printing.{open_at, open_rows}
use Rattle.report.proofs.Writing.{no_rows, row_room, row_more, written_as, fits_as}
use Rattle.report.proofs.scripts.put_open.Goals as goal

pub loop-i-init : goal.loop-i-init
loop-i-init c =
    (no_rows (open_at c.args.tasks.now c.args.places.now) c.args.at c.args.out.now)

pub put_if_open-end-requires : goal.put_if_open-end-requires
put_if_open-end-requires c =
    let i : ℕ = c.loop-i.i in
    (row_room (open_at c.args.tasks.now c.args.places.now) c.args.at c.args.out.now (length c.args.tasks.now) (fits_as c.args.at c.args.out.now (sym (open_rows c.args.tasks.now c.args.places.now)) c.requires.1) i
    _ _ c.loop-i.invariant (omega arith))

pub loop-i-preserved : goal.loop-i-preserved
loop-i-preserved c =
    let i : ℕ = c.loop-i.i in
    row_more (open_at c.args.tasks.now c.args.places.now) c.args.at c.args.out.now (length c.args.tasks.now) (fits_as c.args.at c.args.out.now (sym (open_rows c.args.tasks.now c.args.places.now)) c.requires.1) i _ _ c.loop-i.invariant (omega arith) _ _ (c.put_if_open-end.ensures)

pub returns : goal.returns
returns c =
    let whole : c.loop-i.i ≡ length c.args.tasks.now = omega arith in
    written_as c.args.at c.args.out.now
    _ _ (ap (λ (n : ℕ). rows (tabulate n (open_at c.args.tasks.now c.args.places.now))) whole ∙ open_rows c.args.tasks.now
    c.args.places.now) c.loop-i.invariant
