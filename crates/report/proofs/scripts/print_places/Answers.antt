use mathlib.Core.Path.{◌≡◌, sym, ap}
use Prim.Native.Nat.{ℕ}
use native.Mathlib.Omega.{arith}
use lib.ListN.{length}
use Rattle.laws.specs.Rows.{tabulate, rows}
use Rattle.report.specs.Report.{places_text}
use Rattle.report.proofs.Printing.{place_at, place_row_lem}
use Rattle.report.proofs.Writing.{no_rows, row_room, row_more, written_as, fits_as}
use Rattle.report.proofs.scripts.print_places.Goals as goal

pub loop-i-init : goal.loop-i-init
loop-i-init c =
    (no_rows (place_at c.args.tasks.now c.args.places.now) c.args.at c.args.out.now)

pub print_task-end-requires : goal.print_task-end-requires
unfolding places_text
print_task-end-requires c =
    let i : ℕ = c.loop-i.i in
    fits_as c.loop-i.end c.loop-i.out (sym (place_row_lem c.args.tasks.now c.args.places.now i (omega arith)))
    (row_room (place_at c.args.tasks.now c.args.places.now) c.args.at c.args.out.now (length c.args.tasks.now) c.requires.1 i
    _ _ c.loop-i.invariant (omega arith))

pub loop-i-preserved : goal.loop-i-preserved
unfolding places_text
loop-i-preserved c =
    let i : ℕ = c.loop-i.i in
    row_more (place_at c.args.tasks.now c.args.places.now) c.args.at c.args.out.now (length c.args.tasks.now) c.requires.1 i _ _ c.loop-i.invariant (omega arith) _ _ (written_as _ _ _ _ (place_row_lem c.args.tasks.now c.args.places.now i (omega arith)) c.print_task-end.ensures)

pub returns : goal.returns
unfolding places_text
returns c =
    let whole : c.loop-i.i ≡ length c.args.tasks.now = omega arith in
    written_as c.args.at c.args.out.now _ _ (ap (λ (n : ℕ). rows (tabulate n (place_at c.args.tasks.now c.args.places.now))) whole)
    c.loop-i.invariant
