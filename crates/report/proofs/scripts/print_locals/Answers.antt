use mathlib.Core.Path.{◌≡◌, sym, ap}
use Prim.Native.Nat.{ℕ}
use native.Mathlib.Omega.{arith}
use Rattle.laws.specs.Rows.{tabulate, rows}
use Rattle.report.specs.Report.{locals_text}
use Rattle.report.proofs.Printing.{locals_at, locals_row}
use Rattle.report.proofs.Writing.{no_rows, row_room, row_more, written_as, fits_as}
use Rattle.report.proofs.scripts.print_locals.Goals as goal

pub loop-i-init : goal.loop-i-init
loop-i-init c =
    (no_rows (locals_at c.args.word.now c.args.locals.now) c.args.at c.args.out.now)

pub print_task-end-requires : goal.print_task-end-requires
unfolding locals_text
print_task-end-requires c =
    let i : ℕ = c.loop-i.i in
    fits_as c.loop-i.end c.loop-i.out (sym (locals_row c.args.word.now c.args.locals.now i))
    (row_room (locals_at c.args.word.now c.args.locals.now) c.args.at c.args.out.now c.args.count c.requires.2 i
    _ _ c.loop-i.invariant (omega arith))

pub loop-i-preserved : goal.loop-i-preserved
unfolding locals_text
loop-i-preserved c =
    let i : ℕ = c.loop-i.i in
    row_more (locals_at c.args.word.now c.args.locals.now) c.args.at c.args.out.now c.args.count c.requires.2 i _ _ c.loop-i.invariant (omega arith) _ _ (written_as _ _ _ _ (locals_row c.args.word.now c.args.locals.now i) c.print_task-end.ensures)

pub returns : goal.returns
unfolding locals_text
returns c =
    let whole : c.loop-i.i ≡ c.args.count = omega arith in
    written_as c.args.at c.args.out.now _ _ (ap (λ (n : ℕ). rows (tabulate n (locals_at c.args.word.now c.args.locals.now))) whole)
    c.loop-i.invariant
