-- `report::serial::print_plain` meets its contract: three texts, each where the one before it ends.
use mathlib.Core.Bool.{Bool}
use mathlib.Core.List.{List}
use mathlib.Core.Path.{sym, ap}
use Prim.Native.Nat.{ℕ}
use Rattle.laws.specs.Choose.{choose}
use Rattle.report.specs.Report.{line_text, locals_text, plain_text, plainly, cells_word, locals_word, serial_yes, serial_no, is_serial}
use Rattle.report.proofs.Writing.{fits_1, fits_2, fits_3, three_written, written_as, fits_as}
use Rattle.report.proofs.serial.print_plain.Lts as lts
use Rattle.report.proofs.serial.print_plain.Tie as tie
use Rattle.report.proofs.serial.print_plain.Reads as reads
use Rattle.report.proofs.serial.print_plain.Goals as goal

abbrev Start : Type 0
Start = lts.Start tie.the-claims reads.Pre reads.Post

abbrev cells : Start → List ℕ
cells s = line_text (plainly cells_word) s.args.plaincells.now

abbrev locals : Start → List ℕ
locals s = locals_text (plainly locals_word) s.args.count s.args.plainlocals.now

abbrev serial : Start → List ℕ
serial s =
    choose (is_serial s.args.cells.now s.args.locals.now s.args.plaincells.now s.args.plainlocals.now) serial_yes serial_no

pub print_line-locals_at-requires : goal.print_line-locals_at-requires
unfolding plain_text
print_line-locals_at-requires c =
    fits_1 c.args.at c.args.out.now (cells c.before.before.before.before.before.before.before.before.before) (locals c.before.before.before.before.before.before.before.before.before) (serial c.before.before.before.before.before.before.before.before.before) c.requires.2

pub print_locals-end-requires : goal.print_locals-end-requires
unfolding plain_text
print_locals-end-requires c =
    (c.requires.0, c.requires.1, fits_2 c.args.at c.args.out.now (cells c.before.before.before.before.before.before.before.before.before.before.before.before.before.before.before) (locals c.before.before.before.before.before.before.before.before.before.before.before.before.before.before.before) (serial c.before.before.before.before.before.before.before.before.before.before.before.before.before.before.before) c.requires.2 _ _ c.print_line-locals_at.ensures)

pub print_serial-requires : goal.print_serial-requires
unfolding plain_text
print_serial-requires c =
    fits_as c.print_locals-end.result c.print_locals-end.new.out
    (ap (λ (t : Bool). choose t serial_yes serial_no) (sym c.is_serial-serial.ensures))
    (fits_3 c.args.at c.args.out.now (cells c.before.before.before.before.before.before.before.before.before.before.before.before.before.before.before.before.before.before.before.before) (locals c.before.before.before.before.before.before.before.before.before.before.before.before.before.before.before.before.before.before.before.before) (serial c.before.before.before.before.before.before.before.before.before.before.before.before.before.before.before.before.before.before.before.before) c.requires.2 _ _ c.print_line-locals_at.ensures
    _ _ c.print_locals-end.ensures)

pub returns : goal.returns
unfolding plain_text
returns c =
    three_written c.args.at c.args.out.now (cells c.before.before.before.before.before.before.before.before.before.before.before.before.before.before.before.before.before.before.before.before.before.before.before) (locals c.before.before.before.before.before.before.before.before.before.before.before.before.before.before.before.before.before.before.before.before.before.before.before) (serial c.before.before.before.before.before.before.before.before.before.before.before.before.before.before.before.before.before.before.before.before.before.before.before) c.requires.2 _ _ c.print_line-locals_at.ensures
    _ _ c.print_locals-end.ensures _ _
    (written_as c.print_locals-end.result c.print_locals-end.new.out
    _ _ (ap (λ (t : Bool). choose t serial_yes serial_no) c.is_serial-serial.ensures)
    c.print_serial.ensures)
