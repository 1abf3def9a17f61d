-- `report::serial::print_serial` meets its contract, by the test that it is handed.
use mathlib.Core.Path.{sym}
use Rattle.laws.proofs.Choose.{if_yes, if_no}
use Rattle.report.specs.Report.{serial_yes, serial_no}
use Rattle.report.proofs.Writing.{written_as, fits_as}
use Rattle.report.proofs.serial.print_serial.Goals as goal

pub put-requires : goal.put-requires
put-requires c =
    fits_as c.args.at c.args.out.now (if_yes serial_yes serial_no c.if-serial.true) c.requires

pub returns-then-serial : goal.returns-then-serial
returns-then-serial c =
    written_as c.args.at c.args.out.now _ _ (sym (if_yes serial_yes serial_no c.if-serial.true)) c.put.ensures

pub put-requires-2 : goal.put-requires-2
put-requires-2 c =
    fits_as c.args.at c.args.out.now (if_no serial_yes serial_no c.if-serial.false) c.requires

pub returns : goal.returns
returns c =
    written_as c.args.at c.args.out.now _ _ (sym (if_no serial_yes serial_no c.if-serial.false)) c.put-2.ensures
