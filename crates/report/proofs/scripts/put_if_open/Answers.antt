-- `report::scripts::put_if_open` meets its contract, by the test of the position.
use mathlib.Core.List.{[]}
use mathlib.Core.Path.{sym}
use native.Mathlib.Omega.{arith}
use Rattle.laws.proofs.Choose.{if_le, if_not_le}
use Rattle.report.specs.Report.{pair_text}
use Rattle.report.proofs.Writing.{written_none, written_as, fits_as}
use Rattle.report.proofs.scripts.put_if_open.Goals as goal

pub returns-then-position-lt1 : goal.returns-then-position-lt1
returns-then-position-lt1 c =
    written_as c.args.at c.args.out.now _ _ (sym (if_not_le 1 c.args.position (pair_text c.args.task c.args.section) [] (omega arith)))
    (written_none c.args.at c.args.out.now)

pub put_pair-requires : goal.put_pair-requires
put_pair-requires c =
    fits_as c.args.at c.args.out.now (if_le 1 c.args.position (pair_text c.args.task c.args.section) [] (omega arith)) c.requires

pub returns : goal.returns
returns c =
    written_as c.args.at c.args.out.now _ _ (sym (if_le 1 c.args.position (pair_text c.args.task c.args.section) [] (omega arith)))
    c.put_pair.ensures
