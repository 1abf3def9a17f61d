-- `session::lengthened` meets its contract: the byte is stored behind the others, or the line is more than 256 bytes long.
use mathlib.Core.Path.{sym}
use native.Mathlib.Omega.{arith}
use Rattle.laws.proofs.Choose.{if_lt, if_not_lt}
use Rattle.session.specs.Kept.{lengthen}
use Rattle.session.proofs.lengthened.Goals as goal

pub returns-then-begun-lt256 : goal.returns-then-begun-lt256
unfolding lengthen
returns-then-begun-lt256 c bs = sym (if_lt c.args.begun 256 _ _ (omega arith))

pub returns : goal.returns
unfolding lengthen
returns c bs = sym (if_not_lt c.args.begun 256 _ _ (omega arith))
