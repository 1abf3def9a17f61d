-- The byte is stored behind the others, or the line is more than 256 bytes long.
use mathlib.Core.Path.{sym}
use native.Mathlib.Omega.{arith}
use Rattle.laws.proofs.Choose.{if_lt, if_not_lt}
use Rattle.text.specs.Feeding.{lengthen}
use Rattle.text.proofs.feeding.lengthened.Goals as goal

pub returns-then-begun-ge257 : goal.returns-then-begun-ge257
unfolding lengthen
returns-then-begun-ge257 c = (λ x count. sym (if_not_lt c.args.begun 257 _ _ (omega arith)), omega arith)

pub returns : goal.returns
unfolding lengthen
returns c = (λ x count. sym (if_lt c.args.begun 257 _ _ (omega arith)), omega arith)
