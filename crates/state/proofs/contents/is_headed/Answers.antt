-- `state::contents::is_headed` meets its contract.
use Rattle.std.proofs.Common.{◌∙◌, arith, sym}
use Rattle.state.proofs.Shape.{small_tested}
use Rattle.state.proofs.contents.is_headed.Goals as goal

pub returns-then-is_small : goal.returns-then-is_small
returns-then-is_small c =
    small_tested c.args.file.now c.counts_in-c.result c.counts_in-c.ensures (omega arith) (sym c.is_small.ensures ∙ c.if-is_small.true) _ c.is_contents.ensures
