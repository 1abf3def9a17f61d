-- `manager::tick` meets its contract: bytes that pass the test are tables that the tick is made on.
use mathlib.Core.Path.{sym}
use mathlib.Core.List.{[]}
use borrow.Author.Rules.{rules}
use Rattle.rules.specs.declared.Call.TheVariants.{Tick}
use Rattle.manager.proofs.Tested.{tested, entered}
use Rattle.manager.proofs.tick.Goals as goal

pub new-t-requires : goal.new-t-requires
new-t-requires c = tested (search rules) (sym c.if-not-is_agreeing.ensures)

pub returns : goal.returns
returns c = entered c.args.m.now Tick [] (sym c.if-not-is_agreeing.ensures) c.new-t.ensures.value (search rules) c.tick.ensures
