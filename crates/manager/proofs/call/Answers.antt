-- `manager::call` meets its contract: bytes that pass the test are tables that the call is made on.
use mathlib.Core.Path.{sym}
use borrow.Author.Rules.{rules}
use Rattle.manager.proofs.Tested.{tested, entered}
use Rattle.manager.proofs.call.Goals as goal

pub new-t-requires : goal.new-t-requires
new-t-requires c = tested (search rules) (sym c.if-not-is_agreeing.ensures)

pub returns : goal.returns
returns c =
    entered c.args.m.now c.args.c c.args.priorities.now (sym c.if-not-is_agreeing.ensures) c.new-t.ensures.value (search rules) c.perform.ensures
