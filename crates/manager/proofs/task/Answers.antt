-- `manager::task` meets its contract: only bytes that pass the test are read.
use mathlib.Core.Path.{sym}
use borrow.Author.Rules.{rules}
use Rattle.manager.proofs.Tested.{tested}
use Rattle.manager.proofs.task.Goals as goal

pub task-requires : goal.task-requires
task-requires c = tested (search rules) (sym c.if-not-is_agreeing.ensures)
