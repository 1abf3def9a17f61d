-- `manager::ident_looked` meets its contract: only bytes that pass the test are searched.
use mathlib.Core.Path.{sym}
use borrow.Author.Rules.{rules}
use Rattle.manager.proofs.Tested.{tested}
use Rattle.manager.proofs.ident_looked.Goals as goal

pub ident-requires : goal.ident-requires
ident-requires c = tested (search rules) (sym c.if-not-is_agreeing.ensures)
