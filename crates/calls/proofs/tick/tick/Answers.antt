-- `calls::tick::tick` meets its contract: a tick leaves agreeing tables, and the next task is read of them.
use mathlib.Core.Path.{refl}
use mathlib.Core.List.{[]}
use Rattle.rules.specs.declared.Call.TheVariants.{Tick}
use Rattle.rules.specs.Calls.{perform}
use Rattle.calls.proofs.Agreeing.{sized}
use Rattle.calls.proofs.Doing.{replied, left_tables, left_agreeing}
use Rattle.calls.proofs.tick.tick.Goals as goal

pub new-requires : goal.new-requires
unfolding perform
new-requires c = sized (left_agreeing c.requires Tick [] refl c.elapse-done.ensures)

pub returns : goal.returns
unfolding perform
returns c = record {
  replied = replied c.requires Tick [] refl c.elapse-done.ensures (rw c.new.ensures at c.answer.ensures);
  tables = left_tables c.requires Tick [] refl c.elapse-done.ensures;
  kept = left_agreeing c.requires Tick [] refl c.elapse-done.ensures;
}
