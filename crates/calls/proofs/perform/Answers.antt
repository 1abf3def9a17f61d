-- `calls::perform` meets its contract: the step leaves agreeing tables, and the next task is read of them.
use Rattle.calls.proofs.Agreeing.{sized}
use Rattle.calls.proofs.Held.{call_held}
use Rattle.calls.proofs.Doing.{replied, left_tables, left_agreeing}
use Rattle.calls.proofs.perform.Goals as goal

pub new-requires : goal.new-requires
new-requires c =
    sized (left_agreeing c.requires c.args.call c.args.priorities.now (call_held c.args.call _ c.well_formed.1.0) c.step-done.ensures)

pub returns : goal.returns
returns c =
    let fits = call_held c.args.call _ c.well_formed.1.0 in
    record {
      replied = replied c.requires c.args.call c.args.priorities.now fits c.step-done.ensures (rw c.new.ensures at c.answer.ensures);
      tables = left_tables c.requires c.args.call c.args.priorities.now fits c.step-done.ensures;
      kept = left_agreeing c.requires c.args.call c.args.priorities.now fits c.step-done.ensures;
    }
