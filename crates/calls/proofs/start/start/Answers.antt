-- `calls::start::start` meets its contract: what has been checked is what the tables that start need.
use Rattle.calls.proofs.Agreeing.{sized}
use Rattle.calls.proofs.Making.{may_start, start_done}
use Rattle.calls.proofs.start.start.Goals as goal

pub start_tables-requires : goal.start_tables-requires
start_tables-requires c = let s = may_start c.requires c.args.slots c.args.priorities.now (rw c.new.ensures at c.in_ok-may_start.ensures) in ((sized c.requires).long, s.room, s.few)

pub returns : goal.returns
returns c = start_done c.requires c.args.slots c.args.priorities.now (rw c.new.ensures at c.in_ok-may_start.ensures) c.start_tables.ensures
