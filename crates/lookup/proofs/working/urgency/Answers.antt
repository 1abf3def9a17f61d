-- `lookup::working::urgency` meets its contract: without links it is the task's own priority.
use Rattle.tables.specs.View.{seen}
use Rattle.lookup.proofs.Lending.{working_own}
use Rattle.lookup.proofs.working.urgency.Goals as goal

pub returns-then-links-eq0 : goal.returns-then-links-eq0
returns-then-links-eq0 c =
    let call = c.args in
    working_own (seen call.v) call.q call.links _ c.own_priority.ensures c.if-links-eq0.true
