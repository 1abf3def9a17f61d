use native.Mathlib.Omega.{arith}
use Rattle.std.proofs.lemmas.Result.{err_from_is_err_and}
use Rattle.text.specs.Feeding.{lent}
use Rattle.text.proofs.Bytes.{underway_none, underway_more, underway_fault, underway_over}
use Rattle.text.proofs.feeding.feed.Goals as goal

pub loop-b-init : goal.loop-b-init
loop-b-init c =
    let o = c.args in
    underway_none o.p o.line.now (lent o.m.now o.ids.now o.cells.now o.locals.now o.scripts.now o.events.now)
    o.input.now c.requires

pub returns-in_err-kept : goal.returns-in_err-kept
returns-in_err-kept c =
    let p = err_from_is_err_and c.from_residual.result c.from_residual.ensures.1 in
    rw (p.1, p.2)
    (underway_fault c.loop-b.invariant
    c.loop-b-test.true _ _ _ c.take_byte.ensures _ c.in_err-kept.was)

pub loop-b-preserved : goal.loop-b-preserved
loop-b-preserved c =
    let took = c.take_byte in
    underway_more c.loop-b.invariant
    c.loop-b-test.true _ _ _ took.ensures _ c.in_ok-kept.was
    (record {
      bytes = took.auto.m;
      ids = took.auto.ids;
      cells = took.auto.cells;
      locals = took.auto.locals;
      scripts = took.auto.scripts;
      events = took.auto.events;
    })

pub returns : goal.returns
returns c = underway_over c.loop-b.invariant (omega arith)
