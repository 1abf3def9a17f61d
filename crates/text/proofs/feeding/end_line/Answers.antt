-- The line is read, and the next begins, or it is a fault.
use mathlib.Core.Path.{sym, ◌∙◌}
use native.Mathlib.Omega.{arith}
use lib.Seq.{length-take-le}
use Rattle.text.specs.Feeding.{Lent, lent}
use Rattle.text.proofs.Bytes.{counted, end_goes, end_faults}
use Rattle.text.proofs.feeding.end_line.Goals as goal

pub slice_bounds-begun-end : goal.slice_bounds-begun-end
slice_bounds-begun-end c = sym (length-take-le c.args.p.begun c.args.line.now (omega (arith, c.requires.full, c.requires.begun)))

pub returns-in-Ok : goal.returns-in-Ok
returns-in-Ok c =
    let o = c.args in
    let l : Lent = lent o.m.now o.ids.now o.cells.now o.locals.now o.scripts.now o.events.now in
    end_goes o.p o.line.now l c.requires _ _ (c.read_line.ensures c.requires.inside) _ (c.saturating_add-count.ensures ∙ counted o.p.count (omega arith)) _ c.in-Ok.is

pub returns-in-Err : goal.returns-in-Err
returns-in-Err c =
    let o = c.args in
    let l : Lent = lent o.m.now o.ids.now o.cells.now o.locals.now o.scripts.now o.events.now in
    end_faults o.p o.line.now l c.requires _ _ (c.read_line.ensures c.requires.inside) _ (c.saturating_add-count.ensures ∙ counted o.p.count (omega arith)) _ c.in-Err.is
