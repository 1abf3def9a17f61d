-- The line ends at its newline, and is one byte longer else.
use Rattle.text.specs.Feeding.{Lent, lent, room_of, reading_of, kept_of}
use Rattle.text.proofs.Bytes.{byte_newline, byte_kept}
use Rattle.text.proofs.feeding.take_byte.Goals as goal

pub returns-then-b-eq10 : goal.returns-then-b-eq10
returns-then-b-eq10 c =
    let o = c.args in
    let l : Lent = lent o.m.now o.ids.now o.cells.now o.locals.now o.scripts.now o.events.now in
    byte_newline (room_of l) (kept_of o.p o.line.now l) o.b c.if-b-eq10.true c.end_line.ensures

pub returns : goal.returns
returns c =
    let o = c.args in
    let l : Lent = lent o.m.now o.ids.now o.cells.now o.locals.now o.scripts.now o.events.now in
    let longer = c.lengthened-begun in
    byte_kept o.p o.b o.line.now _ l c.requires c.if-b-eq10.false longer.result
    (longer.ensures.0 (reading_of o.p.at l) o.p.count) longer.ensures.1 longer.auto.line
