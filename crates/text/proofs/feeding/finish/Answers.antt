-- A line that has begun ends with the text.
use mathlib.Core.Path.{sym}
use Rattle.text.specs.Feeding.{Lent, lent, room_of, kept_of}
use Rattle.text.proofs.Bytes.{feeds_as, end_none, end_some}
use Rattle.text.proofs.feeding.finish.Goals as goal

pub returns-then-p-eq0 : goal.returns-then-p-eq0
returns-then-p-eq0 c =
    let o = c.args in
    let l : Lent = lent o.m.now o.ids.now o.cells.now o.locals.now o.scripts.now o.events.now in
    record { fed = sym (end_none (room_of l) (kept_of o.p o.line.now l) c.if-p-eq0.true); ready = c.requires }

pub returns : goal.returns
returns c =
    let o = c.args in
    let l : Lent = lent o.m.now o.ids.now o.cells.now o.locals.now o.scripts.now o.events.now in
    feeds_as (sym (end_some (room_of l) (kept_of o.p o.line.now l) c.if-p-eq0.false)) c.end_line.ensures
