-- The part's own kind of line, on what the line says.
use mathlib.Core.Path.{subst}
use Rattle.text.specs.Feeding.{IsPart, Lent, lent, room_of, reading_of}
use Rattle.text.proofs.Lines.{leaves_as}
use Rattle.text.proofs.Events.{line_session, line_script, line_section, line_event}
use Rattle.text.proofs.reading.read_line.Goals as goal

pub returns-in-Session : goal.returns-in-Session
returns-in-Session c =
    let o = c.args in
    λ i.
    let l : Lent = lent o.m.now o.ids.now o.cells.now o.locals.now o.scripts.now o.events.now in
    let is = subst (IsPart o.at.part) c.in-Session.is c.from.ensures in
    leaves_as (line_session (room_of l) (reading_of o.at l) o.line.now is) (c.session_line.ensures o.events.now i)

pub returns-in-Scripts : goal.returns-in-Scripts
returns-in-Scripts c =
    let o = c.args in
    λ i.
    let l : Lent = lent o.m.now o.ids.now o.cells.now o.locals.now o.scripts.now o.events.now in
    let is = subst (IsPart o.at.part) c.in-Scripts.is c.from.ensures in
    leaves_as (line_script (room_of l) (reading_of o.at l) o.line.now _ c.said-spoken.ensures.says is) (c.script_line.ensures o.m.now o.events.now i)

pub returns-in-Section : goal.returns-in-Section
returns-in-Section c =
    let o = c.args in
    λ i.
    let l : Lent = lent o.m.now o.ids.now o.cells.now o.locals.now o.scripts.now o.events.now in
    let is = subst (IsPart o.at.part) c.in-Section.is c.from.ensures in
    leaves_as (line_section (room_of l) (reading_of o.at l) o.line.now _ c.said-spoken.ensures.says is)
    (c.section_line.ensures o.m.now o.ids.now o.cells.now o.locals.now o.events.now i)

pub returns-in-Events : goal.returns-in-Events
returns-in-Events c =
    let o = c.args in
    λ i.
    let l : Lent = lent o.m.now o.ids.now o.cells.now o.locals.now o.scripts.now o.events.now in
    let is = subst (IsPart o.at.part) c.in-Events.is c.from.ensures in
    leaves_as (line_event (room_of l) (reading_of o.at l) o.line.now _ c.said-spoken.ensures.says is.0 is.1 is.2)
    (c.event_line.ensures o.m.now o.ids.now o.cells.now o.locals.now o.scripts.now i)
