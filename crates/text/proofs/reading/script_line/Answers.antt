-- The line's kind by its word.
use mathlib.Core.Path.{sym, ap, ◌∙◌}
use Rattle.text.specs.declared.Fault.TheVariants.{NoLine, EndWithoutSection, StepWithoutSection}
use Rattle.text.specs.Spoken.{number_of, said_of}
use Rattle.text.specs.Reading.{Reading, script_line}
use Rattle.text.specs.Feeding.{Lent, lent, room_of, reading_of}
use Rattle.text.proofs.Lines.{leaves_as, leaves_fault}
use Rattle.text.proofs.ByWord.{said_some, leaves_part, script_cell, script_local, script_row, script_section, script_step, script_end, script_run, script_none}
use Rattle.text.proofs.ByWord.{script_nothing}
use Rattle.text.proofs.reading.script_line.Goals as goal

pub returns-in_default : goal.returns-in_default
returns-in_default c =
    let o = c.args in
    λ bytes events i.
    let l : Lent = lent bytes o.ids.now o.cells.now o.locals.now o.scripts.now events in
    let r : Reading = reading_of o.at l in
    leaves_fault NoLine (ap (script_line (room_of l) r) (ap said_of c.in_default.is) ∙ script_nothing (room_of l) r)

pub returns-in-Cell : goal.returns-in-Cell
returns-in-Cell c =
    let o = c.args in
    λ bytes events i.
    let l : Lent = lent bytes o.ids.now o.cells.now o.locals.now o.scripts.now events in
    let r : Reading = reading_of o.at l in
    leaves_as
    (script_cell (room_of l) r _ _ (ap number_of c.in-Cell.is) c.number_at-a.ensures c.number_at-b.ensures ∙ sym (ap (script_line (room_of l) r) (said_some c.in-Some.is c.in-Some.field-0-is)))
    (c.cell_line.ensures bytes o.locals.now o.scripts.now events i)

pub returns-in-Local : goal.returns-in-Local
returns-in-Local c =
    let o = c.args in
    λ bytes events i.
    let l : Lent = lent bytes o.ids.now o.cells.now o.locals.now o.scripts.now events in
    let r : Reading = reading_of o.at l in
    leaves_as
    (script_local (room_of l) r _ _ (ap number_of c.in-Local.is) c.number_at-a.ensures c.number_at-b.ensures c.number_at-c.ensures ∙ sym (ap (script_line (room_of l) r) (said_some c.in-Some.is c.in-Some.field-0-is)))
    (c.local_line.ensures bytes o.ids.now o.cells.now o.scripts.now events i)

pub returns-in-Script : goal.returns-in-Script
returns-in-Script c =
    let o = c.args in
    λ bytes events i.
    let l : Lent = lent bytes o.ids.now o.cells.now o.locals.now o.scripts.now events in
    let r : Reading = reading_of o.at l in
    leaves_as
    (script_row (room_of l) r _ _ (ap number_of c.in-Script.is) c.number_at-a.ensures ∙ sym (ap (script_line (room_of l) r) (said_some c.in-Some.is c.in-Some.field-0-is)))
    (c.row_line.ensures bytes o.ids.now o.cells.now o.locals.now events i)

pub returns-in-Section : goal.returns-in-Section
returns-in-Section c =
    let o = c.args in
    λ bytes events i.
    let l : Lent = lent bytes o.ids.now o.cells.now o.locals.now o.scripts.now events in
    let r : Reading = reading_of o.at l in
    leaves_as
    (script_section (room_of l) r _ _ (ap number_of c.in-Section.is) c.number_at-a.ensures c.number_at-b.ensures c.number_at-c.ensures ∙ sym (ap (script_line (room_of l) r) (said_some c.in-Some.is c.in-Some.field-0-is)))
    (c.section_begins.ensures bytes o.ids.now o.cells.now o.locals.now events i)

pub returns-in-Load : goal.returns-in-Load
returns-in-Load c =
    let o = c.args in
    λ bytes events i.
    let l : Lent = lent bytes o.ids.now o.cells.now o.locals.now o.scripts.now events in
    let r : Reading = reading_of o.at l in
    leaves_fault StepWithoutSection
    (ap (script_line (room_of l) r) (said_some c.in-Some.is c.in-Some.field-0-is) ∙ script_step (room_of l) r _ _ c.in-Load.is)

pub returns-in-End : goal.returns-in-End
returns-in-End c =
    let o = c.args in
    λ bytes events i.
    let l : Lent = lent bytes o.ids.now o.cells.now o.locals.now o.scripts.now events in
    let r : Reading = reading_of o.at l in
    leaves_fault EndWithoutSection
    (ap (script_line (room_of l) r) (said_some c.in-Some.is c.in-Some.field-0-is) ∙ script_end (room_of l) r _ _ (ap number_of c.in-End.is))

pub returns-in-Run : goal.returns-in-Run
returns-in-Run c =
    let o = c.args in
    λ bytes events i.
    let l : Lent = lent bytes o.ids.now o.cells.now o.locals.now o.scripts.now events in
    let r : Reading = reading_of o.at l in
    leaves_part 3
    (ap (script_line (room_of l) r) (said_some c.in-Some.is c.in-Some.field-0-is) ∙ script_run (room_of l) r _ _ (ap number_of c.in-Run.is)) i

pub returns-in_default-word : goal.returns-in_default-word
returns-in_default-word c =
    let o = c.args in
    λ bytes events i.
    let l : Lent = lent bytes o.ids.now o.cells.now o.locals.now o.scripts.now events in
    let r : Reading = reading_of o.at l in
    leaves_fault NoLine
    (ap (script_line (room_of l) r) (said_some c.in-Some.is c.in-Some.field-0-is) ∙ script_none (room_of l) r _ _ c.in_default-word.not-Script c.in_default-word.not-Section c.in_default-word.not-Load c.in_default-word.not-Store c.in_default-word.not-Set c.in_default-word.not-Add c.in_default-word.not-Cell c.in_default-word.not-Local c.in_default-word.not-End c.in_default-word.not-Run)
