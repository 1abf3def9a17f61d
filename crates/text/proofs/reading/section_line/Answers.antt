-- The section's end, two faults, or a step.
use mathlib.Core.Path.{sym, ap, ◌∙◌}
use Rattle.text.specs.declared.Fault.TheVariants.{ScriptInSection, RunInSection}
use Rattle.text.specs.Spoken.{number_of, said_of}
use Rattle.text.specs.Reading.{Reading, step_line, section_line}
use Rattle.text.specs.Feeding.{Lent, lent, room_of, reading_of}
use Rattle.text.proofs.Lines.{leaves_as, leaves_fault}
use Rattle.text.proofs.ByWord.{said_some, leaves_part, section_ends, section_script, section_run, section_other, section_nothing}
use Rattle.text.proofs.reading.section_line.Goals as goal

pub returns-in_default : goal.returns-in_default
returns-in_default c =
    let o = c.args in
    λ bytes ids cells locals events i.
    let l : Lent = lent bytes ids cells locals o.scripts.now events in
    let r : Reading = reading_of o.at l in
    let said = ap said_of c.in_default.is in
    leaves_as (ap (step_line (room_of l) r) said ∙ section_nothing (room_of l) r ∙ sym (ap (section_line (room_of l) r) said))
    (c.step_line.ensures bytes ids cells locals events i)

pub returns-in-End : goal.returns-in-End
returns-in-End c =
    let o = c.args in
    λ bytes ids cells locals events i.
    let l : Lent = lent bytes ids cells locals o.scripts.now events in
    let r : Reading = reading_of o.at l in
    leaves_part 1
    (ap (section_line (room_of l) r) (said_some c.in-Some.is c.in-Some.field-0-is) ∙ section_ends (room_of l) r _ _ (ap number_of c.in-End.is)) i

pub returns-in-Script : goal.returns-in-Script
returns-in-Script c =
    let o = c.args in
    λ bytes ids cells locals events i.
    let l : Lent = lent bytes ids cells locals o.scripts.now events in
    let r : Reading = reading_of o.at l in
    leaves_fault ScriptInSection
    (ap (section_line (room_of l) r) (said_some c.in-Some.is c.in-Some.field-0-is) ∙ section_script (room_of l) r _ _ (ap number_of c.in-Script.is))

pub returns-in-Run : goal.returns-in-Run
returns-in-Run c =
    let o = c.args in
    λ bytes ids cells locals events i.
    let l : Lent = lent bytes ids cells locals o.scripts.now events in
    let r : Reading = reading_of o.at l in
    leaves_fault RunInSection
    (ap (section_line (room_of l) r) (said_some c.in-Some.is c.in-Some.field-0-is) ∙ section_run (room_of l) r _ _ (ap number_of c.in-Run.is))

pub returns-in_default-word : goal.returns-in_default-word
returns-in_default-word c =
    let o = c.args in
    λ bytes ids cells locals events i.
    let l : Lent = lent bytes ids cells locals o.scripts.now events in
    let r : Reading = reading_of o.at l in
    let said = said_some c.in-Some.is c.in-Some.field-0-is in
    let other = c.in_default-word in
    leaves_as
    (ap (step_line (room_of l) r) said
    ∙ section_other (room_of l) r _ _ other.not-End other.not-Script other.not-Run
    ∙ sym (ap (section_line (room_of l) r) said))
    (c.step_line-in_default-word.ensures bytes ids cells locals events i)
