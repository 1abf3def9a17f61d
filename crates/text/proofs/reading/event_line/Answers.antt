-- An event's numbers by its word.
use mathlib.Core.Path.{refl, sym, ap, ◌∙◌}
use Rattle.text.specs.declared.vocabulary.Word.TheVariants.{Start}
use Rattle.text.specs.Spoken.{number_of, said_of}
use Rattle.text.specs.Reading.{Reading, event_put, event_line}
use Rattle.text.specs.Feeding.{Lent, lent, room_of, reading_of}
use Rattle.text.proofs.Words.{number_not}
use Rattle.text.proofs.Lines.{leaves_as}
use Rattle.text.proofs.ByWord.{said_some}
use Rattle.text.proofs.Events.{start_numbers, own_numbers, no_event, nothing_said}
use Rattle.text.proofs.reading.event_line.Goals as goal

pub returns-in_default : goal.returns-in_default
returns-in_default c =
    let o = c.args in
    λ bytes ids cells locals scripts i.
    let l : Lent = lent bytes ids cells locals scripts o.events.now in
    let r : Reading = reading_of o.at l in
    leaves_as (ap (event_put (room_of l) r) nothing_said ∙ sym (ap (event_line (room_of l) r) (ap said_of c.in_default.is)))
    (c.put_event.ensures bytes ids cells locals scripts i)

pub returns-in-Start : goal.returns-in-Start
returns-in-Start c =
    let o = c.args in
    λ bytes ids cells locals scripts i.
    let l : Lent = lent bytes ids cells locals scripts o.events.now in
    let r : Reading = reading_of o.at l in
    leaves_as
    (ap (event_put (room_of l) r) (start_numbers _ _ (ap number_of c.in-Start.is) c.number_at-slots.ensures refl c.behind_first-rest.ensures)
    ∙ sym (ap (event_line (room_of l) r) (said_some c.in-Some.is c.in-Some.field-0-is)))
    (c.put_event-in-Start.ensures bytes ids cells locals scripts i)

pub returns-in_default-word : goal.returns-in_default-word
returns-in_default-word c =
    let o = c.args in
    λ bytes ids cells locals scripts i.
    let l : Lent = lent bytes ids cells locals scripts o.events.now in
    let r : Reading = reading_of o.at l in
    leaves_as
    (ap (event_put (room_of l) r)
    (own_numbers _ _ (number_not _ Start c.in_default-word.not-Start) (sym c.is_event.ensures ∙ c.if-is_event.true) c.number.ensures)
    ∙ sym (ap (event_line (room_of l) r) (said_some c.in-Some.is c.in-Some.field-0-is)))
    (c.put_event-in_default-word.ensures bytes ids cells locals scripts i)

pub returns-in_default-2 : goal.returns-in_default-2
returns-in_default-2 c =
    let o = c.args in
    λ bytes ids cells locals scripts i.
    let l : Lent = lent bytes ids cells locals scripts o.events.now in
    let r : Reading = reading_of o.at l in
    leaves_as
    (ap (event_put (room_of l) r) (no_event _ _ (number_not _ Start c.in_default-2.not-Start) (sym c.is_event.ensures ∙ c.if-is_event.false))
    ∙ sym (ap (event_line (room_of l) r) (said_some c.in-Some.is c.in-Some.field-0-is)))
    (c.put_event-in_default-2.ensures bytes ids cells locals scripts i)
