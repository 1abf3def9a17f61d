-- The second part's first line, or an answer that is not kept.
use mathlib.Core.Path.{◌≡◌, sym, ap, ◌∙◌}
use mathlib.Core.Bool.{false}
use Rattle.std.specs.Prelude.{None}
use Rattle.text.specs.Words.{Said, opens_scripts}
use Rattle.text.specs.Spoken.{said_of}
use Rattle.text.specs.Reading.{Reading}
use Rattle.text.specs.Feeding.{Lent, lent, room_of, reading_of}
use Rattle.text.proofs.Lines.{leaves_as, inside_part}
use Rattle.text.proofs.ByWord.{said_some, leaves_bytes, session_opens, session_goes, nothing_opens}
use Rattle.text.proofs.reading.session_line.Goals as goal
use Rattle.text.proofs.reading.session_line.Goals.{in_default-via-in-None-1, in_default-via-in-Some+else-opens_scripts}

pub returns : goal.returns
returns c =
    let o = c.args in
    λ events i.
    let l : Lent = lent o.m.now o.ids.now o.cells.now o.locals.now o.scripts.now events in
    let r : Reading = reading_of o.at l in
    leaves_as
    (session_opens (room_of l) r o.line.now _ c.requires.1
    (ap (λ (s : Said). opens_scripts s.word) (said_some c.in-Some.is c.in-Some.field-0-is) ∙ sym c.opens_scripts.ensures ∙ c.if-opens_scripts.true))
    (c.script_line.ensures o.m.now events (inside_part 1 i))

pub returns-2 : goal.returns-2
returns-2 c =
    let o = c.args in
    λ events i.
    let l : Lent = lent o.m.now o.ids.now o.cells.now o.locals.now o.scripts.now events in
    let r : Reading = reading_of o.at l in
    let goes : opens_scripts (said_of o.spoken).word ≡ false =
    elim c.in_default.branch [
      | in_default-via-in-None-1 w ↦ let e : o.spoken ≡ None = cc in ap (λ (s : Said). opens_scripts s.word) (ap said_of e) ∙ nothing_opens
      | in_default-via-in-Some+else-opens_scripts w ↦ ap (λ (s : Said). opens_scripts s.word) (said_some w.in-Some.is w.in-Some.field-0-is)
          ∙ sym w.opens_scripts.ensures ∙ w.if-opens_scripts.false
    ] in
    leaves_bytes (session_goes (room_of l) r o.line.now _ c.requires.1 goes) i _ c.take_line.ensures
