-- What is kept is what the text read so far leaves from the outset, and that text is what was read.
use Rattle.std.proofs.Common.{◌≡◌, ◌≤◌, length}
use Rattle.text.specs.Feeding.{Lent, lent, room_of, kept_of, Ready}
use Rattle.mast_sections.specs.Taken.{Reached, ReadSoFar}
use Rattle.mast_sections.proofs.reading.read_text.Given as goal

abbrev pub invariant-loop : goal.invariant-loop
invariant-loop g l =
    let held : Lent = lent l.m l.ids l.cells l.locals l.scripts l.events in
    let room = room_of (lent l.initial.m l.initial.ids l.initial.cells l.initial.locals l.initial.scripts l.initial.events) in
    (length l.cells ≡ length l.initial.cells) × (length l.scripts ≡ length l.initial.scripts) × (length l.events ≡ length l.initial.events)
    × (length l.input ≡ length l.initial.input) × Ready l.p l.line held × Reached room (kept_of l.p l.line held)
    × (1 ≤ length l.initial.input → ReadSoFar room (kept_of l.p l.line held) (g.R.Read.remaining l.initial.reader) (g.R.Read.remaining l.reader))
