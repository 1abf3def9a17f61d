-- What was read is shown, and of a text with a fault nothing.
use Rattle.std.proofs.Common.{ℕ, List, Ok, rules}
use Rattle.std.specs.declared.option.Option.{Option}
use Rattle.std.proofs.lemmas.Result.{IfOk-weaker}
use Rattle.text.specs.Reading.{Reading}
use Rattle.text.specs.Feeding.{Lent, lent, fault_of, reading_of}
use Rattle.mast_sections.specs.Program.{Prints, Answers}
use Rattle.mast_sections.proofs.Printing.{prints_read, prints_nothing, printed_of_known, if_ok_same}
use Rattle.mast_sections.proofs.work.Goals as goal

pub returns-in-Ok-clause-ran : goal.returns-in-Ok-clause-ran
returns-in-Ok-clause-ran g c =
    let l : Lent = lent c.args.m.now c.args.ids.now c.args.cells.now c.args.locals.now c.args.scripts.now c.args.events.now in
    let n = c.read_text.new in
    let r : Reading = reading_of c.in-Ok.at (lent n.m n.ids n.cells n.locals n.scripts n.events) in
    if_ok_same Prints c.show.result c.map_err.result _ c.map_err.ensures.cases c.map_err.ensures.variant
    (IfOk-weaker c.show.result _ Prints (prints_read l c.requires.1 r c.in-Ok.ensures.takes.1) c.show.ensures.count)

pub returns-in-Ok-clause-printed : goal.returns-in-Ok-clause-printed
returns-in-Ok-clause-printed g c =
    λ some.
    let u : Option (List ℕ) = g.R.Read.remaining c.args.reader.now in
    let u' : Option (List ℕ) = g.R.Read.remaining c.read_text.new.reader in
    let w : Option (List ℕ) = g.W.Write.contents c.args.writer.now in
    let w' : Option (List ℕ) = g.W.Write.contents c.show.new.writer in
    let answers : Answers c.map_err.result u u' w w' = search rules in
    printed_of_known u u' w w' c.map_err.result answers

pub returns-in-Err-Faulty-clause-ran : goal.returns-in-Err-Faulty-clause-ran
returns-in-Err-Faulty-clause-ran g c =
    let l : Lent = lent c.args.m.now c.args.ids.now c.args.cells.now c.args.locals.now c.args.scripts.now c.args.events.now in
    prints_nothing l c.requires.1 c.in-Err-Faulty.faulty.line (fault_of c.in-Err-Faulty.faulty.fault) (rw c.in-Err-Faulty.field-0-is at c.in-Err-Faulty.ensures.takes)

pub returns-in-Err-Faulty-clause-printed : goal.returns-in-Err-Faulty-clause-printed
returns-in-Err-Faulty-clause-printed g c =
    λ some.
    let u : Option (List ℕ) = g.R.Read.remaining c.args.reader.now in
    let u' : Option (List ℕ) = g.R.Read.remaining c.read_text.new.reader in
    let w : Option (List ℕ) = g.W.Write.contents c.args.writer.now in
    let answers : Answers (Ok 0) u u' w w = search rules in
    printed_of_known u u' w w (Ok 0) answers
