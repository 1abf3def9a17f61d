-- A row in the script, where there is one.
use Rattle.text.specs.Feeding.{lent}
use Rattle.text.proofs.Lines.{section_alone, section_row, inside_part}
use Rattle.text.proofs.reading.section_begins.Goals as goal

pub returns-then-at-eq0 : goal.returns-then-at-eq0
returns-then-at-eq0 c =
    let o = c.args in
    λ bytes ids cells locals events i. section_alone o.at (lent bytes ids cells locals o.scripts.now events) i o.id o.options o.timeout
    c.if-at-eq0.true

pub returns : goal.returns
returns c =
    let o = c.args in
    λ bytes ids cells locals events i. section_row o.at (lent bytes ids cells locals o.scripts.now events) i o.id o.options o.timeout
    c.if-at-eq0.false (c.row_line.ensures bytes ids cells locals events (inside_part 2 i))
