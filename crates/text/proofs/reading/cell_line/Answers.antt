-- The cell and its identifier are stored behind the others, where there is room.
use native.Mathlib.Omega.{arith}
use Rattle.text.specs.Feeding.{lent}
use Rattle.text.proofs.Lines.{cell_full, cell_put}
use Rattle.text.proofs.reading.cell_line.Goals as goal

pub returns-then-cells-i : goal.returns-then-cells-i
returns-then-cells-i c =
    let o = c.args in
    λ bytes locals scripts events i. cell_full o.at (lent bytes o.ids.now o.cells.now locals scripts events) i o.id o.n (omega arith) _

pub returns : goal.returns
returns c =
    let o = c.args in
    λ bytes locals scripts events i. cell_put o.at (lent bytes o.ids.now o.cells.now locals scripts events) i o.id o.n (omega arith)
