-- Four numbers behind the others, where there is room.
use native.Mathlib.Omega.{arith}
use Rattle.text.specs.Feeding.{lent}
use Rattle.text.proofs.Lines.{row_full, row_put}
use Rattle.text.proofs.reading.row_line.Goals as goal

pub returns-then-scripts-from-lt4 : goal.returns-then-scripts-from-lt4
returns-then-scripts-from-lt4 c =
    let o = c.args in
    λ bytes ids cells locals events i. row_full o.at (lent bytes ids cells locals o.scripts.now events) i o.kind o.a o.b o.c (omega arith)

pub returns : goal.returns
returns c =
    let o = c.args in
    let put = c.put-end in
    λ bytes ids cells locals events i. row_put o.at (lent bytes ids cells locals o.scripts.now events) i o.kind o.a o.b o.c (omega arith)
    _ _ put.ensures.0 put.ensures.1
