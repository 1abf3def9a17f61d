-- A local of tasks 1 to 32, 8 of each.
use native.Mathlib.Omega.{arith}
use Rattle.text.specs.Feeding.{Lent, lent}
use Rattle.text.proofs.Lines.{local_low, local_high, local_far, local_put}
use Rattle.text.proofs.reading.local_line.Goals as goal
use Rattle.text.proofs.reading.local_line.Goals.{then-q-lt1-via-then-q-lt1, then-q-lt1-via-else-q-lt1+then-q-gt32, then-q-lt1-via-else-q-lt1+else-q-gt32+then-local-ge8}

pub returns-then-q-lt1 : goal.returns-then-q-lt1
returns-then-q-lt1 c =
    let o = c.args in
    λ bytes ids cells scripts events i.
    let l : Lent = lent bytes ids cells o.locals.now scripts events in
    elim c.then-q-lt1.branch [
      | then-q-lt1-via-then-q-lt1 w ↦ local_low o.at l i o.q o.local o.n (omega arith)
      | then-q-lt1-via-else-q-lt1+then-q-gt32 w ↦ local_high o.at l i o.q o.local o.n (omega arith)
      | then-q-lt1-via-else-q-lt1+else-q-gt32+then-local-ge8 w ↦ local_far o.at l i o.q o.local o.n (omega arith)
    ]

pub returns : goal.returns
returns c =
    let o = c.args in
    λ bytes ids cells scripts events i. local_put o.at (lent bytes ids cells o.locals.now scripts events) i o.q o.local o.n (omega arith)
    (omega arith) (omega arith) _ (omega arith)
