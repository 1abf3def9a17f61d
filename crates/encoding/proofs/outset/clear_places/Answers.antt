use Rattle.std.proofs.Common.{refl, arith, length-set}
use Rattle.encoding.proofs.Clearing.{clearing_none, clearing_more, cleared, cleared_short}
use Rattle.encoding.proofs.outset.clear_places.Goals as goal

pub loop-k-init : goal.loop-k-init
loop-k-init c = (omega arith, refl, clearing_none c.args.places.now c.args.n)

pub returns-then-n-k : goal.returns-then-n-k
returns-then-n-k c =
    let o = c.args in
    let turn = c.loop-k in
    cleared o.places.now o.n turn.places turn.k turn.invariant.2 c.if-n-k.true

pub bounds-places-k : goal.bounds-places-k
bounds-places-k c = omega arith

pub loop-k-smaller : goal.loop-k-smaller
loop-k-smaller c = omega arith

pub loop-k-preserved : goal.loop-k-preserved
loop-k-preserved c =
    let o = c.args in
    let turn = c.loop-k in
    (omega arith, simp length-set turn.invariant.1, clearing_more o.places.now o.n turn.places turn.k turn.invariant.2 c.if-n-k.false)

pub returns : goal.returns
returns c =
    let o = c.args in
    let turn = c.loop-k in
    cleared_short o.places.now o.n turn.places turn.k turn.invariant.2 (omega arith)
