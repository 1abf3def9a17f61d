use mathlib.Core.Path.{◌≡◌}
use native.Mathlib.Omega.{arith}
use lib.ListN.{length}
use Rattle.session.specs.Kept.{Kept}
use Rattle.session.specs.Feeding.{holding}
use Rattle.session.proofs.Feeding.{underway_none, underway_more, fed_is, fed_all, taken_none, taken_full}
use Rattle.session.proofs.feed.Goals as goal

pub loop-taken-init : goal.loop-taken-init
loop-taken-init c = underway_none (holding c.args.m.now c.args.line.now) c.args.input.now c.args.out.now

pub returns-then-out-written-lt33 : goal.returns-then-out-written-lt33
returns-then-out-written-lt33 c =
    let i = c.loop-taken.invariant in
    fed_is i (taken_full _ _ _ (omega (arith, i.output)))

pub loop-taken-preserved : goal.loop-taken-preserved
loop-taken-preserved c =
    let here = c.loop-taken in
    let kept : Kept = holding c.args.m.now c.args.line.now in
    let step = c.take_byte-written in
    underway_more kept c.args.input.now here.taken
    c.loop-taken-test.true
    c.args.out.now _ _ _ _ here.written step.result here.invariant (omega arith) step.ensures
    step.auto.out

pub returns : goal.returns
returns c =
    let i = c.loop-taken.invariant in
    let all : c.loop-taken.taken ≡ length c.args.input.now = omega (arith, i.inside) in
    fed_all i all (taken_none _ c.args.input.now c.loop-taken.taken _ (omega arith))
