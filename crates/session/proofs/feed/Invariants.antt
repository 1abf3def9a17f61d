-- `session::feed` meets its contract. The invariant: the bytes taken so far are fed, and what is said to them is written.
use Rattle.session.specs.Kept.{keeps}
use Rattle.session.specs.Feeding.{holding}
use Rattle.session.proofs.Feeding.{Underway}
use Rattle.session.proofs.feed.Given as goal

abbrev pub invariant-loop-taken : goal.invariant-loop-taken
invariant-loop-taken l =
    Underway (holding l.initial.m l.initial.line) l.input l.initial.out (keeps l.m l.line.bytes l.begun) l.out l.taken l.written
