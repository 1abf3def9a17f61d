-- The bytes taken so far are fed, and what is said to them is written.
use Rattle.std.proofs.Common.{◌≡◌, ◌≤◌, ◌-◌, length, take}
use Rattle.session.specs.Feeding.{holding}
use Rattle.playing.specs.Streams.{FedAll}
use Rattle.playing.proofs.answer_part.Given as goal

abbrev pub invariant-loop-taken : goal.invariant-loop-taken
invariant-loop-taken g l = (l.taken ≤ length l.input) × (length l.out ≡ length l.initial.out)
    × FedAll (holding l.initial.m l.initial.line) (take l.taken l.input) (holding l.m l.line) (g.W.Write.contents l.initial.writer) (g.W.Write.contents l.writer)

abbrev pub decreases-loop-taken : goal.decreases-loop-taken
decreases-loop-taken g l = length l.input - l.taken
