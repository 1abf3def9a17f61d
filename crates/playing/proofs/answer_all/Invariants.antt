-- What was read so far is fed, and what is said to it is written.
use Rattle.std.proofs.Common.{◌≡◌, length}
use Rattle.session.specs.Feeding.{holding}
use Rattle.playing.specs.Streams.{Feeds, fresh}
use Rattle.playing.proofs.answer_all.Given as goal

abbrev pub invariant-loop : goal.invariant-loop
invariant-loop g l = (length l.input ≡ length l.initial.input) × (length l.out ≡ length l.initial.out)
    × Feeds (g.R.Read.remaining l.initial.reader) (g.R.Read.remaining l.reader) (g.W.Write.contents l.initial.writer) (g.W.Write.contents l.writer)
    (fresh l.initial.m) (holding l.m l.line)
