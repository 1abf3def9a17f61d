-- `changes::expired` meets its contract. The invariant: the flags passed are set.
use mathlib.Core.Path.{◌≡◌}
use lib.ListN.{length}
use Rattle.changes.proofs.Ticks.{FlaggedUpTo}
use Rattle.changes.proofs.expired.Given as goal

abbrev pub invariant-loop-i : goal.invariant-loop-i
invariant-loop-i l = (length l.flags ≡ 32) × FlaggedUpTo l.m l.flags l.i
