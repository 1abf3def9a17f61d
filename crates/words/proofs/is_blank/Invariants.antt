-- The bits seen are 0 exactly where the words passed are.
use Rattle.std.proofs.Common.{◌-◌, ◌≤◌}
use Rattle.words.proofs.Stores.{Blank}
use Rattle.words.proofs.is_blank.Given as goal

abbrev pub invariant-loop-k : goal.invariant-loop-k
invariant-loop-k l = record { within : l.k - l.from ≤ l.to - l.from; seen : Blank l.m l.from l.k l.seen }
