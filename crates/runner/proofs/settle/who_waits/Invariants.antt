-- `runner::settle::who_waits` meets its contract. The invariant: the flags passed are set.
use Rattle.std.proofs.Common.{◌≡◌, length}
use Rattle.rules.specs.Machine.{Tables}
use Rattle.tables.specs.Layout.{laid}
use Rattle.runner.proofs.Telling.{Waiting}
use Rattle.runner.proofs.settle.who_waits.Given as goal

abbrev pub invariant-loop-i : goal.invariant-loop-i
invariant-loop-i l = (length l.flags ≡ 32) × ((t : Tables) → l.m ≡ laid t → Waiting t l.flags l.i)
