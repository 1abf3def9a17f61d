-- `lookup::working::priority` meets its contract. It calls itself with one link less; the invariant of its loop: the least so far is that of the first i tasks.
use mathlib.Core.Path.{◌≡◌}
use Prim.Native.Nat.{◌-◌}
use Rattle.rules.specs.Machine.{lends, least_of, working_with}
use Rattle.tables.specs.View.{seen}
use Rattle.lookup.proofs.working.+priority.Given as goal

abbrev pub invariant-loop-i : goal.invariant-loop-i
invariant-loop-i l = l.least ≡ least_of (lends (seen l.v) l.q) (working_with (seen l.v) (l.links - 1)) l.own l.i

abbrev pub decreases-priority : goal.decreases-priority
decreases-priority l = l.links
