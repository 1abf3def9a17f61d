-- `lookup::looks::search` meets its contract. The invariant: the last look is that of as many as it counts, and the rest of the search is left.
use mathlib.Core.Path.{◌≡◌}
use Prim.Native.Nat.{◌-◌, ◌≤◌}
use Rattle.rules.proofs.Looking.{LooksFrom}
use Rattle.tables.specs.Layout.{model_of}
use Rattle.lookup.specs.Search.{last_look}
use Rattle.lookup.proofs.looks.search.Given as goal

abbrev pub invariant-loop-last : goal.invariant-loop-last
invariant-loop-last l =
    (l.last.count ≤ l.slots) × (l.last ≡ last_look l.m l.last.count) × LooksFrom l.name (model_of l.m).slots l.last.count

abbrev pub decreases-loop-last : goal.decreases-loop-last
decreases-loop-last l = l.slots - l.last.count
