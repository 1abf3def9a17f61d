-- `encoding::outset::clear_places` meets its contract. The invariant: what is left to clear gives the whole.
use Rattle.std.proofs.Common.{◌≡◌, ◌-◌, ◌≤◌, length}
use Rattle.encoding.proofs.Clearing.{Clearing}
use Rattle.encoding.proofs.outset.clear_places.Given as goal

abbrev pub invariant-loop-k : goal.invariant-loop-k
invariant-loop-k l = (l.k ≤ length l.initial.places) × (length l.places ≡ length l.initial.places) × Clearing l.initial.places l.n l.places l.k

abbrev pub decreases-loop-k : goal.decreases-loop-k
decreases-loop-k l = length l.initial.places - l.k
