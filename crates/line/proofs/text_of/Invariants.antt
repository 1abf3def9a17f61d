-- `line::text_of` meets its contract. The invariant: the digits still to come before the bytes from `from` on give the whole text, and there is room for them.
use mathlib.Core.List.{◌++◌, ◌∷◌, []}
use mathlib.Core.Path.{◌≡◌}
use Prim.Native.Nat.{◌≤◌, ◌<◌, ◌^◌}
use lib.ListN.{length, drop}
use Rattle.line.specs.Print.{decimal, digits_before}
use Rattle.line.proofs.text_of.Given as goal

abbrev pub invariant-loop-rest : goal.invariant-loop-rest
invariant-loop-rest l =
    (length l.bytes ≡ 11) × (1 ≤ l.from) × (l.from ≤ 10) × (l.rest < 10 ^ l.from) × (decimal l.v ++ l.end ∷ [] ≡ digits_before l.from l.rest (drop l.from l.bytes))

abbrev pub decreases-loop-rest : goal.decreases-loop-rest
decreases-loop-rest l = l.rest
