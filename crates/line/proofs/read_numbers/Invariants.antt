-- `line::read_numbers` meets its contract. The outer invariant: reading goes on between two fields with the numbers placed so far.
-- The inner one: it goes on inside a field with the digits read so far. A bad byte and an empty field leave nothing to read.
use mathlib.Core.Path.{◌≡◌}
use Prim.Native.Nat.{◌≤◌, ◌-◌, ◌*◌}
use lib.ListN.{length, get_or, take, drop}
use Rattle.line.specs.Scan.{others, all_numbers}
use Rattle.line.proofs.Reading.{between, inside}
use Rattle.line.proofs.read_numbers.Given as goal

abbrev pub invariant-loop-begin : goal.invariant-loop-begin
invariant-loop-begin l =
    (l.begin ≤ l.at) × (l.at ≤ length l.line) × (all_numbers (others (drop l.from l.line)) ≡ inside (take l.count l.numbers) (l.at - l.begin) l.value (drop l.at l.line))

abbrev pub decreases-loop-begin : goal.decreases-loop-begin
decreases-loop-begin l = length l.line - l.at

abbrev pub invariant-fields : goal.invariant-fields
invariant-fields l =
    (length l.numbers ≡ 128) × ((2 * l.count ≤ l.at) × (l.count ≤ 128)) × (get_or l.line l.at 32 ≡ 32) ×
    (all_numbers (others (drop l.from l.line)) ≡ between (take l.count l.numbers) (drop l.at l.line))

abbrev pub decreases-fields : goal.decreases-fields
decreases-fields l = length l.line - l.at
