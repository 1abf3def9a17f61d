use mathlib.Core.Path.{◌≡◌, ap}
use Prim.Native.Nat.{ℕ}
use native.Mathlib.Omega.{arith}
use lib.ListN.{length}
use Rattle.laws.specs.Rows.{tabulate, rows}
use Rattle.tables.specs.View.{seen}
use Rattle.lookup.proofs.Model.{length_slots}
use Rattle.shown.specs.Shown.{slot_lines}
use Rattle.shown.proofs.Putting.{no_rows, row_more, puts_as}
use Rattle.shown.proofs.semaphores.put_semaphores.Invariants.{line_at}
use Rattle.shown.proofs.semaphores.put_semaphores.Goals as goal

pub loop-i-init : goal.loop-i-init
loop-i-init c = no_rows (line_at c.args.v)

pub loop-i-preserved : goal.loop-i-preserved
loop-i-preserved c = row_more (line_at c.args.v) c.loop-i.i c.loop-i.invariant c.put_slot.ensures

pub returns : goal.returns
unfolding slot_lines
returns c =
    let whole : c.loop-i.i ≡ length (seen c.args.v).slots = omega (arith, length_slots c.args.v.bytes.now) in
    puts_as (ap (λ (n : ℕ). rows (tabulate n (line_at c.args.v))) whole) c.loop-i.invariant
