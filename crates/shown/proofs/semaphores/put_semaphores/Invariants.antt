-- `shown::semaphores::put_semaphores` meets its contract. The invariant: the lines of the first `i` slots are put.
use Prim.Native.Nat.{ℕ, suc}
use mathlib.Core.List.{List}
use Rattle.laws.specs.Rows.{tabulate, rows}
use Rattle.tables.specs.declared.view.View.{View}
use Rattle.tables.specs.View.{seen}
use Rattle.shown.specs.Puts.{Puts}
use Rattle.shown.specs.Shown.{slot_line}
use Rattle.shown.proofs.semaphores.put_semaphores.Given as goal

abbrev pub line_at : View → ℕ → List ℕ
line_at v i = slot_line (seen v) (suc i)

abbrev pub invariant-loop-i : goal.invariant-loop-i
invariant-loop-i l = Puts (rows (tabulate l.i (line_at l.v))) l.initial.text l.text
