-- `runner::settle::settle` meets its contract. The invariant: the answers to the scripts passed are noted, and the iterator has the scripts left.
use Rattle.std.proofs.Common.{◌≡◌, ◌≤◌, length, drop}
use Rattle.std.specs.Prelude.{unwrap_or}
use Rattle.rules.specs.Machine.{Tables}
use Rattle.tables.specs.Layout.{laid}
use Rattle.sections.specs.Scripts.{script_at}
use Rattle.encoding.specs.Rows.{scripts_of}
use Rattle.encoding.specs.Left.{scripts_left}
use Rattle.runner.specs.State.{told}
use Rattle.runner.proofs.Answering.{Settling}
use Rattle.runner.proofs.settle.settle.Given as goal

abbrev pub invariant-loop-i : goal.invariant-loop-i
invariant-loop-i l =
    (goal.iterator-loop-i).can_next l.i-iterator × (goal.iterator-loop-i).is_finite l.i-iterator
    × (length l.places ≡ length l.initial.places)
    × (length l.grants ≡ length l.initial.grants)
    × (l.i-iterator.count ≤ length (scripts_of l.scripts))
    × (scripts_left l.i-iterator.iter ≡ drop l.i-iterator.count (scripts_of l.scripts))
    × ((t : Tables) → l.m ≡ laid t → Settling l.scripts l.initial.places l.initial.grants (λ k. told l.waited t (unwrap_or l.obtainer 0) l.status (script_at (scripts_of l.scripts) k).task) l.i-iterator.count l.places l.grants)
