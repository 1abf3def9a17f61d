-- `plain::plain_run` meets its contract. The invariant: the grants left lead from here to where all lead from the outset.
use mathlib.Core.Path.{◌≡◌}
use lib.ListN.{length, drop}
use Rattle.sections.specs.Scripts.{plain}
use Rattle.encoding.specs.Rows.{scripts_of}
use Rattle.encoding.specs.Laid.{memory}
use Rattle.plain.specs.Grants.{grants_of}
use Rattle.plain.proofs.plain_run.Given as goal

abbrev pub invariant-loop-i : goal.invariant-loop-i
invariant-loop-i l =
    (length l.cells ≡ length l.initial.cells)
    × (length l.locals ≡ length l.initial.locals)
    × (plain (scripts_of l.scripts) (drop l.i (grants_of l.grants)) (memory l.cells l.locals) ≡ plain (scripts_of l.scripts) (grants_of l.grants) (memory l.initial.cells l.initial.locals))
