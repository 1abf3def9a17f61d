-- What is printed of a run: it has room in what a text's run is lent.
use mathlib.Core.Path.{◌≡◌, subst, ap}
use mathlib.Core.List.{List, map}
use Prim.Native.Nat.{ℕ, ◌≤◌}
use native.Mathlib.Omega.{arith}
use lib.ListN.{length, take, length-take, length-map}
use Rattle.rules.specs.declared.Answer.{Answer}
use Rattle.encoding.specs.Rows.{scripts_of}
use Rattle.plain.specs.Grants.{task_in}
use Rattle.report.specs.Report.{Report, report_of, Printable, Reported}
use Rattle.report.proofs.Room.{lent_room}

-- the tasks are all noted
pub tasks_noted : (n : ℕ) (tasks scripts : List ℕ) → n ≡ length (scripts_of scripts) → take n tasks ≡ map task_in (scripts_of scripts) → n ≤ length tasks
tasks_noted n tasks scripts e h = omega (arith, length-take n tasks, ap length h, length-map (scripts_of scripts) task_in)

pub lent_printable : (a : Answer) (n : ℕ) (cells locals tasks places pairs plain_cells plain_locals : List ℕ) (room : ℕ) → n ≤ 32 → length cells ≤ 1024
    → length locals ≡ 256 → length tasks ≤ 8192 → length places ≡ 16384 → length pairs ≤ 512 → length plain_cells ≤ 1024 → length plain_locals ≡ 256
    → room ≡ 524288 → Printable (report_of a n cells locals tasks places pairs plain_cells plain_locals) room
lent_printable a n cells locals tasks places pairs plain_cells plain_locals room few c l t p g pc pl r = record {
  few = few;
  locals = l;
  plain_locals = pl;
  places = omega arith;
  roomy = omega (arith, lent_room (length cells) n (length tasks) (length pairs) (length plain_cells) c few t g pc);
}

pub reported_as : (r r' : Report) (out out' : List ℕ) (n : ℕ) → r ≡ r' → Reported r out out' n → Reported r' out out' n
reported_as r r' out out' n e = subst (λ (x : Report). Reported x out out' n) e
