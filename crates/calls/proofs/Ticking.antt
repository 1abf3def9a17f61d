-- What a tick leaves, and what it asks of agreeing tables.
use mathlib.Core.Path.{◌≡◌, refl}
use mathlib.Core.List.{List}
use Prim.Native.Nat.{ℕ, ◌+◌, ◌≤◌}
use native.Mathlib.Omega.{arith}
use lib.ListN.{length}
use Rattle.rules.specs.Machine.{Tables}
use Rattle.rules.specs.Agreement.{Agrees}
use Rattle.rules.specs.Calls.{answered, timed_out, ticked_tables, tick}
use Rattle.rules.proofs.Invariants.FromTests.{agrees_facts}
use Rattle.rules.proofs.Invariants.Room.{timed_join}
use Rattle.tables.specs.Layout.{model_of}
use Rattle.tables.specs.Sizes.{Limited}
use Rattle.changes.specs.Tick.{TaskQueues}
use Rattle.calls.specs.Agreeing.{Agreeing}
use Rattle.calls.proofs.Agreeing.{tasks_few, slots_few, ready_few, queue_few, entry_tasks}

pub tick_done : (t : Tables) → tick t ≡ answered 0 0 (ticked_tables t)
unfolding tick
tick_done t = refl

pub limited : (t : Tables) → Agrees t → Limited t
limited t a = record { tasks = tasks_few t a; slots = slots_few t a; ready = ready_few t a; queues = λ i h. queue_few t a i }

-- there is room in the sequence for those whose wait ends
pub timed_room : (t : Tables) → Agrees t → length t.ready + length (timed_out t.tasks 1) ≤ 32
timed_room t a = omega (arith, tasks_few t a, timed_join t (agrees_facts t a))

pub task_queues : {bs : List ℕ} → Agreeing bs → TaskQueues bs
task_queues {bs} g =
    let t = model_of bs in
    record {
      model = t;
      same = g.same;
      limited = limited t g.agrees;
      numbers =
          λ i h. record {
            low = λ k l. (entry_tasks t g.agrees i k l).0;
            high = λ k l. omega (arith, (entry_tasks t g.agrees i k l).1, tasks_few t g.agrees);
          };
    }
