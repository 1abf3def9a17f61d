-- A task, a slot's head and a slot as rows of words, and back. Where a row stands in the tables, Layout.antt says.
use Rattle.std.specs.Prelude.{List, [], ◌∷◌, ℕ, get_or, drop}
use Rattle.rules.specs.declared.Task.{Task}
use Rattle.rules.specs.Machine.{Slot}
use Rattle.semaphore.specs.declared.Semaphore.{Semaphore}
use Rattle.tables.specs.declared.Head.{Head}
use Rattle.semaphore.specs.Record.{record_of}

abbrev pub task_row : Task → List ℕ
task_row v = v.priority ∷ v.answer ∷ v.awaited ∷ v.ticks ∷ []

abbrev pub task_from : List ℕ → Task
task_from ws = record { priority = get_or ws 0 0; answer = get_or ws 1 0; awaited = get_or ws 2 0; ticks = get_or ws 3 0 }

-- the words of a slot before its queue
abbrev pub head_row : Head → List ℕ
head_row s = s.generation ∷ s.live ∷ s.name ∷ s.attributes ∷ s.count ∷ s.owner ∷ s.nest ∷ s.maximum ∷ s.waiters ∷ []

abbrev pub head_from : List ℕ → Head
head_from ws =
    record {
      generation = get_or ws 0 0;
      live = get_or ws 1 0;
      name = get_or ws 2 0;
      attributes = get_or ws 3 0;
      count = get_or ws 4 0;
      owner = get_or ws 5 0;
      nest = get_or ws 6 0;
      maximum = get_or ws 7 0;
      waiters = get_or ws 8 0;
    }

-- a slot's numbers, how many wait, and all 32 places of its queue
abbrev pub record_row : Semaphore → List ℕ
record_row s = s.generation ∷ s.live ∷ s.name ∷ s.attributes ∷ s.count ∷ s.owner ∷ s.nest ∷ s.maximum ∷ s.waiters ∷ s.queue

abbrev pub record_from : List ℕ → Semaphore
record_from ws =
    record {
      generation = get_or ws 0 0;
      live = get_or ws 1 0;
      name = get_or ws 2 0;
      attributes = get_or ws 3 0;
      count = get_or ws 4 0;
      owner = get_or ws 5 0;
      nest = get_or ws 6 0;
      maximum = get_or ws 7 0;
      waiters = get_or ws 8 0;
      queue = drop 9 ws;
    }

abbrev pub slot_row : Slot → List ℕ
slot_row s = record_row (record_of s)
