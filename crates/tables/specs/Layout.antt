-- The tables as words, and back. docs/LAYOUT.md has the same numbers: word 0 is N and word 1 is S; task i (from 0) has the 4 words from 2 + 4 i on,
-- slot i the 41 words from 130 + 41 i on, the last 32 of them its queue; word 2754 is the length of the sequence of ready tasks, and its 32 places follow.
use Rattle.std.specs.Prelude.{Bool, List, ◌∷◌, ◌++◌, map, ℕ, ◌+◌, ◌*◌, leb, eqb, length, get_or, take}
use Rattle.laws.specs.Choose.{◌and◌}
use Rattle.laws.specs.All.{all}
use Rattle.laws.specs.Rows.{fit, tabulate, rows}
use Rattle.words.specs.Words.{bytes_of, word_at, blank}
use Rattle.rules.specs.declared.Task.{Task}
use Rattle.rules.specs.Numbers.{max_tasks, max_slots}
use Rattle.rules.specs.Machine.{Slot, Tables, no_task, free_slot}
use Rattle.semaphore.specs.declared.Semaphore.{Semaphore}
use Rattle.semaphore.specs.Record.{slot_from}
use Rattle.tables.specs.declared.Head.{Head}
use Rattle.tables.specs.Codec.{task_row, task_from, record_from, slot_row}

-- 2787 words of four bytes
abbrev pub tables_length : ℕ
tables_length = 11148

abbrev pub task_place : ℕ → ℕ
task_place i = 2 + 4 * i

abbrev pub slot_place : ℕ → ℕ
slot_place i = 130 + 41 * i

-- the length of the sequence of ready tasks, and its places
abbrev pub ready_place : ℕ
ready_place = 2754

abbrev pub sequence_place : ℕ → ℕ
sequence_place k = 2755 + k

-- ---- from tables to bytes: places for all tasks, slots and ready tasks, those beyond N, S and the sequence's length all 0

unfoldable pub layout : Tables → List ℕ
layout t =
    length t.tasks ∷ length t.slots
    ∷ rows (map task_row (fit max_tasks no_task t.tasks)) ++ rows (map slot_row (fit max_slots (free_slot 0) t.slots))
    ++ length t.ready ∷ fit max_tasks 0 t.ready

unfoldable pub laid : Tables → List ℕ
laid t = bytes_of (layout t)

-- ---- from bytes to tables

-- n words from index `at` on
abbrev pub row_at : List ℕ → ℕ → ℕ → List ℕ
row_at bs at n = tabulate n (λ k. word_at bs (at + k))

unfoldable pub task_at : List ℕ → ℕ → Task
task_at bs i = task_from (row_at bs (task_place i) 4)

-- a slot's record, with all 32 places of its queue
unfoldable pub record_at : List ℕ → ℕ → Semaphore
record_at bs i = record_from (row_at bs (slot_place i) 41)

-- all 32 places of the sequence of ready tasks
unfoldable pub sequence_at : List ℕ → List ℕ
sequence_at bs = row_at bs (sequence_place 0) 32

-- the words of a slot before its queue
abbrev pub head_of : Semaphore → Head
head_of s =
    record {
      generation = s.generation;
      live = s.live;
      name = s.name;
      attributes = s.attributes;
      count = s.count;
      owner = s.owner;
      nest = s.nest;
      maximum = s.maximum;
      waiters = s.waiters;
    }

-- the slot that they make with a queue
abbrev pub slot_with : Head → List ℕ → Slot
slot_with s queue =
    record {
      generation = s.generation;
      live = s.live;
      name = s.name;
      attributes = s.attributes;
      count = s.count;
      owner = s.owner;
      nest = s.nest;
      maximum = s.maximum;
      queue = queue;
    }

-- the queue of slot i, counted from 0
abbrev pub queue_of : Tables → ℕ → List ℕ
queue_of t i = (get_or t.slots i (free_slot 0)).queue

unfoldable pub model_of : List ℕ → Tables
model_of bs =
    record {
      tasks = tabulate (word_at bs 0) (task_at bs);
      slots = tabulate (word_at bs 1) (λ i. slot_from (record_at bs i));
      ready = take (word_at bs ready_place) (sequence_at bs);
    }

-- ---- the test: bytes are some tables' layout

-- a slot's queue is within its 32 places, and 0 behind its waiters
unfoldable pub is_queue_laid : List ℕ → ℕ → Bool
is_queue_laid bs i =
    leb (record_at bs i).waiters max_tasks and blank bs (slot_place i + 9 + (record_at bs i).waiters) (slot_place i + 41)

-- the sequence of ready tasks is within its 32 places, and 0 behind its length
unfoldable pub is_sequence_laid : List ℕ → Bool
is_sequence_laid bs = leb (word_at bs ready_place) max_tasks and blank bs (sequence_place (word_at bs ready_place)) 2787

unfoldable pub is_laid : List ℕ → Bool
is_laid bs =
    eqb (length bs) tables_length
    and leb (word_at bs 0) max_tasks
    and leb (word_at bs 1) max_slots
    and blank bs (task_place (word_at bs 0)) 130
    and all (word_at bs 1) (is_queue_laid bs)
    and blank bs (slot_place (word_at bs 1)) ready_place
    and is_sequence_laid bs
