-- Machines as the definition shows them: a binary semaphore that is held, a wait for ever beside a free slot, a task that inherits, and a machine that
-- has not started.
use mathlib.Core.Path.{◌≡◌, refl}
use mathlib.Core.List.{List, [], ◌∷◌, ◌++◌}
use Prim.Native.Nat.{ℕ}
use Rattle.laws.specs.Choose.{choose}
use Rattle.laws.specs.Rows.{tabulate, rows}
use Rattle.rules.specs.declared.Task.{Task}
use Rattle.rules.specs.Machine.{Tables, free_slot, unstarted, lends_to, least_of, working_with, urgency, most_urgent, next}
use Rattle.line.specs.Print.{digits_before, decimal}
use Rattle.report.specs.Report.{spaced}
use Rattle.shown.specs.Shown.{tasks_text, counts_line, ending_text, ticks_text, wait_text, state_text, task_line, task_lines, sequence_line, class_text}
use Rattle.shown.specs.Shown.{order_text, maximum_text, owner_text, kind_text, holders_text, semaphore_line, slot_line, slot_lines, shown_text}

abbrev task : (priority answer awaited ticks : ℕ) → Task
task priority answer awaited ticks = record { priority = priority; answer = answer; awaited = awaited; ticks = ticks }

-- task 1 has the semaphore of slot 1 twice, and task 2 waits on it
abbrev held : Tables
held =
    record {
      tasks = task 3 0 0 0 ∷ task 5 100 65537 10 ∷ [];
      slots = record { generation = 1; live = 1; name = 7; attributes = 16; count = 0; owner = 1; nest = 2; maximum = 1; queue = 2 ∷ [] } ∷ [];
      ready = 1 ∷ [];
    }

abbrev held_text : List ℕ
held_text =
    -- tasks 2, slots 1, next task 1
    (116 ∷ 97 ∷ 115 ∷ 107 ∷ 115 ∷ 32 ∷ 50 ∷ 44 ∷ 32 ∷ 115 ∷ 108 ∷ 111 ∷ 116 ∷ 115 ∷ 32 ∷ 49 ∷ 44 ∷ 32 ∷ 110 ∷ 101 ∷ 120 ∷ 116 ∷ 32 ∷ 116 ∷ 97 ∷ 115 ∷ 107
    ∷ 32 ∷ 49 ∷ 10 ∷ [])
    -- task 1, priority 3: ready
    ++ (116 ∷ 97 ∷ 115 ∷ 107 ∷ 32 ∷ 49 ∷ 44 ∷ 32 ∷ 112 ∷ 114 ∷ 105 ∷ 111 ∷ 114 ∷ 105 ∷ 116 ∷ 121 ∷ 32 ∷ 51 ∷ 58 ∷ 32 ∷ 114 ∷ 101 ∷ 97 ∷ 100 ∷ 121 ∷ 10 ∷
    [])
    -- task 2, priority 5: waits on name 7 (65537), 10 ticks left
    ++ (116 ∷ 97 ∷ 115 ∷ 107 ∷ 32 ∷ 50 ∷ 44 ∷ 32 ∷ 112 ∷ 114 ∷ 105 ∷ 111 ∷ 114 ∷ 105 ∷ 116 ∷ 121 ∷ 32 ∷ 53 ∷ 58 ∷ 32 ∷ 119 ∷ 97 ∷ 105 ∷ 116 ∷ 115 ∷ 32 ∷
    111 ∷ 110 ∷ 32 ∷ 110 ∷ 97 ∷ 109 ∷ 101 ∷ 32 ∷ 55 ∷ 32 ∷ 40 ∷ 54 ∷ 53 ∷ 53 ∷ 51 ∷ 55 ∷ 41 ∷ 44 ∷ 32 ∷ 49 ∷ 48 ∷ 32 ∷ 116 ∷ 105 ∷ 99 ∷ 107 ∷ 115 ∷ 32 ∷
    108 ∷ 101 ∷ 102 ∷ 116 ∷ 10 ∷ [])
    -- ready, the longest first: 1
    ++ (114 ∷ 101 ∷ 97 ∷ 100 ∷ 121 ∷ 44 ∷ 32 ∷ 116 ∷ 104 ∷ 101 ∷ 32 ∷ 108 ∷ 111 ∷ 110 ∷ 103 ∷ 101 ∷ 115 ∷ 116 ∷ 32 ∷ 102 ∷ 105 ∷ 114 ∷ 115 ∷ 116 ∷ 58 ∷ 32
    ∷ 49 ∷ 10 ∷ [])
    -- semaphore 65537, name 7, binary, FIFO: count 0, owner 1, nest 2, waiting: 2
    ++ (115 ∷ 101 ∷ 109 ∷ 97 ∷ 112 ∷ 104 ∷ 111 ∷ 114 ∷ 101 ∷ 32 ∷ 54 ∷ 53 ∷ 53 ∷ 51 ∷ 55 ∷ 44 ∷ 32 ∷ 110 ∷ 97 ∷ 109 ∷ 101 ∷ 32 ∷ 55 ∷ 44 ∷ 32 ∷ 98 ∷ 105 ∷
    110 ∷ 97 ∷ 114 ∷ 121 ∷ 44 ∷ 32 ∷ 70 ∷ 73 ∷ 70 ∷ 79 ∷ 58 ∷ 32 ∷ 99 ∷ 111 ∷ 117 ∷ 110 ∷ 116 ∷ 32 ∷ 48 ∷ 44 ∷ 32 ∷ 111 ∷ 119 ∷ 110 ∷ 101 ∷ 114 ∷ 32 ∷ 49
    ∷ 44 ∷ 32 ∷ 110 ∷ 101 ∷ 115 ∷ 116 ∷ 32 ∷ 50 ∷ 44 ∷ 32 ∷ 119 ∷ 97 ∷ 105 ∷ 116 ∷ 105 ∷ 110 ∷ 103 ∷ 58 ∷ 32 ∷ 50 ∷ 10 ∷ [])

-- task 1 waits for ever on the semaphore of slot 2
abbrev waited : Tables
waited =
    record {
      tasks = task 1 100 131074 0 ∷ task 4 6 0 0 ∷ [];
      slots = free_slot 1 ∷ record { generation = 2; live = 1; name = 9; attributes = 4; count = 0; owner = 0; nest = 0; maximum = 12; queue = 1 ∷ [] } ∷ [];
      ready = 2 ∷ [];
    }

abbrev waited_text : List ℕ
waited_text =
    -- tasks 2, slots 2, next task 2
    (116 ∷ 97 ∷ 115 ∷ 107 ∷ 115 ∷ 32 ∷ 50 ∷ 44 ∷ 32 ∷ 115 ∷ 108 ∷ 111 ∷ 116 ∷ 115 ∷ 32 ∷ 50 ∷ 44 ∷ 32 ∷ 110 ∷ 101 ∷ 120 ∷ 116 ∷ 32 ∷ 116 ∷ 97 ∷ 115 ∷ 107
    ∷ 32 ∷ 50 ∷ 10 ∷ [])
    -- task 1, priority 1: waits on name 9 (131074), for ever
    ++ (116 ∷ 97 ∷ 115 ∷ 107 ∷ 32 ∷ 49 ∷ 44 ∷ 32 ∷ 112 ∷ 114 ∷ 105 ∷ 111 ∷ 114 ∷ 105 ∷ 116 ∷ 121 ∷ 32 ∷ 49 ∷ 58 ∷ 32 ∷ 119 ∷ 97 ∷ 105 ∷ 116 ∷ 115 ∷ 32 ∷
    111 ∷ 110 ∷ 32 ∷ 110 ∷ 97 ∷ 109 ∷ 101 ∷ 32 ∷ 57 ∷ 32 ∷ 40 ∷ 49 ∷ 51 ∷ 49 ∷ 48 ∷ 55 ∷ 52 ∷ 41 ∷ 44 ∷ 32 ∷ 102 ∷ 111 ∷ 114 ∷ 32 ∷ 101 ∷ 118 ∷ 101 ∷ 114
    ∷ 10 ∷ [])
    -- task 2, priority 4: ready, its last wait timed out
    ++ (116 ∷ 97 ∷ 115 ∷ 107 ∷ 32 ∷ 50 ∷ 44 ∷ 32 ∷ 112 ∷ 114 ∷ 105 ∷ 111 ∷ 114 ∷ 105 ∷ 116 ∷ 121 ∷ 32 ∷ 52 ∷ 58 ∷ 32 ∷ 114 ∷ 101 ∷ 97 ∷ 100 ∷ 121 ∷ 44 ∷
    32 ∷ 105 ∷ 116 ∷ 115 ∷ 32 ∷ 108 ∷ 97 ∷ 115 ∷ 116 ∷ 32 ∷ 119 ∷ 97 ∷ 105 ∷ 116 ∷ 32 ∷ 116 ∷ 105 ∷ 109 ∷ 101 ∷ 100 ∷ 32 ∷ 111 ∷ 117 ∷ 116 ∷ 10 ∷ [])
    -- ready, the longest first: 2
    ++ (114 ∷ 101 ∷ 97 ∷ 100 ∷ 121 ∷ 44 ∷ 32 ∷ 116 ∷ 104 ∷ 101 ∷ 32 ∷ 108 ∷ 111 ∷ 110 ∷ 103 ∷ 101 ∷ 115 ∷ 116 ∷ 32 ∷ 102 ∷ 105 ∷ 114 ∷ 115 ∷ 116 ∷ 58 ∷ 32
    ∷ 50 ∷ 10 ∷ [])
    -- semaphore 131074, name 9, counting, PRIORITY: count 0, maximum 12, waiting: 1
    ++ (115 ∷ 101 ∷ 109 ∷ 97 ∷ 112 ∷ 104 ∷ 111 ∷ 114 ∷ 101 ∷ 32 ∷ 49 ∷ 51 ∷ 49 ∷ 48 ∷ 55 ∷ 52 ∷ 44 ∷ 32 ∷ 110 ∷ 97 ∷ 109 ∷ 101 ∷ 32 ∷ 57 ∷ 44 ∷ 32 ∷ 99 ∷
    111 ∷ 117 ∷ 110 ∷ 116 ∷ 105 ∷ 110 ∷ 103 ∷ 44 ∷ 32 ∷ 80 ∷ 82 ∷ 73 ∷ 79 ∷ 82 ∷ 73 ∷ 84 ∷ 89 ∷ 58 ∷ 32 ∷ 99 ∷ 111 ∷ 117 ∷ 110 ∷ 116 ∷ 32 ∷ 48 ∷ 44 ∷ 32 ∷
    109 ∷ 97 ∷ 120 ∷ 105 ∷ 109 ∷ 117 ∷ 109 ∷ 32 ∷ 49 ∷ 50 ∷ 44 ∷ 32 ∷ 119 ∷ 97 ∷ 105 ∷ 116 ∷ 105 ∷ 110 ∷ 103 ∷ 58 ∷ 32 ∷ 49 ∷ 10 ∷ [])

-- task 3 waits on the inheritance semaphore that task 1 owns, so that task 1 comes before task 2
abbrev lent : Tables
lent =
    record {
      tasks = task 9 0 0 0 ∷ task 5 0 0 0 ∷ task 3 100 65537 0 ∷ [];
      slots = record { generation = 1; live = 1; name = 7; attributes = 84; count = 0; owner = 1; nest = 1; maximum = 1; queue = 3 ∷ [] } ∷ [];
      ready = 2 ∷ 1 ∷ [];
    }

abbrev lent_text : List ℕ
lent_text =
    -- tasks 3, slots 1, next task 1
    (116 ∷ 97 ∷ 115 ∷ 107 ∷ 115 ∷ 32 ∷ 51 ∷ 44 ∷ 32 ∷ 115 ∷ 108 ∷ 111 ∷ 116 ∷ 115 ∷ 32 ∷ 49 ∷ 44 ∷ 32 ∷ 110 ∷ 101 ∷ 120 ∷ 116 ∷ 32 ∷ 116 ∷ 97 ∷ 115 ∷ 107 ∷ 32
    ∷ 49 ∷ 10 ∷ [])
    -- task 1, priority 9: ready
    ++ (116 ∷ 97 ∷ 115 ∷ 107 ∷ 32 ∷ 49 ∷ 44 ∷ 32 ∷ 112 ∷ 114 ∷ 105 ∷ 111 ∷ 114 ∷ 105 ∷ 116 ∷ 121 ∷ 32 ∷ 57 ∷ 58 ∷ 32 ∷ 114 ∷ 101 ∷ 97 ∷ 100 ∷ 121 ∷ 10 ∷ [])
    -- task 2, priority 5: ready
    ++ (116 ∷ 97 ∷ 115 ∷ 107 ∷ 32 ∷ 50 ∷ 44 ∷ 32 ∷ 112 ∷ 114 ∷ 105 ∷ 111 ∷ 114 ∷ 105 ∷ 116 ∷ 121 ∷ 32 ∷ 53 ∷ 58 ∷ 32 ∷ 114 ∷ 101 ∷ 97 ∷ 100 ∷ 121 ∷ 10 ∷ [])
    -- task 3, priority 3: waits on name 7 (65537), for ever
    ++ (116 ∷ 97 ∷ 115 ∷ 107 ∷ 32 ∷ 51 ∷ 44 ∷ 32 ∷ 112 ∷ 114 ∷ 105 ∷ 111 ∷ 114 ∷ 105 ∷ 116 ∷ 121 ∷ 32 ∷ 51 ∷ 58 ∷ 32 ∷ 119 ∷ 97 ∷ 105 ∷ 116 ∷ 115 ∷ 32 ∷ 111 ∷
    110 ∷ 32 ∷ 110 ∷ 97 ∷ 109 ∷ 101 ∷ 32 ∷ 55 ∷ 32 ∷ 40 ∷ 54 ∷ 53 ∷ 53 ∷ 51 ∷ 55 ∷ 41 ∷ 44 ∷ 32 ∷ 102 ∷ 111 ∷ 114 ∷ 32 ∷ 101 ∷ 118 ∷ 101 ∷ 114 ∷ 10 ∷ [])
    -- ready, the longest first: 2 1
    ++ (114 ∷ 101 ∷ 97 ∷ 100 ∷ 121 ∷ 44 ∷ 32 ∷ 116 ∷ 104 ∷ 101 ∷ 32 ∷ 108 ∷ 111 ∷ 110 ∷ 103 ∷ 101 ∷ 115 ∷ 116 ∷ 32 ∷ 102 ∷ 105 ∷ 114 ∷ 115 ∷ 116 ∷ 58 ∷ 32 ∷
    50 ∷ 32 ∷ 49 ∷ 10 ∷ [])
    -- semaphore 65537, name 7, binary, PRIORITY, inheritance: count 0, owner 1, nest 1, waiting: 3
    ++ (115 ∷ 101 ∷ 109 ∷ 97 ∷ 112 ∷ 104 ∷ 111 ∷ 114 ∷ 101 ∷ 32 ∷ 54 ∷ 53 ∷ 53 ∷ 51 ∷ 55 ∷ 44 ∷ 32 ∷ 110 ∷ 97 ∷ 109 ∷ 101 ∷ 32 ∷ 55 ∷ 44 ∷ 32 ∷ 98 ∷ 105 ∷ 110
    ∷ 97 ∷ 114 ∷ 121 ∷ 44 ∷ 32 ∷ 80 ∷ 82 ∷ 73 ∷ 79 ∷ 82 ∷ 73 ∷ 84 ∷ 89 ∷ 44 ∷ 32 ∷ 105 ∷ 110 ∷ 104 ∷ 101 ∷ 114 ∷ 105 ∷ 116 ∷ 97 ∷ 110 ∷ 99 ∷ 101 ∷ 58 ∷ 32 ∷
    99 ∷ 111 ∷ 117 ∷ 110 ∷ 116 ∷ 32 ∷ 48 ∷ 44 ∷ 32 ∷ 111 ∷ 119 ∷ 110 ∷ 101 ∷ 114 ∷ 32 ∷ 49 ∷ 44 ∷ 32 ∷ 110 ∷ 101 ∷ 115 ∷ 116 ∷ 32 ∷ 49 ∷ 44 ∷ 32 ∷ 119 ∷ 97 ∷
    105 ∷ 116 ∷ 105 ∷ 110 ∷ 103 ∷ 58 ∷ 32 ∷ 51 ∷ 10 ∷ [])

abbrev unstarted_text : List ℕ
unstarted_text =
    -- tasks 0, slots 0, next task 0
    (116 ∷ 97 ∷ 115 ∷ 107 ∷ 115 ∷ 32 ∷ 48 ∷ 44 ∷ 32 ∷ 115 ∷ 108 ∷ 111 ∷ 116 ∷ 115 ∷ 32 ∷ 48 ∷ 44 ∷ 32 ∷ 110 ∷ 101 ∷ 120 ∷ 116 ∷ 32 ∷ 116 ∷ 97 ∷ 115 ∷ 107
    ∷ 32 ∷ 48 ∷ 10 ∷ [])
    -- ready, the longest first: nobody
    ++ (114 ∷ 101 ∷ 97 ∷ 100 ∷ 121 ∷ 44 ∷ 32 ∷ 116 ∷ 104 ∷ 101 ∷ 32 ∷ 108 ∷ 111 ∷ 110 ∷ 103 ∷ 101 ∷ 115 ∷ 116 ∷ 32 ∷ 102 ∷ 105 ∷ 114 ∷ 115 ∷ 116 ∷ 58 ∷ 32
    ∷ 110 ∷ 111 ∷ 98 ∷ 111 ∷ 100 ∷ 121 ∷ 10 ∷ [])

worked : (shown_text held ≡ held_text) × (shown_text waited ≡ waited_text) × (shown_text lent ≡ lent_text) × (shown_text unstarted ≡ unstarted_text)
unfolding shown_text counts_line task_lines task_line state_text wait_text ending_text ticks_text sequence_line slot_lines slot_line
    semaphore_line kind_text holders_text class_text order_text maximum_text owner_text tasks_text spaced digits_before decimal lends_to least_of working_with urgency
    most_urgent next choose tabulate rows
worked = (refl, refl, refl, refl)
