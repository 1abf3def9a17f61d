-- What `mast-state show` prints of a machine: a line of counts, a line of each task, the ready tasks in their order, and a line of each semaphore.
use Rattle.std.specs.Prelude.{List, [], ◌∷◌, ◌++◌, ℕ, suc, ◌%◌, eqb, length, codes}
use Rattle.laws.specs.Choose.{choose}
use Rattle.laws.specs.Rows.{tabulate, rows}
use Rattle.rules.specs.declared.Task.{Task}
use Rattle.rules.specs.Numbers.{timeout, object_was_deleted, unsatisfied, by_priority, is_binary, inherits, is_simple}
use Rattle.rules.specs.Machine.{Slot, Tables, task_of, slot_of, waits, is_live, id_of, next}
use Rattle.line.specs.Print.{decimal}
use Rattle.report.specs.Report.{spaced}

-- ---- the phrases

abbrev pub tasks_phrase : List ℕ
tasks_phrase = codes "tasks "

abbrev pub slots_phrase : List ℕ
slots_phrase = codes ", slots "

abbrev pub next_phrase : List ℕ
next_phrase = codes ", next task "

abbrev pub task_phrase : List ℕ
task_phrase = codes "task "

abbrev pub priority_phrase : List ℕ
priority_phrase = codes ", priority "

abbrev pub ready_phrase : List ℕ
ready_phrase = codes ": ready"

abbrev pub timed_out_phrase : List ℕ
timed_out_phrase = codes ", its last wait timed out"

abbrev pub deleted_phrase : List ℕ
deleted_phrase = codes ", what it last waited on was deleted"

abbrev pub flushed_phrase : List ℕ
flushed_phrase = codes ", its last wait was flushed"

abbrev pub waits_phrase : List ℕ
waits_phrase = codes ": waits on name "

abbrev pub id_phrase : List ℕ
id_phrase = codes " ("

abbrev pub close_phrase : List ℕ
close_phrase = codes "), "

abbrev pub for_ever_phrase : List ℕ
for_ever_phrase = codes "for ever"

abbrev pub ticks_phrase : List ℕ
ticks_phrase = codes " ticks left"

abbrev pub sequence_phrase : List ℕ
sequence_phrase = codes "ready, the longest first:"

abbrev pub nobody_phrase : List ℕ
nobody_phrase = codes " nobody"

abbrev pub semaphore_phrase : List ℕ
semaphore_phrase = codes "semaphore "

abbrev pub name_phrase : List ℕ
name_phrase = codes ", name "

abbrev pub binary_phrase : List ℕ
binary_phrase = codes ", binary"

abbrev pub simple_phrase : List ℕ
simple_phrase = codes ", simple binary"

abbrev pub counting_phrase : List ℕ
counting_phrase = codes ", counting"

abbrev pub fifo_phrase : List ℕ
fifo_phrase = codes ", FIFO: count "

abbrev pub order_phrase : List ℕ
order_phrase = codes ", PRIORITY: count "

abbrev pub inheritance_phrase : List ℕ
inheritance_phrase = codes ", PRIORITY, inheritance: count "

abbrev pub no_owner_phrase : List ℕ
no_owner_phrase = codes ", no owner"

abbrev pub owner_phrase : List ℕ
owner_phrase = codes ", owner "

abbrev pub nest_phrase : List ℕ
nest_phrase = codes ", nest "

abbrev pub maximum_phrase : List ℕ
maximum_phrase = codes ", maximum "

abbrev pub waiting_phrase : List ℕ
waiting_phrase = codes ", waiting:"

abbrev pub newline : List ℕ
newline = 10 ∷ []

-- a phrase, and a number behind it
abbrev pub numbered : List ℕ → ℕ → List ℕ
numbered phrase n = phrase ++ decimal n

-- numbers behind a space each, or nobody
unfoldable pub tasks_text : List ℕ → List ℕ
tasks_text qs = choose (eqb (length qs) 0) nobody_phrase (spaced qs)

-- ---- the counts, and the next task

unfoldable pub counts_line : Tables → List ℕ
counts_line t = numbered tasks_phrase (length t.tasks) ++ numbered slots_phrase (length t.slots) ++ numbered next_phrase (next t) ++ newline

-- ---- a task

-- how its latest wait ended, where it was not by what it waited on
unfoldable pub ending_text : ℕ → List ℕ
ending_text answer =
    choose (eqb answer timeout) timed_out_phrase (choose (eqb answer object_was_deleted) deleted_phrase (choose (eqb answer unsatisfied) flushed_phrase []))

-- 0 ticks left is for ever
unfoldable pub ticks_text : ℕ → List ℕ
ticks_text ticks = choose (eqb ticks 0) for_ever_phrase (decimal ticks ++ ticks_phrase)

-- the name of what it waits on, its identifier, and the ticks left
unfoldable pub wait_text : Tables → Task → List ℕ
wait_text t v =
    numbered waits_phrase (slot_of t (v.awaited % 65536)).name ++ numbered id_phrase v.awaited ++ close_phrase ++ ticks_text v.ticks

unfoldable pub state_text : Tables → Task → List ℕ
state_text t v = choose (waits v) (wait_text t v) (ready_phrase ++ ending_text v.answer)

unfoldable pub task_line : Tables → ℕ → List ℕ
task_line t q = numbered task_phrase q ++ numbered priority_phrase (task_of t q).priority ++ state_text t (task_of t q) ++ newline

unfoldable pub task_lines : Tables → List ℕ
task_lines t = rows (tabulate (length t.tasks) (λ i. task_line t (suc i)))

unfoldable pub sequence_line : Tables → List ℕ
sequence_line t = sequence_phrase ++ tasks_text t.ready ++ newline

-- ---- a semaphore

unfoldable pub class_text : ℕ → List ℕ
class_text a = choose (is_binary a) binary_phrase (choose (is_simple a) simple_phrase counting_phrase)

unfoldable pub order_text : ℕ → List ℕ
order_text a = choose (inherits a) inheritance_phrase (choose (by_priority a) order_phrase fifo_phrase)

-- of a counting semaphore alone: that of both binary classes is 1
unfoldable pub maximum_text : Slot → List ℕ
maximum_text s =
    choose (is_binary s.attributes) [] (choose (is_simple s.attributes) [] (numbered maximum_phrase s.maximum))

-- of a binary semaphore alone
unfoldable pub owner_text : Slot → List ℕ
owner_text s =
    choose (is_binary s.attributes)
    (choose (eqb s.owner 0) no_owner_phrase (numbered owner_phrase s.owner ++ numbered nest_phrase s.nest)) []

-- its identifier, its name, its class, its order, its count and its maximum
unfoldable pub kind_text : ℕ → Slot → List ℕ
kind_text n s =
    numbered semaphore_phrase (id_of n s) ++ numbered name_phrase s.name ++ class_text s.attributes ++ order_text s.attributes
    ++ decimal s.count ++ maximum_text s

-- who owns it, and who waits on it
unfoldable pub holders_text : Slot → List ℕ
holders_text s = owner_text s ++ waiting_phrase ++ tasks_text s.queue ++ newline

unfoldable pub semaphore_line : ℕ → Slot → List ℕ
semaphore_line n s = kind_text n s ++ holders_text s

-- a free slot has no line
unfoldable pub slot_line : Tables → ℕ → List ℕ
slot_line t n = choose (is_live (slot_of t n)) (semaphore_line n (slot_of t n)) []

unfoldable pub slot_lines : Tables → List ℕ
slot_lines t = rows (tabulate (length t.slots) (λ i. slot_line t (suc i)))

-- ---- all of it

unfoldable pub shown_text : Tables → List ℕ
shown_text t = counts_line t ++ task_lines t ++ sequence_line t ++ slot_lines t

-- bytes that are enough for any machine that agrees: the counts take 57 at most, a task 99, the sequence 378 and a semaphore 511
abbrev pub show_room : ℕ
show_room = 36864
