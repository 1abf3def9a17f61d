-- The bytes that a machine's text takes: a number has at most ten digits.
use mathlib.Core.Bool.{Bool}
use mathlib.Core.List.{List, [], ◌++◌}
use Prim.Native.Nat.{ℕ, suc, pred, ◌+◌, ◌*◌, ◌≤◌}
use native.Mathlib.Omega.{arith}
use lib.Dec.{eqb}
use lib.ListN.{length, length-append}
use Rattle.laws.specs.Choose.{choose}
use Rattle.laws.proofs.Choose.{choose_cases}
use Rattle.rules.specs.declared.Task.{Task}
use Rattle.rules.specs.Numbers.{timeout, object_was_deleted, unsatisfied, by_priority, is_binary, inherits, is_simple}
use Rattle.rules.specs.Machine.{Slot, Tables, slot_of, task_of, waits, is_live}
use Rattle.rules.specs.Agreement.{Agrees}
use Rattle.calls.proofs.Agreeing.{tasks_few, slots_few, ready_few, queue_few}
use Rattle.line.specs.Print.{decimal}
use Rattle.report.proofs.Room.{digits, spaced_room, rows_room}
use Rattle.shown.specs.Shown.{newline, tasks_text, counts_line, ending_text, ticks_text, wait_text, state_text, task_line, task_lines, sequence_line}
use Rattle.shown.specs.Shown.{class_text, order_text, maximum_text, owner_text, kind_text, holders_text, semaphore_line, slot_line, slot_lines}
use Rattle.shown.specs.Shown.{shown_text, show_room}
use Rattle.shown.specs.Shown.{tasks_phrase, slots_phrase, next_phrase, task_phrase, priority_phrase, ready_phrase, timed_out_phrase, deleted_phrase}
use Rattle.shown.specs.Shown.{flushed_phrase, waits_phrase, id_phrase, close_phrase, for_ever_phrase, ticks_phrase, sequence_phrase, nobody_phrase}
use Rattle.shown.specs.Shown.{semaphore_phrase, name_phrase, binary_phrase, simple_phrase, counting_phrase, fifo_phrase, order_phrase, no_owner_phrase}
use Rattle.shown.specs.Shown.{inheritance_phrase, owner_phrase, nest_phrase, maximum_phrase, waiting_phrase}

infixl 20 ◌behind◌
-- a text of at most k bytes
record Short (k : ℕ) (text : List ℕ) : Type 0 where
  most : length text ≤ k

◌behind◌ : {j k : ℕ} {xs ys : List ℕ} → Short j xs → Short k ys → Short (j + k) (xs ++ ys)
◌behind◌ {j} {k} {xs} {ys} a b = record { most = omega (arith, length-append xs ys, a.most, b.most) }

phrase : (text : List ℕ) (k : ℕ) → length text ≤ k → Short k text
phrase text k h = record { most = h }

number : (n : ℕ) → Short 10 (decimal n)
number n = record { most = digits n }

-- the longer of two texts
either : {k : ℕ} (t : Bool) {xs ys : List ℕ} → Short k xs → Short k ys → Short k (choose t xs ys)
either {k} t {xs} {ys} a b = choose_cases (Short k) t xs ys (λ _. a) (λ _. b)

longer : {j : ℕ} (k : ℕ) {text : List ℕ} → j ≤ k → Short j text → Short k text
longer {j} k h a = record { most = omega (arith, a.most) }

tasks_room : (qs : List ℕ) → length qs ≤ 32 → Short 352 (tasks_text qs)
unfolding tasks_text
tasks_room qs h = either (eqb (length qs) 0) (phrase nobody_phrase 352 (omega arith)) (record { most = omega (arith, spaced_room qs) })

counts_room : (t : Tables) → Short 57 (counts_line t)
unfolding counts_line
counts_room t =
    (phrase tasks_phrase 6 (omega arith) behind number _) behind (phrase slots_phrase 8 (omega arith) behind number _)
    behind (phrase next_phrase 12 (omega arith) behind number _)
    behind phrase newline 1 (omega arith)

-- ---- a task

ending_room : (a : ℕ) → Short 36 (ending_text a)
unfolding ending_text
ending_room a =
    either (eqb a timeout) (phrase timed_out_phrase 36 (omega arith))
    (either (eqb a object_was_deleted) (phrase deleted_phrase 36 (omega arith))
    (either (eqb a unsatisfied) (phrase flushed_phrase 36 (omega arith)) (phrase [] 36 (omega arith))))

ticks_room : (ticks : ℕ) → Short 21 (ticks_text ticks)
unfolding ticks_text
ticks_room ticks = either (eqb ticks 0) (phrase for_ever_phrase 21 (omega arith)) (number ticks behind phrase ticks_phrase 11 (omega arith))

wait_room : (t : Tables) (v : Task) → Short 62 (wait_text t v)
unfolding wait_text
wait_room t v =
    (phrase waits_phrase 16 (omega arith) behind number _) behind (phrase id_phrase 2 (omega arith) behind number _)
    behind phrase close_phrase 3 (omega arith)
    behind ticks_room v.ticks

state_room : (t : Tables) (v : Task) → Short 62 (state_text t v)
unfolding state_text
state_room t v = either (waits v) (wait_room t v) (longer 62 (omega arith) (phrase ready_phrase 7 (omega arith) behind ending_room v.answer))

task_room : (t : Tables) (q : ℕ) → Short 99 (task_line t q)
unfolding task_line
task_room t q =
    (phrase task_phrase 5 (omega arith) behind number _) behind (phrase priority_phrase 11 (omega arith) behind number _)
    behind state_room t (task_of t q)
    behind phrase newline 1 (omega arith)

-- ---- a semaphore

class_room : (a : ℕ) → Short 15 (class_text a)
unfolding class_text
class_room a =
    either (is_binary a) (phrase binary_phrase 15 (omega arith))
    (either (is_simple a) (phrase simple_phrase 15 (omega arith)) (phrase counting_phrase 15 (omega arith)))

order_room : (a : ℕ) → Short 31 (order_text a)
unfolding order_text
order_room a =
    either (inherits a) (phrase inheritance_phrase 31 (omega arith))
    (either (by_priority a) (phrase order_phrase 31 (omega arith)) (phrase fifo_phrase 31 (omega arith)))

owner_room : (s : Slot) → Short 35 (owner_text s)
unfolding owner_text
owner_room s =
    either (is_binary s.attributes)
    (either (eqb s.owner 0) (phrase no_owner_phrase 35 (omega arith))
    ((phrase owner_phrase 8 (omega arith) behind number _) behind (phrase nest_phrase 7 (omega arith) behind number _)))
    (phrase [] 35 (omega arith))

maximum_room : (s : Slot) → Short 20 (maximum_text s)
unfolding maximum_text
maximum_room s =
    either (is_binary s.attributes) (phrase [] 20 (omega arith))
    (either (is_simple s.attributes) (phrase [] 20 (omega arith)) (phrase maximum_phrase 10 (omega arith) behind number _))

kind_room : (n : ℕ) (s : Slot) → Short 113 (kind_text n s)
unfolding kind_text
kind_room n s =
    (phrase semaphore_phrase 10 (omega arith) behind number _) behind (phrase name_phrase 7 (omega arith) behind number _)
    behind class_room s.attributes
    behind order_room s.attributes
    behind number s.count
    behind maximum_room s

holders_room : (s : Slot) → length s.queue ≤ 32 → Short 398 (holders_text s)
unfolding holders_text
holders_room s h = owner_room s behind phrase waiting_phrase 10 (omega arith) behind tasks_room s.queue h behind phrase newline 1 (omega arith)

slot_room : (t : Tables) → Agrees t → (n : ℕ) → Short 511 (slot_line t n)
unfolding slot_line semaphore_line
slot_room t a n =
    either (is_live (slot_of t n)) (kind_room n (slot_of t n) behind holders_room (slot_of t n) (queue_few t a (pred n))) (phrase [] 511 (omega arith))

-- ---- all of it

module _ (t : Tables) (a : Agrees t) where
  task_lines_lem : Short (99 * length t.tasks) (task_lines t)
  unfolding task_lines
  task_lines_lem = record { most = rows_room 99 (length t.tasks) (λ i. task_line t (suc i)) (λ i. (task_room t (suc i)).most) }

  sequence_room : Short 378 (sequence_line t)
  unfolding sequence_line
  sequence_room = phrase sequence_phrase 25 (omega arith) behind tasks_room t.ready (ready_few t a) behind phrase newline 1 (omega arith)

  slot_lines_lem : Short (511 * length t.slots) (slot_lines t)
  unfolding slot_lines
  slot_lines_lem = record { most = rows_room 511 (length t.slots) (λ i. slot_line t (suc i)) (λ i. (slot_room t a (suc i)).most) }

  pub shown_room : length (shown_text t) ≤ show_room
  unfolding shown_text
  shown_room =
      let all = counts_room t behind task_lines_lem behind sequence_room behind slot_lines_lem in
      omega (arith, all.most, tasks_few t a, slots_few t a)
