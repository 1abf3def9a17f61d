-- The test for 25 in the order of the code: one pass over the slots and one over the sequence of ready tasks, which mark the tasks that stand in them,
-- and one over the tasks.
-- What is asked of a task or a slot is cited from crates/rules/specs/Agreement.antt.
use Rattle.std.specs.Prelude.{◌≡◌, Bool, true, false, List, [], ℕ, zero, suc, pred, leb, eqb, length, get_or, set, replicate, Option, Some, None}
use Rattle.laws.specs.Choose.{choose, ◌and◌, isnt, when}
use Rattle.laws.specs.All.{all}
use Rattle.rules.specs.declared.Task.{Task}
use Rattle.rules.specs.Numbers.{max_priority, max_generation, within, allowed, is_binary, is_simple}
use Rattle.rules.specs.Machine.{Slot, Tables, task_of, slot_of, waits, is_live, id_of}
use Rattle.rules.specs.Semaphore.{requeued}
use Rattle.rules.specs.Agreement.{is_ending, is_at_rest, is_named_right, is_zero_where_queued, is_binary_right, is_clear, sizes_fit}

-- what a pass answers and leaves: the marks are told where the test holds
pub record Marked (agrees : Bool) (after : List Bool) (r : Bool) (seen : List Bool) : Type 0 where
  pub answer : r ≡ agrees
  pub marks : r ≡ true → seen ≡ after

-- ---- a queue

-- the marks with those of the tasks at the first k places
unfoldable pub seen_at : List Bool → List ℕ → ℕ → List Bool
seen_at seen queue zero = seen
seen_at seen queue (suc k) = set (seen_at seen queue k) (pred (get_or queue k 0)) true

-- a task of the N, who is not the owner
abbrev pub is_apart : ℕ → ℕ → ℕ → Bool
is_apart N owner q = within 1 N q and isnt (eqb q owner)

-- a task may stand in the queue of the semaphore of that identifier, or with none in the sequence of ready tasks
abbrev pub stands : Option ℕ → Task → Bool
stands (Some id) v = waits v and eqb v.awaited id
stands None v = isnt (waits v)

-- the number at a place, with the marks of the places before it
unfoldable pub number_agrees : Tables → List Bool → ℕ → Option ℕ → ℕ → Bool
number_agrees t seen owner awaited q =
    is_apart (length t.tasks) owner q and isnt (get_or seen (pred q) false) and stands awaited (task_of t q)

abbrev pub NumberTested : Tables → List Bool → ℕ → Option ℕ → ℕ → Bool → List Bool → Type 0
NumberTested t seen owner awaited q r after = Marked (number_agrees t seen owner awaited q) (set seen (pred q) true) r after

-- the place k of a queue whose semaphore has that owner, or with owner 0 of the sequence
unfoldable pub place_agrees : Tables → List Bool → ℕ → Option ℕ → List ℕ → ℕ → Bool
place_agrees t seen owner awaited queue k = number_agrees t (seen_at seen queue k) owner awaited (get_or queue k 0)

unfoldable pub queue_agrees : Tables → List Bool → ℕ → Slot → Bool
queue_agrees t seen id s = all (length s.queue) (place_agrees t seen s.owner (Some id) s.queue)

abbrev pub QueueTested : Tables → List Bool → ℕ → Slot → Bool → List Bool → Type 0
QueueTested t seen id s r after = Marked (queue_agrees t seen id s) (seen_at seen s.queue (length s.queue)) r after

-- ---- a slot

-- of a counting or simple binary semaphore, with its maximum
abbrev pub other_agrees : Slot → Bool
other_agrees s =
    eqb s.owner 0 and eqb s.nest 0
    and choose (is_simple s.attributes) (eqb s.maximum 1 and leb s.count 1) (leb 1 s.maximum and leb s.count s.maximum)

-- count, owner, nest and maximum by the class, which is looked at once; that its owner is not in its queue is tested with the queue
abbrev pub class_agrees : ℕ → Slot → Bool
class_agrees N s = choose (is_binary s.attributes) (eqb s.maximum 1 and is_binary_right N (requeued s [])) (other_agrees s)

-- the numbers of a live semaphore
unfoldable pub head_agrees : ℕ → Slot → Bool
head_agrees N s =
    is_named_right s and allowed s.attributes and class_agrees N s and is_zero_where_queued s

unfoldable pub slot_agrees : Tables → List Bool → ℕ → Slot → Bool
slot_agrees t seen n s =
    leb s.generation max_generation
    and choose (is_live s) (head_agrees (length t.tasks) s and queue_agrees t seen (id_of n s) s) (eqb s.live 0 and is_clear s)

-- the marks with those of a slot's queue, if it is live
unfoldable pub seen_with : List Bool → Slot → List Bool
seen_with seen s = choose (is_live s) (seen_at seen s.queue (length s.queue)) seen

abbrev pub SlotTested : Tables → List Bool → ℕ → Slot → Bool → List Bool → Type 0
SlotTested t seen n s r after = Marked (slot_agrees t seen n s) (seen_with seen s) r after

-- ---- a task, and whether it is marked

unfoldable pub task_agrees : Bool → Task → Bool
task_agrees seen v = within 1 max_priority v.priority and seen and when (isnt (waits v)) (is_ending v.answer and is_at_rest v)

-- ---- the tables

-- the marks of the first i slots
unfoldable pub seen_below : Tables → ℕ → List Bool
seen_below t zero = replicate 32 false
seen_below t (suc i) = seen_with (seen_below t i) (slot_of t (suc i))

unfoldable pub slots_agree : Tables → Bool
slots_agree t = all (length t.slots) (λ i. slot_agrees t (seen_below t i) (suc i) (slot_of t (suc i)))

abbrev pub SlotsTested : Tables → Bool → List Bool → Type 0
SlotsTested t r after = Marked (slots_agree t) (seen_below t (length t.slots)) r after

unfoldable pub sequence_agrees : Tables → List Bool → Bool
sequence_agrees t seen = all (length t.ready) (place_agrees t seen 0 None t.ready)

abbrev pub SequenceTested : Tables → List Bool → Bool → List Bool → Type 0
SequenceTested t seen r after = Marked (sequence_agrees t seen) (seen_at seen t.ready (length t.ready)) r after

-- the marks of all slots and of the sequence
abbrev pub seen_all : Tables → List Bool
seen_all t = seen_at (seen_below t (length t.slots)) t.ready (length t.ready)

unfoldable pub tasks_agree : Tables → Bool
tasks_agree t = all (length t.tasks) (λ i. task_agrees (get_or (seen_all t) i false) (task_of t (suc i)))

unfoldable pub tables_agree : Tables → Bool
tables_agree t = sizes_fit t and slots_agree t and sequence_agrees t (seen_below t (length t.slots)) and tasks_agree t
