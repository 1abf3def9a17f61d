-- A small machine as a file, number by number, and files that are none.
use mathlib.Core.Path.{◌≡◌, refl}
use mathlib.Core.Bool.{Bool, true, false}
use mathlib.Core.List.{List, [], ◌∷◌, ◌++◌}
use Prim.Native.Nat.{ℕ}
use lib.ListN.{set, take}
use Rattle.laws.specs.Choose.{choose}
use Rattle.laws.specs.All.{all}
use Rattle.laws.specs.Rows.{tabulate, rows}
use Rattle.words.specs.Words.{bytes_of, word_at}
use Rattle.rules.specs.Machine.{Tables, unstarted, free_slot}
use Rattle.rules.specs.Agreement.{occurs, sizes_fit, numbers_fit, answers_fit, live_named, attributes_allowed, waiters_queued, queues_wait}
use Rattle.rules.specs.Agreement.{queued_at_zero, binaries_right, others_right, maxima_right, ready_at_rest, free_slots_clear, ready_sequenced, sequence_ready, agrees}
use Rattle.state.specs.File.{first_edition, second_edition, listed, state_numbers, edition_file, state_file}
use Rattle.state.specs.Reading.{slot_numbers, slots_in, tasks_from, slots_from, tables_in, same, is_state}

-- task 1 waits three ticks for the semaphore that task 2 owns; the second slot has been used and freed
abbrev pub machine : Tables
machine = record {
  tasks =
      record { priority = 10; answer = 100; awaited = 65537; ticks = 3 }
      ∷ record { priority = 20; answer = 0; awaited = 0; ticks = 0 } ∷ [];
  slots =
      record { generation = 1; live = 1; name = 77; attributes = 20; count = 0; owner = 2; nest = 1; maximum = 1; queue = 1 ∷ [] }
      ∷ free_slot 5 ∷ [];
  ready = 2 ∷ [];
}

abbrev pub numbers : List ℕ
numbers =
    2 ∷ 4 ∷ 1 ∷ 56 ∷ 32 ∷ 2 ∷ 88 ∷ 64 ∷ 3 ∷ 152 ∷ 12 ∷ 4 ∷ 164 ∷ 4
    ∷ 10 ∷ 100 ∷ 65537 ∷ 3 ∷ 20 ∷ 0 ∷ 0 ∷ 0
    ∷ 1 ∷ 1 ∷ 77 ∷ 20 ∷ 0 ∷ 2 ∷ 1 ∷ 1 ∷ 5 ∷ 0 ∷ 0 ∷ 0 ∷ 0 ∷ 0 ∷ 0 ∷ 0
    ∷ 1 ∷ 1 ∷ 0
    ∷ 2 ∷ []

-- the same in edition 1, without the maxima
abbrev pub first_numbers : List ℕ
first_numbers =
    1 ∷ 4 ∷ 1 ∷ 56 ∷ 32 ∷ 2 ∷ 88 ∷ 56 ∷ 3 ∷ 144 ∷ 12 ∷ 4 ∷ 156 ∷ 4
    ∷ 10 ∷ 100 ∷ 65537 ∷ 3 ∷ 20 ∷ 0 ∷ 0 ∷ 0
    ∷ 1 ∷ 1 ∷ 77 ∷ 20 ∷ 0 ∷ 2 ∷ 1 ∷ 5 ∷ 0 ∷ 0 ∷ 0 ∷ 0 ∷ 0 ∷ 0
    ∷ 1 ∷ 1 ∷ 0
    ∷ 2 ∷ []

pub file_of_machine : (state_numbers second_edition machine ≡ numbers) × (state_numbers first_edition machine ≡ first_numbers)
unfolding choose rows listed state_numbers
file_of_machine = (refl, refl)

pub machine_of_file : (tables_in (bytes_of numbers) ≡ machine) × (tables_in (bytes_of first_numbers) ≡ machine)
unfolding choose tabulate bytes_of word_at slot_numbers slots_in tasks_from slots_from tables_in
machine_of_file = (refl, refl)

-- one task and one semaphore, of those attributes, that count and that maximum
abbrev single : ℕ → ℕ → ℕ → Tables
single a c m = record {
  tasks = record { priority = 10; answer = 0; awaited = 0; ticks = 0 } ∷ [];
  slots = record { generation = 1; live = 1; name = 5; attributes = a; count = c; owner = 0; nest = 0; maximum = m; queue = [] } ∷ [];
  ready = 1 ∷ [];
}

-- edition 2 keeps a maximum, edition 1 gives it 4294967295 or 1 by class
pub maximum_of_file : (tables_in (state_file (single 0 3 12)) ≡ single 0 3 12)
    × (tables_in (edition_file first_edition (single 0 3 12)) ≡ single 0 3 4294967295)
    × (tables_in (edition_file first_edition (single 36 1 12)) ≡ single 36 1 1) × (tables_in (edition_file first_edition (single 16 1 12)) ≡ single 16 1 1)
unfolding choose tabulate rows listed state_numbers edition_file bytes_of word_at slot_numbers slots_in tasks_from slots_from tables_in
maximum_of_file = (refl, refl, refl, refl)

-- to unfold this is to unfold the whole test
unfoldable state_test : List ℕ → Bool
unfolding choose all tabulate rows occurs sizes_fit numbers_fit answers_fit live_named attributes_allowed waiters_queued queues_wait queued_at_zero
    binaries_right others_right maxima_right ready_at_rest free_slots_clear ready_sequenced sequence_ready agrees
    bytes_of word_at listed state_numbers edition_file slot_numbers slots_in tasks_from slots_from tables_in same is_state
state_test bs = is_state bs

pub file_is_state : (is_state (bytes_of numbers) ≡ true) × (is_state (bytes_of first_numbers) ≡ true)
    × (is_state (state_file (single 0 3 12)) ≡ true) × (is_state (state_file (single 0 3 3)) ≡ true)
unfolding state_test
file_is_state = (refl, refl, refl, refl)

-- one number changed, as the place and the number say
abbrev damaged : ℕ → ℕ → List ℕ
damaged k v = bytes_of (set numbers k v)

-- edition 0, 1 and 3, five bodies, another kind, an offset off by four, a body that reaches into the next, a queue that does, a task twice, a byte too many
-- and one too few; a machine not started has no file
pub no_states :
    (is_state (damaged 0 0) ≡ false) × (is_state (damaged 0 1) ≡ false) × (is_state (damaged 0 3) ≡ false)
    × (is_state (damaged 1 5) ≡ false) × (is_state (damaged 5 3) ≡ false) × (is_state (damaged 6 92) ≡ false)
    × (is_state (damaged 10 16) ≡ false) × (is_state (damaged 38 2) ≡ false) × (is_state (damaged 41 1) ≡ false)
    × (is_state (bytes_of numbers ++ 0 ∷ []) ≡ false) × (is_state (take 167 (bytes_of numbers)) ≡ false) × (is_state (state_file unstarted) ≡ false)
unfolding state_test
no_states = (refl, refl, refl, refl, refl, refl, refl, refl, refl, refl, refl, refl)

-- a maximum of 2 for a binary semaphore, one for a free slot, one below the count, none for a live one; edition 1 with a byte behind, and
-- with edition 2's number
pub no_maxima :
    (is_state (damaged 29 2) ≡ false) × (is_state (damaged 37 1) ≡ false) × (is_state (state_file (single 0 3 2)) ≡ false)
    × (is_state (state_file (single 0 3 0)) ≡ false) × (is_state (bytes_of first_numbers ++ 0 ∷ []) ≡ false) × (is_state (bytes_of (set first_numbers 0 2)) ≡ false)
unfolding state_test
no_maxima = (refl, refl, refl, refl, refl, refl)

-- edition 1 is read where its tables agree: not with a count of 2 for either binary class, nor with attributes that create does not allow
pub first_states :
    (is_state (edition_file first_edition (single 36 1 1)) ≡ true) × (is_state (edition_file first_edition (single 36 2 1)) ≡ false)
    × (is_state (edition_file first_edition (single 16 2 1)) ≡ false) × (is_state (edition_file first_edition (single 48 0 1)) ≡ false)
unfolding state_test
first_states = (refl, refl, refl, refl)
