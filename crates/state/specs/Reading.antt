-- The tables of a state file, and which bytes are one. What is read from other bytes nobody is told: `is_state` asks that the tables read give the file.
use Rattle.std.specs.Prelude.{◌≡◌, Bool, true, false, List, [], ◌∷◌, ◌⊎◌, ℕ, zero, suc, ◌+◌, ◌*◌, ◌/◌, eqb, get_or}
use Rattle.laws.specs.Choose.{choose, ◌and◌}
use Rattle.laws.specs.Rows.{tabulate}
use Rattle.words.specs.Words.{word_at}
use Rattle.rules.specs.declared.Task.{Task}
use Rattle.rules.specs.Numbers.{within, class_maximum}
use Rattle.rules.specs.Machine.{Slot, Tables, free_slot}
use Rattle.rules.specs.Agreement.{agrees}
use Rattle.tables.specs.Codec.{task_from}
use Rattle.tables.specs.Layout.{row_at}
use Rattle.state.specs.declared.contents.Counts.{Counts}
use Rattle.state.specs.File.{is_started, first_edition, second_edition, edition_file, state_file}

-- how many numbers the records of n slots are: 8 a record, in edition 1 without the maximum 7
unfoldable pub slot_numbers : ℕ → ℕ → ℕ
slot_numbers edition n = choose (eqb edition first_edition) (7 * n) (8 * n)

-- and of how many slots a body 2 of that length is
unfoldable pub slots_in : ℕ → ℕ → ℕ
slots_in edition long = choose (eqb edition first_edition) (long / 28) (long / 32)

-- the edition; N and S by the lengths of bodies 1 and 2; the numbers of body 3, and how many are ready, by the lengths of bodies 3 and 4
abbrev pub counts_in : List ℕ → Counts
counts_in bs =
    record {
      edition = word_at bs 0;
      tasks = word_at bs 4 / 16;
      slots = slots_in (word_at bs 0) (word_at bs 7);
      queues = word_at bs 10 / 4;
      ready = word_at bs 13 / 4;
    }

-- where bodies 2, 3 and 4 begin, and where the file ends, in numbers
abbrev pub slots_start : Counts → ℕ
slots_start c = 14 + 4 * c.tasks

abbrev pub queues_start : Counts → ℕ
queues_start c = slots_start c + slot_numbers c.edition c.slots

abbrev pub ready_start : Counts → ℕ
ready_start c = queues_start c + c.queues

abbrev pub file_end : Counts → ℕ
file_end c = ready_start c + c.ready

-- n tasks, from body 1
unfoldable pub tasks_from : List ℕ → ℕ → List Task
tasks_from bs n = tabulate n (λ i. task_from (row_at bs (14 + 4 * i) 4))

-- of edition 1 live slots get 4294967295 or 1 by class; 0 is for a free slot
abbrev pub first_maximum : ℕ → ℕ → ℕ
first_maximum live attributes = choose (eqb live 1) (class_maximum attributes) 0

-- the maximum of a record: its last number, from edition 2 on
abbrev pub maximum_of_row : ℕ → List ℕ → ℕ
maximum_of_row edition ws = choose (eqb edition first_edition) (first_maximum (get_or ws 1 0) (get_or ws 3 0)) (get_or ws 7 0)

-- a slot's numbers, and its queue
abbrev pub slot_of_row : ℕ → List ℕ → List ℕ → Slot
slot_of_row edition ws queue =
    record {
      generation = get_or ws 0 0;
      live = get_or ws 1 0;
      name = get_or ws 2 0;
      attributes = get_or ws 3 0;
      count = get_or ws 4 0;
      owner = get_or ws 5 0;
      nest = get_or ws 6 0;
      maximum = maximum_of_row edition ws;
      queue = queue;
    }

-- n slots: their numbers from `at` on, their queues, each behind its length, from `queue` on
unfoldable pub slots_from : List ℕ → ℕ → ℕ → ℕ → ℕ → List Slot
slots_from bs edition zero at queue = []
slots_from bs edition (suc n) at queue =
    slot_of_row edition (row_at bs at (slot_numbers edition 1)) (row_at bs (suc queue) (word_at bs queue))
    ∷ slots_from bs edition n (at + slot_numbers edition 1) (suc queue + word_at bs queue)

unfoldable pub tables_in : List ℕ → Tables
tables_in bs =
    let c : Counts = counts_in bs in
    record {
      tasks = tasks_from bs c.tasks;
      slots = slots_from bs c.edition c.slots (slots_start c) (queues_start c);
      ready = row_at bs (ready_start c) c.ready;
    }

unfoldable pub same : List ℕ → List ℕ → Bool
same [] [] = true
same [] (y ∷ ys) = false
same (x ∷ xs) [] = false
same (x ∷ xs) (y ∷ ys) = let rest = same xs ys in eqb x y and rest

abbrev pub edition_in : List ℕ → ℕ
edition_in bs = word_at bs 0

-- edition 2, or edition 1, which is still read
abbrev pub is_edition : ℕ → Bool
is_edition edition = within first_edition second_edition edition

-- tables that are started and agree give this file in its edition, byte for byte
unfoldable pub is_state : List ℕ → Bool
is_state bs =
    is_edition (edition_in bs) and is_started (tables_in bs) and agrees (tables_in bs) and same bs (edition_file (edition_in bs) (tables_in bs))

-- the maxima are those that the slots of an edition 1 file get
abbrev pub HasFirstMaxima : Tables → Type 0
HasFirstMaxima t = (i : ℕ) → let s = get_or t.slots i (free_slot 0) in s.maximum ≡ first_maximum s.live s.attributes

-- the tables give this file: in edition 2, or in edition 1, which tells those maxima alone
abbrev pub Gives : Tables → List ℕ → Type 0
Gives t bs = (bs ≡ state_file t) ⊎ (HasFirstMaxima t × (bs ≡ edition_file first_edition t))
