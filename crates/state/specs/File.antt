-- Document 02, No. 2 and 4: the state file of tables, in edition 2, which is written, and in edition 1, which is still read.
-- All numbers are four bytes, high byte first.
use Rattle.std.specs.Prelude.{Bool, List, [], ◌∷◌, ◌++◌, map, ℕ, suc, ◌+◌, ◌*◌, leb, eqb, length}
use Rattle.laws.specs.Choose.{choose}
use Rattle.laws.specs.Rows.{rows}
use Rattle.words.specs.Words.{bytes_of}
use Rattle.rules.specs.Machine.{Slot, Tables}
use Rattle.tables.specs.Codec.{task_row}

-- a machine is started when it has tasks
abbrev pub is_started : Tables → Bool
is_started t = leb 1 (length t.tasks)

-- ---- the bodies, in numbers

abbrev pub first_edition : ℕ
first_edition = 1

abbrev pub second_edition : ℕ
second_edition = 2

-- kind 1: per task priority, answer, identifier waited on or 0, ticks left
abbrev pub tasks_body : Tables → List ℕ
tasks_body t = rows (map task_row t.tasks)

-- kind 2: per slot generation, live 0 or 1, name, attributes, count, owner, nest, and the maximum at the end, which edition 1 does not have
abbrev pub numbers_row : ℕ → Slot → List ℕ
numbers_row edition s =
    s.generation ∷ s.live ∷ s.name ∷ s.attributes ∷ s.count ∷ s.owner ∷ s.nest ∷ choose (eqb edition first_edition) [] (s.maximum ∷ [])

abbrev pub slots_body : ℕ → Tables → List ℕ
slots_body edition t = rows (map (numbers_row edition) t.slots)

-- kind 3: per slot queue length, then the task numbers
abbrev pub queue_row : Slot → List ℕ
queue_row s = length s.queue ∷ s.queue

abbrev pub queues_body : Tables → List ℕ
queues_body t = rows (map queue_row t.slots)

-- kind 4: the ready sequence
abbrev pub bodies : ℕ → Tables → List (List ℕ)
bodies edition t = tasks_body t ∷ slots_body edition t ∷ queues_body t ∷ t.ready ∷ []

-- ---- the table of contents: the edition, the number of bodies, then kind, offset and length of each body

-- offsets and lengths are in bytes, the offsets from the file's start; the first body is of this kind and at this offset
unfoldable pub listed : ℕ → ℕ → List (List ℕ) → List ℕ
listed kind offset [] = []
listed kind offset (b ∷ bs) = kind ∷ offset ∷ (4 * length b) ∷ listed (suc kind) (offset + 4 * length b) bs

-- the contents of four bodies are 14 numbers, 56 bytes
abbrev pub first_offset : ℕ
first_offset = 56

-- ---- the file: its contents, and the bodies in order 1 to 4 without gaps

unfoldable pub state_numbers : ℕ → Tables → List ℕ
state_numbers edition t = edition ∷ length (bodies edition t) ∷ listed 1 first_offset (bodies edition t) ++ rows (bodies edition t)

unfoldable pub edition_file : ℕ → Tables → List ℕ
edition_file edition t = bytes_of (state_numbers edition t)

-- what is written
abbrev pub state_file : Tables → List ℕ
state_file t = edition_file second_edition t

-- no tables that agree give a longer file
abbrev pub longest_file : ℕ
longest_file = 3000
