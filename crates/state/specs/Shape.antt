-- The test of a file in the order of the code: its contents and its length first, its queues while they are read, agreement last. And what a write asks.
use Rattle.std.specs.Prelude.{◌≡◌, Bool, List, [], ◌∷◌, ℕ, zero, suc, ◌+◌, ◌*◌, ◌≤◌, leb, eqb, length, get_or}
use Rattle.std.proofs.lemmas.List.Edits.{sets}
use Rattle.laws.specs.Choose.{choose, ◌and◌}
use Rattle.words.specs.Words.{bytes_of, word_at, same_words}
use Rattle.rules.specs.Numbers.{max_tasks, max_slots, within, successful, invalid_size}
use Rattle.rules.specs.Machine.{Tables}
use Rattle.tables.specs.declared.Head.{Head}
use Rattle.state.specs.declared.contents.Counts.{Counts}
use Rattle.state.specs.File.{first_edition, second_edition, queues_body}
use Rattle.state.specs.Reading.{slot_numbers, counts_in, queues_start, ready_start, file_end, maximum_of_row, is_edition}

-- the status of a test that refuses by 8
abbrev pub unless_invalid : Bool → ℕ
unless_invalid valid = choose valid successful invalid_size

-- ---- contents

-- 64 lengths and, behind each, no more than 32 tasks
abbrev pub most_queues : ℕ
most_queues = 2112

-- an edition that is read, and counts within the places there are
pub record Small (c : Counts) : Type 0 where
  pub first : first_edition ≤ c.edition
  pub last : c.edition ≤ second_edition
  pub some : 1 ≤ c.tasks
  pub tasks : c.tasks ≤ max_tasks
  pub slots : c.slots ≤ max_slots
  pub queues : c.queues ≤ most_queues
  pub ready : c.ready ≤ max_tasks

abbrev pub is_small : Counts → Bool
is_small c =
    is_edition c.edition and within 1 max_tasks c.tasks and leb c.slots max_slots and leb c.queues most_queues and leb c.ready max_tasks

-- the length of body 2
abbrev pub slots_length : Counts → ℕ
slots_length c = 4 * slot_numbers c.edition c.slots

-- the 14 numbers of the contents
abbrev pub contents_for : Counts → List ℕ
contents_for c =
    c.edition ∷ 4
    ∷ 1 ∷ 56 ∷ (16 * c.tasks)
    ∷ 2 ∷ (56 + 16 * c.tasks) ∷ slots_length c
    ∷ 3 ∷ (56 + 16 * c.tasks + slots_length c) ∷ (4 * c.queues)
    ∷ 4 ∷ (56 + 16 * c.tasks + slots_length c + 4 * c.queues) ∷ (4 * c.ready)
    ∷ []

-- the contents are those of a file of this length
unfoldable pub is_headed : List ℕ → Bool
is_headed bs =
    leb 56 (length bs) and is_small (counts_in bs) and eqb (length bs) (4 * file_end (counts_in bs)) and same_words bs 0 (contents_for (counts_in bs))

-- n queues from `at` on have at most 32 tasks each, and end at `end`
unfoldable pub queues_fit : List ℕ → ℕ → ℕ → ℕ → Bool
queues_fit bs zero at end = eqb at end
queues_fit bs (suc n) at end =
    leb (suc at) end and leb (word_at bs at) max_tasks and leb (suc at + word_at bs at) end and queues_fit bs n (suc at + word_at bs at) end

-- and so of a whole file
abbrev pub is_filled : List ℕ → Bool
is_filled bs = let c : Counts = counts_in bs in queues_fit bs c.slots (queues_start c) (ready_start c)

-- a slot's numbers in a row, with an empty queue
abbrev pub head_of_row : ℕ → List ℕ → Head
head_of_row edition ws =
    record {
      generation = get_or ws 0 0;
      live = get_or ws 1 0;
      name = get_or ws 2 0;
      attributes = get_or ws 3 0;
      count = get_or ws 4 0;
      owner = get_or ws 5 0;
      nest = get_or ws 6 0;
      maximum = maximum_of_row edition ws;
      waiters = 0;
    }

-- ---- a write

abbrev pub counts_of : ℕ → Tables → Counts
counts_of edition t =
    record { edition = edition; tasks = length t.tasks; slots = length t.slots; queues = length (queues_body t); ready = length t.ready }

-- there is room for the numbers from number `at` of the file on
abbrev pub HasRoom : ℕ → List ℕ → List ℕ → Type 0
HasRoom at ws file = 4 * at + 4 * length ws ≤ length file

-- they are written there, and nothing else is
abbrev pub Written : ℕ → List ℕ → List ℕ → List ℕ → Type 0
Written at ws before after = after ≡ sets before (4 * at) (bytes_of ws)
