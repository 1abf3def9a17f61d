-- What lent bytes are asked to be within, Sized and then Bounded, and what tables, Limited and then Holds.
use Rattle.std.specs.Prelude.{◌≡◌, List, ℕ, ◌≤◌, ◌<◌, length, get_or}
use Rattle.words.specs.Words.{word_at}
use Rattle.rules.specs.Numbers.{max_tasks, max_slots}
use Rattle.rules.specs.Machine.{Tables, free_slot}
use Rattle.tables.specs.Layout.{tables_length, ready_place, layout, laid, record_at}

-- bytes of the tables' length, with counts within the places there are
pub record Sized (bs : List ℕ) : Type 0 where
  pub long : length bs ≡ tables_length
  pub tasks : word_at bs 0 ≤ max_tasks
  pub slots : word_at bs 1 ≤ max_slots
  pub ready : word_at bs ready_place ≤ max_tasks

-- and queues within theirs
pub record Bounded (bs : List ℕ) : Type 0 where
  pub sized : Sized bs
  pub queues : (i : ℕ) → i < word_at bs 1 → (record_at bs i).waiters ≤ max_tasks

-- tables with counts, sequence and queues within the places there are
pub record Limited (t : Tables) : Type 0 where
  pub tasks : length t.tasks ≤ max_tasks
  pub slots : length t.slots ≤ max_slots
  pub ready : length t.ready ≤ max_tasks
  pub queues : (i : ℕ) → i < length t.slots → length (get_or t.slots i (free_slot 0)).queue ≤ max_tasks

-- and numbers of 32 bits: what a layout can hold
pub record Holds (t : Tables) : Type 0 where
  pub limited : Limited t
  pub words : (k : ℕ) → get_or (layout t) k 0 < 4294967296

-- bytes that are the layout of tables
pub record IsLayout (bs : List ℕ) : Type 0 where
  pub model : Tables
  pub holds : Holds model
  pub same : bs ≡ laid model
