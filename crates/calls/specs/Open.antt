-- The slot that a create takes.
use Rattle.std.specs.Prelude.{◌≡◌, ◌≤◌, ◌<◌, length}
use Rattle.rules.specs.Numbers.{max_generation}
use Rattle.rules.specs.Machine.{Tables, slot_of}
use Rattle.rules.specs.Calls.{open_slot}
use Rattle.calls.specs.declared.create.Open.{Open}

-- the lowest free slot whose generation can be raised
pub record Opens (t : Tables) (o : Open) : Type 0 where
  pub number : o.slot ≡ open_slot t
  pub low : 1 ≤ o.slot
  pub high : o.slot ≤ length t.slots
  pub most : o.slot ≤ 64
  pub generation : o.generation ≡ (slot_of t o.slot).generation
  pub young : o.generation < max_generation
