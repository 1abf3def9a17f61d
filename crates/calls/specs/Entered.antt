-- How a call on a semaphore begins.
use Rattle.std.specs.Prelude.{◌≡◌, true, false, ℕ, ◌≤◌, length, Result, Ok, Err}
use Rattle.rules.specs.declared.refusal.Refusal.{Refusal}
use Rattle.rules.specs.declared.refusal.Refusal.TheVariants.{InvalidId}
use Rattle.rules.specs.Machine.{Tables, slot_of, is_live, names, slot_named}
use Rattle.semaphore.specs.declared.Semaphore.{Semaphore}
use Rattle.semaphore.specs.Record.{Stands}
use Rattle.calls.specs.declared.enter.Entered.{Entered}

-- the live semaphore that an identifier names: it is in slot n, and the record stands for it
pub record Found (t : Tables) (id n : ℕ) (s : Semaphore) : Type 0 where
  pub holds : names t id ≡ true
  pub number : slot_named t id ≡ n
  pub low : 1 ≤ n
  pub high : n ≤ length t.slots
  pub live : is_live (slot_of t n) ≡ true
  pub stands : Stands s (slot_of t n)

-- 4 where the identifier names no live semaphore
abbrev pub Enters : Tables → ℕ → Result Entered Refusal → Type 0
Enters t id (Ok e) = Found t id e.slot e.semaphore
Enters t id (Err e) = (e ≡ InvalidId) × (names t id ≡ false)
