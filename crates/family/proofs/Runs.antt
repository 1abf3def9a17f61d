-- Runs over tables beside a list, as `after_events` has them over bytes.
use mathlib.Core.Bool.{Bool}
use mathlib.Core.List.{List, [], ◌∷◌}
use Prim.Native.Nat.{ℕ}
use lib.IntN.{ℤ}
use Rattle.laws.specs.Choose.{choose, ◌and◌}
use Rattle.rules.specs.Machine.{Tables}
use Rattle.rules.specs.Agreement.{agrees}
use Rattle.rules.specs.Runs.{step_of}
use Rattle.tables.specs.Layout.{model_of}
use Rattle.mapping.specs.Mapping.{list_agrees}
use Rattle.itron.specs.Codes.{e_sys}
use Rattle.itron.specs.Calls.{Listed, delete_mapped}
use Rattle.family.specs.Family.{Itron, called, Event, Lent}
use Rattle.family.specs.Family.Event.{Family, DeleteMapped, Classic}

pub record Both : Type 0 where
  pub tables : Tables
  pub list : List ℕ

abbrev pub agree_together : Both → Bool
agree_together b = agrees b.tables and list_agrees b.tables b.list

-- the tables that the bytes hold, beside the list
abbrev pub both_in : Lent → Both
both_in m = record { tables = model_of m.bytes; list = m.list }

-- what a call leaves, where both agree
abbrev pub where_agree : {A : Type 0} → Both → Listed A → Both
where_agree b done = choose (agree_together b) (record { tables = done.tables; list = done.list }) b

unfoldable pub both_after : Both → Event → Both
both_after b (Family call) = where_agree b (called call b.tables b.list)
both_after b (DeleteMapped caller id) = where_agree b (delete_mapped b.tables b.list caller id)
both_after b (Classic request) = record { tables = (step_of b.tables request).tables; list = b.list }

unfoldable pub both_after_all : Both → List Event → Both
both_after_all b [] = b
both_after_all b (e ∷ es) = both_after_all (both_after b e) es

-- the code that a call is answered: E_SYS where tables or list do not agree
abbrev pub both_code : Both → Itron → ℤ
both_code b call = choose (agree_together b) (called call b.tables b.list).answer.code e_sys
