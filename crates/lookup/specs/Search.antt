-- A search for a name, look by look.
use Rattle.std.specs.Prelude.{◌≡◌, Bool, List, ℕ, zero, suc, ◌+◌, ◌*◌, ◌≤◌, eqb, length}
use Rattle.laws.specs.Choose.{◌and◌}
use Rattle.words.specs.Words.{word_at}
use Rattle.rules.specs.Numbers.{max_slots}
use Rattle.rules.specs.Machine.{Tables}
use Rattle.rules.specs.Calls.{searched_slots}
use Rattle.tables.specs.Layout.{slot_place, record_at, model_of}
use Rattle.lookup.specs.declared.looks.Look.{Look}

-- no slot has been looked at
abbrev pub no_look : Look
no_look = record { count = 0; generation = 0; live = 0; name = 0 }

-- one look more: at the slot behind those looked at (n looks have been at slots 1 to n, and slots are counted from 0 in the bytes)
abbrev pub next_look : List ℕ → Look → Look
next_look bs last =
    let s = record_at bs last.count in
    record { count = last.count + 1; generation = s.generation; live = s.live; name = s.name }

-- the last of n looks, each made from the one before: look k is at slot k, for k from 1 to n
unfoldable pub last_look : List ℕ → ℕ → Look
last_look bs zero = no_look
last_look bs (suc n) = next_look bs (last_look bs n)

abbrev pub is_match : Look → ℕ → Bool
is_match last name = eqb last.live 1 and eqb last.name name

-- how many slots a search looks at, for a name other than 0
abbrev pub search_length : Tables → ℕ → ℕ
search_length t name = length (searched_slots name t.slots 1)

-- bytes that end no sooner than the last slot that the search looks at
pub record Reaches (bs : List ℕ) (slots name : ℕ) : Type 0 where
  pub counted : slots ≡ word_at bs 1
  pub few : slots ≤ max_slots
  pub long : 4 * slot_place (search_length (model_of bs) name) ≤ length bs
