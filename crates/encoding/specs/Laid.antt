-- Memory, places and grants in lent slices of numbers. Places: script i has its section at 2 i and its position at 2 i + 1. Grants: how many, then the task
-- and the section of each.
use Rattle.std.specs.Prelude.{◌≡◌, ℕ, ◌<◌, Bool, true, ltb, List, [], ◌∷◌, ◌++◌, map, length, get_or, ◌==◌, ◌≢◌, nat_lt, slice_index_or, slice_set}
use Rattle.std.proofs.lemmas.List.Edits.{sets}
use Rattle.laws.specs.Choose.{◌and◌}
use Rattle.laws.specs.Rows.{rows}
use Rattle.rules.specs.Numbers.{successful, waiting}
use Rattle.sections.specs.Scripts.{Step, Memory, Grant}
use Rattle.sections.specs.Scripts.Step.{Load, Store, Set, Add, NoStep}
use Rattle.sections.specs.Run.{Place, at, place_after, grant_if}
use Rattle.encoding.specs.declared.places.Place.{Place as PlaceRead}

abbrev pub memory : List ℕ → List ℕ → Memory
memory cells locals = record { cells = cells; locals = locals }

-- what a step goes by is there: so many cells, and 8 locals
abbrev pub reaches : ℕ → Step → Bool
reaches cells (Load cell local) = ltb cell cells and ltb local 8
reaches cells (Store local cell) = ltb local 8 and ltb cell cells
reaches cells (Set local number) = nat_lt local 8
reaches cells (Add local other) = ltb local 8 and ltb other 8
reaches cells NoStep = true

abbrev pub place_of : PlaceRead → Place
place_of p = at p.section p.position

abbrev pub place_row : Place → List ℕ
place_row p = p.section ∷ p.position ∷ []

abbrev pub grant_row : Grant → List ℕ
grant_row g = g.task ∷ g.section ∷ []

-- laid over numbers from the first on, as far as there is room; what lies behind is as it was
unfoldable pub laid_places : List ℕ → List Place → List ℕ
laid_places ns ps = sets ns 0 (rows (map place_row ps))

unfoldable pub laid_grants : List ℕ → List Grant → List ℕ
laid_grants ns gs = sets ns 0 (length gs ∷ rows (map grant_row gs))

-- script i's place is put into the lent numbers
abbrev pub PutsPlace : (places : List ℕ) (i : ℕ) (p : Place) (places' : List ℕ) → Type 0
PutsPlace places i p places' = (ns : List ℕ) (ps : List Place) → places ≡ laid_places ns ps → i < length ps → places' ≡ laid_places ns (slice_set ps i p)

-- the places and grants that lent numbers hold, over what was lent
pub record Reports (places₀ grants₀ : List ℕ) (ps : List Place) (gs : List Grant) (places₁ grants₁ : List ℕ) : Type 0 where
  pub places : places₁ ≡ laid_places places₀ ps
  pub grants : grants₁ ≡ laid_grants grants₀ gs

-- the answer to script i's obtain is noted in the lent numbers
abbrev pub Answers : (places grants : List ℕ) (i q answer : ℕ) (places' grants' : List ℕ) → Type 0
Answers places grants i q answer places' grants' =
    (places₀ grants₀ : List ℕ) (ps : List Place) (gs : List Grant) → Reports places₀ grants₀ ps gs places grants → i < length ps
    → ((answer ≢ waiting) → (get_or ps i (at 0 0)).section < 4294967295) → (answer ≡ successful → length gs < 4294967295)
    → Reports places₀ grants₀ (slice_set ps i (place_after answer (slice_index_or ps i (at 0 0))))
    (gs ++ grant_if (answer == successful) q (get_or ps i (at 0 0)).section) places' grants'
