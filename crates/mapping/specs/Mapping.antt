-- Request 5: the list that maps semid 1..S to a live identifier or nothing, and when it agrees with tables.
use Rattle.std.specs.Prelude.{◌≡◌, Bool, true, ◌≢◌, List, map, ℕ, suc, pred, ◌<◌, leb, eqb, length, get_or, set}
use Rattle.laws.specs.Choose.{choose, ◌and◌, ◌or◌, isnt}
use Rattle.laws.specs.All.{all}
use Rattle.rules.specs.Numbers.{max_slots, is_binary, is_simple}
use Rattle.rules.specs.Machine.{Slot, Tables, slot_of, names, slot_named}

-- an entry for each slot that there can be, whatever S is (the paper leaves the length open); 0 is nothing
abbrev pub list_length : ℕ
list_length = max_slots

-- the greatest count that ITRON's numbers, of 32 bits with a sign, can tell
abbrev pub greatest_count : ℕ
greatest_count = 2147483647

-- what semid stands for: an identifier, or 0 for nothing; semid 0 would be the first entry too, but the calls refuse it before they look
abbrev pub entry_of : List ℕ → ℕ → ℕ
entry_of list semid = get_or list (pred semid) 0

-- the list in which semid stands for that identifier, or with 0 for nothing
abbrev pub map_to : List ℕ → ℕ → ℕ → List ℕ
map_to list semid id = set list (pred semid) id

-- the list without an identifier: where it stood is nothing
unfoldable pub forgotten : ℕ → List ℕ → List ℕ
forgotten id list = map (λ entry. choose (eqb entry id) 0 entry) list

-- neither binary nor simple binary
abbrev pub is_counting : ℕ → Bool
is_counting a = isnt (is_binary a or is_simple a)

-- a counting semaphore with a maximum of at most 2147483647
abbrev pub is_itron : Slot → Bool
is_itron s = is_counting s.attributes and leb s.maximum greatest_count

-- the identifier of such a semaphore that is live
unfoldable pub is_mappable : Tables → ℕ → Bool
is_mappable t id = names t id and is_itron (slot_of t (slot_named t id))

-- none of the first k entries is that identifier
unfoldable pub is_new : List ℕ → ℕ → ℕ → Bool
is_new list k id = all k (λ j. isnt (eqb (get_or list j 0) id))

-- entry k, of semid k + 1: nothing, or, up to S, such a semaphore, which stands in no entry before
unfoldable pub entry_agrees : Tables → List ℕ → ℕ → Bool
entry_agrees t list k =
    let id = get_or list k 0 in
    eqb id 0 or (leb (suc k) (length t.slots) and is_mappable t id and is_new list k id)

-- each entry is nothing or such a semaphore, none twice; everything behind S is nothing, and the length is right
unfoldable pub list_agrees : Tables → List ℕ → Bool
list_agrees t list = eqb (length list) list_length and all list_length (entry_agrees t list)

-- the same in clauses
pub record ListFits (t : Tables) (list : List ℕ) : Type 0 where
  -- a list of a wrong length doesn't agree
  pub long : length list ≡ list_length
  -- each entry is nothing or a live counting semaphore with a maximum of at most 2147483647
  pub mappable : (k : ℕ) → get_or list k 0 ≢ 0 → is_mappable t (get_or list k 0) ≡ true
  -- everything behind S is nothing
  pub within : (k : ℕ) → get_or list k 0 ≢ 0 → k < length t.slots
  -- none twice
  pub once : (j k : ℕ) → get_or list j 0 ≢ 0 → get_or list j 0 ≡ get_or list k 0 → j ≡ k
