-- Request 7: how the wait of a task fares in a history that begins while it waits on an identifier with k tasks ahead.
use Rattle.std.specs.Prelude.{◌≡◌, Bool, true, List, [], ◌∷◌, ◌++◌, ◌⊎◌, ℕ, suc, ◌≤◌, ◌<◌, eqb}
use Rattle.laws.specs.Choose.{choose, ◌and◌}
use Rattle.rules.specs.declared.Call.TheVariants.{Delete, Release, Flush, Tick}
use Rattle.rules.specs.Numbers.{successful, timeout, object_was_deleted, unsatisfied, waiting}
use Rattle.accounts.specs.History.{Ending, Event}
use Rattle.accounts.specs.Accounts.{releases_in}

-- the answer that task q's wait ended with, 100 if it is not among those that ended
unfoldable pub ending_of : ℕ → List Ending → ℕ
ending_of q [] = waiting
ending_of q (w ∷ ws) = let rest = ending_of q ws in choose (eqb w.task q) w.answer rest

-- no event of the history ends task q's wait
unfoldable pub goes_on : ℕ → List Event → Bool
goes_on q [] = true
goes_on q (e ∷ es) = eqb (ending_of q e.endings) waiting and goes_on q es

-- an event ends the wait of task q on the identifier: a successful release grants it, or a tick, a flush or a delete ends it first
pub data Ends (id q : ℕ) (e : Event) : Type 0 where
  by_release : (caller : ℕ) → e.request.call ≡ Release caller id → e.answer.status ≡ successful → ending_of q e.endings ≡ successful → Ends id q e
  by_tick : e.request.call ≡ Tick → e.answer.status ≡ successful → ending_of q e.endings ≡ timeout → Ends id q e
  by_flush : (caller : ℕ) → e.request.call ≡ Flush caller id → e.answer.status ≡ successful → ending_of q e.endings ≡ unsatisfied → Ends id q e
  by_delete : (caller : ℕ) → e.request.call ≡ Delete caller id → e.answer.status ≡ successful → ending_of q e.endings ≡ object_was_deleted → Ends id q e

-- the wait has ended in turn: it went on until an event that ends it, and before that fewer than k + 1 releases on the identifier were successful. So if the
-- event is a release, it is at the latest the (k + 1)th
pub record EndsInTurn (id q k : ℕ) (history : List Event) : Type 0 where
  pub before : List Event
  pub event : Event
  pub later : List Event
  pub parts : history ≡ before ++ event ∷ later
  pub waited : goes_on q before ≡ true
  pub in_time : releases_in id before < suc k
  pub ends : Ends id q event

-- with k + 1 successful releases in the history the wait has ended in turn; with fewer it has, or it goes on
pub record ServedInTurn (id q k : ℕ) (history : List Event) : Type 0 where
  pub by_then : suc k ≤ releases_in id history → EndsInTurn id q k history
  pub so_far : EndsInTurn id q k history ⊎ (goes_on q history ≡ true)
