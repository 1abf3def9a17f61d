-- Runs of calls, each on what the one before left.
use Rattle.std.specs.Prelude.{List, [], ◌∷◌, ℕ}
use Rattle.rules.specs.declared.Call.{Call}
use Rattle.rules.specs.declared.Answer.{Answer}
use Rattle.rules.specs.Machine.{Tables}
use Rattle.rules.specs.Calls.{Outcome, step}

-- a call, with the priorities that a start takes
pub record Request : Type 0 where
  pub call : Call
  pub priorities : List ℕ

abbrev pub step_of : Tables → Request → Outcome
step_of t r = step t r.call r.priorities

-- the tables after a run
unfoldable pub after : Tables → List Request → Tables
after t [] = t
after t (r ∷ rs) = after (step_of t r).tables rs

-- the answers of a run
unfoldable pub answers : Tables → List Request → List Answer
answers t [] = []
answers t (r ∷ rs) = let o = step_of t r in o.answer ∷ answers o.tables rs
