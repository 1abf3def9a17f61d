-- What the calls ask of lent bytes, and leave.
use Rattle.std.specs.Prelude.{◌≡◌, List, ℕ}
use Rattle.rules.specs.Agreement.{Agrees}
use Rattle.tables.specs.Layout.{laid, model_of}

-- the bytes are the layout of tables that agree
pub record Agreeing (bs : List ℕ) : Type 0 where
  pub agrees : Agrees (model_of bs)
  pub same : bs ≡ laid (model_of bs)
