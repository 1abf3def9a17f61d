-- The test for 25 on lent bytes.
use Rattle.std.specs.Prelude.{Bool, List, ℕ}
use Rattle.laws.specs.Choose.{◌and◌}
use Rattle.rules.specs.Agreement.{agrees}
use Rattle.tables.specs.Layout.{is_laid, model_of}

-- lent bytes, of any length, are the layout of tables that agree
unfoldable pub agrees_bytes : List ℕ → Bool
agrees_bytes bs = is_laid bs and agrees (model_of bs)
