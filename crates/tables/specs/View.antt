-- The tables that a view shows.
use Rattle.rules.specs.Machine.{Tables}
use Rattle.tables.specs.declared.view.View.{View}
use Rattle.tables.specs.Layout.{model_of}

abbrev pub seen : View → Tables
seen v = model_of v.bytes.now
