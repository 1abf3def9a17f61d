-- `shown::tasks::name_of` meets its contract.
use mathlib.Core.Path.{◌∙◌}
use native.Mathlib.Omega.{arith}
use Rattle.shown.proofs.Reading.{name_none, name_read}
use Rattle.shown.proofs.tasks.name_of.Goals as goal

pub returns-then-slot_count-i : goal.returns-then-slot_count-i
returns-then-slot_count-i c = name_none c.args.v.bytes.now c.args.n c.index_of-i.result c.index_of-i.ensures (omega arith)

pub returns : goal.returns
returns c = c.slot_name.ensures ∙ name_read c.args.v.bytes.now c.args.n c.index_of-i.result c.index_of-i.ensures (omega arith)
