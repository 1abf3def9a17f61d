-- `tables::queue_entry` meets its contract: the queue stands behind the head.
use mathlib.Core.Path.{◌∙◌}
use Rattle.tables.specs.Layout.{record_at}
use Rattle.tables.proofs.LayoutRead.{queue_word}
use Rattle.tables.proofs.queue_entry.Goals as goal

pub returns : goal.returns
returns c =
    let first = c.args in
    c.slot_word.ensures ∙ queue_word (record_at first.m.now first.i) first.k
