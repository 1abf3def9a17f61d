use Rattle.std.proofs.Common.{◌∙◌}
use Rattle.tables.proofs.LoadStore.{slot_loaded, queue_read}
use Rattle.tables.proofs.load_slot.Goals as goal

pub returns : goal.returns
returns c = slot_loaded _ c.load_head-generation.result _ c.load_head-generation.ensures (c.load_row.ensures ∙ queue_read _ c.args.i)
