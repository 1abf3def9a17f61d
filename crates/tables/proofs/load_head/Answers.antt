use Rattle.std.proofs.Common.{◌∙◌}
use Rattle.tables.proofs.LoadStore.{head_read}
use Rattle.tables.proofs.load_head.Goals as goal

pub returns : goal.returns
returns c = c.load.ensures ∙ head_read _ c.args.i
