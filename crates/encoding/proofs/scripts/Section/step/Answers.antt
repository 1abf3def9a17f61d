use Rattle.std.proofs.Common.{refl}
use Rattle.std.proofs.lemmas.Iterator.Consumers.{nth_from_yields_List, YieldsList-from_first}
use Rattle.encoding.specs.Rows.{step_of}
use Rattle.encoding.specs.Left.{steps_left}
use Rattle.encoding.proofs.scripts.Section.step.Goals as goal

pub returns : goal.returns
returns c = nth_from_yields_List _ c.nth.new.self _ c.nth.ensures.ran (YieldsList-from_first step_of steps_left _ refl)
