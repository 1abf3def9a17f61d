use mathlib.Core.Path.{refl}
use Rattle.agreement.specs.Tests.{seen_below}
use Rattle.agreement.proofs.do_tables_agree.Goals as goal

pub are_slots_agreeing-requires : goal.are_slots_agreeing-requires
unfolding seen_below
are_slots_agreeing-requires c = (c.requires, refl)
