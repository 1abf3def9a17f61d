-- `report::lines::put_pair` meets its contract: two texts, the second where the first ends.
use mathlib.Core.List.{◌∷◌}
use Rattle.line.specs.Print.{decimal}
use Rattle.report.proofs.Writing.{fits_first, fits_second, written_both}
use Rattle.report.proofs.lines.put_pair.Goals as goal

pub put_behind-second_at-requires : goal.put_behind-second_at-requires
put_behind-second_at-requires c =
    fits_first c.args.at c.args.out.now (32 ∷ decimal c.args.a) (58 ∷ decimal c.args.b) c.requires

pub put_behind-requires : goal.put_behind-requires
put_behind-requires c =
    fits_second c.args.at c.args.out.now (32 ∷ decimal c.args.a) (58 ∷ decimal c.args.b) c.requires _ _ c.put_behind-second_at.ensures

pub returns : goal.returns
returns c =
    written_both c.args.at c.args.out.now (32 ∷ decimal c.args.a) (58 ∷ decimal c.args.b) c.requires _ _ c.put_behind-second_at.ensures
    _ _ c.put_behind.ensures
