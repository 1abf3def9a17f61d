-- `line::put` meets its contract: what a copy into a part leaves.
use mathlib.Core.Path.{refl, ◌∙◌}
use native.Mathlib.Omega.{arith}
use lib.ListN.{length}
use Rattle.std.proofs.lemmas.Slice.{put_mid-paste}
use Rattle.line.proofs.Printing.{spliced_paste}
use Rattle.line.proofs.put.Goals as goal

pub returns : goal.returns
returns g c =
    let xs = c.args.xs.now in
    (refl, put_mid-paste _ _ _ _ xs (length xs) c.copy_from_slice.ensures.after (omega arith) refl ∙ spliced_paste c.args.at xs c.args.out.now)
