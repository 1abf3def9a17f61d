-- `report::lines::print_pairs` meets its contract: a word, the pairs, a newline.
use mathlib.Core.List.{◌∷◌, []}
use Rattle.report.specs.Report.{pairs_text, paired}
use Rattle.report.proofs.Writing.{fits_1, fits_2, fits_3, three_written}
use Rattle.report.proofs.lines.print_pairs.Goals as goal

pub put-pairs_at-requires : goal.put-pairs_at-requires
unfolding pairs_text
put-pairs_at-requires c =
    fits_1 c.args.at c.args.out.now c.args.word.now (paired c.args.ns.now) (10 ∷ []) c.requires

pub put_pairs-end-requires : goal.put_pairs-end-requires
unfolding pairs_text
put_pairs-end-requires c =
    fits_2 c.args.at c.args.out.now c.args.word.now (paired c.args.ns.now) (10 ∷ []) c.requires _ _ c.put-pairs_at.ensures

pub put-requires : goal.put-requires
unfolding pairs_text
put-requires c =
    fits_3 c.args.at c.args.out.now c.args.word.now (paired c.args.ns.now) (10 ∷ []) c.requires _ _ c.put-pairs_at.ensures
    _ _ c.put_pairs-end.ensures

pub returns : goal.returns
unfolding pairs_text
returns c =
    three_written c.args.at c.args.out.now c.args.word.now (paired c.args.ns.now) (10 ∷ []) c.requires _ _ c.put-pairs_at.ensures
    _ _ c.put_pairs-end.ensures _ _ c.put.ensures
