-- `report::lines::print_line` meets its contract: a word, the numbers, a newline.
use mathlib.Core.List.{◌∷◌, []}
use Rattle.report.specs.Report.{line_text, spaced}
use Rattle.report.proofs.Writing.{fits_1, fits_2, fits_3, three_written}
use Rattle.report.proofs.lines.print_line.Goals as goal

pub put-numbers_at-requires : goal.put-numbers_at-requires
unfolding line_text
put-numbers_at-requires c =
    fits_1 c.args.at c.args.out.now c.args.word.now (spaced c.args.ns.now) (10 ∷ []) c.requires

pub put_numbers-end-requires : goal.put_numbers-end-requires
unfolding line_text
put_numbers-end-requires c =
    fits_2 c.args.at c.args.out.now c.args.word.now (spaced c.args.ns.now) (10 ∷ []) c.requires _ _ c.put-numbers_at.ensures

pub put-requires : goal.put-requires
unfolding line_text
put-requires c =
    fits_3 c.args.at c.args.out.now c.args.word.now (spaced c.args.ns.now) (10 ∷ []) c.requires _ _ c.put-numbers_at.ensures
    _ _ c.put_numbers-end.ensures

pub returns : goal.returns
unfolding line_text
returns c =
    three_written c.args.at c.args.out.now c.args.word.now (spaced c.args.ns.now) (10 ∷ []) c.requires _ _ c.put-numbers_at.ensures
    _ _ c.put_numbers-end.ensures _ _ c.put.ensures
