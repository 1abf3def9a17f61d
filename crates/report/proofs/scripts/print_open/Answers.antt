-- `report::scripts::print_open` meets its contract: a word, what is open, a newline; none is open if nothing was written between.
use mathlib.Core.List.{List, ◌∷◌, []}
use Prim.Native.Nat.{ℕ}
use Rattle.report.specs.Report.{pairs_text, paired, open_pairs, open_word}
use Rattle.report.proofs.Printing.{open_none}
use Rattle.report.proofs.Writing.{fits_1, fits_2, fits_3, three_written}
use Rattle.report.proofs.scripts.print_open.Lts as lts
use Rattle.report.proofs.scripts.print_open.Tie as tie
use Rattle.report.proofs.scripts.print_open.Reads as reads
use Rattle.report.proofs.scripts.print_open.Goals as goal

abbrev Start : Type 0
Start = lts.Start tie.the-claims reads.Pre reads.Post

abbrev opened : Start → List ℕ
opened s = paired (open_pairs s.args.tasks.now s.args.places.now)

pub put-from-requires : goal.put-from-requires
unfolding pairs_text
put-from-requires c =
    fits_1 c.args.at c.args.out.now open_word (opened c.before.before.before.before.before.before.before) (10 ∷ []) c.requires.1

pub put_open-to-requires : goal.put_open-to-requires
unfolding pairs_text
put_open-to-requires c =
    (c.requires.0, fits_2 c.args.at c.args.out.now open_word (opened c.before.before.before.before.before.before.before.before.before.before.before) (10 ∷ []) c.requires.1 _ _ c.put-from.ensures)

pub put-end-requires : goal.put-end-requires
unfolding pairs_text
put-end-requires c =
    fits_3 c.args.at c.args.out.now open_word (opened c.before.before.before.before.before.before.before.before.before.before.before.before.before.before.before.before.before) (10 ∷ []) c.requires.1 _ _ c.put-from.ensures _ _ c.put_open-to.ensures

pub returns : goal.returns
unfolding pairs_text
returns c = (
  three_written c.args.at c.args.out.now open_word (opened c.before.before.before.before.before.before.before.before.before.before.before.before.before.before.before.before.before.before.before.before) (10 ∷ []) c.requires.1 _ _ c.put-from.ensures
      _ _ c.put_open-to.ensures
      _ _ c.put-end.ensures,
  open_none c.args.tasks.now c.args.places.now _ _ c.put_open-to.ensures.0,
)
