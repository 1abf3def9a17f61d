-- `report::print_run` meets its contract: five texts, each where the one before it ends.
use mathlib.Core.List.{List, ◌++◌}
use Prim.Native.Nat.{ℕ}
use Rattle.line.specs.Print.{answer_line}
use Rattle.report.specs.Report.{Fits, Written, run_text, line_text, locals_text, places_text, pairs_text, cells_word, locals_word, grants_word}
use Rattle.report.proofs.Writing.{fits_1, fits_2, fits_3, three_written, written_front}
use Rattle.report.proofs.print_run.Lts as lts
use Rattle.report.proofs.print_run.Tie as tie
use Rattle.report.proofs.print_run.Reads as reads
use Rattle.report.proofs.print_run.Goals as goal

abbrev After-print_answer : Type 0
After-print_answer = lts.After-print_answer tie.the-claims reads.Pre reads.Post

abbrev After-print_locals : Type 0
After-print_locals = lts.After-print_locals tie.the-claims reads.Pre reads.Post

abbrev Start : Type 0
Start = lts.Start tie.the-claims reads.Pre reads.Post

abbrev answer : Start → List ℕ
answer s = answer_line s.args.a

abbrev cells : Start → List ℕ
cells s = line_text cells_word s.args.cells.now

abbrev locals : Start → List ℕ
locals s = locals_text locals_word s.args.count s.args.locals.now

abbrev first : Start → List ℕ
first s = answer s ++ cells s ++ locals s

abbrev places : Start → List ℕ
places s = places_text s.args.tasks.now s.args.places.now

abbrev grants : Start → List ℕ
grants s = pairs_text grants_word s.args.grants.now

all_fit : (s : Start) → Fits 0 (first s ++ places s ++ grants s) s.args.out.now
unfolding run_text
all_fit s = s.requires.4

-- the first three lines have room, and are written
first_fit : (s : Start) → Fits 0 (first s) s.args.out.now
first_fit s = fits_1 0 s.args.out.now (first s) (places s) (grants s) (all_fit s)

answered : (c : After-print_answer) → Written 0 (answer c.before.before.before.before.before.before.before.before) c.args.out.now c.print_answer-cells_at.new.out c.print_answer-cells_at.result
answered c = written_front (answer c.before.before.before.before.before.before.before.before) c.args.out.now _ _ c.print_answer-cells_at.ensures.0 c.print_answer-cells_at.ensures.1

first_written : (c : After-print_locals) → Written 0 (first c.before.before.before.before.before.before.before.before.before.before.before.before.before.before.before.before.before.before.before.before) c.args.out.now c.print_locals-places_at.new.out c.print_locals-places_at.result
first_written c =
    three_written 0 c.args.out.now (answer c.before.before.before.before.before.before.before.before.before.before.before.before.before.before.before.before.before.before.before.before) (cells c.before.before.before.before.before.before.before.before.before.before.before.before.before.before.before.before.before.before.before.before) (locals c.before.before.before.before.before.before.before.before.before.before.before.before.before.before.before.before.before.before.before.before) (first_fit c.before.before.before.before.before.before.before.before.before.before.before.before.before.before.before.before.before.before.before.before) _ _ (answered c.before.before.before.before.before.before.before.before.before.before.before.before) _ _ c.print_line-locals_at.ensures
    _ _ c.print_locals-places_at.ensures

pub print_answer-cells_at-requires : goal.print_answer-cells_at-requires
print_answer-cells_at-requires c = c.requires.3

pub print_line-locals_at-requires : goal.print_line-locals_at-requires
print_line-locals_at-requires c =
    fits_2 0 c.args.out.now (answer c.before.before.before.before.before.before.before.before.before.before.before.before.before.before) (cells c.before.before.before.before.before.before.before.before.before.before.before.before.before.before) (locals c.before.before.before.before.before.before.before.before.before.before.before.before.before.before) (first_fit c.before.before.before.before.before.before.before.before.before.before.before.before.before.before) _ _ (answered c.before.before.before.before.before.before)

pub print_locals-places_at-requires : goal.print_locals-places_at-requires
print_locals-places_at-requires c = (
  c.requires.0,
  c.requires.1,
  fits_3 0 c.args.out.now (answer c.before.before.before.before.before.before.before.before.before.before.before.before.before.before.before.before.before.before.before.before) (cells c.before.before.before.before.before.before.before.before.before.before.before.before.before.before.before.before.before.before.before.before) (locals c.before.before.before.before.before.before.before.before.before.before.before.before.before.before.before.before.before.before.before.before) (first_fit c.before.before.before.before.before.before.before.before.before.before.before.before.before.before.before.before.before.before.before.before) _ _ (answered c.before.before.before.before.before.before.before.before.before.before.before.before) _ _ c.print_line-locals_at.ensures,
)

pub print_places-grants_at-requires : goal.print_places-grants_at-requires
print_places-grants_at-requires c =
    (c.requires.2, fits_2 0 c.args.out.now (first c.before.before.before.before.before.before.before.before.before.before.before.before.before.before.before.before.before.before.before.before.before.before.before.before) (places c.before.before.before.before.before.before.before.before.before.before.before.before.before.before.before.before.before.before.before.before.before.before.before.before) (grants c.before.before.before.before.before.before.before.before.before.before.before.before.before.before.before.before.before.before.before.before.before.before.before.before) (all_fit c.before.before.before.before.before.before.before.before.before.before.before.before.before.before.before.before.before.before.before.before.before.before.before.before) _ _ (first_written c.before.before.before.before))

pub print_pairs-requires : goal.print_pairs-requires
print_pairs-requires c =
    fits_3 0 c.args.out.now (first c.before.before.before.before.before.before.before.before.before.before.before.before.before.before.before.before.before.before.before.before.before.before.before.before.before.before.before.before.before.before) (places c.before.before.before.before.before.before.before.before.before.before.before.before.before.before.before.before.before.before.before.before.before.before.before.before.before.before.before.before.before.before) (grants c.before.before.before.before.before.before.before.before.before.before.before.before.before.before.before.before.before.before.before.before.before.before.before.before.before.before.before.before.before.before) (all_fit c.before.before.before.before.before.before.before.before.before.before.before.before.before.before.before.before.before.before.before.before.before.before.before.before.before.before.before.before.before.before) _ _ (first_written c.before.before.before.before.before.before.before.before.before.before) _ _ c.print_places-grants_at.ensures

pub returns : goal.returns
unfolding run_text
returns c =
    three_written 0 c.args.out.now (first c.before.before.before.before.before.before.before.before.before.before.before.before.before.before.before.before.before.before.before.before.before.before.before.before.before.before.before.before.before.before.before.before.before) (places c.before.before.before.before.before.before.before.before.before.before.before.before.before.before.before.before.before.before.before.before.before.before.before.before.before.before.before.before.before.before.before.before.before) (grants c.before.before.before.before.before.before.before.before.before.before.before.before.before.before.before.before.before.before.before.before.before.before.before.before.before.before.before.before.before.before.before.before.before) (all_fit c.before.before.before.before.before.before.before.before.before.before.before.before.before.before.before.before.before.before.before.before.before.before.before.before.before.before.before.before.before.before.before.before.before) _ _ (first_written c.before.before.before.before.before.before.before.before.before.before.before.before.before)
    _ _ c.print_places-grants_at.ensures
    _ _ c.print_pairs.ensures
