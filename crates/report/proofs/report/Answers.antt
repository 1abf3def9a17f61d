-- `report::report` meets its contract: what the run left, what is open, and behind it the plain run or that a section is open.
use mathlib.Core.Bool.{true, false}
use mathlib.Core.List.{List, ◌++◌}
use mathlib.Core.Path.{◌≡◌, sym, ◌∙◌}
use Prim.Native.Nat.{ℕ}
use native.Mathlib.Omega.{arith}
use lib.Dec.{eqb}
use lib.ListN.{length}
use Rattle.laws.specs.Choose.{choose}
use Rattle.laws.proofs.Choose.{if_yes, if_no}
use Rattle.report.specs.Report.{Fits, Written, Report, report_of, run_text, left_text, plain_text, report_text, pairs_text, open_word, open_pairs, serial_open}
use Rattle.report.proofs.Room.{report_room_lem}
use Rattle.report.proofs.Writing.{fits_1, fits_2, fits_3, three_written, front_written, written_as, fits_as}
use Rattle.report.proofs.report.Lts as lts
use Rattle.report.proofs.report.Tie as tie
use Rattle.report.proofs.report.Reads as reads
use Rattle.report.proofs.report.Goals as goal

abbrev After-print_open : Type 0
After-print_open = lts.After-print_open tie.the-claims reads.Pre reads.Post

abbrev Start : Type 0
Start = lts.Start tie.the-claims reads.Pre reads.Post

abbrev all : Start → Report
all s =
    report_of s.args.a s.args.count s.args.cells.now s.args.locals.now s.args.tasks.now s.args.places.now
    s.args.grants.now s.args.plaincells.now s.args.plainlocals.now

abbrev run : Start → List ℕ
run s =
    run_text s.args.a s.args.count s.args.cells.now s.args.locals.now s.args.tasks.now s.args.places.now s.args.grants.now

abbrev pairs : Start → List ℕ
pairs s = open_pairs s.args.tasks.now s.args.places.now

abbrev opened : Start → List ℕ
opened s = pairs_text open_word (pairs s)

abbrev plain : Start → List ℕ
plain s =
    plain_text s.args.count s.args.cells.now s.args.locals.now s.args.plaincells.now s.args.plainlocals.now

abbrev rest : Start → List ℕ
rest s = choose (eqb (length (pairs s)) 0) (plain s) serial_open

all_fit : (s : Start) → Fits 0 (run s ++ opened s ++ rest s) s.args.out.now
unfolding report_text left_text
all_fit s = omega (arith, report_room_lem (all s), s.requires.roomy)

-- there is room for what stands behind
rest_fits : (c : After-print_open) → Fits c.print_open-open.result.end (rest c.before.before.before.before.before.before.before.before.before.before.before.before.before.before) c.print_open-open.new.out
rest_fits c =
    fits_3 0 c.args.out.now (run c.before.before.before.before.before.before.before.before.before.before.before.before.before.before) (opened c.before.before.before.before.before.before.before.before.before.before.before.before.before.before) (rest c.before.before.before.before.before.before.before.before.before.before.before.before.before.before) (all_fit c.before.before.before.before.before.before.before.before.before.before.before.before.before.before) _ _ c.print_run-open_at.ensures _ _ c.print_open-open.ensures.0

-- the whole, once that is written
whole : (c : After-print_open) (w : List ℕ) (r : ℕ) → Written c.print_open-open.result.end (rest c.before.before.before.before.before.before.before.before.before.before.before.before.before.before) c.print_open-open.new.out w r
    → Written 0 (run c.before.before.before.before.before.before.before.before.before.before.before.before.before.before ++ opened c.before.before.before.before.before.before.before.before.before.before.before.before.before.before ++ rest c.before.before.before.before.before.before.before.before.before.before.before.before.before.before) c.args.out.now w r
whole c w r written =
    three_written 0 c.args.out.now (run c.before.before.before.before.before.before.before.before.before.before.before.before.before.before) (opened c.before.before.before.before.before.before.before.before.before.before.before.before.before.before) (rest c.before.before.before.before.before.before.before.before.before.before.before.before.before.before) (all_fit c.before.before.before.before.before.before.before.before.before.before.before.before.before.before) _ _ c.print_run-open_at.ensures
    _ _ c.print_open-open.ensures.0 w r written

pub print_run-open_at-requires : goal.print_run-open_at-requires
print_run-open_at-requires c = (
  c.requires.few,
  c.requires.locals,
  c.requires.places,
  omega (arith, c.requires.roomy),
  fits_1 0 c.args.out.now (run c.before.before.before.before.before.before.before.before.before.before) (opened c.before.before.before.before.before.before.before.before.before.before) (rest c.before.before.before.before.before.before.before.before.before.before) (all_fit c.before.before.before.before.before.before.before.before.before.before),
)

pub print_open-open-requires : goal.print_open-open-requires
print_open-open-requires c =
    (c.requires.places, fits_2 0 c.args.out.now (run c.before.before.before.before.before.before.before.before.before.before.before.before.before.before) (opened c.before.before.before.before.before.before.before.before.before.before.before.before.before.before) (rest c.before.before.before.before.before.before.before.before.before.before.before.before.before.before) (all_fit c.before.before.before.before.before.before.before.before.before.before.before.before.before.before) _ _ c.print_run-open_at.ensures)

pub print_plain-requires : goal.print_plain-requires
print_plain-requires c =
    let none : eqb (length (pairs c.before.before.before.before.before.before.before.before.before.before.before.before.before.before.before.before.before.before.before)) 0 ≡ true = sym c.print_open-open.ensures.1 ∙ c.if-open.true in (
      c.requires.few,
      c.requires.plain_locals,
      fits_as c.print_open-open.result.end c.print_open-open.new.out (if_yes (plain c.before.before.before.before.before.before.before.before.before.before.before.before.before.before.before.before.before.before.before) serial_open none) (rest_fits c.before.before.before.before.before),
    )

pub returns-then-open : goal.returns-then-open
unfolding report_text left_text
returns-then-open c =
    let none : eqb (length (pairs c.before.before.before.before.before.before.before.before.before.before.before.before.before.before.before.before.before.before.before.before.before.before)) 0 ≡ true = sym c.print_open-open.ensures.1 ∙ c.if-open.true in
    front_written (report_text (all c.before.before.before.before.before.before.before.before.before.before.before.before.before.before.before.before.before.before.before.before.before.before)) c.args.out.now _ _
    (whole c.before.before.before.before.before.before.before.before _ _
    (written_as c.print_open-open.result.end c.print_open-open.new.out _ _ (sym (if_yes (plain c.before.before.before.before.before.before.before.before.before.before.before.before.before.before.before.before.before.before.before.before.before.before) serial_open none))
    c.print_plain.ensures))

pub put-requires : goal.put-requires
put-requires c =
    let some : eqb (length (pairs c.before.before.before.before.before.before.before.before.before.before.before.before.before.before.before.before.before.before.before.before.before)) 0 ≡ false = sym c.print_open-open.ensures.1 ∙ c.if-open.false in
    fits_as c.print_open-open.result.end c.print_open-open.new.out (if_no (plain c.before.before.before.before.before.before.before.before.before.before.before.before.before.before.before.before.before.before.before.before.before) serial_open some) (rest_fits c.before.before.before.before.before.before.before)

pub returns : goal.returns
unfolding report_text left_text
returns c =
    let some : eqb (length (pairs c.before.before.before.before.before.before.before.before.before.before.before.before.before.before.before.before.before.before.before.before.before.before.before.before)) 0 ≡ false = sym c.print_open-open.ensures.1 ∙ c.if-open.false in
    front_written (report_text (all c.before.before.before.before.before.before.before.before.before.before.before.before.before.before.before.before.before.before.before.before.before.before.before.before)) c.args.out.now _ _
    (whole c.before.before.before.before.before.before.before.before.before.before _ _
    (written_as c.print_open-open.result.end c.print_open-open.new.out _ _ (sym (if_no (plain c.before.before.before.before.before.before.before.before.before.before.before.before.before.before.before.before.before.before.before.before.before.before.before.before) serial_open some))
    c.put.ensures))
