use mathlib.Core.List.{List}
use mathlib.Core.Path.{◌≡◌, sym, ap, ◌∙◌}
use Prim.Native.Nat.{ℕ}
use native.Mathlib.Omega.{arith}
use lib.ListN.{get_or, length-take}
use Rattle.std.specs.Prelude.{Option as Answered, None}
use Rattle.std.proofs.Math.Option.{none}
use Rattle.line.specs.Line.{line_of, scanned}
use Rattle.line.specs.declared.Request.{Request}
use Rattle.line.proofs.Fields.{word_ends}
use Rattle.line.proofs.Requests.{too_long, scan_unknown, scan_broken, scan_read, word_fits}
use Rattle.line.proofs.scan.Goals as goal

-- a bad line is what is answered
none_scanned : {r : Answered Request} (bs ns : List ℕ) → r ≡ None → line_of bs ≡ none → line_of bs ≡ scanned r ns
none_scanned bs ns e f = f ∙ sym (ap (λ (r : Answered Request). scanned r ns) e)

pub returns-then-line-gt256 : goal.returns-then-line-gt256
returns-then-line-gt256 c = too_long c.args.line.now (omega arith)

pub slice_bounds-word_of-end : goal.slice_bounds-word_of-end
slice_bounds-word_of-end c =
    let l : List ℕ = c.args.line.now in
    omega (arith, word_fits l, length-take c.word_length-n.result l)

pub returns-in_err-word : goal.returns-in_err-word
returns-in_err-word c =
    let l : List ℕ = c.args.line.now in
    let word = c.word_length-n in
    let kind = c.word_of in
    none_scanned l _ c.from_residual.ensures (scan_unknown l word.result (omega arith) word.ensures kind.result kind.ensures c.in_err-word.was)

pub read_numbers-requires : goal.read_numbers-requires
read_numbers-requires c =
    let l : List ℕ = c.args.line.now in
    (omega arith, ap (λ (n : ℕ). get_or l n 32) c.word_length-n.ensures ∙ word_ends l)

pub returns-in_err-count : goal.returns-in_err-count
returns-in_err-count c =
    let l : List ℕ = c.args.line.now in
    let word = c.word_length-n in
    let read = c.read_numbers in
    none_scanned l _ c.from_residual-in_err-count.ensures (scan_broken l word.result (omega arith) word.ensures read.result _ read.ensures.0 c.in_err-count.was)

pub returns : goal.returns
returns c =
    let l : List ℕ = c.args.line.now in
    let word = c.word_length-n in
    let kind = c.word_of in
    let read = c.read_numbers in
    scan_read l word.result (omega arith) word.ensures read.result _ c.in_ok-count.count c.in_ok-word.word c.request_of.result
    read.ensures.0
    read.ensures.1
    c.in_ok-count.was
    (sym c.in_ok-word.was ∙ kind.ensures)
    c.request_of.ensures
