-- The word by its length, the numbers behind it unless the word is unknown, and their count.
use mathlib.Core.Path.{◌≡◌, sym, ap, ◌∙◌}
use mathlib.Core.List.{List}
use Prim.Native.Nat.{ℕ}
use native.Mathlib.Omega.{arith}
use lib.ListN.{get_or, take, length-take}
use Rattle.line.proofs.Fields.{word_ends}
use Rattle.line.proofs.Requests.{word_fits}
use Rattle.std.specs.Prelude.{Option, Some, find}
use Rattle.std.specs.Str.{bytes_eq}
use Rattle.text.specs.declared.vocabulary.Word.{Word}
use Rattle.text.specs.Words.{word_number}
use Rattle.text.specs.Spoken.{number_of, number_or_none, text_of, every_word, said_of}
use Rattle.text.proofs.Words.{word_found}
use Rattle.text.proofs.Saying.{long_none, unknown_none, broken_none, fit_said, unfit_none}
use Rattle.text.proofs.vocabulary.said.Goals as goal

found : (word : List ℕ) {r : Option Word} {v : Word} → r ≡ Some v → r ≡ find (λ v. bytes_eq word (text_of v)) every_word → number_of v ≡ word_number word
found word e f = sym (ap number_or_none e) ∙ ap number_or_none f ∙ word_found word

pub returns-then-line-gt256-clause-says : goal.returns-then-line-gt256-clause-says
returns-then-line-gt256-clause-says c = long_none c.args.line.now (omega arith)

pub slice_bounds-word_of-end : goal.slice_bounds-word_of-end
slice_bounds-word_of-end c =
    let l : List ℕ = c.args.line.now in
    omega (arith, word_fits l, length-take c.word_length-n.result l)

pub returns-in_err-word-clause-says : goal.returns-in_err-word-clause-says
returns-in_err-word-clause-says c =
    let l : List ℕ = c.args.line.now in
    let n = c.word_length-n in
    unknown_none l n.result (omega arith) n.ensures
    (sym (word_found (take n.result l)) ∙ ap number_or_none (sym c.word_of.ensures ∙ c.in_err-word.was)) ∙ sym (ap said_of c.from_residual.ensures)

pub read_numbers-requires : goal.read_numbers-requires
read_numbers-requires c =
    let l : List ℕ = c.args.line.now in
    (omega arith, ap (λ (n : ℕ). get_or l n 32) c.word_length-n.ensures ∙ word_ends l)

pub returns-in_err-count-clause-says : goal.returns-in_err-count-clause-says
returns-in_err-count-clause-says c =
    let n = c.word_length-n in
    let read = c.read_numbers in
    broken_none c.args.line.now n.result (omega arith) n.ensures read.result _ read.ensures.0 c.in_err-count.was
    ∙ sym (ap said_of c.from_residual-in_err-count.ensures)

pub returns-then-not-takes-clause-says : goal.returns-then-not-takes-clause-says
returns-then-not-takes-clause-says c =
    let l : List ℕ = c.args.line.now in
    let n = c.word_length-n in
    let read = c.read_numbers in
    unfit_none l n.result (omega arith) n.ensures read.result _ read.ensures.0 c.in_ok-count.count c.in_ok-count.was read.ensures.1 c.in_ok-word.word
    (found (take n.result l) c.in_ok-word.was c.word_of.ensures) (sym c.takes.ensures ∙ c.if-not-takes.true)

pub returns-clause-says : goal.returns-clause-says
returns-clause-says c =
    let l : List ℕ = c.args.line.now in
    let n = c.word_length-n in
    let read = c.read_numbers in
    fit_said l n.result (omega arith) n.ensures read.result _ read.ensures.0 c.in_ok-count.count c.in_ok-count.was read.ensures.1 c.in_ok-word.word
    (found (take n.result l) c.in_ok-word.was c.word_of.ensures) (sym c.takes.ensures ∙ c.if-not-takes.false)
