-- `session::answer_line` meets its contract: a bad line is said to be bad and changes nothing, and another is answered by its call.
use mathlib.Core.Path.{◌≡◌, refl, ap, ◌∙◌}
use mathlib.Core.List.{List}
use mathlib.Core.Option.{none}
use Prim.Native.Nat.{ℕ, ◌+◌}
use Rattle.std.specs.Prelude.{Option as Answered, Some}
use Rattle.line.specs.declared.Request.{Request}
use Rattle.line.specs.Line.{line_of, scanned}
use Rattle.line.specs.Print.{answer_line, bad_line}
use Rattle.session.proofs.Output.{respond_is, writes_bad, writes_asked, written_at}
use Rattle.session.proofs.answer_line.Goals as goal

pub returns-in-None : goal.returns-in-None
returns-in-None c =
    let scan = c.scan in
    let put = c.print_bad in
    let bad : line_of c.args.line.now ≡ none = scan.ensures ∙ ap (λ (r : Answered Request). scanned r scan.new.numbers) c.in-None.is in
    writes_bad c.args.m.now (respond_is c.args.m.now c.args.line.now bad)
    (ap (λ (n : ℕ). c.args.at + n) put.ensures.0)
    (written_at c.args.at bad_line c.args.out.now _ _ 4 refl refl put.ensures.1)

pub returns-in-Some : goal.returns-in-Some
returns-in-Some c =
    let scan = c.scan in
    let called = c.call_with-answer in
    let put = c.print_answer in
    let line : List ℕ = c.args.line.now in
    let asked : line_of line ≡ scanned (Some c.in-Some.request) scan.new.numbers =
    scan.ensures ∙ ap (λ (r : Answered Request). scanned r scan.new.numbers) c.in-Some.is in
    writes_asked c.args.m.now line _ _ _ _ asked called.ensures
    (ap (λ (n : ℕ). c.args.at + n) put.ensures.0)
    (written_at c.args.at (answer_line called.result) c.args.out.now _ _ _ refl put.ensures.0 put.ensures.1)
