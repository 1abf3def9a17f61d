-- `session::end_line` meets its contract: more than 256 bytes are a bad line, and others are answered.
use mathlib.Core.Path.{refl, sym, ap}
use Prim.Native.Nat.{ℕ, ◌+◌}
use Rattle.line.specs.Print.{bad_line}
use Rattle.session.specs.Kept.{Kept, keeps}
use Rattle.session.proofs.Output.{end_few, end_many, writes_bad, writes_same, written_at}
use Rattle.session.proofs.end_line.Goals as goal

pub returns-then-begun-gt256 : goal.returns-then-begun-gt256
returns-then-begun-gt256 c =
    let kept : Kept = keeps c.args.m.now c.args.line.now c.args.begun in
    let put = c.print_bad in
    writes_bad c.args.m.now (end_many kept c.if-begun-gt256.true)
    (ap (λ (n : ℕ). c.args.at + n) put.ensures.0)
    (written_at c.args.at bad_line c.args.out.now _ _ 4 refl refl put.ensures.1)

pub returns : goal.returns
returns c =
    let kept : Kept = keeps c.args.m.now c.args.line.now c.args.begun in
    writes_same (sym (end_few kept c.if-begun-gt256.false))
    c.answer_line.ensures
