-- `line::put_number` meets its contract: what is put is the part of the bytes that is the number's digits.
use mathlib.Core.List.{List}
use mathlib.Core.Path.{ap, ◌∙◌}
use Prim.Native.Nat.{ℕ, ◌+◌}
use native.Mathlib.Omega.{arith}
use lib.ListN.{length}
use Rattle.line.specs.Print.{spliced}
use Rattle.line.proofs.Printing.{digits_part}
use Rattle.line.proofs.put_number.Goals as goal

pub put-requires : goal.put-requires
put-requires c =
    let made = c.text_of-text in
    omega (arith, ap length (digits_part made.result.bytes c.args.v 32 made.result.from made.ensures.0 made.ensures.1 made.ensures.2))

pub returns : goal.returns
returns c =
    let made = c.text_of-text in
    let part = digits_part made.result.bytes c.args.v 32 made.result.from made.ensures.0 made.ensures.1 made.ensures.2 in (
      c.put.ensures.0 ∙ ap (λ (t : List ℕ). c.args.at + length t) part,
      c.put.ensures.1 ∙ ap (λ (t : List ℕ). spliced c.args.at t c.args.out.now) part,
    )
