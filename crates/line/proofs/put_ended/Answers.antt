-- `line::put_ended` meets its contract: what is put is the part of the bytes that is the number's text.
use mathlib.Core.List.{List, ◌++◌, ◌∷◌, []}
use mathlib.Core.Path.{ap, ◌∙◌}
use Prim.Native.Nat.{ℕ, ◌+◌}
use lib.ListN.{length}
use Rattle.line.specs.Print.{decimal, spliced}
use Rattle.line.proofs.Printing.{part_is}
use Rattle.line.proofs.put_ended.Goals as goal

pub returns : goal.returns
returns c =
    let made = c.text_of-text in
    let text : List ℕ = decimal c.args.v ++ c.args.end ∷ [] in
    let part = part_is made.result.bytes text made.result.from made.ensures.2 in
    let put = c.put.ensures in (
      put.0 ∙ ap (λ (t : List ℕ). c.args.at + length t) part,
      put.1 ∙ ap (λ (t : List ℕ). spliced c.args.at t c.args.out.now) part,
    )
