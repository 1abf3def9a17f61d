-- `report::lines::put_behind` meets its contract: a byte, and behind it the number's digits.
use mathlib.Core.List.{List, ◌∷◌, []}
use Prim.Native.Nat.{ℕ, ◌+◌, ◌<◌}
use native.Mathlib.Omega.{arith}
use lib.ListN.{length, set, length-set}
use Rattle.line.specs.Print.{decimal}
use Rattle.report.proofs.Writing.{written_byte, written_both}
use Rattle.report.proofs.lines.put_behind.Goals as goal

pub put_number-requires : goal.put_number-requires
put_number-requires c = omega (arith, length-set c.args.out.now c.args.at c.args.mark)

pub returns : goal.returns
returns c =
    let out : List ℕ = c.args.out.now in
    let at : ℕ = c.args.at in
    let mark : ℕ = c.args.mark in
    let room : at < length out = omega arith in
    written_both at out (mark ∷ []) (decimal c.args.v) c.requires (set out at mark) (at + 1) (written_byte at out mark room) _ _ c.put_number.ensures
