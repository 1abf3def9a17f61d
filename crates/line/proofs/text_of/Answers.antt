-- `line::text_of` meets its contract: a digit more stands before the text so far, and at last the whole text stands there.
use mathlib.Core.List.{List, ◌∷◌, []}
use mathlib.Core.Path.{refl, sym, ◌∙◌}
use Prim.Native.Nat.{ℕ, ◌≤◌, ◌<◌, ◌-◌, ◌+◌, ◌%◌, ◌^◌}
use native.Mathlib.Omega.{arith}
use lib.ListN.{length-set}
use Rattle.line.specs.Print.{decimal}
use Rattle.line.proofs.Printing.{digits_append, room, room_left, text_more, text_over}
use Rattle.line.proofs.text_of.Goals as goal

pub loop-rest-init : goal.loop-rest-init
unfolding decimal
loop-rest-init c = (refl, omega arith, omega arith, omega arith, digits_append 10 c.args.v [] (c.args.end ∷ []))

pub loop-rest-preserved : goal.loop-rest-preserved
loop-rest-preserved c =
    let bytes : List ℕ = c.loop-rest.bytes in
    let from : ℕ = c.loop-rest.from in
    let rest : ℕ = c.loop-rest.rest in
    let below : rest < 10 ^ from = c.loop-rest.invariant.3 in
    let roomy : 2 ≤ from = room from rest below (omega arith) in (
      length-set bytes (from - 1) (48 + rest % 10) ∙ c.loop-rest.invariant.0,
      omega arith,
      omega arith,
      room_left from rest (omega arith) below,
      c.loop-rest.invariant.4 ∙ text_more bytes rest from (omega arith) (omega arith) (omega arith),
    )

pub returns : goal.returns
returns c =
    let bytes : List ℕ = c.loop-rest.bytes in
    let from : ℕ = c.loop-rest.from in
    let rest : ℕ = c.loop-rest.rest in (
      length-set bytes (from - 1) (48 + rest) ∙ c.loop-rest.invariant.0,
      omega arith,
      sym (c.loop-rest.invariant.4 ∙ text_over bytes rest from (omega arith) (omega arith) (omega arith)),
    )
