-- `shown::show` meets its contract: there is room for the machine.
use mathlib.Core.Path.{◌≡◌, sym, subst}
use mathlib.Core.List.{List}
use Prim.Native.Nat.{ℕ, ◌≤◌}
use native.Mathlib.Omega.{arith}
use lib.ListN.{length}
use Rattle.std.proofs.Common.{rules}
use Rattle.calls.proofs.Agreeing.{sized}
use Rattle.tables.specs.Layout.{model_of}
use Rattle.shown.specs.Shown.{shown_text}
use Rattle.shown.specs.Puts.{Puts}
use Rattle.shown.proofs.Putting.{from_outset}
use Rattle.shown.proofs.Room.{shown_room}
use Rattle.shown.proofs.show.Goals as goal

pub new-requires : goal.new-requires
new-requires c = sized c.requires.0

pub returns : goal.returns
returns c =
    let text = c.new-text in
    let put = subst (λ (bs : List ℕ). Puts (shown_text (model_of bs)) text.result c.put_machine.new.text) c.new.ensures c.put_machine.ensures in
    let done = from_outset put text.ensures.end text.ensures.bytes (omega (arith, shown_room (model_of c.args.m.now) c.requires.0.agrees, c.requires.1)) in
    (done.0, search (rules, done.1))
