use mathlib.Core.Path.{refl, sym, ◌∙◌}
use native.Mathlib.Omega.{arith}
use lib.ListN.{get_or, length-set, replicate}
use lib.Seq.{ext_get_or}
use Rattle.laws.proofs.Mapped.{filled_none, filled_more}
use Rattle.tables.specs.Layout.{sequence_at}
use Rattle.tables.proofs.LayoutRead.{sequence_places}
use Rattle.shown.proofs.sequence.load_sequence.Goals as goal

pub loop-k-init : goal.loop-k-init
loop-k-init c = (omega arith, filled_none (λ j. get_or (sequence_at c.args.v.bytes.now) j 0) 0 (replicate 32 0))

pub loop-k-preserved : goal.loop-k-preserved
loop-k-preserved c =
    let turn = c.loop-k in
    (simp length-set (omega arith), filled_more _ 0 turn.task-items turn.k _ (omega arith) c.ready_entry.ensures turn.invariant.1)

pub returns : goal.returns
returns c =
    let m = c.args.v.bytes.now in
    let turn = c.loop-k in
    ext_get_or 0 turn.task-items (sequence_at m) (turn.invariant.0 ∙ sym (sequence_places m)) (λ j h. turn.invariant.1 j (omega arith))
