-- `shown::sequence::put_sequence` meets its contract: the parts one behind the other.
use mathlib.Core.Path.{sym, ap, ◌∙◌}
use Prim.Native.Nat.{ℕ}
use native.Mathlib.Omega.{arith}
use lib.ListN.{length, take}
use lib.Seq.{length-take-le}
use Rattle.tables.specs.Layout.{sequence_at}
use Rattle.tables.proofs.LayoutRead.{sequence_places, model_ready}
use Rattle.shown.specs.Shown.{sequence_line, tasks_text}
use Rattle.shown.proofs.Putting.{◌then◌, puts_as}
use Rattle.shown.proofs.sequence.put_sequence.Goals as goal

pub returns : goal.returns
unfolding sequence_line
returns c =
    let m = c.args.v.bytes.now in
    let n = c.ready_count-n in
    let loaded = c.load_sequence-tasks in
    let same = ap (take n.result) loaded.ensures ∙ ap (λ (n : ℕ). take n (sequence_at m)) n.ensures ∙ sym (model_ready m) in
    c.put.ensures then puts_as (ap tasks_text same) c.put_tasks.ensures then c.put-2.ensures
