use mathlib.Core.Path.{sym, ◌∙◌}
use native.Mathlib.Omega.{arith}
use Rattle.words.proofs.Stores.{stored_none, stored_all}
use Rattle.tables.specs.Layout.{model_of}
use Rattle.tables.proofs.LayoutRead.{length_ready, ready_read}
use Rattle.state.proofs.Written.{number_more}
use Rattle.state.proofs.writing.write_ready.Goals as goal

pub loop-k-init : goal.loop-k-init
loop-k-init c = stored_none _ _ _

pub set_word-requires : goal.set_word-requires
set_word-requires c =
    omega (arith, length_ready c.args.v.bytes.now c.requires.0.sized.ready)

pub loop-k-preserved : goal.loop-k-preserved
loop-k-preserved c =
    let first = c.args in
    let m = c.args.v.bytes.now in
    number_more first.file.now first.at (model_of m).ready c.loop-k.file c.loop-k.k _ _
    (omega (arith, length_ready m c.requires.0.sized.ready, c.ready_count-ready.ensures)) c.loop-k.invariant
    (c.ready_entry.ensures ∙ sym (ready_read m c.loop-k.k (omega (arith, c.ready_count-ready.ensures))))
    c.set_word.ensures

pub returns : goal.returns
returns c =
    let first = c.args in
    stored_all first.file.now first.at (model_of first.v.bytes.now).ready _ c.loop-k.k
    (omega (arith, length_ready first.v.bytes.now c.requires.0.sized.ready, c.ready_count-ready.ensures)) c.loop-k.invariant
