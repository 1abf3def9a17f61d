use mathlib.Core.Path.{◌∙◌}
use native.Mathlib.Omega.{arith}
use Prim.Native.Nat.{◌<◌}
use Rattle.words.specs.Words.{word_at}
use Rattle.rules.specs.Calls.{first_free}
use Rattle.rules.proofs.Searching.{is_open, searches_open}
use Rattle.tables.specs.View.{seen}
use Rattle.lookup.proofs.Model.{length_slots}
use Rattle.lookup.proofs.Searches.{look_found, look_more, look_all}
use Rattle.lookup.proofs.Answers.{open_test}
use Rattle.lookup.proofs.open_slot.Goals as goal

pub returns-then-is_open : goal.returns-then-is_open
returns-then-is_open c =
    let bs = c.args.v.bytes.now in
    let i = c.loop-i.i in
    let h : i < word_at bs 1 = omega arith in
    let is = open_test bs i h _ _ _ c.slot_live.ensures c.slot_generation.ensures c.is_open.ensures ∙ c.if-is_open.true in
    (look_found first_free is_open searches_open (seen c.args.v).slots i (omega (arith, length_slots bs)) c.loop-i.invariant is, omega arith)

pub loop-i-preserved : goal.loop-i-preserved
loop-i-preserved c =
    let bs = c.args.v.bytes.now in
    let i = c.loop-i.i in
    let h : i < word_at bs 1 = omega arith in
    let closed = open_test bs i h _ _ _ c.slot_live.ensures c.slot_generation.ensures c.is_open.ensures ∙ c.if-is_open.false in
    look_more first_free is_open searches_open (seen c.args.v).slots i (omega (arith, length_slots bs)) c.loop-i.invariant closed

pub returns : goal.returns
returns c =
    look_all first_free is_open searches_open (seen c.args.v).slots c.loop-i.i (omega (arith, length_slots c.args.v.bytes.now)) c.loop-i.invariant
